-- What is claimed of the list of a station.
use Rattle.std.specs.Prelude.{ℕ, ◌+◌, ◌*◌, ◌-◌, ◌<◌, ◌≤◌, ◌≡◌, List, [], ◌∷◌, ◌++◌, true, cond, ◌⊎◌, ◌↔◌, ◌≢◌, length, get_or, eqb, ltb, Result, Ok, Err}
use Rattle.words.specs.Tests.{all_hold}
use Rattle.words.specs.declared.LegLayout.TheVariants.{FourWords}
use Rattle.words.specs.Words.{Words, words_in_book, passage_count, last_leg, read_of}
use Rattle.plain.specs.Plain.{Plain, NumberedLeg, list_of, times_in, times_below, Sound}
use Rattle.soundness.specs.Soundness.{WordsOf, OfSomePlainBook}
use Rattle.meeting.specs.Meeting.{meets, legs_at, any_meets, Pair, pair, passages_at, pairs_of, station_words, list_too_long, at_front, meeting_of}

-- A list is written where the output has room for it, and else nothing.
abbrev pub writing : Words → Words → Result ℕ ℕ × Words
writing out list = cond (list_too_long out list) (Err 21, out) (Ok (length list), at_front out list)

-- Statement: over the words of a plain book the call writes that book's list, whatever book it is.
abbrev pub MeetingOfPlainBook : Type 0
MeetingOfPlainBook =
    (words out : Words) (station : ℕ) (plain : Plain)
    → length words ≡ words_in_book → Sound plain → WordsOf FourWords words plain
    → meeting_of words station out ≡ writing out (station_words station plain)

-- Statement: over other words it is refused, by 1 where they are not as many as a book's and by 15 where they are, and the output stays.
abbrev pub OtherBooksRefused : Type 0
OtherBooksRefused =
    (words out : Words) (station : ℕ)
    → (length words ≢ words_in_book → meeting_of words station out ≡ (Err 1, out))
    × (length words ≡ words_in_book → ¬ OfSomePlainBook FourWords words → meeting_of words station out ≡ (Err 15, out))

-- Statement: a leg meets a station exactly where it "has it as from or to".
abbrev pub MeetsByFromOrTo : Type 0
MeetsByFromOrTo = (station : ℕ) (leg : NumberedLeg) → (meets station leg ≡ true) ↔ ((leg.stations.from ≡ station) ⊎ (leg.stations.to ≡ station))

-- Statement: "each exactly once": a leg of the book is listed once where it has the station, and else never.
abbrev pub EachLegOnce : Type 0
EachLegOnce =
    (station : ℕ) (plain : Plain) → Sound plain → (passage : ℕ) → passage < passage_count
    → (newer : List NumberedLeg) (leg : NumberedLeg) (older : List NumberedLeg) → list_of plain passage ≡ newer ++ (leg ∷ older)
    → times_in leg.number (legs_at station plain) ≡ cond (meets station leg) 1 0

-- Statement: no number is listed that is not in the book.
abbrev pub OnlyLegsOfTheBook : Type 0
OnlyLegsOfTheBook =
    (station : ℕ) (plain : Plain) → length plain ≡ passage_count
    → (r : ℕ) → times_in r (legs_at station plain) ≤ times_below passage_count plain r

-- A leg stands somewhere in a list.
pub record Contains (legs : List NumberedLeg) (leg : NumberedLeg) : Type 0 where
  pub newer : List NumberedLeg
  pub older : List NumberedLeg
  pub parted : legs ≡ newer ++ (leg ∷ older)

-- One leg stands before another in a list.
pub record ContainsBoth (legs : List NumberedLeg) (first second : NumberedLeg) : Type 0 where
  pub newer : List NumberedLeg
  pub between : List NumberedLeg
  pub older : List NumberedLeg
  pub parted : legs ≡ newer ++ (first ∷ (between ++ (second ∷ older)))

-- The first leg is of a lower passage, or of the same and newer.
abbrev pub ListedBefore : Plain → NumberedLeg → NumberedLeg → Type 0
ListedBefore plain first second =
    ((p q : ℕ) × (p < q) × Contains (list_of plain p) first × Contains (list_of plain q) second)
    ⊎ ((p : ℕ) × ContainsBoth (list_of plain p) first second)

-- Statement: "by rising passage, then newest first".
abbrev pub LegsInOrder : Type 0
LegsInOrder = (station : ℕ) (plain : Plain) (first second : NumberedLeg) → ContainsBoth (legs_at station plain) first second → ListedBefore plain first second

-- Statement: each leg is written at its place in the list "with its distance".
abbrev pub LegsWithDistance : Type 0
LegsWithDistance =
    (station : ℕ) (plain : Plain) (newer : List NumberedLeg) (leg : NumberedLeg) (older : List NumberedLeg) → legs_at station plain ≡ newer ++ (leg ∷ older)
    → (read_of (station_words station plain) (1 + 2 * length newer) ≡ leg.number)
    × (read_of (station_words station plain) (2 + 2 * length newer) ≡ leg.measure.distance)

-- How often a pair is in a list.
abbrev pub times_paired : ℕ → ℕ → List Pair → ℕ
times_paired lower higher [] = 0
times_paired lower higher (two ∷ pairs) =
    cond (all_hold (eqb lower two.lower ∷ eqb higher two.higher ∷ [])) 1 0 + times_paired lower higher pairs

-- Statement: two passages are listed once where the first number is lower and both have a leg there, and else never.
abbrev pub EachPairOnce : Type 0
EachPairOnce =
    (station : ℕ) (plain : Plain) (lower higher : ℕ)
    → times_paired lower higher (pairs_of (passages_at station plain))
    ≡ cond (all_hold (ltb lower higher ∷ any_meets station (list_of plain lower) ∷ any_meets station (list_of plain higher) ∷ [])) 1 0

-- One pair stands before another.
abbrev pub Before : Pair → Pair → Type 0
Before first second = (first.lower < second.lower) ⊎ ((first.lower ≡ second.lower) × (first.higher < second.higher))

-- Statement: "pairs rising".
abbrev pub PairsRise : Type 0
PairsRise =
    (station : ℕ) (plain : Plain) (j k : ℕ) → j < k → k < length (pairs_of (passages_at station plain))
    → Before (get_or (pairs_of (passages_at station plain)) j (pair 0 0)) (get_or (pairs_of (passages_at station plain)) k (pair 0 0))

-- As many words as a list can have: two for each leg of the book and for each pair of its passages, and both numbers.
abbrev pub longest_list : ℕ
longest_list = 2 + 2 * last_leg + passage_count * (passage_count - 1)

-- Statement: in an output of so many words every list has room.
abbrev pub RoomForEveryList : Type 0
RoomForEveryList = (station : ℕ) (plain : Plain) → Sound plain → length (station_words station plain) ≤ longest_list
