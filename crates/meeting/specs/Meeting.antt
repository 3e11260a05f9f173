-- Request 13, "Where passages meet": the legs at a station, the pairs of passages that meet there, and the words that tell them.
use Rattle.std.specs.Prelude.{ℕ, ◌+◌, List, [], ◌∷◌, ◌++◌, map, Bool, true, false, cond, not, length, drop, eqb, ltb, Result, Ok, Err}
use Rattle.std.proofs.Math.Option.{Option, none, some}
use Rattle.words.specs.Tests.{some_holds}
use Rattle.words.specs.declared.LegLayout.TheVariants.{FourWords}
use Rattle.words.specs.Words.{Words}
use Rattle.plain.specs.Plain.{Plain, NumberedLeg}
use Rattle.calls.specs.Call.{Check, check, first_of, book_length_wrong}
use Rattle.soundness.specs.Checking.{is_sound}
use Rattle.soundness.specs.InWords.{plain_in}

-- "Every leg that has it as from or to": a leg meets a station.
abbrev pub meets : ℕ → NumberedLeg → Bool
meets station leg = some_holds (eqb leg.stations.from station ∷ eqb leg.stations.to station ∷ [])

-- Those of a list, as they come: newest first.
unfoldable pub those_meeting : ℕ → List NumberedLeg → List NumberedLeg
those_meeting station [] = []
those_meeting station (leg ∷ older) = cond (meets station leg) (leg ∷ those_meeting station older) (those_meeting station older)

-- Those of all lists, "by rising passage, then newest first".
unfoldable pub legs_at : ℕ → Plain → List NumberedLeg
legs_at station [] = []
legs_at station (legs ∷ lists) = those_meeting station legs ++ legs_at station lists

-- A list has "a leg there".
abbrev pub any_meets : ℕ → List NumberedLeg → Bool
any_meets station [] = false
any_meets station (leg ∷ older) = cond (meets station leg) true (any_meets station older)

-- The passages with a leg there, rising, of lists that start with this passage's.
unfoldable pub passages_from : ℕ → ℕ → Plain → List ℕ
passages_from station passage [] = []
passages_from station passage (legs ∷ lists) =
    let later = passages_from station (passage + 1) lists in
    cond (any_meets station legs) (passage ∷ later) later

-- The passages of the book with a leg there.
abbrev pub passages_at : ℕ → Plain → List ℕ
passages_at station plain = passages_from station 0 plain

-- Two passages, "lower number first".
pub record Pair : Type 0 where
  pub lower : ℕ
  pub higher : ℕ

abbrev pub pair : ℕ → ℕ → Pair
pair lower higher = record { lower = lower; higher = higher }

-- "Every pair of different passages .., once, lower number first, pairs rising", of passages that rise.
unfoldable pub pairs_of : List ℕ → List Pair
pairs_of [] = []
pairs_of (passage ∷ later) = map (pair passage) later ++ pairs_of later

-- "Leg and distance for each".
unfoldable pub listed_words : List NumberedLeg → Words
listed_words [] = []
listed_words (leg ∷ legs) = leg.number ∷ leg.measure.distance ∷ listed_words legs

-- "The two passages of each".
unfoldable pub pair_words : List Pair → Words
pair_words [] = []
pair_words (two ∷ pairs) = two.lower ∷ two.higher ∷ pair_words pairs

-- "The number of legs, leg and distance for each, the number of pairs, and the two passages of each".
unfoldable pub station_words : ℕ → Plain → Words
station_words station plain =
    let legs = legs_at station plain in
    let pairs = pairs_of (passages_at station plain) in
    length legs ∷ listed_words legs ++ (length pairs ∷ pair_words pairs)

-- The list of a station in a book's words.
abbrev pub station_list : Words → ℕ → Words
station_list words station = station_words station (plain_in FourWords words)

-- 21. The output is "too short for the whole list".
abbrev pub list_too_long : Words → Words → Bool
list_too_long out list = ltb (length out) (length list)

-- "An unsound book gives 15. Checks: 21, output too short for the whole list, after 15."
unfoldable pub meeting_checks : Words → ℕ → Words → List Check
meeting_checks words station out =
    check 1 (book_length_wrong words)
    ∷ check 15 (not (is_sound words))
    ∷ check 21 (list_too_long out (station_list words station))
    ∷ []

unfoldable pub meeting_refusal : Words → ℕ → Words → Option ℕ
meeting_refusal words station out = first_of (meeting_checks words station out)

-- A list at the front of an output; "words after these stay".
abbrev pub at_front : Words → Words → Words
at_front out list = list ++ drop (length list) out

-- What the call returns, and the output after it; of a refused one "nothing is written".
abbrev pub met_by : Option ℕ → Words → Words → Result ℕ ℕ × Words
met_by none list out = (Ok (length list), at_front out list)
met_by (some refusal) list out = (Err refusal, out)

unfoldable pub meeting_of : Words → ℕ → Words → Result ℕ ℕ × Words
meeting_of words station out = met_by (meeting_refusal words station out) (station_list words station) out
