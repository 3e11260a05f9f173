-- The pairs rise; and how many words there are at most.
use Prim.Native.Nat.{ℕ, zero, suc, ◌+◌, ◌*◌, ◌-◌, ◌≤◌, ◌<◌, zero-le, suc-le-suc}
use mathlib.Core.Path.{◌≡◌, refl, sym, ap, subst₂, ◌∙◌}
use mathlib.Core.List.{List, [], ◌∷◌, ◌++◌, map}
use mathlib.Core.Bool.{Bool, true, false, cond}
use mathlib.Core.Logic.{inl, inr}
use native.Mathlib.Omega.{arith}
use native.Mathlib.Decide.{dec_lt}
use native.Mathlib.Nat.{not-suc-le-zero, le_of_suc-le-suc}
use lib.ListN.{length, get_or, length-append, length-map, get_or-append}
use lib.Seq.{get_or-append-add}
use Rattle.words.specs.declared.LegLayout.TheVariants.{FourWords}
use Rattle.words.specs.Words.{last_leg}
use Rattle.plain.specs.Plain.{Plain, NumberedLeg, Sound}
use Rattle.plain.proofs.OneList.{Every}
use Rattle.plain.proofs.Slots.{InRange}
use Rattle.plain.proofs.Lists.{fair_of}
use Rattle.plain.proofs.Values.{few_legs}
use Rattle.meeting.specs.Meeting.{meets, those_meeting, legs_at, any_meets, passages_from, passages_at, Pair, pair, pairs_of, listed_words, pair_words, station_words}
use Rattle.meeting.specs.Statements.{Before, PairsRise, RoomForEveryList}
use Rattle.meeting.proofs.Once.{only_legs_of_the_book}
use Rattle.meeting.proofs.Pairs.{RiseFrom, passages_rise}

abbrev none : Pair
none = pair 0 0

-- Numbers that rise, one by one.
at_least : (least : ℕ) (numbers : List ℕ) (k : ℕ) → RiseFrom least numbers → k < length numbers → least ≤ get_or numbers k 0
at_least least [] k rises below = absurd (not-suc-le-zero below)
at_least least (first ∷ later) zero rises below = rises.0
at_least least (first ∷ later) (suc k) rises below = omega (arith, rises.0, at_least (first + 1) later k rises.1 (le_of_suc-le-suc below))

rise_by : (least : ℕ) (numbers : List ℕ) (j k : ℕ) → RiseFrom least numbers → j < k → k < length numbers → get_or numbers j 0 < get_or numbers k 0
rise_by least [] j k rises before below = absurd (not-suc-le-zero below)
rise_by least (first ∷ later) zero zero rises before below = absurd (omega arith)
rise_by least (first ∷ later) zero (suc k) rises before below = omega (arith, at_least (first + 1) later k rises.1 (le_of_suc-le-suc below))
rise_by least (first ∷ later) (suc j) zero rises before below = absurd (omega arith)
rise_by least (first ∷ later) (suc j) (suc k) rises before below = rise_by (first + 1) later j k rises.1 (le_of_suc-le-suc before) (le_of_suc-le-suc below)

-- The pairs of one passage with those after it.
pair_at : (first : ℕ) (later : List ℕ) (k : ℕ) → k < length later → get_or (map (pair first) later) k none ≡ pair first (get_or later k 0)
pair_at first [] k below = absurd (not-suc-le-zero below)
pair_at first (next ∷ later) zero below = refl
pair_at first (next ∷ later) (suc k) below = pair_at first later k (le_of_suc-le-suc below)

-- In two lists of pairs, one behind the other: where a pair stands.
record Apart (first : ℕ) (later : List ℕ) (k : ℕ) : Type 0 where
  pub place : ℕ
  pub inside : place < length (pairs_of later)
  pub is : get_or (map (pair first) later ++ pairs_of later) k none ≡ get_or (pairs_of later) place none
  pub behind : k ≡ length later + place

front : (first : ℕ) (later : List ℕ) (k : ℕ) → k < length later → get_or (map (pair first) later ++ pairs_of later) k none ≡ pair first (get_or later k 0)
front first later k below = get_or-append (map (pair first) later) (pairs_of later) none k (omega (arith, length-map later (pair first))) ∙ pair_at first later k below

back : (first : ℕ) (later : List ℕ) (k : ℕ) → length later ≤ k → k < length (map (pair first) later ++ pairs_of later) → Apart first later k
back first later k above below =
    let long = length-map later (pair first) in
    let whole = length-append (map (pair first) later) (pairs_of later) in
    let behind : k ≡ length (map (pair first) later) + (k - length later) = omega (arith, long) in
    record {
      place = k - length later;
      inside = omega (arith, long, whole);
      is = ap (λ (n : ℕ). get_or (map (pair first) later ++ pairs_of later) n none) behind ∙ get_or-append-add (map (pair first) later) (pairs_of later) (k - length later) none;
      behind = omega arith;
    }

lowers : (least : ℕ) (numbers : List ℕ) (k : ℕ) → RiseFrom least numbers → k < length (pairs_of numbers) → least ≤ (get_or (pairs_of numbers) k none).lower
unfolding pairs_of
lowers least [] k rises below = absurd (not-suc-le-zero below)
lowers least (first ∷ later) k rises below = elim (dec_lt k (length later)) [
  | yes in_front ↦ omega (arith, rises.0, ap (λ (two : Pair). two.lower) (front first later k in_front))
  | no behind ↦
      let there = back first later k (omega arith) below in
      omega (arith, rises.0, ap (λ (two : Pair). two.lower) there.is, lowers (first + 1) later there.place rises.1 there.inside)
]

rise : (least : ℕ) (numbers : List ℕ) (j k : ℕ) → RiseFrom least numbers → j < k → k < length (pairs_of numbers)
    → Before (get_or (pairs_of numbers) j none) (get_or (pairs_of numbers) k none)
unfolding pairs_of
rise least [] j k rises before below = absurd (not-suc-le-zero below)
rise least (first ∷ later) j k rises before below = elim (dec_lt k (length later)) [
  | yes k_front ↦
      subst₂ Before (sym (front first later j (omega arith))) (sym (front first later k k_front)) (inr (refl, rise_by (first + 1) later j k rises.1 before k_front))
  | no k_behind ↦
      let k_there = back first later k (omega arith) below in
      elim (dec_lt j (length later)) [
        | yes j_front ↦
            subst₂ Before (sym (front first later j j_front)) (sym k_there.is) (inl (omega (arith, lowers (first + 1) later k_there.place rises.1 k_there.inside)))
        | no j_behind ↦
            let j_there = back first later j (omega arith) (omega arith) in
            subst₂ Before (sym j_there.is) (sym k_there.is)
            (rise (first + 1) later j_there.place k_there.place rises.1 (omega (arith, j_there.behind, k_there.behind)) k_there.inside)
      ]
]

pub pairs_rise : PairsRise
pairs_rise station plain j k before below = rise 0 (passages_at station plain) j k (passages_rise station 0 plain) before below

-- As many pairs as n passages make.
pairs_of_many : ℕ → ℕ
pairs_of_many zero = 0
pairs_of_many (suc n) = n + pairs_of_many n

many_more : (m n : ℕ) → m ≤ n → pairs_of_many m ≤ pairs_of_many n
unfolding pairs_of_many
many_more zero n h = zero-le
many_more (suc m) zero h = absurd (not-suc-le-zero h)
many_more (suc m) (suc n) h = omega (arith, many_more m n (le_of_suc-le-suc h))

pairs_many : (numbers : List ℕ) → length (pairs_of numbers) ≡ pairs_of_many (length numbers)
unfolding pairs_of pairs_of_many
pairs_many [] = refl
pairs_many (first ∷ later) = length-append (map (pair first) later) (pairs_of later) ∙ omega (arith, length-map later (pair first), pairs_many later)

passages_most : (station p : ℕ) (lists : Plain) → length (passages_from station p lists) ≤ length lists
unfolding passages_from
passages_most station p [] = zero-le
passages_most station p (legs ∷ lists) = by (any_meets station legs) (passages_most station (p + 1) lists)
  where
    by : (b : Bool) → length (passages_from station (p + 1) lists) ≤ length lists
        → length (cond b (p ∷ passages_from station (p + 1) lists) (passages_from station (p + 1) lists)) ≤ suc (length lists)
    by true rest = suc-le-suc rest
    by false rest = omega (arith, rest)

every_append : (a b : List NumberedLeg) → Every InRange a → Every InRange b → Every InRange (a ++ b)
every_append [] b fits later = later
every_append (leg ∷ a) b fits later = (fits.0, every_append a b fits.1 later)

those_fit : (station : ℕ) (legs : List NumberedLeg) → Every InRange legs → Every InRange (those_meeting station legs)
unfolding those_meeting
those_fit station [] fits = tt
those_fit station (leg ∷ older) fits = by (meets station leg) (those_fit station older fits.1)
  where
    by : (b : Bool) → Every InRange (those_meeting station older) → Every InRange (cond b (leg ∷ those_meeting station older) (those_meeting station older))
    by true rest = (fits.0, rest)
    by false rest = rest

listed_fit : (station : ℕ) (lists : Plain) → ((p : ℕ) → p < length lists → Every InRange (get_or lists p [])) → Every InRange (legs_at station lists)
unfolding legs_at
listed_fit station [] fits = tt
listed_fit station (legs ∷ lists) fits =
    every_append (those_meeting station legs) (legs_at station lists) (those_fit station legs (fits 0 (suc-le-suc zero-le))) (listed_fit station lists (λ p below. fits (suc p) (suc-le-suc below)))

pub length_listed : (legs : List NumberedLeg) → length (listed_words legs) ≡ 2 * length legs
unfolding listed_words
length_listed [] = refl
length_listed (leg ∷ legs) = omega (arith, length_listed legs)

pub length_pair_words : (pairs : List Pair) → length (pair_words pairs) ≡ 2 * length pairs
unfolding pair_words
length_pair_words [] = refl
length_pair_words (two ∷ pairs) = omega (arith, length_pair_words pairs)

-- The legs listed are at most as many as there are numbers.
pub listed_few : (station : ℕ) (plain : Plain) → Sound plain → length (legs_at station plain) ≤ last_leg
listed_few station plain sound =
    few_legs FourWords (legs_at station plain) (listed_fit station plain (λ p below. (fair_of FourWords plain sound).range p))
    (λ r. omega (arith, only_legs_of_the_book station plain sound.passages r, sound.none_twice r))

pub room_for_every_list : RoomForEveryList
unfolding station_words pairs_of_many
room_for_every_list station plain sound =
    let legs = legs_at station plain in
    let pairs = pairs_of (passages_at station plain) in
    let paired : length pairs ≤ 496 = omega (arith, pairs_many (passages_at station plain), many_more (length (passages_at station plain)) 32 (omega (arith, passages_most station 0 plain, sound.passages))) in
    omega (arith, listed_few station plain sound, paired, length-append (listed_words legs) (length pairs ∷ pair_words pairs), length_listed legs, length_pair_words pairs)
