-- The counts of a station, and the size of its list by them.
use Prim.Native.Nat.{ℕ, zero, suc, ◌+◌, ◌*◌, ◌≤◌, ◌<◌}
use mathlib.Core.Path.{◌≡◌, refl, sym, ap, ◌∙◌}
use mathlib.Core.List.{List, [], ◌∷◌, ◌++◌, map, append-nil}
use mathlib.Core.Bool.{Bool, true, false, cond}
use mathlib.Core.Logic.{◌≢◌}
use native.Mathlib.Omega.{arith}
use native.Mathlib.Nat.{not-suc-le-zero, le_of_suc-le-suc}
use lib.Dec.{eqb}
use borrow.Author.Tests.{eq-eqb, ne_eqb}
use lib.ListN.{length, get_or, drop, length-append, length-map}
use lib.Seq.{drop-cons}
use Rattle.words.specs.declared.LegLayout.TheVariants.{FourWords}
use Rattle.std.proofs.Common.{append_assoc, sum}
use Rattle.std.proofs.lemmas.List.Sums.{sum_by-cons, sum_by-append}
use Rattle.words.specs.Words.{Words, passage_count, last_leg}
use Rattle.plain.specs.Plain.{Plain, NumberedLeg, list_of}
use Rattle.soundness.specs.InWords.{list_in, plain_in}
use Rattle.meeting.specs.Meeting.{meets, those_meeting, legs_at, any_meets, passages_from, pair, pairs_of, listed_words, pair_words, station_words}
use Rattle.meeting.proofs.Rising.{length_listed, length_pair_words}
use Rattle.stations.specs.declared.Size.{Size}
use Rattle.stations.specs.Counting.{counts_at, present_from, with_passage, size_of, list_length}
use Rattle.stations.proofs.Walking.{length_plain, list_in_lem}

-- A count that is not 0.
some_counted : (n : ℕ) → eqb (suc n) 0 ≡ false
some_counted n = ne_eqb (suc n) 0 (λ e. omega (arith, e))

module _ (station : ℕ) where
  pub length_counts : (lists : Plain) → length (counts_at station lists) ≡ length lists
  unfolding counts_at
  length_counts [] = refl
  length_counts (legs ∷ lists) = ap suc (length_counts lists)

  pub count_at : (lists : Plain) (p : ℕ) → p < length lists → get_or (counts_at station lists) p 0 ≡ length (those_meeting station (list_of lists p))
  unfolding counts_at
  count_at [] p below = absurd (not-suc-le-zero below)
  count_at (legs ∷ lists) zero below = refl
  count_at (legs ∷ lists) (suc p) below = count_at lists p (le_of_suc-le-suc below)

  pub sum_counts : (lists : Plain) → sum (counts_at station lists) ≡ length (legs_at station lists)
  unfolding counts_at legs_at
  sum_counts [] = refl
  sum_counts (legs ∷ lists) = omega (arith, length-append (those_meeting station legs) (legs_at station lists), sum_counts lists, sum_by-cons (λ (n : ℕ). n) (length (those_meeting station legs)) (counts_at station lists))

  -- A list has a leg there exactly where the count is not 0.
  any_counted : (legs : List NumberedLeg) → cond (eqb (length (those_meeting station legs)) 0) false true ≡ any_meets station legs
  unfolding those_meeting
  any_counted [] = refl
  any_counted (leg ∷ older) = by (meets station leg) (any_counted older)
    where
      by : (b : Bool) → cond (eqb (length (those_meeting station older)) 0) false true ≡ any_meets station older
          → cond (eqb (length (cond b (leg ∷ those_meeting station older) (those_meeting station older))) 0) false true ≡ cond b true (any_meets station older)
      by true rest = rw (some_counted (length (those_meeting station older)))
      by false rest = rest

  pub present_counts : (p : ℕ) (lists : Plain) → present_from p (counts_at station lists) ≡ passages_from station p lists
  unfolding counts_at present_from passages_from
  present_counts p [] = refl
  present_counts p (legs ∷ lists) =
      by (eqb (length (those_meeting station legs)) 0) (any_meets station legs) (any_counted legs)
      ∙ ap (λ later. cond (any_meets station legs) (p ∷ later) later) (present_counts (p + 1) lists)
    where
      by : (none any : Bool) → cond none false true ≡ any
          → cond none (present_from (p + 1) (counts_at station lists)) (p ∷ present_from (p + 1) (counts_at station lists))
          ≡ cond any (p ∷ present_from (p + 1) (counts_at station lists)) (present_from (p + 1) (counts_at station lists))
      by none any same = swapped none ∙ ap (λ b. cond b (p ∷ present_from (p + 1) (counts_at station lists)) (present_from (p + 1) (counts_at station lists))) same
        where
          swapped : (b : Bool)
              → cond b (present_from (p + 1) (counts_at station lists)) (p ∷ present_from (p + 1) (counts_at station lists))
              ≡ cond (cond b false true) (p ∷ present_from (p + 1) (counts_at station lists)) (present_from (p + 1) (counts_at station lists))
          swapped true = refl
          swapped false = refl

-- The count of a passage in a book's words.
pub count_told : (words : Words) (station p : ℕ) → p < passage_count
    → get_or (counts_at station (plain_in FourWords words)) p 0 ≡ length (those_meeting station (list_in FourWords words p))
count_told words station p inside =
    count_at station (plain_in FourWords words) p (omega (arith, inside, length_plain words)) ∙ ap (λ l. length (those_meeting station l)) (list_in_lem words p inside)

-- The counts from a passage on: its own, and those after it.
pub counts_from : (counts : List ℕ) (p : ℕ) → p < length counts → drop p counts ≡ get_or counts p 0 ∷ drop (p + 1) counts
counts_from counts p inside = let here : suc p ≡ p + 1 = omega arith in drop-cons counts p 0 inside ∙ ap (λ (n : ℕ). get_or counts p 0 ∷ drop n counts) here

-- Behind the last there are none.
pub counts_past : (counts : List ℕ) (p : ℕ) → length counts ≤ p → drop p counts ≡ []
counts_past [] zero high = refl
counts_past [] (suc p) high = refl
counts_past (count ∷ counts) zero high = absurd (omega arith)
counts_past (count ∷ counts) (suc p) high = counts_past counts p (omega (arith, high))

-- One passage more.
pub passage_empty : (count : ℕ) (size : Size) → count ≡ 0 → with_passage count size ≡ size
passage_empty count size none = rw (eq-eqb count 0 none)

pub passage_counted : (count : ℕ) (size : Size) → count ≢ 0
    → with_passage count size ≡ record { legs = size.legs + count; passages = size.passages + 1; pairs = size.pairs + size.passages }
passage_counted count size some = rw (ne_eqb count 0 some)

-- The size by the counts: legs, passages and pairs.
pub size_legs : (counts : List ℕ) → (size_of counts).legs ≡ sum counts
unfolding size_of
size_legs [] = refl
size_legs (zero ∷ counts) = omega (arith, size_legs counts, sum_by-cons (λ (n : ℕ). n) 0 counts)
size_legs (suc n ∷ counts) = rw (some_counted n) (omega (arith, size_legs counts, sum_by-cons (λ (n : ℕ). n) (suc n) counts))

pub size_passages : (p : ℕ) (counts : List ℕ) → (size_of counts).passages ≡ length (present_from p counts)
unfolding size_of present_from
size_passages p [] = refl
size_passages p (zero ∷ counts) = size_passages (p + 1) counts
size_passages p (suc n ∷ counts) = rw (some_counted n) (omega (arith, size_passages (p + 1) counts))

pub size_pairs : (p : ℕ) (counts : List ℕ) → (size_of counts).pairs ≡ length (pairs_of (present_from p counts))
unfolding size_of present_from pairs_of
size_pairs p [] = refl
size_pairs p (zero ∷ counts) = size_pairs (p + 1) counts
size_pairs p (suc n ∷ counts) =
    let later = present_from (p + 1) counts in
    rw (some_counted n)
    (omega (arith, size_pairs (p + 1) counts, size_passages (p + 1) counts, length-append (map (pair p) later) (pairs_of later), length-map later (pair p)))

-- They are small.
pub few_passages : (counts : List ℕ) → (size_of counts).passages ≤ length counts
unfolding size_of
few_passages [] = omega arith
few_passages (zero ∷ counts) = omega (arith, few_passages counts)
few_passages (suc n ∷ counts) = rw (some_counted n) (omega (arith, few_passages counts))

pub few_pairs : (counts : List ℕ) → length counts ≤ passage_count → (size_of counts).pairs ≤ passage_count * (size_of counts).passages
unfolding size_of
few_pairs [] short = omega arith
few_pairs (zero ∷ counts) short = few_pairs counts (omega (arith, short))
few_pairs (suc n ∷ counts) short = rw (some_counted n) (omega (arith, few_passages counts, few_pairs counts (omega (arith, short)), short))

-- The counts that are left, and those passed, from the last on: the size so far is that of those passed.
pub record Sized (counts left : List ℕ) (size : Size) : Type 0 where
  pub passed : List ℕ
  pub parted : counts ≡ left ++ passed
  pub sized : size ≡ size_of passed

pub sized_none : (counts : List ℕ) → Sized counts counts (record { legs = 0; passages = 0; pairs = 0 })
unfolding size_of
sized_none counts = record { passed = []; parted = sym (append-nil counts); sized = refl }

pub sized_all : (counts left : List ℕ) (size : Size) → Sized counts left size → length left ≡ 0 → size ≡ size_of counts
sized_all counts [] size so_far none = so_far.sized ∙ ap size_of (sym so_far.parted)
sized_all counts (count ∷ left) size so_far none = absurd (omega (arith, none))

module _ (counts left : List ℕ) (size : Size) (so_far : Sized counts left size) (later : List ℕ) (count : ℕ) (next : left ≡ later ++ count ∷ []) where
  parts : counts ≡ later ++ (count ∷ so_far.passed)
  parts = so_far.parted ∙ ap (λ l. l ++ so_far.passed) next ∙ append_assoc later (count ∷ []) so_far.passed

  pub sized_next : Sized counts later (with_passage count size)
  unfolding size_of
  sized_next = record { passed = count ∷ so_far.passed; parted = parts; sized = ap (with_passage count) so_far.sized }

  -- They are small, where the counts are.
  pub sized_fits : sum counts ≤ last_leg → length counts ≤ passage_count → ((size.legs + count ≤ last_leg) × (size.passages ≤ passage_count)) × (size.pairs ≤ passage_count * size.passages)
  sized_fits few short =
      let long : length later + (1 + length so_far.passed) ≤ passage_count = omega (arith, short, ap length parts, length-append later (count ∷ so_far.passed)) in (
        (
          omega (arith, ap (λ (s : Size). s.legs) so_far.sized, size_legs so_far.passed, few, ap sum parts, sum_by-append (λ (n : ℕ). n) later (count ∷ so_far.passed), sum_by-cons (λ (n : ℕ). n) count so_far.passed),
          omega (arith, ap (λ (s : Size). s.passages) so_far.sized, few_passages so_far.passed, long),
        ),
        omega (arith, ap (λ (s : Size). s.pairs) so_far.sized, ap (λ (s : Size). s.passages) so_far.sized, few_pairs so_far.passed (omega arith)),
      )

-- The size tells how long the list is.
pub length_list : (station : ℕ) (plain : Plain) → length (station_words station plain) ≡ list_length (size_of (counts_at station plain))
unfolding station_words
length_list station plain =
    let legs = legs_at station plain in
    let pairs = pairs_of (passages_from station 0 plain) in
    omega (
      arith,
      length-append (listed_words legs) (length pairs ∷ pair_words pairs),
      length_listed legs,
      length_pair_words pairs,
      size_legs (counts_at station plain),
      sum_counts station plain,
      size_pairs 0 (counts_at station plain),
      ap (λ l. length (pairs_of l)) (present_counts station 0 plain),
    )
