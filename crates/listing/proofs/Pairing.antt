-- The pairs of the passages that have a leg there, passage by passage.
use Prim.Native.Nat.{ℕ, ◌+◌, ◌≤◌, ◌<◌}
use mathlib.Core.Path.{◌≡◌, refl, ap, ◌∙◌}
use mathlib.Core.List.{List, [], ◌∷◌, ◌++◌, map}
use mathlib.Core.Bool.{Bool, true, false, cond}
use mathlib.Core.Logic.{◌≢◌}
use lib.Dec.{eqb}
use lib.ListN.{length, get_or, drop}
use borrow.Author.Tests.{eq-eqb, ne_eqb}
use Rattle.meeting.specs.Meeting.{Pair, pair, pairs_of, pair_words}
use Rattle.stations.specs.Counting.{present_from}
use Rattle.listing.specs.Listing.{pairs_with}
use Rattle.stations.proofs.Counting.{counts_from, counts_past}

pair_words_append : (a b : List Pair) → pair_words (a ++ b) ≡ pair_words a ++ pair_words b
unfolding pair_words
pair_words_append [] b = refl
pair_words_append (two ∷ a) b = ap (λ l. two.lower ∷ two.higher ∷ l) (pair_words_append a b)

-- The pairs of a lower passage, by whether it has a leg there.
pub with_none : (counts : List ℕ) (lower : ℕ) → get_or counts lower 0 ≡ 0 → pairs_with counts lower ≡ []
with_none counts lower none = rw (eq-eqb (get_or counts lower 0) 0 none)

pub with_some : (counts : List ℕ) (lower : ℕ) → get_or counts lower 0 ≢ 0 → pairs_with counts lower ≡ map (pair lower) (present_from (lower + 1) (drop (lower + 1) counts))
with_some counts lower some = rw (ne_eqb (get_or counts lower 0) 0 some)

-- The pairs of a lower passage with those from a higher one on, by whether that one has a leg there.
module _ (counts : List ℕ) (lower higher : ℕ) (inside : higher < length counts) where
  pub pair_next : get_or counts higher 0 ≢ 0
      → pair_words (map (pair lower) (present_from higher (drop higher counts)))
      ≡ (lower ∷ higher ∷ []) ++ pair_words (map (pair lower) (present_from (higher + 1) (drop (higher + 1) counts)))
  unfolding present_from pair_words
  pair_next some = ap (λ l. pair_words (map (pair lower) (present_from higher l))) (counts_from counts higher inside) ∙ rw (ne_eqb (get_or counts higher 0) 0 some)

  pub pair_passed : get_or counts higher 0 ≡ 0
      → pair_words (map (pair lower) (present_from higher (drop higher counts))) ≡ [] ++ pair_words (map (pair lower) (present_from (higher + 1) (drop (higher + 1) counts)))
  unfolding present_from pair_words
  pair_passed none = ap (λ l. pair_words (map (pair lower) (present_from higher l))) (counts_from counts higher inside) ∙ rw (eq-eqb (get_or counts higher 0) 0 none)

-- The pairs from a lower passage on.
pub lower_next : (counts : List ℕ) (lower : ℕ) → lower < length counts
    → pair_words (pairs_of (present_from lower (drop lower counts)))
    ≡ pair_words (pairs_with counts lower) ++ pair_words (pairs_of (present_from (lower + 1) (drop (lower + 1) counts)))
unfolding present_from pairs_of
lower_next counts lower inside =
    ap (λ l. pair_words (pairs_of (present_from lower l))) (counts_from counts lower inside)
    ∙ by (eqb (get_or counts lower 0) 0)
    ∙ pair_words_append (pairs_with counts lower) (pairs_of (present_from (lower + 1) (drop (lower + 1) counts)))
  where
    later : List ℕ
    later = present_from (lower + 1) (drop (lower + 1) counts)

    by : (none : Bool) → pair_words (pairs_of (cond none later (lower ∷ later))) ≡ pair_words (cond none [] (map (pair lower) later) ++ pairs_of later)
    by true = refl
    by false = refl

-- Behind the last passage there is nothing.
pub none_behind : (p : ℕ) (counts : List ℕ) → length counts ≤ p → present_from p (drop p counts) ≡ []
unfolding present_from
none_behind p counts high = ap (present_from p) (counts_past counts p high)

pub no_words_behind : (lower p : ℕ) (counts : List ℕ) → length counts ≤ p → pair_words (map (pair lower) (present_from p (drop p counts))) ≡ []
unfolding pair_words
no_words_behind lower p counts high = ap (λ l. pair_words (map (pair lower) l)) (none_behind p counts high)

pub no_pairs_behind : (p : ℕ) (counts : List ℕ) → length counts ≤ p → pair_words (pairs_of (present_from p (drop p counts))) ≡ []
unfolding pair_words pairs_of
no_pairs_behind p counts high = ap (λ l. pair_words (pairs_of l)) (none_behind p counts high)
