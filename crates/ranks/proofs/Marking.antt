-- Numbers marked one after another; a permutation by its marks.
use Prim.Native.Nat.{ℕ, zero, suc, ◌+◌, ◌≤◌, ◌<◌}
use mathlib.Core.Path.{◌≡◌, refl, sym, ap, ◌∙◌}
use mathlib.Core.Bool.{Bool, true, false, cond}
use mathlib.Core.List.{List}
use native.Mathlib.Omega.{arith}
use native.Mathlib.Decide.{ℕ_discrete}
use lib.Dec.{eqb}
use lib.ListN.{length, get_or, set, take}
use lib.Seq.{get_or-set_same, get_or-set_other}
use Rattle.std.specs.List.{list_all, list_any}
use Rattle.std.proofs.lemmas.List.{take_all}
use Rattle.std.proofs.lemmas.List.Folds.{list_all_more, list_any_more}
use borrow.Author.Tests.{eq-eqb, ne_eqb}
use Rattle.words.specs.Tests.{all_hold, occurs}
use Rattle.words.specs.Words.{passage_count}
use Rattle.words.proofs.Tests.{any_is, second_or, second_and}
use Rattle.legs.specs.Positions.{all_occur_below, is_permutation}
use Rattle.ranks.specs.Marking.{MarksOf}

-- One more rank is a number, or one of those before it is.
occurs_is : (number : ℕ) (ranks : List ℕ) → list_any (eqb number) ranks ≡ occurs number ranks
occurs_is number ranks = any_is (eqb number) (occurs number) refl (λ _ _. refl) ranks

occurs_more : (number : ℕ) (ranks : List ℕ) (k : ℕ) → k < length ranks → occurs number (take (k + 1) ranks) ≡ cond (eqb number (get_or ranks k 0)) true (occurs number (take k ranks))
occurs_more number ranks k inside =
    sym (occurs_is number (take (k + 1) ranks))
    ∙ list_any_more (eqb number) ranks k 0 inside
    ∙ second_or (list_any (eqb number) (take k ranks)) (eqb number (get_or ranks k 0))
    ∙ ap (cond (eqb number (get_or ranks k 0)) true) (occurs_is number (take k ranks))

-- Where that rank has a mark it is set; else nothing is marked.
pub one_marked : (found : List Bool) (ranks : List ℕ) (k : ℕ) → k < length ranks → get_or ranks k 0 < length found → MarksOf found (take k ranks) → MarksOf (set found (get_or ranks k 0) true) (take (k + 1) ranks)
one_marked found ranks k inside has marked number below = elim (ℕ_discrete number (get_or ranks k 0)) [
  | yes here ↦
      ap (λ (i : ℕ). get_or (set found (get_or ranks k 0) true) i false) here
      ∙ get_or-set_same found (get_or ranks k 0) true false has
      ∙ sym (occurs_more number ranks k inside ∙ ap (λ b. cond b true (occurs number (take k ranks))) (eq-eqb number (get_or ranks k 0) here))
  | no other ↦
      get_or-set_other found (get_or ranks k 0) number true false other
      ∙ marked number below
      ∙ sym (occurs_more number ranks k inside ∙ ap (λ b. cond b true (occurs number (take k ranks))) (ne_eqb number (get_or ranks k 0) other))
]

pub none_marked : (found : List Bool) (ranks : List ℕ) (k : ℕ) → k < length ranks → passage_count ≤ get_or ranks k 0 → MarksOf found (take k ranks) → MarksOf found (take (k + 1) ranks)
none_marked found ranks k inside beyond marked number below =
    marked number below
    ∙ sym (occurs_more number ranks k inside ∙ ap (λ b. cond b true (occurs number (take k ranks))) (ne_eqb number (get_or ranks k 0) (λ here. omega (arith, here))))

-- Once all are passed, each number below 32 has its mark exactly where it occurs.
all_below : (found : List Bool) (ranks : List ℕ) (n : ℕ) → n ≤ length found → n ≤ passage_count → MarksOf found ranks → list_all (λ mark. mark) (take n found) ≡ all_occur_below n ranks
all_below found ranks zero room most marked = refl
all_below found ranks (suc n) room most marked =
    ap (λ (k : ℕ). list_all (λ mark. mark) (take k found)) next
    ∙ list_all_more (λ mark. mark) found n false (omega (arith, room))
    ∙ second_and (list_all (λ mark. mark) (take n found)) (get_or found n false)
    ∙ (λ i. cond (marked n (omega (arith, most)) i) (all_below found ranks n (omega (arith, room)) (omega (arith, most)) marked i) false)
  where
    next : suc n ≡ n + 1
    next = omega arith

pub all_marked : (found : List Bool) (ranks : List ℕ) → length found ≡ passage_count → MarksOf found ranks → list_all (λ mark. mark) found ≡ all_occur_below passage_count ranks
all_marked found ranks long marked =
    ap (list_all (λ mark. mark)) (sym (take_all passage_count found (omega (arith, long)))) ∙ all_below found ranks passage_count (omega (arith, long)) (omega arith) marked

-- Whether 32 ranks are a permutation: each number below 32 occurs.
is_itself : (b : Bool) → cond b true false ≡ b
is_itself true = refl
is_itself false = refl

pub permutation_is : (ranks : List ℕ) → length ranks ≡ passage_count → is_permutation ranks ≡ all_occur_below passage_count ranks
unfolding is_permutation all_hold
permutation_is ranks many = ap (λ b. cond b (cond (all_occur_below passage_count ranks) true false) false) (eq-eqb (length ranks) passage_count many) ∙ is_itself (all_occur_below passage_count ranks)

pub permutation_other : (ranks : List ℕ) → (length ranks ≡ passage_count → ⊥) → is_permutation ranks ≡ false
unfolding is_permutation all_hold
permutation_other ranks other = ap (λ b. cond b (cond (all_occur_below passage_count ranks) true false) false) (ne_eqb (length ranks) passage_count other)
