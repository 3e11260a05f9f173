-- A leg named among others: one other than 0 that is equal to one of them.
use Prim.Native.Nat.{ℕ}
use mathlib.Core.Path.{◌≡◌, refl, sym, ap, ◌∙◌}
use mathlib.Core.List.{List, [], ◌∷◌}
use mathlib.Core.Bool.{Bool, true, false, not, cond}
use native.Mathlib.Omega.{arith}
use lib.Dec.{eqb}
use Rattle.std.specs.List.{list_any}
use Rattle.std.proofs.lemmas.Bool.Decides.{nat_tests}
use Rattle.words.specs.Tests.{all_hold, some_holds}
use Rattle.words.proofs.Tests.{any_is}
use Rattle.edits.specs.Ranges.{named_among}
use Rattle.frames.proofs.Ranges.{test_alone}

exchanged : (a b : ℕ) → eqb a b ≡ eqb b a
exchanged a b = grind (arith, nat_tests)

next_named : (leg item : ℕ) (items : List ℕ) → eqb leg 0 ≡ false → named_among leg (item ∷ items) ≡ cond (eqb item leg) true (named_among leg items)
unfolding all_hold some_holds
next_named leg item items e = simp (e, test_alone) (ap (λ (test : Bool). cond test true (named_among leg items)) (exchanged leg item))

pub named_somewhere : (leg : ℕ) (others : List ℕ) → eqb leg 0 ≡ false → list_any (λ (item : ℕ). eqb item leg) others ≡ named_among leg others
named_somewhere leg others e = any_is (λ (item : ℕ). eqb item leg) (named_among leg) refl (λ item items. next_named leg item items e) others

-- 0 is named nowhere.
none_named : (others : List ℕ) → false ≡ named_among 0 others
unfolding all_hold some_holds
none_named [] = refl
none_named (other ∷ others) = none_named others ∙ sym (test_alone (named_among 0 others))

pub zero_nowhere : (leg : ℕ) (others : List ℕ) → leg ≡ 0 → not (eqb leg 0) ≡ named_among leg others
zero_nowhere leg others e = ap (λ (l : ℕ). not (eqb l 0)) e ∙ none_named others ∙ ap (λ (l : ℕ). named_among l others) (sym e)
