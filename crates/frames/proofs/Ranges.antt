-- Fields in range and out of it, as tests on numbers.
use Prim.Native.Nat.{ℕ, ◌<◌, ◌≤◌}
use mathlib.Core.Path.{◌≡◌, refl}
use mathlib.Core.List.{List, [], ◌∷◌}
use mathlib.Core.Bool.{Bool, true, false, cond}
use native.Mathlib.Omega.{arith}
use borrow.Author.Tests.{leb-true, le-leb}
use lib.Dec.{leb}
use Rattle.words.specs.Tests.{some_holds, within}
use Rattle.words.proofs.Tests.{split, join, is_false}

-- Some test of a list holds: the first, or one behind it.
pub first_of : (test : Bool) (tests : List Bool) → test ≡ true → some_holds (test ∷ tests) ≡ true
unfolding some_holds
first_of test tests e = simp e

pub next_of : (test found : Bool) (tests : List Bool) → test ≡ false → some_holds tests ≡ found → some_holds (test ∷ tests) ≡ found
unfolding some_holds
next_of test found tests e rest = simp e rest

pub none_of : some_holds [] ≡ false
unfolding some_holds
none_of = refl

-- 1 to most.
pub within_in : (least most x : ℕ) → least ≤ x → x ≤ most → within least most x ≡ true
within_in least most x l m = join (leb least x ∷ leb x most ∷ []) (le-leb _ _ l, (le-leb _ _ m, tt))

pub within_below : (least most x : ℕ) → x < least → within least most x ≡ false
within_below least most x l = is_false _ (λ h. let (a, u) = split (leb least x ∷ leb x most ∷ []) h in omega (arith, leb-true least x a))

pub within_above : (least most x : ℕ) → most < x → within least most x ≡ false
within_above least most x l = is_false _ (λ h. let (a, (b, u)) = split (leb least x ∷ leb x most ∷ []) h in omega (arith, leb-true x most b))

-- A test that is all of a list.
pub test_alone : (test : Bool) → cond test true false ≡ test
test_alone true = refl
test_alone false = refl
