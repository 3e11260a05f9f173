-- Plain words with the new values of a ticket's targets put in.
use Prim.Native.Nat.{ℕ, zero, suc, ◌<◌, suc-le-suc, zero-le}
use mathlib.Core.Path.{◌≡◌, refl, sym, ap, ◌∙◌}
use mathlib.Core.List.{List, [], ◌∷◌}
use mathlib.Core.Bool.{cond}
use mathlib.Core.Logic.{◌⊎◌, inl, inr}
use native.Mathlib.Omega.{arith}
use native.Mathlib.Nat.{le_of_suc-le-suc, not-suc-le-zero}
use native.Mathlib.Decide.{ℕ_discrete}
use lib.Dec.{eqb}
use lib.ListN.{length}
use borrow.Author.Tests.{eq-eqb, ne_eqb}
use Rattle.tickets.specs.declared.Target.{Target}
use Rattle.tickets.specs.Targets.{target_in, PutInto}

abbrev pub all_put : List Target → (ℕ → ℕ) → ℕ → ℕ
all_put [] plain word = plain word
all_put (target ∷ targets) plain word = cond (eqb word target.word) target.new (all_put targets plain word)

-- No word twice.
abbrev Once : List Target → Type 0
Once targets = (j k : ℕ) → j < length targets → k < length targets → (target_in targets j).word ≡ (target_in targets k).word → j ≡ k

put_there : (targets : List Target) (plain : ℕ → ℕ) → Once targets → (k : ℕ) → k < length targets → all_put targets plain (target_in targets k).word ≡ (target_in targets k).new
put_there [] plain once k below = absurd (not-suc-le-zero below)
put_there (target ∷ targets) plain once zero below = rw (eq-eqb target.word target.word refl)
put_there (target ∷ targets) plain once (suc k) below =
    let other : (target_in targets k).word ≡ target.word → ⊥ = λ same. let z = once 0 (suc k) (suc-le-suc zero-le) below (sym same) in omega arith in
    ap (λ first. cond first target.new (all_put targets plain (target_in targets k).word)) (ne_eqb _ _ other)
    ∙ put_there targets plain (λ i j inside also same. let z = once (suc i) (suc j) (suc-le-suc inside) (suc-le-suc also) same in omega arith) k (le_of_suc-le-suc below)

put_elsewhere : (targets : List Target) (plain : ℕ → ℕ) (word : ℕ)
    → ((k : ℕ) × (k < length targets) × ((target_in targets k).word ≡ word)) ⊎ (all_put targets plain word ≡ plain word)
put_elsewhere [] plain word = inr refl
put_elsewhere (target ∷ targets) plain word = elim (ℕ_discrete word target.word) [
  | yes same ↦ inl (0, suc-le-suc zero-le, sym same)
  | no differs ↦ elim (put_elsewhere targets plain word) [
    | inl one ↦ inl (suc one.0, suc-le-suc one.1, one.2)
    | inr stays ↦ inr (ap (λ first. cond first target.new (all_put targets plain word)) (ne_eqb _ _ differs) ∙ stays)
  ]
]

pub all_put_lem : (targets : List Target) (plain : ℕ → ℕ) → Once targets → PutInto targets plain (all_put targets plain)
all_put_lem targets plain once = record { there = put_there targets plain once; elsewhere = put_elsewhere targets plain }
