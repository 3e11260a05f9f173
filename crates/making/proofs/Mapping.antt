-- What an array's map gives, where no call changes the closure: the same function of one item after another.
use Prim.Native.Nat.{ℕ, zero, suc, ◌+◌, ◌≤◌, ◌<◌}
use mathlib.Core.Path.{◌≡◌, sym, ap, subst, ◌∙◌}
use mathlib.Core.List.{List}
use native.Mathlib.Omega.{arith}
use native.Mathlib.Decide.{ℕ_discrete}
use lib.ListN.{get_or}
use denote.Param.Members.{Mut}
use Rattle.std.specs.Fn.{Called}
use Rattle.std.specs.Array.{MapsFrom}

pub mapped : {F A B : Type 0} (g : Mut F (A × Unit {0}) B) (h : A → B) (f : F) → ((x : A) (y : B) (q : F) → Called g f (x, tt) y q → (q ≡ f) × (y ≡ h x))
    → (xs : List A) (ys : List B) (i n : ℕ) → MapsFrom g f xs ys i n → (k : ℕ) → i ≤ k → k < i + n → (d : A) (e : B) → get_or ys k e ≡ h (get_or xs k d)
mapped g h f same xs ys i zero run k from below d e = absurd (omega (arith, from, below))
mapped g h f same xs ys i (suc n) run k from below d e =
    let (q, x, y, is_x, is_y, called, rest) = run in
    let (kept, is) = same x y q called in
    elim (ℕ_discrete k i) [
      | yes here ↦ ap (λ (j : ℕ). get_or ys j e) here ∙ is_y.1 e ∙ is ∙ ap h (sym (ap (λ (j : ℕ). get_or xs j d) here ∙ is_x.1 d))
      | no later ↦ mapped g h f same xs ys (i + 1) n (subst (λ s. MapsFrom g s xs ys (i + 1) n) kept rest) k (omega (arith, from, later)) (omega (arith, below)) d e
    ]
