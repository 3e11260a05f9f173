-- A number read as a kind.
use Rattle.std.specs.Prelude.{Result, Ok, Err}
use Prim.Native.Nat.{ℕ}
use mathlib.Core.Path.{◌≡◌, refl, sym, ap, ◌∙◌}
use mathlib.Core.Bool.{Bool, true, false, cond}
use native.Mathlib.Omega.{arith}
use borrow.Author.Tests.{ne_eqb}
use Rattle.words.specs.Tests.{some_holds}
use Rattle.frames.specs.Requests.{add_kind, correct_kind, strike_kind, move_kind, step_kind, look_kind, view_kind, add_minutes_kind, correct_minutes_kind, is_kind}
use Rattle.frames.specs.declared.Kind.{Kind}
use Rattle.frames.specs.declared.Kind.TheVariants.{Add, Correct, Strike, Move, Step, Look, View, AddInMinutes, CorrectInMinutes}
use Rattle.frames.specs.Kinds.{kind_number, kind_read}

-- Each kind's number is a kind's.
pub each_known : (kind : Kind) → is_kind (kind_number kind) ≡ true
unfolding some_holds
each_known Add = refl
each_known Correct = refl
each_known Strike = refl
each_known Move = refl
each_known Step = refl
each_known Look = refl
each_known View = refl
each_known AddInMinutes = refl
each_known CorrectInMinutes = refl

-- What was read is the number; what was refused is no kind's number, and refused by 4.
pub read_kind : (number kind : ℕ) → Ok kind ≡ kind_read number → kind ≡ number
read_kind number kind is = by (is_kind number) is
  where
    by : (known : Bool) → Ok kind ≡ cond {A = Result ℕ ℕ} known (Ok number) (Err 4) → kind ≡ number
    by true e = cc
    by false e = cc

pub no_kind : (number refusal : ℕ) → Err refusal ≡ kind_read number → (refusal ≡ 4) × (is_kind number ≡ false)
no_kind number refusal is = by (is_kind number) is
  where
    by : (known : Bool) → Err refusal ≡ cond {A = Result ℕ ℕ} known (Ok number) (Err 4) → (refusal ≡ 4) × (known ≡ false)
    by true e = cc
    by false e = (cc, refl)

-- A kind's own number is read as that kind, and a number that is none of them is refused.
pub as_kind : (number : ℕ) (kind : Kind) → number ≡ kind_number kind → Ok (kind_number kind) ≡ kind_read number
as_kind number kind is =
    ap (λ (known : Bool). cond {A = Result ℕ ℕ} known (Ok (kind_number kind)) (Err 4)) (sym (each_known kind))
    ∙ ap kind_read (sym is)

pub unread : (number : ℕ) → ((kind : Kind) → number ≡ kind_number kind → ⊥) → Err 4 ≡ kind_read number
unfolding some_holds
unread number other =
    rw (
      ne_eqb number add_kind (other Add),
      ne_eqb number correct_kind (other Correct),
      ne_eqb number strike_kind (other Strike),
      ne_eqb number move_kind (other Move),
      ne_eqb number add_minutes_kind (other AddInMinutes),
      ne_eqb number correct_minutes_kind (other CorrectInMinutes),
      ne_eqb number step_kind (other Step),
      ne_eqb number look_kind (other Look),
      ne_eqb number view_kind (other View),
    )
    refl

-- A look's kind is told by its number.
pub look_only : (kind : Kind) → kind_number kind ≡ look_kind → kind ≡ Look
look_only Add e = absurd (omega arith)
look_only Correct e = absurd (omega arith)
look_only Strike e = absurd (omega arith)
look_only Move e = absurd (omega arith)
look_only Step e = absurd (omega arith)
look_only Look e = refl
look_only View e = absurd (omega arith)
look_only AddInMinutes e = absurd (omega arith)
look_only CorrectInMinutes e = absurd (omega arith)
