-- The kinds as the code has them: the number of each, and a number read as a kind.
use Rattle.std.specs.Prelude.{ℕ, ◌≡◌, cond, Result, Ok, Err}
use Rattle.frames.specs.Requests.{add_kind, correct_kind, strike_kind, move_kind, step_kind, look_kind, view_kind, add_minutes_kind, correct_minutes_kind, is_kind}
use Rattle.frames.specs.Refusals.{refusal_number}
use Rattle.frames.specs.declared.Refusal.{Refusal}
use Rattle.frames.specs.declared.Kind.{Kind}
use Rattle.frames.specs.declared.Kind.TheVariants.{Add, Correct, Strike, Move, Step, Look, View, AddInMinutes, CorrectInMinutes}

abbrev pub kind_number : Kind → ℕ
kind_number Add = add_kind
kind_number Correct = correct_kind
kind_number Strike = strike_kind
kind_number Move = move_kind
kind_number Step = step_kind
kind_number Look = look_kind
kind_number View = view_kind
kind_number AddInMinutes = add_minutes_kind
kind_number CorrectInMinutes = correct_minutes_kind

-- A kind, or the number of the refusal.
abbrev pub kind_numbered : Result Kind Refusal → Result ℕ ℕ
kind_numbered (Ok kind) = Ok (kind_number kind)
kind_numbered (Err refusal) = Err (refusal_number refusal)

-- A number that is a kind's is read as that kind; any other is refused by 4.
abbrev pub kind_read : ℕ → Result ℕ ℕ
kind_read number = cond (is_kind number) (Ok number) (Err 4)

abbrev pub KindRead : ℕ → Result Kind Refusal → Type 0
KindRead number read = kind_numbered read ≡ kind_read number
