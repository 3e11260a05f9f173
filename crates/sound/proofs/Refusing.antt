-- What `ok_or` gives of nothing is the error that it was told.
use Rattle.std.specs.Prelude.{Option, Result, Ok, Err, None}
use Rattle.std.specs.Option.{ok_or}
use mathlib.Core.Path.{◌≡◌, ap, ◌∙◌}

error_or : {T E : Type 0} → E → Result T E → E
error_or told (Ok _) = told
error_or told (Err error) = error

pub error_told : {T E : Type 0} (o : Option T) (error told : E) → ◌≡◌ {A = Result T E} (Err error) (ok_or o told) → o ≡ None → error ≡ told
unfolding error_or
error_told o error told value nothing = ap (error_or told) (value ∙ ap (λ o. ok_or o told) nothing)
