-- How a program goes through the records of its input, and what a call returns.
use Rattle.std.specs.Prelude.{◌≡◌, ℕ, ◌≤◌, List, length, Option, Result, Ok, Err}
use Rattle.std.specs.Iterator.{TryCallsOnEach}
use Rattle.std.specs.Result.{result_from_control_flow}
use Rattle.desk.specs.declared.records.Records.{Records}
use denote.Param.Members.{Mut}

-- The bytes of an input that there is room for.
abbrev pub input_room : ℕ
input_room = 1048576

-- From some bytes, records were read one after another, and f was called at each: up to one at which it gave an error, which is the
-- result, or to where no whole record was left, and then there is no error.
abbrev pub CalledAtEach : {R F E : Type 0} → (List ℕ → Option R → List ℕ → Type 0) → Mut F (R × Unit {0}) (Result (Unit {0}) E) → F → Result (Unit {0}) E → Type 0
CalledAtEach {R} {F} {E} reads call f result =
    (from : Records R) × (left : Records R) × (length from.left.now ≤ input_room)
    × TryCallsOnEach (λ s found t. reads s.left.now found t.left.now) call (λ given turn. given ≡ result_from_control_flow turn)
    (λ error given. given ≡ Err error.0) from f result left

-- The one number that a call returns: how many bytes are written, or the refusal's.
abbrev pub number_returned : Result ℕ ℕ → ℕ
number_returned (Ok written) = written
number_returned (Err number) = number
