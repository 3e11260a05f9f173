-- An answer read back from its bytes: hearing the bytes is hearing the answer.
use Rattle.std.specs.Prelude.{ℕ, ◌/◌, ◌≡◌, List, [], ◌∷◌, map, Bool, true, false, cond, None, Some, eqb, length, drop}
use Rattle.std.proofs.Math.Option.{Option, none, some}
use Rattle.words.specs.Tests.{all_hold, within}
use Rattle.words.specs.Words.{most_named}
use Rattle.tickets.specs.declared.Values.{Values}
use Rattle.tickets.specs.Steps.{values_from, Looked}
use Rattle.tickets.specs.declared.StepAnswer.{StepAnswer}
use Rattle.tickets.specs.declared.StepAnswer.TheVariants.{Claimed, Waiting, Found, Put, Returned, Granted, Stale, Seen}
use Rattle.frames.specs.declared.Answer.{Answer}
use Rattle.frames.specs.declared.Answer.TheVariants.{Standing, Step, Look, Refused}
use Rattle.frames.specs.Numbers.{Bytes, number16, number32, number64, numbers64, fits16, fits32, fits64}
use Rattle.frames.specs.Requests.{part_after_kind}
use Rattle.frames.specs.Answers.{answer_frame}

-- The values of a view whose fields are a part after the kind: 8 bytes each.
abbrev pub values_in : Bytes → Values
values_in part = values_from (length part / 8) (numbers64 (length part / 8) part 0)

-- The answer of each kind whose fields are a part after the kind.
abbrev pub answers_with : Bytes → List Answer
answers_with part =
    Standing (number16 part 0)
    ∷ Step (Claimed (number16 part 0))
    ∷ Step (Waiting (number16 part 0) (number16 part 2))
    ∷ Step (Found (number16 part 0))
    ∷ Step (Put (number16 part 0))
    ∷ Step (Returned (number16 part 0))
    ∷ Step (Granted (number32 part 0))
    ∷ Step (Stale (number16 part 0) (number32 part 2))
    ∷ Step (Seen (values_in part))
    ∷ Look (Some (number64 part 0))
    ∷ Look None
    ∷ Refused (number16 part 0)
    ∷ []

abbrev pub same_bytes : Bytes → Bytes → Bool
same_bytes [] [] = true
same_bytes [] (other ∷ others) = false
same_bytes (byte ∷ bytes) [] = false
same_bytes (byte ∷ bytes) (other ∷ others) = cond (eqb byte other) (same_bytes bytes others) false

-- The first of some answers whose frame the bytes are, whole and nothing else.
abbrev pub first_framed : Bytes → List Answer → Option Answer
first_framed bytes [] = none
first_framed bytes (answer ∷ answers) = cond (same_bytes (answer_frame answer) bytes) (some answer) (first_framed bytes answers)

-- The answer whose frame the bytes are; none where they are no answer's frame.
unfoldable pub answer_in : Bytes → Option Answer
answer_in bytes = first_framed bytes (answers_with (part_after_kind bytes))

-- Each number of a list is 0.
abbrev pub all_zero : List ℕ → Bool
all_zero numbers = all_hold (map (eqb 0) numbers)

-- One to six values in their room, each with room in its bits; the others are zeros.
abbrev pub values_fit : Values → Bool
values_fit seen =
    all_hold (
    within 1 most_named seen.n
    ∷ eqb (length seen.values) most_named
    ∷ all_hold (map fits64 seen.values)
    ∷ all_zero (drop seen.n seen.values)
    ∷ []
    )

-- Each field has room in its bits.
abbrev pub step_answer_fits : StepAnswer → Bool
step_answer_fits (Claimed many) = fits16 many
step_answer_fits (Waiting word team) = all_hold (fits16 word ∷ fits16 team ∷ [])
step_answer_fits (Found word) = fits16 word
step_answer_fits (Put many) = fits16 many
step_answer_fits (Returned many) = fits16 many
step_answer_fits (Granted tries) = fits32 tries
step_answer_fits (Stale word tries) = all_hold (fits16 word ∷ fits32 tries ∷ [])
step_answer_fits (Seen values) = values_fit values

abbrev pub look_answer_fits : Looked → Bool
look_answer_fits (Some value) = fits64 value
look_answer_fits None = true

abbrev pub answer_fits : Answer → Bool
answer_fits (Standing n) = fits16 n
answer_fits (Step answer) = step_answer_fits answer
answer_fits (Look answer) = look_answer_fits answer
answer_fits (Refused number) = fits16 number

-- Statement: an answer whose fields fit is read back from its frame,
abbrev pub AnswersReadBack : Type 0
AnswersReadBack = (answer : Answer) → answer_fits answer ≡ true → answer_in (answer_frame answer) ≡ some answer

-- Statement: and only from its frame.
abbrev pub OnlyAnswersRead : Type 0
OnlyAnswersRead = (bytes : Bytes) (answer : Answer) → answer_in bytes ≡ some answer → bytes ≡ answer_frame answer
