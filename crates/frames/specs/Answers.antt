-- "Answers": the number and the fields of each, and where they are written.
use Rattle.std.specs.Prelude.{ℕ, ◌+◌, ◌*◌, ◌-◌, ◌≤◌, min, ◌≡◌, List, [], ◌++◌, true, length, take, drop, None, Some}
use Rattle.words.specs.Words.{most_named}
use Rattle.tickets.specs.declared.Values.{Values}
use Rattle.tickets.specs.Steps.{Looked}
use Rattle.tickets.specs.declared.StepAnswer.{StepAnswer}
use Rattle.tickets.specs.declared.StepAnswer.TheVariants.{Claimed, Waiting, Found, Put, Returned, Granted, Stale, Seen}
use Rattle.frames.specs.declared.Answer.{Answer}
use Rattle.frames.specs.declared.Answer.TheVariants.{Standing, Step, Look, Refused}
use Rattle.frames.specs.Numbers.{Bytes, are_bytes, bytes16, bytes32, bytes64, fields64}
use Rattle.frames.specs.Requests.{length_field, head_bytes}

-- "Each starts with a 16-bit length of what follows it, then a 16-bit kind".
abbrev pub frame_of : ℕ → Bytes → Bytes
frame_of kind fields = bytes16 (2 + length fields) ++ bytes16 kind ++ fields

-- The number of each answer to a step, to a look, and of any.
abbrev pub step_answer_kind : StepAnswer → ℕ
step_answer_kind (Claimed many) = 129
step_answer_kind (Waiting word team) = 130
step_answer_kind (Found word) = 131
step_answer_kind (Put many) = 132
step_answer_kind (Returned many) = 133
step_answer_kind (Granted tries) = 134
step_answer_kind (Stale word tries) = 135
step_answer_kind (Seen values) = 139

abbrev pub look_answer_kind : Looked → ℕ
look_answer_kind (Some value) = 136
look_answer_kind None = 137

abbrev pub answer_kind : Answer → ℕ
answer_kind (Standing n) = 128
answer_kind (Step answer) = step_answer_kind answer
answer_kind (Look answer) = look_answer_kind answer
answer_kind (Refused number) = 138

-- The values that a view shows: its first n; there are six at most.
abbrev pub values_shown : Values → List ℕ
values_shown seen = take (min seen.n most_named) seen.values

-- The fields of each: 16 bits, but tries 32 and a value 64.
abbrev pub step_answer_fields : StepAnswer → Bytes
step_answer_fields (Claimed many) = bytes16 many
step_answer_fields (Waiting word team) = bytes16 word ++ bytes16 team
step_answer_fields (Found word) = bytes16 word
step_answer_fields (Put many) = bytes16 many
step_answer_fields (Returned many) = bytes16 many
step_answer_fields (Granted tries) = bytes32 tries
step_answer_fields (Stale word tries) = bytes16 word ++ bytes32 tries
step_answer_fields (Seen values) = fields64 (values_shown values)

abbrev pub look_answer_fields : Looked → Bytes
look_answer_fields (Some value) = bytes64 value
look_answer_fields None = []

abbrev pub answer_fields : Answer → Bytes
answer_fields (Standing n) = bytes16 n
answer_fields (Step answer) = step_answer_fields answer
answer_fields (Look answer) = look_answer_fields answer
answer_fields (Refused number) = bytes16 number

unfoldable pub answer_frame : Answer → Bytes
answer_frame answer = frame_of (answer_kind answer) (answer_fields answer)

-- The longest is a view's, of six values: 52 bytes.
abbrev pub longest_answer : ℕ
longest_answer = head_bytes + 8 * most_named

-- "The call returns the bytes written; later bytes of the output keep their contents."
abbrev pub written : Bytes → Bytes → ℕ × Bytes
written out bytes = (length bytes, bytes ++ drop (length bytes) out)

-- What is left of an output from a place on, and the output with that part written, as the language takes a part of a slice up to its end.
abbrev pub room_in : Bytes → ℕ → Bytes
room_in out at = take (length out - at) (drop at out)

abbrev pub with_room : Bytes → ℕ → Bytes → Bytes
with_room out at room = take at out ++ (room ++ drop (length out - at) (drop at out))

-- An answer put at a place of an output: the place after it, and the output with it.
abbrev pub PutAt : Bytes → ℕ → Bytes → ℕ → Bytes → Type 0
PutAt out at answer place output =
    let sent = written (room_in out at) answer in
    ((place ≡ at + sent.0) × (place ≤ length out)) × ((output ≡ with_room out at sent.1) × (length output ≡ length out))

-- A sound frame of an answer: 4 to 52 bytes long, its length field the count of bytes after it.
pub record FrameSound (frame : Bytes) : Type 0 where
  pub least : head_bytes ≤ length frame
  pub most : length frame ≤ longest_answer
  pub bytes : are_bytes frame ≡ true
  pub length_right : length_field frame + 2 ≡ length frame

-- Statement: every answer's frame is sound.
abbrev pub AnswerFramesSound : Type 0
AnswerFramesSound = (answer : Answer) → FrameSound (answer_frame answer)
