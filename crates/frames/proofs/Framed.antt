-- An answer's frame is 4 to 52 bytes long, an even number of them, and its length field is right.
use Prim.Native.Nat.{ℕ, ◌+◌, ◌/◌, ◌%◌, ◌≤◌, min}
use Rattle.words.specs.Words.{most_named}
use mathlib.Core.Path.{◌≡◌, refl, ap}
use mathlib.Core.List.{List, [], ◌∷◌, ◌++◌}
use mathlib.Core.Bool.{true}
use native.Mathlib.Omega.{arith}
use borrow.Author.Tests.{lt-ltb}
use lib.ListN.{length, length-take}
use Rattle.tickets.specs.declared.StepAnswer.TheVariants.{Claimed, Waiting, Found, Put, Returned, Granted, Stale, Seen}
use Rattle.std.specs.Prelude.{None, Some}
use Rattle.frames.specs.declared.Answer.{Answer}
use Rattle.frames.specs.declared.Answer.TheVariants.{Standing, Step, Look, Refused}
use Rattle.frames.specs.Numbers.{Bytes, are_bytes, bytes16, bytes32, bytes64, fields64}
use Rattle.frames.specs.Answers.{frame_of, answer_kind, values_shown, answer_fields, answer_frame, longest_answer, written, FrameSound, AnswerFramesSound}
use Rattle.frames.proofs.Bytes.{length_fields64}

-- A number's bytes are bytes, in front of others too.
with16 : (x : ℕ) (bytes : Bytes) → are_bytes bytes ≡ true → are_bytes (bytes16 x ++ bytes) ≡ true
unfolding are_bytes
with16 x bytes h = simp (lt-ltb (x % 256) 256 (omega arith), lt-ltb (x / 256 % 256) 256 (omega arith), h)

with32 : (x : ℕ) (bytes : Bytes) → are_bytes bytes ≡ true → are_bytes (bytes32 x ++ bytes) ≡ true
with32 x bytes h = with16 x (bytes16 (x / 65536) ++ bytes) (with16 (x / 65536) bytes h)

with64 : (x : ℕ) (bytes : Bytes) → are_bytes bytes ≡ true → are_bytes (bytes64 x ++ bytes) ≡ true
with64 x bytes h = with32 x (bytes32 (x / 4294967296) ++ bytes) (with32 (x / 4294967296) bytes h)

no_bytes : are_bytes [] ≡ true
unfolding are_bytes
no_bytes = refl

-- So are those of numbers one after another.
bytes_of64 : (numbers : List ℕ) → are_bytes (fields64 numbers) ≡ true
unfolding fields64
bytes_of64 [] = no_bytes
bytes_of64 (number ∷ numbers) = with64 number (fields64 numbers) (bytes_of64 numbers)

-- A frame whose fields are bytes, at most 48 of them.
pub frame_sound : (kind : ℕ) (fields : Bytes) → length fields ≤ 48 → are_bytes fields ≡ true → FrameSound (frame_of kind fields)
frame_sound kind fields few bytes = record {
  least = omega arith;
  most = omega arith;
  bytes = with16 (2 + length fields) (bytes16 kind ++ fields) (with16 kind fields bytes);
  length_right = omega arith;
}

few_fields : (answer : Answer) → length (answer_fields answer) ≤ 48
few_fields (Standing n) = omega arith
few_fields (Step (Claimed many)) = omega arith
few_fields (Step (Waiting word team)) = omega arith
few_fields (Step (Found word)) = omega arith
few_fields (Step (Put many)) = omega arith
few_fields (Step (Returned many)) = omega arith
few_fields (Step (Granted tries)) = omega arith
few_fields (Step (Stale word tries)) = omega arith
few_fields (Step (Seen values)) = omega (arith, length_fields64 (values_shown values), length-take (min values.n most_named) values.values)
few_fields (Look (Some value)) = omega arith
few_fields (Look None) = omega arith
few_fields (Refused number) = omega arith

fields_bytes : (answer : Answer) → are_bytes (answer_fields answer) ≡ true
fields_bytes (Standing n) = with16 n [] no_bytes
fields_bytes (Step (Claimed many)) = with16 many [] no_bytes
fields_bytes (Step (Waiting word team)) = with16 word (bytes16 team) (with16 team [] no_bytes)
fields_bytes (Step (Found word)) = with16 word [] no_bytes
fields_bytes (Step (Put many)) = with16 many [] no_bytes
fields_bytes (Step (Returned many)) = with16 many [] no_bytes
fields_bytes (Step (Granted tries)) = with32 tries [] no_bytes
fields_bytes (Step (Stale word tries)) = with16 word (bytes32 tries) (with32 tries [] no_bytes)
fields_bytes (Step (Seen values)) = bytes_of64 (values_shown values)
fields_bytes (Look (Some value)) = with64 value [] no_bytes
fields_bytes (Look None) = no_bytes
fields_bytes (Refused number) = with16 number [] no_bytes

pub answer_frames_sound : AnswerFramesSound
unfolding answer_frame
answer_frames_sound answer = frame_sound (answer_kind answer) (answer_fields answer) (few_fields answer) (fields_bytes answer)

-- It has an even number of bytes.
even_fields : (answer : Answer) → length (answer_fields answer) % 2 ≡ 0
even_fields (Standing n) = refl
even_fields (Step (Claimed many)) = refl
even_fields (Step (Waiting word team)) = refl
even_fields (Step (Found word)) = refl
even_fields (Step (Put many)) = refl
even_fields (Step (Returned many)) = refl
even_fields (Step (Granted tries)) = refl
even_fields (Step (Stale word tries)) = refl
even_fields (Step (Seen values)) = omega (arith, length_fields64 (values_shown values))
even_fields (Look (Some value)) = refl
even_fields (Look None) = refl
even_fields (Refused number) = refl

pub answer_frames_even : (answer : Answer) → length (answer_frame answer) % 2 ≡ 0
unfolding answer_frame
answer_frames_even answer = omega (arith, even_fields answer)

-- What is written of an answer is no longer than the longest.
pub fitted : (count : ℕ) (last out : Bytes) (answer : Answer) → (count, last) ≡ written out (answer_frame answer) → ((count, last) ≡ written out (answer_frame answer)) × (count ≤ longest_answer)
fitted count last out answer e =
    let many : count ≡ length (answer_frame answer) = ap (λ (w : ℕ × Bytes). w.0) e in
    (e, omega (arith, (answer_frames_sound answer).most))
