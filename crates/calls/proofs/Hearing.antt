-- What is heard of a call, read from the number returned and the bytes written, is the answer of its definition.
use Prim.Native.Nat.{ℕ, ◌≤◌}
use mathlib.Core.Path.{◌≡◌, refl, ap, ◌∙◌}
use mathlib.Core.Bool.{true}
use mathlib.Core.Option.{Option, none, some}
use mathlib.Core.Logic.{◌≢◌, inl, inr}
use native.Mathlib.Omega.{arith}
use lib.ListN.{length, take, drop}
use lib.Seq.{take-append_seam, drop-append_seam}
use Rattle.words.specs.Words.{Words}
use Rattle.legs.specs.Positions.{Ranks}
use Rattle.tickets.specs.Tickets.{Tickets}
use Rattle.frames.specs.Request.{Request, Open, Step, Look, View}
use Rattle.frames.specs.Requests.{request_in}
use Rattle.frames.specs.declared.Answer.{Answer}
use Rattle.frames.specs.Numbers.{Bytes}
use Rattle.frames.specs.Answers.{answer_frame, longest_answer, written}
use Rattle.frames.specs.Reading.{answer_in, answer_fits}
use Rattle.frames.proofs.Framed.{answer_frames_sound, answer_frames_even}
use Rattle.frames.proofs.ReadsBack.{answers_read_back}
use Rattle.calls.specs.Call.{refusal_of, is_returned, request_done, refused_or, Sent, number, bytes, sent_of, written_by, done_of, call_of}
use Rattle.calls.specs.Run.{Call, framed, Heard, answer_heard}
use Rattle.calls.specs.Demand1.{AnswersHeard}
use Rattle.calls.proofs.Refusing.{not_returned, Sorted, AllSorted, refusal_sorted}
use Rattle.calls.proofs.Fitting.{answer_fits_lem}

-- An answer's frame, written to an output: it is read back, and later bytes stay.
pub record InFrame (out : Bytes) (answer : Answer) (result : ℕ × Bytes) : Type 0 where
  pub bytes_read : answer_in (take result.0 result.1) ≡ some answer
  pub at_least : 4 ≤ result.0
  pub at_most : result.0 ≤ longest_answer
  pub later_bytes : drop result.0 result.1 ≡ drop result.0 out

pub in_frame : (out : Bytes) (answer : Answer) → answer_fits answer ≡ true → InFrame out answer (written out (answer_frame answer))
in_frame out answer fits =
    let frame = answer_frame answer in
    record {
      bytes_read = ap answer_in (take-append_seam frame (drop (length frame) out)) ∙ answers_read_back answer fits;
      at_least = (answer_frames_sound answer).least;
      at_most = (answer_frames_sound answer).most;
      later_bytes = drop-append_seam frame (drop (length frame) out);
    }

-- No answer has 13 bytes: a frame has an even number of them.
not_thirteen : (answer : Answer) → length (answer_frame answer) ≢ 13
not_thirteen answer odd = omega (arith, answer_frames_even answer)

-- What a bystander hears where so much went out.
abbrev heard_by : Call → ℕ × Bytes → Heard
heard_by call result = record { call = call; returned = result.0; output = result.1 }

frame_heard : (call : Call) (out : Bytes) (answer : Answer) → answer_fits answer ≡ true → answer_heard (heard_by call (written out (answer_frame answer))) ≡ some answer
unfolding answer_heard
frame_heard call out answer fits =
    let sound = in_frame out answer fits in
    rw (not_returned (length (answer_frame answer)) (omega (arith, sound.at_least)) (not_thirteen answer)) sound.bytes_read

number_heard : (call : Call) (out : Bytes) (refusal : ℕ) → is_returned refusal ≡ true → answer_heard (heard_by call (refusal, out)) ≡ some (Answer.Refused refusal)
unfolding answer_heard
number_heard call out refusal alone = rw alone refl

-- 1, 13 and 2 go out as a number alone, 3 to 11 in a frame.
pub sent_alone : (refusal : ℕ) → is_returned refusal ≡ true → sent_of (Answer.Refused refusal) ≡ number refusal
unfolding sent_of
sent_alone refusal alone = rw alone

pub sent_refused : (refusal : ℕ) → 3 ≤ refusal → refusal ≤ 11 → sent_of (Answer.Refused refusal) ≡ bytes (answer_frame (Answer.Refused refusal))
unfolding sent_of
sent_refused refusal least most = rw (not_returned refusal least (λ e. omega arith))

-- A refusal's number is one of these.
abbrev Numbered : Answer → Type 0
Numbered (Answer.Standing n) = Unit {0}
Numbered (Answer.Step answer) = Unit {0}
Numbered (Answer.Look answer) = Unit {0}
Numbered (Answer.Refused refusal) = Sorted refusal

request_numbered : (words : Words) (tickets : Tickets) (ranks : Ranks) (request : Request) → Numbered (request_done words tickets ranks request).answer
unfolding request_done
request_numbered words tickets ranks (Open team edit) = tt
request_numbered words tickets ranks (Step team) = tt
request_numbered words tickets ranks (Look word) = tt
request_numbered words tickets ranks (View team n named) = tt

numbered : (words : Words) (tickets : Tickets) (ranks : Ranks) (frame out : Bytes) → Numbered (done_of words tickets ranks frame out).answer
unfolding done_of
numbered words tickets ranks frame out = by (refusal_of words tickets ranks frame out) (refusal_sorted words tickets ranks frame out)
  where
    by : (refusal : Option ℕ) → AllSorted refusal → Numbered (refused_or refusal words tickets ranks (request_in frame)).answer
    by none is = request_numbered words tickets ranks (request_in frame)
    by (some refusal) is = is

sent_heard : (call : Call) (out : Bytes) (answer : Answer) → Numbered answer → answer_fits answer ≡ true → answer_heard (heard_by call (written_by out (sent_of answer))) ≡ some answer
unfolding sent_of
sent_heard call out (Answer.Standing n) sorted fits = frame_heard call out (Answer.Standing n) fits
sent_heard call out (Answer.Step answer) sorted fits = frame_heard call out (Answer.Step answer) fits
sent_heard call out (Answer.Look answer) sorted fits = frame_heard call out (Answer.Look answer) fits
sent_heard call out (Answer.Refused refusal) sorted fits =
    let hear : Sent → Option Answer = λ (sent : Sent). answer_heard (heard_by call (written_by out sent)) in
    elim sorted [
      | inl alone ↦ ap hear (sent_alone refusal alone) ∙ number_heard call out refusal alone
      | inr (least, most) ↦ ap hear (sent_refused refusal least most) ∙ frame_heard call out (Answer.Refused refusal) fits
    ]

pub answers_heard : AnswersHeard
unfolding call_of
answers_heard shared frame out table =
    sent_heard (framed frame out) out (done_of shared.book shared.tickets shared.ranks frame out).answer (numbered shared.book shared.tickets shared.ranks frame out)
    (answer_fits_lem shared.book shared.tickets shared.ranks table frame out)
