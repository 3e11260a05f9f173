-- No answer has more than nine times the bytes of its frame: a frame of fewer than six bytes is refused.
use Prim.Native.Nat.{ℕ, ◌*◌, ◌-◌, ◌≤◌}
use mathlib.Core.Path.{◌≡◌, refl, sym, subst}
use mathlib.Core.Bool.{Bool, true, false, cond}
use mathlib.Core.Logic.{inl, inr}
use mathlib.Core.Option.{Option, none, some}
use native.Mathlib.Omega.{arith}
use borrow.Author.Tests.{leb-true}
use lib.Dec.{eqb, leb}
use lib.ListN.{length, length-drop}
use Rattle.words.specs.Tests.{all_hold}
use Rattle.words.specs.Words.{Words}
use Rattle.legs.specs.Positions.{Ranks}
use Rattle.tickets.specs.Tickets.{Tickets}
use Rattle.frames.specs.Request.{Request, Open, Step, Look, View}
use Rattle.frames.specs.declared.Answer.TheVariants as Answer
use Rattle.frames.specs.Numbers.{Bytes}
use Rattle.frames.specs.Requests.{kind_field, head_bytes, part_after_kind, view_kind, kinds, length_of_kind, is_kind, request_in}
use Rattle.frames.specs.Answers.{answer_frame, longest_answer}
use Rattle.frames.specs.Fields.{ViewFields, Whole}
use Rattle.frames.proofs.Framed.{answer_frames_sound}
use Rattle.frames.proofs.Headers.{each_row, kind_row}
use Rattle.calls.specs.Call.{Sent, sent_of, written_by, refusal_of, request_done, refused_or, done_of, call_of}
use Rattle.calls.specs.Stream.{answer_ratio, AnswersWithinRatio}
use Rattle.calls.proofs.Refusing.{returned_small, Sorted, AllSorted, refusal_sorted, passed, frame_whole}
use Rattle.calls.proofs.Hearing.{sent_alone, sent_refused}

-- No kind has a length below four, so that a frame which 3, 4 and 5 do not refuse has six bytes at least.
kind_least : (kind : ℕ) → is_kind kind ≡ true → eqb kind view_kind ≡ false → 4 ≤ length_of_kind kind
unfolding all_hold
kind_least kind known other = leb-true 4 (length_of_kind kind) (each_row (λ k. leb 4 (length_of_kind k)) kinds kind refl (kind_row kind known other))

whole_least : (frame : Bytes) (kind : ℕ) → Whole frame kind → 6 ≤ length frame
whole_least frame kind sound = by (eqb kind view_kind) refl sound.fields
  where
    by : (view : Bool) → eqb kind view_kind ≡ view → cond view (ViewFields (part_after_kind frame)) (length (part_after_kind frame) ≡ length_of_kind kind - 2) → 6 ≤ length frame
    by true is fields = omega (arith, length-drop head_bytes frame, fields.least, fields.long)
    by false is due = omega (arith, length-drop head_bytes frame, due, kind_least kind sound.known is)

module _ (words : Words) (tickets : Tickets) (ranks : Ranks) (out : Bytes) where
  -- What goes out for a request is the longest answer at most;
  request_most : (request : Request) → (written_by out (sent_of (request_done words tickets ranks request).answer)).0 ≤ longest_answer
  unfolding request_done sent_of
  request_most (Open team edit) = (answer_frames_sound _).most
  request_most (Step team) = (answer_frames_sound _).most
  request_most (Look word) = (answer_frames_sound _).most
  request_most (View team n named) = (answer_frames_sound _).most

  -- for a refusal it is its number alone, or six bytes.
  refused_most : (refusal : ℕ) → Sorted refusal → (written_by out (sent_of (Answer.Refused refusal))).0 ≤ 13
  unfolding answer_frame
  refused_most refusal (inl alone) = subst (λ (sent : Sent). (written_by out sent).0 ≤ 13) (sym (sent_alone refusal alone)) (returned_small refusal alone)
  refused_most refusal (inr (least, most)) = subst (λ (sent : Sent). (written_by out sent).0 ≤ 13) (sym (sent_refused refusal least most)) (omega arith)

  done_most : (frame : Bytes) (refusal : Option ℕ) → 2 ≤ length frame → AllSorted refusal → (refusal ≡ none → 6 ≤ length frame)
      → (written_by out (sent_of (refused_or refusal words tickets ranks (request_in frame)).answer)).0 ≤ answer_ratio * length frame
  done_most frame none two sorted six = omega (arith, request_most (request_in frame), six refl)
  done_most frame (some refusal) two sorted six = omega (arith, refused_most refusal sorted)

pub answers_within_ratio : AnswersWithinRatio
unfolding call_of done_of
answers_within_ratio words tickets ranks frame out two =
    done_most words tickets ranks out frame (refusal_of words tickets ranks frame out) two (refusal_sorted words tickets ranks frame out) (λ none_given.
    let pass = passed words tickets ranks frame out none_given in
    whole_least frame (kind_field frame) (frame_whole frame pass.whole_frame pass.known_kind pass.due_length))
