-- Request 9: "The edit then behaves as one in hundredths, and is placed like it in the order of whole edits."
use Rattle.std.specs.Prelude.{ℕ, ◌≡◌, List, map, true, Ok}
use Rattle.std.proofs.Math.Option.{Option}
use Rattle.words.specs.Tests.{all_hold}
use Rattle.words.specs.Words.{Words}
use Rattle.legs.specs.Positions.{Ranks}
use Rattle.legs.specs.Minutes.{angles_in_range}
use Rattle.tickets.specs.Tickets.{Tickets}
use Rattle.edits.specs.declared.Edit.{Edit}
use Rattle.frames.specs.declared.Answer.{Answer}
use Rattle.frames.specs.Request.{Open}
use Rattle.frames.specs.Numbers.{Bytes, are_bytes}
use Rattle.frames.specs.Requests.{part_after_kind, request_in, angles_of_kind}
use Rattle.frames.specs.Fields.{header_of}
use Rattle.frames.specs.Writing.{request_frame}
use Rattle.frames.specs.Minutes.{MinutesEdit, rounded_edit, minutes_of_edit, minutes_frame, minutes_edit_fits}
use Rattle.calls.specs.Call.{call_of}
use Rattle.calls.specs.Run.{Call, framed, Heard, run}
use Rattle.calls.specs.Order.{Notes, hear_answer, notes_on}

-- Two frames can't be told apart by a call: it does the same with both, over every book, table, ranks and output, and every answer to the one is heard as it is heard to the other.
pub record BehaveAlike (frame other : Bytes) : Type 0 where
  pub called : (words : Words) (tickets : Tickets) (ranks : Ranks) (out : Bytes) → call_of words tickets ranks frame out ≡ call_of words tickets ranks other out
  pub heard : (notes : Notes) (answer : Option Answer) → hear_answer notes frame answer ≡ hear_answer notes other answer

-- Statement: a whole frame that asks for an edit, with angles in range as they are sent, behaves as the frame in hundredths that asks for the same edit.
abbrev pub MinutesBehave : Type 0
MinutesBehave =
    (frame : Bytes) (kind team : ℕ) (edit : Edit)
    → are_bytes frame ≡ true
    → header_of frame ≡ Ok kind
    → angles_of_kind kind (part_after_kind frame) ≡ true
    → request_in frame ≡ Open team edit
    → BehaveAlike frame (request_frame (Open team edit))

-- Statement: so does the frame of every edit in minutes whose fields have room and whose angles are in range: it behaves as the frame of the edit that it is rounded to.
abbrev pub MinutesFramesBehave : Type 0
MinutesFramesBehave =
    (team : ℕ) (edit : MinutesEdit)
    → minutes_edit_fits team edit ≡ true
    → all_hold (map angles_in_range (minutes_of_edit edit)) ≡ true
    → BehaveAlike (minutes_frame team edit) (request_frame (Open team (rounded_edit edit)))

-- Two calls that are alike: of frames that behave alike, with the same output; or one call twice.
pub data Twins : Type 0 where
  alike_frames : (frame other out : Bytes) → BehaveAlike frame other → Twins
  same_call : Call → Twins

abbrev pub one_of : Twins → Call
one_of (alike_frames frame other out alike) = framed frame out
one_of (same_call call) = call

abbrev pub other_of : Twins → Call
other_of (alike_frames frame other out alike) = framed other out
other_of (same_call call) = call

-- The answer to a call: the number that it returned, and its output.
abbrev pub answer_to : Heard → ℕ × Bytes
answer_to one = (one.returned, one.output)

-- Statement: "placed like it in the order of whole edits": two lists that are alike call by call get the same answers, leave the same, and are noted alike, so that they have one order.
abbrev pub AlikeInOrder : Type 0
AlikeInOrder =
    (store : Words) (twins : List Twins)
    → let one = run store (map one_of twins) in
    let other = run store (map other_of twins) in
    (map answer_to one.heard ≡ map answer_to other.heard)
    × (one.end ≡ other.end)
    × (notes_on one.heard ≡ notes_on other.heard)
