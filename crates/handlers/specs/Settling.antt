-- What a frame leaves: the ticket that its slot then says, the words, and its answer at the front of an output.
use Rattle.std.specs.Prelude.{ℕ, ◌≡◌, false, cond, List, eqb, unwrap_or, Result, Ok, Err}
use Rattle.words.specs.Words.{Words}
use Rattle.legs.specs.Positions.{Ranks}
use Rattle.tickets.specs.declared.Target.{Target}
use Rattle.tickets.specs.declared.Ticket as Slot
use Rattle.tickets.specs.Tickets.{Ticket, has_ticket, well_made}
use Rattle.tickets.specs.Steps.{step_of}
use Rattle.tickets.specs.Table.{gathered}
use Rattle.frames.specs.declared.Answer.{Answer}
use Rattle.frames.specs.declared.Refusal.{Refusal}
use Rattle.frames.specs.Refusals.{refusal_number}
use Rattle.frames.specs.Numbers.{Bytes}
use Rattle.frames.specs.Requests.{step_kind}
use Rattle.frames.specs.Answers.{answer_frame, written}
use Rattle.calls.specs.Way.{Aim}
use Rattle.calls.specs.Way.{Settled, settled_with, step_settled, new_settled}
use Rattle.claiming.specs.Missing.{MissLeft}
use Rattle.quick.specs.declared.Tried.{Tried}
use Rattle.quick.specs.declared.Tried.TheVariants.{Missed}
use Rattle.handlers.specs.declared.Opened.{Opened}

-- A step of a team, by its ticket: refusal 9 or 7, else the step.
abbrev pub step_by : Words → Ticket → ℕ → Settled × Words
step_by words ticket team =
    cond (has_ticket ticket.phase)
    (cond (well_made ticket) (step_settled (step_of words ticket team)) (settled_with ticket (Answer.Refused 7), words))
    (settled_with ticket (Answer.Refused 9), words)

-- Another frame of a team, by its ticket: refusal 7 or 8, else a ticket opened or refusal 10 or 11.
abbrev pub open_by : Ticket → Ranks → Bytes → ℕ → Settled
open_by ticket ranks part kind =
    cond (has_ticket ticket.phase)
    (cond (well_made ticket) (settled_with ticket (Answer.Refused 8)) (settled_with ticket (Answer.Refused 7)))
    (new_settled ticket ranks part kind)

-- A frame that is no team's step.
abbrev pub NoStep : Result Aim ℕ → Type 0
NoStep (Err number) = Unit {0}
NoStep (Ok Aim.Look) = Unit {0}
NoStep (Ok (Aim.Team kind team)) = eqb kind step_kind ≡ false

-- What a frame leaves.
pub record SettledAs (result : Settled × Words) (targets : List Target) (slot : Slot.Ticket) (words : Words) (out : Bytes) (count : ℕ) (output : Bytes) : Type 0 where
  pub ticket_left : gathered targets slot ≡ result.0.ticket
  pub words_left : words ≡ result.1
  pub answered : ◌≡◌ {A = ℕ × Bytes} (count, output) (written out (answer_frame result.0.answer))

-- What a step off the fast way leaves: that of a claim which missed there changes no word and no target; any other is made here.
pub record StepLeft (before : Words) (targets_before : List Target) (team : ℕ) (slot : Slot.Ticket) (tried : Tried) (left : Slot.Ticket) (after : Words) (targets : List Target) (out : Bytes) (count : ℕ) (output : Bytes) : Type 0 where
  pub missed : (found : ℕ) → tried ≡ Missed found → (targets ≡ targets_before) × (after ≡ before) × MissLeft targets_before slot found left out count output
  pub made : ((found : ℕ) → tried ≡ Missed found → ⊥) → SettledAs (step_by before (gathered targets_before slot) team) targets left after out count output

-- The slot after a frame that asks for a ticket, and the answer to it: how many targets the ticket has, or the refusal.
abbrev pub slot_asked : Result Slot.Ticket Refusal → Slot.Ticket → Slot.Ticket
slot_asked (Ok ticket) slot = ticket
slot_asked (Err refusal) slot = slot

abbrev pub answer_asked : Result Slot.Ticket Refusal → Answer
answer_asked (Ok ticket) = Answer.Standing ticket.n
answer_asked (Err refusal) = Answer.Refused (refusal_number refusal)

-- What a frame that asks for a ticket comes to.
pub record AskedAs (result : Settled) (targets : List Target) (slot : Slot.Ticket) (asked : Result Slot.Ticket Refusal) : Type 0 where
  pub ticket_left : gathered targets (slot_asked asked slot) ≡ result.ticket
  pub answer : answer_asked asked ≡ result.answer

-- The slot after a frame that may have opened a ticket.
abbrev pub slot_after : Opened → Slot.Ticket → Slot.Ticket
slot_after opened slot = unwrap_or opened.ticket slot

-- It is what was asked for, and the answer is written.
pub record OpenedBy (asked : Result Slot.Ticket Refusal) (opened : Opened) (out output : Bytes) : Type 0 where
  pub opens : (slot : Slot.Ticket) → slot_after opened slot ≡ slot_asked asked slot
  pub answered : ◌≡◌ {A = ℕ × Bytes} (opened.written, output) (written out (answer_frame (answer_asked asked)))

-- What a frame that is no step leaves: it changes no word.
pub record OpenedAs (result : Settled) (after : List Target) (slot : Slot.Ticket) (opened : Opened) (out output : Bytes) : Type 0 where
  pub ticket_left : gathered after (slot_after opened slot) ≡ result.ticket
  pub answered : ◌≡◌ {A = ℕ × Bytes} (opened.written, output) (written out (answer_frame result.answer))
