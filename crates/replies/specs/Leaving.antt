-- What is known where a step is made, what its code asks, and what it leaves.
use Rattle.std.specs.Prelude.{ℕ, ◌-◌, ◌≤◌, ◌<◌, ◌≡◌, true, List, length}
use Rattle.words.specs.Words.{Words, team_count}
use Rattle.tickets.specs.declared.Phase.{Phase}
use Rattle.tickets.specs.declared.Target.{Target}
use Rattle.tickets.specs.declared.Ticket as Slot
use Rattle.tickets.specs.declared.StepAnswer.{StepAnswer}
use Rattle.tickets.specs.Tickets.{well_made}
use Rattle.tickets.specs.Steps.{Stepped}
use Rattle.tickets.specs.Table.{phase_of, gathered}
use Rattle.frames.specs.declared.Answer.TheVariants as Answer
use Rattle.frames.specs.Numbers.{Bytes}
use Rattle.frames.specs.Answers.{answer_frame, longest_answer, written}

-- There is room for an answer at a place of an output.
pub record RoomAt (out : Bytes) (at : ℕ) : Type 0 where
  pub inside : at ≤ length out
  pub room : longest_answer ≤ length out - at

-- The answer to a step, written at the front of an output: how many bytes it has, and the output then.
abbrev pub Answered : Bytes → StepAnswer → ℕ → Bytes → Type 0
Answered out answer count output = ◌≡◌ {A = ℕ × Bytes} (count, output) (written out (answer_frame (Answer.Step answer)))

-- What is known where a step is made: of the team, its slot and its ticket.
pub record StepsIn (targets : List Target) (team : ℕ) (slot : Slot.Ticket) : Type 0 where
  pub team_known : team < team_count
  pub made : well_made (gathered targets slot) ≡ true

-- The same, of a ticket in a known phase.
pub record StepsFrom (phase : Phase) (targets : List Target) (team : ℕ) (slot : Slot.Ticket) : Type 0 where
  pub phase_known : phase_of slot ≡ phase
  pub steps_in : StepsIn targets team slot

-- What the code of a step asks: what is known where it is made, and an output that has room for an answer.
pub record StepsWithRoom (targets : List Target) (team : ℕ) (slot : Slot.Ticket) (out : Bytes) : Type 0 where
  pub steps_in : StepsIn targets team slot
  pub room : longest_answer ≤ length out

-- The same, of a ticket in a known phase.
pub record StepsFromWithRoom (phase : Phase) (targets : List Target) (team : ℕ) (slot : Slot.Ticket) (out : Bytes) : Type 0 where
  pub steps_from : StepsFrom phase targets team slot
  pub room : longest_answer ≤ length out

-- What a step leaves: the ticket that its slot says, the words, and its answer.
pub record LeftBy (result : Stepped × Words) (targets : List Target) (slot : Slot.Ticket) (words : Words) (out : Bytes) (count : ℕ) (output : Bytes) : Type 0 where
  pub ticket_left : gathered targets slot ≡ result.0.ticket
  pub words_left : words ≡ result.1
  pub answered : Answered out result.0.answer count output
