-- A claim of an edit that found something else than quoted.
use Rattle.std.specs.Prelude.{ℕ, ◌≡◌, true, cond, List, eqb}
use Rattle.words.specs.Words.{Words, is_held}
use Rattle.tickets.specs.declared.Kind.TheVariants.{Stale}
use Rattle.tickets.specs.declared.Phase.TheVariants.{Claiming}
use Rattle.tickets.specs.declared.Target.{Target}
use Rattle.tickets.specs.declared.Ticket as Slot
use Rattle.tickets.specs.declared.StepAnswer.{StepAnswer}
use Rattle.tickets.specs.declared.StepAnswer.TheVariants as Answer
use Rattle.tickets.specs.Tickets.{Ticket, well_made}
use Rattle.tickets.specs.Steps.{Stepped, one_more_try, waited, differed}
use Rattle.tickets.specs.Table.{no_slot, phase_of, tried_slot, gathered}
use Rattle.frames.specs.Numbers.{Bytes}
use Rattle.replies.specs.Leaving.{LeftBy}

-- What it comes to: it waits, or is found stale.
abbrev pub missed_by : Ticket → ℕ → Stepped
missed_by ticket found = cond (is_held found) (waited ticket found) (differed ticket)

-- A claim found stale, by its slot: the ticket is gone where nothing is claimed, and else gives back; and its answer.
abbrev pub differed_slot : Slot.Ticket → Slot.Ticket
differed_slot slot = cond (eqb slot.claimed 0) no_slot (tried_slot slot Stale slot.claimed 0)

abbrev pub differed_answer : Slot.Ticket → ℕ → StepAnswer
differed_answer slot word = cond (eqb slot.claimed 0) (Answer.Stale word (one_more_try slot.tries)) (Answer.Found word)

-- What is known where a claim misses: the ticket claims, and is well made.
pub record MissesIn (targets : List Target) (slot : Slot.Ticket) : Type 0 where
  pub claiming : phase_of slot ≡ Claiming
  pub made : well_made (gathered targets slot) ≡ true

-- What it leaves, whatever the words are, which stay.
abbrev pub MissLeft : List Target → Slot.Ticket → ℕ → Slot.Ticket → Bytes → ℕ → Bytes → Type 0
MissLeft targets slot found left out count output =
    (words : Words) → LeftBy (missed_by (gathered targets slot) found, words) targets left words out count output
