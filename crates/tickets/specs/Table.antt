-- The table as the code has it: in each team's slot a small ticket and room for its targets. What it says, as a table of the definitions' tickets, is gathered here.
use Rattle.std.specs.Prelude.{ℕ, zero, suc, ◌+◌, ◌≤◌, ◌<◌, min, ◌≡◌, Bool, false, cond, List, [], ◌∷◌, map, get_or, set, replicate, eqb, ltb}
use Rattle.words.specs.Words.{most_targets}
use Rattle.tickets.specs.declared.Phase.{Phase}
use Rattle.tickets.specs.declared.Phase.TheVariants.{NoTicket, Claiming, Putting, GivingBack, Viewing, Viewed}
use Rattle.tickets.specs.declared.Kind.{Kind}
use Rattle.tickets.specs.declared.Kind.TheVariants.{Edit, Stale, View}
use Rattle.tickets.specs.declared.Ticket as Slot
use Rattle.tickets.specs.declared.Slot as Kept
use Rattle.tickets.specs.declared.Tickets as Table
use Rattle.tickets.specs.declared.Target.{Target}
use Rattle.tickets.specs.Tickets.{Ticket, Tickets, target, padded, no_ticket}
use Rattle.tickets.specs.Steps.{one_more_try}

-- Room for the targets of one team.
abbrev pub target_room : ℕ
target_room = most_targets

-- What stands where no target was stored yet.
abbrev pub no_target : Target
no_target = target 0 0 0

-- Target k of a team, as it stands.
abbrev pub target_standing : List Target → ℕ → Target
target_standing targets k = get_or targets k no_target

-- The targets with a value noted for target k, where an edit has the quoted one.
abbrev pub noted_at : List Target → ℕ → ℕ → List Target
noted_at targets k value = set targets k (target (target_standing targets k).word value (target_standing targets k).new)

-- The three numbers of a target.
abbrev pub word_in : Target → ℕ
word_in target = target.word

abbrev pub quoted_in : Target → ℕ
quoted_in target = target.quoted

abbrev pub new_in : Target → ℕ
new_in target = target.new

-- One number of so many targets, from target k on.
unfoldable pub column : (Target → ℕ) → List Target → ℕ → ℕ → List ℕ
column number targets k zero = []
column number targets k (suc more) = number (target_standing targets k) ∷ column number targets (k + 1) more

-- The slot of a team with no ticket.
abbrev pub no_slot : Slot.Ticket
no_slot = record { tries = 0; n = 0; claimed = 0; done = 0; kind = Edit }

-- A ticket just opened.
abbrev pub opened_slot : Kind → ℕ → Slot.Ticket
opened_slot kind n = record { tries = 0; n = n; claimed = 0; done = 0; kind = kind }

-- A ticket after one more try.
abbrev pub tried_slot : Slot.Ticket → Kind → ℕ → ℕ → Slot.Ticket
tried_slot slot kind claimed done = record { tries = one_more_try slot.tries; n = slot.n; claimed = claimed; done = done; kind = kind }

-- How many of its targets are done with one more given back: all, with the last that was claimed.
abbrev pub done_with_one : Slot.Ticket → ℕ
done_with_one slot = cond (eqb (slot.done + 1) slot.claimed) slot.n (slot.done + 1)

-- Whether a ticket stands in a slot: not all of its targets are done.
abbrev pub stands_in : Slot.Ticket → Bool
stands_in slot = ltb slot.done slot.n

-- Whether it has words left to claim: nothing is done, and not all are claimed.
abbrev pub claims_in : Slot.Ticket → Bool
claims_in slot = cond (eqb slot.done 0) (ltb slot.claimed slot.n) false

-- The phase that follows.
abbrev pub phase_by : Kind → Bool → Phase
phase_by Edit claims = cond claims Claiming Putting
phase_by Stale claims = GivingBack
phase_by View claims = cond claims Viewing Viewed

abbrev pub phase_of : Slot.Ticket → Phase
phase_of slot = cond (stands_in slot) (phase_by slot.kind (claims_in slot)) NoTicket

-- A standing ticket, gathered: its counts from the slot, its targets from the room beside it, zeros behind them.
abbrev pub standing : List Target → Slot.Ticket → Ticket
standing targets slot =
    let many = min slot.n most_targets in
    record {
      words = padded (column word_in targets 0 many);
      quoted = padded (column quoted_in targets 0 many);
      new = padded (column new_in targets 0 many);
      n = slot.n;
      tries = slot.tries;
      claimed = slot.claimed;
      done = slot.done;
      phase = phase_by slot.kind (claims_in slot);
    }

-- So many targets of a team as they stand, as a ticket just opened has them.
abbrev pub targets_of : List Target → ℕ → Ticket
targets_of targets n = standing targets (opened_slot Edit n)

-- The ticket that a slot says; "a finished ticket is gone".
unfoldable pub gathered : List Target → Slot.Ticket → Ticket
gathered targets slot = cond (stands_in slot) (standing targets slot) no_ticket

-- Statement: the targets behind a ticket's are free, and so are all targets of a slot with no ticket: what is gathered is the same whatever they are.
abbrev pub NumbersBehindAreFree : Type 0
NumbersBehindAreFree =
    (before after : List Target) (slot : Slot.Ticket)
    → (slot.done < slot.n → (k : ℕ) → k < slot.n → k < most_targets → target_standing after k ≡ target_standing before k)
    → gathered after slot ≡ gathered before slot

-- Statement: so are the counts of a slot with no ticket.
abbrev pub FinishedSlotsAreFree : Type 0
FinishedSlotsAreFree = (targets : List Target) (slot : Slot.Ticket) → slot.n ≤ slot.done → gathered targets slot ≡ no_ticket

abbrev pub ticket_said : Kept.Slot → Ticket
ticket_said slot = gathered slot.targets slot.ticket

-- A slot to begin with: no ticket, and zeros in its room.
abbrev pub fresh_slot : Kept.Slot
fresh_slot = record { ticket = no_slot; targets = replicate target_room no_target }

-- What is read of a slot that a table doesn't have: no ticket, and no targets.
abbrev pub absent_slot : Kept.Slot
absent_slot = record { ticket = no_slot; targets = [] }

-- The code's table of these slots.
abbrev pub table_with : List Kept.Slot → Table.Tickets
table_with slots = record { slots = slots }

-- The table that the code's table says.
abbrev pub table_of : Table.Tickets → Tickets
table_of table = record { slots = map ticket_said table.slots }

-- A team's slot.
abbrev pub slot_of : Table.Tickets → ℕ → Kept.Slot
slot_of table team = get_or table.slots team absent_slot
