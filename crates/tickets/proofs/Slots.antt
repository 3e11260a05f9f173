-- Another ticket in one team's slot: what it does to the slots, and that the table of tickets does the same.
use Prim.Native.Nat.{ℕ, ◌<◌}
use mathlib.Core.Path.{◌≡◌, refl, fun_ext}
use mathlib.Core.Logic.{◌≢◌}
use native.Mathlib.Decide.{ℕ_discrete}
use lib.ListN.{length}
use lib.Seq.{get_or-set_same, get_or-set_other}
use borrow.Author.Tests.{eq-eqb, ne_eqb}
use Rattle.tickets.specs.Tickets.{Ticket}
use Rattle.tickets.specs.Tickets.{Tickets}
use Rattle.tickets.specs.Tickets.{no_ticket, ticket_of, with_ticket}
use Rattle.tickets.specs.Invariant.{with_slot}

pub slot_same : (tickets : ℕ → Ticket) (team : ℕ) (ticket : Ticket) → with_slot tickets team ticket team ≡ ticket
slot_same tickets team ticket = rw (eq-eqb team team refl)

pub slot_other : (tickets : ℕ → Ticket) (team other : ℕ) (ticket : Ticket) → other ≢ team → with_slot tickets team ticket other ≡ tickets other
slot_other tickets team other ticket differs = rw (ne_eqb other team differs)

-- What holds of the ticket put in and of every slot before holds of every slot after.
pub every_slot : (P : Ticket → Type 0) (tickets : ℕ → Ticket) (team : ℕ) (ticket : Ticket) → P ticket → ((other : ℕ) → P (tickets other)) → (other : ℕ) → P (with_slot tickets team ticket other)
every_slot P tickets team ticket mine before other = elim (ℕ_discrete other team) [
  | yes same ↦ rw (eq-eqb other team same) mine
  | no differs ↦ rw (ne_eqb other team differs) (before other)
]

-- The table with another ticket for one team of it, as a function from teams to slots.
pub table_slots : (table : Tickets) (team : ℕ) (ticket : Ticket) → team < length table.slots → ticket_of (with_ticket table team ticket) ≡ with_slot (ticket_of table) team ticket
table_slots table team ticket inside = fun_ext (λ other. each other (ℕ_discrete other team))
  where
    each : (other : ℕ) → Dec (other ≡ team) → ticket_of (with_ticket table team ticket) other ≡ with_slot (ticket_of table) team ticket other
    each other (yes same) = rw (eq-eqb other team same, same) (get_or-set_same table.slots team ticket no_ticket inside)
    each other (no differs) = rw (ne_eqb other team differs) (get_or-set_other table.slots team other ticket no_ticket differs)
