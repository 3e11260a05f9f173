-- The table with a slot stored anew: another ticket for its team.
use Prim.Native.Nat.{ℕ}
use mathlib.Core.Path.{◌≡◌}
use mathlib.Core.List.{List}
use lib.ListN.{set}
use Rattle.tickets.specs.declared.Target.{Target}
use Rattle.tickets.specs.declared.Ticket as Slot
use Rattle.tickets.specs.declared.Slot as Kept
use Rattle.tickets.specs.declared.Tickets as Table
use Rattle.tickets.specs.Tickets.{with_ticket}
use Rattle.tickets.specs.Table.{gathered, table_with, table_of}
use Rattle.tickets.proofs.Tables.{slot_stored}

-- A slot of a ticket and these targets.
abbrev pub slot_with : Slot.Ticket → List Target → Kept.Slot
slot_with ticket targets = record { ticket = ticket; targets = targets }

pub stored_anew : (table : Table.Tickets) (team : ℕ) (ticket : Slot.Ticket) (targets : List Target)
    → table_of (table_with (set table.slots team (slot_with ticket targets))) ≡ with_ticket (table_of table) team (gathered targets ticket)
stored_anew table team ticket targets = slot_stored table team (slot_with ticket targets)
