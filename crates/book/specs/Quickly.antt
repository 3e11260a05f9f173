-- Which tickets of a table go the fast way, as the stream keeps it beside the table.
use Rattle.std.specs.Prelude.{ℕ, ◌<◌, ◌≡◌, Bool, false, cond, List, eqb, length, get_or, Result, Ok, Err}
use Rattle.words.specs.Words.{team_count}
use Rattle.tickets.specs.declared.Ticket as Slot
use Rattle.tickets.specs.declared.Slot as Kept
use Rattle.tickets.specs.Table.{absent_slot}
use Rattle.frames.specs.Requests.{step_kind}
use Rattle.calls.specs.Way.{Aim}
use Rattle.quick.specs.Quick.{quick_swaps}

-- How many targets a ticket may have done and still go the fast way: none in a table that is not known to be well made.
abbrev pub quick_for : Bool → Slot.Ticket → ℕ
quick_for known slot = cond known (quick_swaps slot) 0

-- The same for each slot.
pub record QuickSlots (known : Bool) (slots : List Kept.Slot) (quick : List ℕ) : Type 0 where
  pub slots_room : length slots ≡ team_count
  pub room : length quick ≡ team_count
  pub each : (team : ℕ) → team < team_count → get_or quick team 0 ≡ quick_for known (get_or slots team absent_slot).ticket

-- Whether a frame is a team's step, by its aim.
abbrev pub is_step_by : Result Aim ℕ → Bool
is_step_by (Err number) = false
is_step_by (Ok Aim.Look) = false
is_step_by (Ok (Aim.Team kind team)) = eqb kind step_kind
