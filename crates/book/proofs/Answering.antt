-- A single frame answered, by the way that it goes: a step, or any other frame.
use Rattle.std.specs.Prelude.{Result, Ok, Err}
use Prim.Native.Nat.{ℕ, ◌≤◌}
use mathlib.Core.Path.{◌≡◌, sym, ap, subst, ◌∙◌}
use mathlib.Core.Bool.{true, false, false≢true}
use mathlib.Core.List.{List}
use borrow.Author.Tests.{eqb-true}
use lib.ListN.{length, get_or, set}
use Rattle.words.specs.Words.{Words, words_in_book}
use Rattle.legs.specs.Positions.{Ranks, Accepted}
use Rattle.tickets.specs.declared.Target.{Target}
use Rattle.tickets.specs.declared.Ticket as Slot
use Rattle.tickets.specs.declared.Tickets as Table
use Rattle.tickets.specs.Tickets.{Ticket, with_ticket}
use Rattle.tickets.specs.Table.{absent_slot, gathered, ticket_said, table_with, table_of}
use Rattle.tickets.proofs.Tables.{slot_gathered}
use Rattle.frames.specs.Numbers.{Bytes}
use Rattle.frames.specs.Requests.{step_kind}
use Rattle.frames.specs.Answers.{longest_answer}
use Rattle.calls.specs.Way.{Aim}
use Rattle.calls.specs.Call.{Reply, call_of}
use Rattle.calls.specs.Way.{Settled, aim_of, slot_of, settled_by}
use Rattle.calls.proofs.Sending.{call_by}
use Rattle.quick.specs.declared.Tried.{Tried}
use Rattle.quick.specs.declared.Tried.TheVariants.{Untried}
use Rattle.quick.proofs.Trying.{none_missed}
use Rattle.handlers.specs.declared.Opened.{Opened}
use Rattle.handlers.specs.Settling.{step_by, NoStep, SettledAs, StepLeft, slot_after, OpenedAs}
use Rattle.handlers.proofs.Cases.{step_by_lem, no_word}
use Rattle.book.specs.Quickly.{is_step_by}
use Rattle.book.proofs.Stored.{slot_with, stored_anew}

-- What is no step by its aim is none.
pub no_step_by : (aim : Result Aim ℕ) → is_step_by aim ≡ false → NoStep aim
no_step_by (Err number) other = tt
no_step_by (Ok Aim.Look) other = tt
no_step_by (Ok (Aim.Team kind team)) other = other

step_settles : (words : Words) (ticket : Ticket) (ranks : Ranks) (frame : Bytes) (aim : Result Aim ℕ) → is_step_by aim ≡ true → step_by words ticket (slot_of aim) ≡ settled_by words ticket ranks frame aim
step_settles words ticket ranks frame (Err number) step = absurd (false≢true step)
step_settles words ticket ranks frame (Ok Aim.Look) step = absurd (false≢true step)
step_settles words ticket ranks frame (Ok (Aim.Team kind team)) step =
    sym (step_by_lem words ticket ranks frame team) ∙ ap (λ (k : ℕ). settled_by words ticket ranks frame (Ok (Aim.Team k team))) (sym (eqb-true kind step_kind step))

module _ (words : Words) (targets : List Target) (ranks : Ranks) (frame : Bytes) (aim : Result Aim ℕ) (slot : ℕ) (slotted : slot ≡ slot_of aim) (ticket : Slot.Ticket) where
  -- A step, none of which is tried on the fast way.
  pub step_answered : (tried : Tried) (left : Slot.Ticket) (after : Words) (targets_after : List Target) (out : Bytes) (count : ℕ) (output : Bytes) → is_step_by aim ≡ true
      → tried ≡ Untried
      → StepLeft words targets slot ticket tried left after targets_after out count output
      → SettledAs (settled_by words (gathered targets ticket) ranks frame aim) targets_after left after out count output
  step_answered tried left after targets_after out count output step none by =
      subst (λ (r : Settled × Words). SettledAs r targets_after left after out count output)
      (ap (step_by words (gathered targets ticket)) slotted ∙ step_settles words (gathered targets ticket) ranks frame aim step)
      (by.made (λ found missed. none_missed found (sym none ∙ missed)))

  -- Any other frame.
  pub frame_answered : (opened : Opened) (left : Slot.Ticket) (targets_after : List Target) (out output : Bytes) → NoStep aim → slot_after opened ticket ≡ left
      → OpenedAs (settled_by words (gathered targets ticket) ranks frame aim).0 targets_after ticket opened out output
      → SettledAs (settled_by words (gathered targets ticket) ranks frame aim) targets_after left words out opened.written output
  frame_answered opened left targets_after out output other is by =
      record {
        ticket_left = ap (gathered targets_after) (sym is) ∙ by.ticket_left;
        words_left = sym (no_word words (gathered targets ticket) ranks frame aim other);
        answered = by.answered;
      }

-- The call, from what the code has: where the frame is aimed, its slot, what it left there, and what was written.
pub answered_call : (words : Words) (table : Table.Tickets) (ranks : Ranks) (frame out : Bytes) (aim : Result Aim ℕ) (slot : ℕ) (left : Slot.Ticket) (targets : List Target) (after : Words) (count : ℕ) (output : Bytes)
    → aim ≡ aim_of frame
    → slot ≡ slot_of aim
    → SettledAs (settled_by words (ticket_said (get_or table.slots slot absent_slot)) ranks frame aim) targets left after out count output
    → length words ≡ words_in_book
    → Accepted ranks
    → longest_answer ≤ length out
    → ◌≡◌ {A = Reply × Words × Bytes} (record { written = count; tickets = table_of (table_with (set table.slots slot (slot_with left targets))) }, after, output) (call_of words (table_of table) ranks frame out)
answered_call words table ranks frame out aim slot left targets after count output aimed slotted by whole accepted room =
    let ticket = ticket_said (get_or table.slots slot absent_slot) in
    let result = settled_by words ticket ranks frame aim in
    let stored : table_of (table_with (set table.slots slot (slot_with left targets))) ≡ with_ticket (table_of table) slot result.0.ticket = stored_anew table slot left targets ∙ ap (with_ticket (table_of table) slot) by.ticket_left in
    (λ i. (record { written = count; tickets = stored i }, after, output))
    ∙ call_by words (table_of table) ranks frame out aim slot result.0 after count output aimed slotted
    ((λ i. (result.0, by.words_left i)) ∙ ap (λ (t : Ticket). settled_by words t ranks frame aim) (sym (slot_gathered table slot)))
    by.answered whole accepted room
