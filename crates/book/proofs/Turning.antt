-- One turn of the stream, from what the code has there: what the frame leaves in its slot, the words, and its answer.
use Rattle.std.specs.Prelude.{Result, Err}
use native.Mathlib.Omega.{arith}
use Prim.Native.Nat.{ℕ, zero, suc, ◌+◌, ◌-◌, ◌<◌, ◌≤◌}
use mathlib.Core.Path.{◌≡◌, refl, sym, ap, subst, ◌∙◌}
use mathlib.Core.Bool.{Bool, true}
use mathlib.Core.List.{List}
use borrow.Author.Tests.{lt-ltb}
use lib.ListN.{length, set, take, drop}
use Rattle.words.specs.Words.{Words, words_in_book}
use Rattle.legs.specs.Positions.{Ranks, Accepted}
use Rattle.tickets.specs.declared.Target.{Target}
use Rattle.tickets.specs.declared.Ticket as Slot
use Rattle.tickets.specs.declared.Tickets as Table
use Rattle.tickets.specs.Tickets.{Ticket, ticket_of, with_ticket, SlotWellMade, TableWellMade}
use Rattle.tickets.specs.Table.{gathered, ticket_said, table_with, table_of, slot_of}
use Rattle.tickets.proofs.Tables.{slot_gathered}
use Rattle.tickets.proofs.MadeTables.{with_well_made}
use Rattle.frames.specs.Numbers.{Bytes, are_bytes}
use Rattle.frames.proofs.Bytes.{bytes_after}
use Rattle.frames.specs.Answers.{answer_frame, PutAt}
use Rattle.calls.specs.Way.{Aim}
use Rattle.calls.specs.declared.Stop.TheVariants.{MoreInput}
use Rattle.calls.specs.Way as way
use Rattle.calls.specs.Way.{Settled, AimKnown, aim_of, settled_by}
use Rattle.calls.specs.Stream.{Streamed, next_at, streamed, stream_from}
use Rattle.calls.proofs.WellMadeTables.{bytes_before, settled_well_made}
use Rattle.calls.proofs.Streaming as streaming
use Rattle.dispatch.specs.Ahead.{frame_at, FrameAhead}
use Rattle.dispatch.proofs.Aiming.{slot_below}
use Rattle.book.proofs.Stored.{slot_with, stored_anew}

-- What the definition makes of what is left, for as many frames as may come: at most one for each byte.
pub record Left (ranks : Ranks) (input : Bytes) (all : Streamed × Words × Bytes) (words : Words) (out : Bytes) (table : Table.Tickets) (at filled : ℕ) : Type 0 where
  pub most : ℕ
  pub enough : length input - at ≤ most
  pub is : stream_from most words (table_of table) ranks input out at filled ≡ all

-- The loop's invariant: what the definition makes of what is left is what it makes of the whole; and where all tickets are known to be well made they stay so.
pub record Goes (ranks : Ranks) (input : Bytes) (long : ℕ) (all : Streamed × Words × Bytes) (known : Bool) (words : Words) (out : Bytes) (table : Table.Tickets) (at filled : ℕ) : Type 0 where
  pub book : length words ≡ words_in_book
  pub inside : at ≤ length input
  pub fits : filled ≤ length out
  pub same_length : length out ≡ long
  pub left : Left ranks input all words out table at filled
  pub made : known ≡ true → TableWellMade (table_of table)
  pub accepted : Accepted ranks

-- Where no byte is left no frame stands, and it has ended.
pub next_none : (input : Bytes) (at : ℕ) → length input ≤ at → next_at input at ≡ Err MoreInput
unfolding next_at
next_none input at none = rw (lt-ltb (length input - at) 2 (omega arith)) refl

pub ended : (most : ℕ) (words : Words) (table : Table.Tickets) (ranks : Ranks) (input out : Bytes) (at filled : ℕ) → length input ≤ at → stream_from most words (table_of table) ranks input out at filled ≡ (streamed (table_of table) at filled MoreInput, words, out)
unfolding stream_from
ended zero words table ranks input out at filled none = refl
ended (suc most) words table ranks input out at filled none = rw (next_none input at none) refl

-- What the code has where it answers a frame: the invariant, the frame found, room for its answer, and its aim.
pub record Turn : Type 0 where
  pub ranks : Ranks
  pub input : Bytes
  pub long : ℕ
  pub all : Streamed × Words × Bytes
  pub known : Bool
  pub words : Words
  pub out : Bytes
  pub table : Table.Tickets
  pub at : ℕ
  pub filled : ℕ
  pub goes : Goes ranks input long all known words out table at filled
  pub bytes : are_bytes input ≡ true
  pub size : ℕ
  pub ahead : FrameAhead input at (length out - filled) size
  pub aim : Result Aim ℕ
  pub aimed : aim_of (frame_at input at size) ≡ aim
  pub aim_known : AimKnown (frame_at input at size) aim

-- The frame there, its slot, and the ticket in it.
abbrev pub frame_in : Turn → Bytes
frame_in turn = frame_at turn.input turn.at turn.size

abbrev pub team_of : Turn → ℕ
team_of turn = way.slot_of turn.aim

abbrev pub ticket_in : Turn → Ticket
ticket_in turn = ticket_said (slot_of turn.table (team_of turn))

-- What the aimed frame settles.
abbrev pub settled_in : Turn → Settled × Words
settled_in turn = settled_by turn.words (ticket_in turn) turn.ranks (frame_in turn) turn.aim

-- The ticket in its slot is well made, where all are known to be.
pub slot_known_made : (turn : Turn) → turn.known ≡ true → SlotWellMade (ticket_in turn)
slot_known_made turn known =
    subst SlotWellMade (slot_gathered turn.table (team_of turn)) (turn.goes.made known (team_of turn) (slot_below (frame_in turn) turn.aim turn.aim_known))

-- By what the frame leaves, the loop goes on.
module _ (turn : Turn) (slot : Slot.Ticket) (targets : List Target) (after : Words) (place : ℕ) (output : Bytes)
    (left : gathered targets slot ≡ (settled_in turn).0.ticket)
    (worded : after ≡ (settled_in turn).1) (whole : length after ≡ words_in_book)
    (answered : PutAt turn.out turn.filled (answer_frame (settled_in turn).0.answer) place output) where
  abbrev table_after : Table.Tickets
  table_after = table_with (set turn.table.slots (team_of turn) (slot_with slot targets))

  stored : table_of table_after ≡ with_ticket (table_of turn.table) (team_of turn) (settled_in turn).0.ticket
  stored = stored_anew turn.table (team_of turn) slot targets ∙ ap (with_ticket (table_of turn.table) (team_of turn)) left

  frame_is : frame_in turn ≡ take turn.size (drop turn.at turn.input)
  frame_is = ap (λ (k : ℕ). take k (drop turn.at turn.input)) (streaming.add_less turn.at turn.size)

  slotted : ticket_in turn ≡ ticket_of (table_of turn.table) (team_of turn)
  slotted = sym (slot_gathered turn.table (team_of turn))

  settles : settled_in turn ≡ settled_by turn.words (ticket_of (table_of turn.table) (team_of turn)) turn.ranks (take turn.size (drop turn.at turn.input)) turn.aim
  settles i = settled_by turn.words (slotted i) turn.ranks (frame_is i) turn.aim

  pub turned : Goes turn.ranks turn.input turn.long turn.all turn.known after output (table_with (set turn.table.slots (team_of turn) (slot_with slot targets))) (turn.at + turn.size) place
  turned =
      let ((counted, fits), (filled, long)) = answered in
      let before = turn.goes.left in
      let enough = before.enough in
      let ahead = turn.ahead in
      let some : 0 < before.most = omega (arith, enough, ahead.least, ahead.inside) in
      record {
        book = whole;
        inside = ahead.inside;
        fits = omega (arith, fits, long);
        same_length = long ∙ turn.goes.same_length;
        left = record {
          most = before.most - 1;
          enough = omega (arith, enough, ahead.least, ahead.inside);
          is =
              streaming.turn turn.words (table_of turn.table) (table_of table_after) turn.ranks turn.input turn.out turn.at turn.filled before.most turn.size turn.aim (team_of turn) (settled_in turn).0 after (settled_in turn).0.answer place output
              some ahead.found ahead.answerable turn.goes.book turn.goes.accepted
              (sym turn.aimed ∙ ap aim_of frame_is) refl ((λ i. ((settled_in turn).0, worded i)) ∙ settles) stored refl counted filled
              ∙ before.is;
        };
        made = λ known.
            subst TableWellMade (sym stored)
            (with_well_made (table_of turn.table) (team_of turn) (settled_in turn).0.ticket (turn.goes.made known)
            (settled_well_made turn.words (ticket_in turn) turn.ranks (frame_in turn) turn.aim turn.aim_known
            (bytes_before (turn.at + turn.size - turn.at) (drop turn.at turn.input) (bytes_after turn.at turn.input turn.bytes)) (slot_known_made turn known)));
        accepted = turn.goes.accepted;
      }
