-- `book::all_quick` meets its contract: the map asks the same of one slot after another, since no call changes the closure.
use native.Mathlib.Omega.{arith}
use borrow.Author.Rules.{rules}
use Rattle.tickets.specs.Table.{absent_slot}
use Rattle.book.specs.Quickly.{quick_for}
use Rattle.making.proofs.Mapping.{mapped}
use Rattle.book.proofs.all_quick.Goals as goal

pub returns : goal.returns
returns c = record {
  slots_room = c.well_formed.0.1.0.1;
  room = c.map.ensures.items.long;
  each = λ team inside. mapped _ (λ slot. quick_for c.args.known slot.ticket) _ (λ x y q called. search rules) c.args.slots c.map.result 0 16 c.map.ensures.items.each team (omega arith) (omega (arith, inside)) absent_slot 0;
}
