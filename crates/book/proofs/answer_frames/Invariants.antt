use Prim.Native.Nat.{◌-◌}
use lib.ListN.{length}
use Rattle.tickets.specs.Table.{table_of}
use Rattle.calls.specs.Stream.{stream_from}
use Rattle.book.specs.Quickly.{QuickSlots}
use Rattle.book.proofs.Turning.{Goes}
use Rattle.book.proofs.answer_frames.Given as goal

abbrev pub invariant-loop-next : goal.invariant-loop-next
invariant-loop-next l =
    Goes l.ranks l.input (length l.initial.out) (stream_from (length l.input) l.initial.book (table_of l.initial.tickets) l.ranks l.input l.initial.out 0 0) l.known l.book l.out l.tickets l.at l.filled × QuickSlots l.known l.tickets.slots l.quick

abbrev pub decreases-loop-next : goal.decreases-loop-next
decreases-loop-next l = length l.input - l.at
