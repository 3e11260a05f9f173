use Prim.Native.Nat.{◌≤◌}
use lib.ListN.{length}
use Rattle.carried.proofs.read_tickets.Given as goal

abbrev pub invariant-loop : goal.invariant-loop
invariant-loop l = length l.left.now ≤ length l.initial.left.now
