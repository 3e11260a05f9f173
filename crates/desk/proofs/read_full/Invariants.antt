use Prim.Native.Nat.{◌-◌, ◌≤◌}
use lib.ListN.{length}
use Rattle.desk.proofs.read_full.Given as goal

abbrev pub invariant-loop-count : goal.invariant-loop-count
invariant-loop-count l = l.done ≤ length l.buffer

abbrev pub decreases-loop-count : goal.decreases-loop-count
decreases-loop-count l = length l.buffer - l.done
