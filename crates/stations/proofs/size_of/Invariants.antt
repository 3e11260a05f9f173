use Rattle.stations.proofs.Counting.{Sized}
use Rattle.stations.proofs.size_of.Given as goal

abbrev pub invariant-loop-count : goal.invariant-loop-count
invariant-loop-count l = Sized l.fn.counts l.count-iterator.iter.rest.now l.size
