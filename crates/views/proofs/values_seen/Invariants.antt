use Rattle.tickets.specs.Table.{targets_of}
use Rattle.views.proofs.Seeing.{ShownTo}
use Rattle.views.proofs.values_seen.Given as goal

abbrev pub invariant-loop-k : goal.invariant-loop-k
invariant-loop-k l = ShownTo l.values (targets_of l.targets l.n) l.k
