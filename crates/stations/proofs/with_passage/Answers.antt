-- `stations::with_passage` meets its contract, by whether the passage has a leg there.
use mathlib.Core.Path.{sym}
use Rattle.stations.proofs.Counting.{passage_empty, passage_counted}
use Rattle.stations.proofs.with_passage.Goals as goal

pub returns-then-count-eq0 : goal.returns-then-count-eq0
returns-then-count-eq0 c = let args = c.args in sym (passage_empty args.count args.size c.if-count-eq0.true)

pub returns : goal.returns
returns c =
    let args = c.args in
    sym (passage_counted args.count args.size c.if-count-eq0.false)
