-- `legs::AcceptedRanks::newest_position` meets its contract: accepted ranks are 32, each below 32.
use mathlib.Core.Path.{sym}
use native.Mathlib.Omega.{arith}
use Rattle.legs.proofs.Ranks.{rank_small, all_ranks, newest_at, count_at}
use Rattle.legs.proofs.AcceptedRanks.newest_position.Goals as goal

pub bounds-self-inside-passage : goal.bounds-self-inside-passage
bounds-self-inside-passage c = omega (arith, c.requires, all_ranks c.self.inside.numbers.now c.self.invariant)

pub overflow_mul-result : goal.overflow_mul-result
overflow_mul-result c = omega (arith, rank_small c.self.inside.numbers.now c.self.invariant c.args.passage c.requires)

pub returns : goal.returns
returns c =
    let ranks = c.self.inside.numbers.now in
    let passage = c.args.passage in
    rw (← c.self.view_is) (sym (newest_at ranks passage c.requires), sym (count_at ranks passage c.requires), omega (arith, rank_small ranks c.self.invariant passage c.requires))
