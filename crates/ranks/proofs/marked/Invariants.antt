use mathlib.Core.Path.{◌≡◌}
use lib.ListN.{length, take}
use Rattle.words.specs.Words.{passage_count}
use Rattle.ranks.specs.Marking.{MarksOf}
use Rattle.ranks.proofs.marked.Given as goal

abbrev pub invariant-loop-rank : goal.invariant-loop-rank
invariant-loop-rank l = (length l.found ≡ passage_count) × MarksOf l.found (take l.rank-index l.ranks)
