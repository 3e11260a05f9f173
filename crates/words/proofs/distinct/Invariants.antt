use Rattle.std.proofs.Common.{◌≡◌, length}
use Rattle.words.specs.Tests.{distinct}
use Rattle.words.proofs.distinct.Given as goal

abbrev pub invariant-loop-number : goal.invariant-loop-number
invariant-loop-number l = distinct l.numbers ≡ distinct l.rest

abbrev pub decreases-loop-number : goal.decreases-loop-number
decreases-loop-number l = length l.rest
