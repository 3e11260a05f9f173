use Rattle.std.proofs.Common.{◌≡◌, length}
use Rattle.edits.specs.Ranges.{named_twice}
use Rattle.decoder.proofs.named_twice.Given as goal

abbrev pub invariant-loop-leg : goal.invariant-loop-leg
invariant-loop-leg l = named_twice l.legs ≡ named_twice l.rest

abbrev pub decreases-loop-leg : goal.decreases-loop-leg
decreases-loop-leg l = length l.rest
