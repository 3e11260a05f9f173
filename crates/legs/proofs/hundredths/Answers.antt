-- `legs::hundredths` meets its contract: five thirds of a minute, rounded, are what is nearest.
use mathlib.Core.Path.{sym}
use native.Mathlib.Omega.{arith}
use Rattle.legs.proofs.Minutes.{by_thirds}
use Rattle.legs.proofs.hundredths.Goals as goal

pub returns : goal.returns
returns c = (sym (by_thirds c.args.degrees c.args.minutes), omega arith)
