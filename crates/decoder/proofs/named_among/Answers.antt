-- `decoder::named_among` meets its contract: 0 names no leg, and any other is sought by the library's test.
use mathlib.Core.Path.{◌∙◌}
use borrow.Author.Tests.{ne_eqb}
use Rattle.decoder.proofs.Named.{named_somewhere, zero_nowhere}
use Rattle.decoder.proofs.named_among.Goals as goal

pub returns-then-leg-ne0 : goal.returns-then-leg-ne0
returns-then-leg-ne0 c = c.contains.ensures.value ∙ named_somewhere c.args.leg c.args.others.now (ne_eqb _ _ c.if-leg-ne0.true)

pub returns-else-leg-ne0 : goal.returns-else-leg-ne0
returns-else-leg-ne0 c = zero_nowhere c.args.leg c.args.others.now c.if-leg-ne0.false
