-- `book::quick_of` meets its contract: the two cases of the definition.
use mathlib.Core.Path.{sym, ap, ◌∙◌}
use Rattle.book.specs.Quickly.{quick_for}
use Rattle.book.proofs.quick_of.Goals as goal

pub returns-then-known : goal.returns-then-known
returns-then-known c = c.quick_swaps.ensures ∙ ap (λ b. quick_for b c.args.ticket) (sym c.if-known.true)
