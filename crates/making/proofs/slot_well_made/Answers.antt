-- `making::slot_well_made` meets its contract: the ticket is asked only where one stands.
use mathlib.Core.Path.{sym, ◌∙◌}
use Rattle.making.proofs.Parts.{passes_by}
use Rattle.making.proofs.slot_well_made.Goals as goal

pub returns-then-stands : goal.returns-then-stands
returns-then-stands c =
    let args = c.args in
    c.well_made.ensures ∙ sym (passes_by args.targets.now args.ticket _ (sym c.if-stands.true ∙ c.stands.ensures))

pub returns : goal.returns
returns c =
    let args = c.args in
    sym (passes_by args.targets.now args.ticket _ (sym c.if-stands.false ∙ c.stands.ensures))
