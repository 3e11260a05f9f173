-- `steps::step` meets its contract: a team with no ticket takes no step.
use mathlib.Core.Path.{sym, ◌∙◌}
use Rattle.tickets.specs.declared.Phase.TheVariants.{NoTicket}
use Rattle.replies.proofs.Standing.{counts_there}
use Rattle.steps.proofs.step.Goals as goal

pub unreachable-requires : goal.unreachable-requires
unreachable-requires c =
    let args = c.args in
    counts_there args.targets.now args.ticket c.requires.steps_in.made NoTicket (sym c.phase.ensures ∙ c.in-NoTicket.is)
