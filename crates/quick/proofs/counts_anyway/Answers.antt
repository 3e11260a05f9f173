-- `quick::counts_anyway` meets its contract: a put expects a mark, and a claim a value, which is none.
use mathlib.Core.Path.{◌∙◌}
use mathlib.Core.Bool.{cond, not}
use Rattle.quick.specs.Quick.{claims_quick}
use Rattle.quick.proofs.Swapping.{mark_expected}
use Rattle.quick.proofs.counts_anyway.Goals as goal

pub returns : goal.returns
returns c =
    let target = c.next_target-target in
    λ words team. c.chosen.ensures
    ∙ (λ i. cond (claims_quick c.args.ticket) (c.is_held.ensures i) (not (c.is_held-2.ensures i)))
    ∙ mark_expected c.args.targets.now team c.args.ticket c.requires words target.result target.ensures.next
