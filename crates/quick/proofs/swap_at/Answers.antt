-- `quick::swap_at` meets its contract: the next target's word, and its quoted or its new value.
use Rattle.quick.proofs.Swapping.{swap_read}
use Rattle.quick.proofs.swap_at.Goals as goal

pub returns : goal.returns
returns c =
    let target = c.next_target-target in (
      λ words. swap_read c.args.targets.now c.args.team c.args.ticket c.requires.1 words c.mark-mark.result c.chosen-value.result _ _ target.result target.ensures.next c.mark-mark.ensures c.chosen-value.ensures c.chosen.ensures c.chosen-2.ensures,
      target.ensures.inside,
    )
