-- `book::answer` meets its contract: a step, or any other frame, in a table that is not known to be well made.
use Rattle.calls.specs.Way.{aim_numbered}
use Prim.Native.Nat.{ℕ, ◌<◌}
use mathlib.Core.Path.{refl, sym, subst, ◌∙◌}
use mathlib.Core.Bool.{false≢true}
use Rattle.words.specs.Words.{team_count}
use Rattle.dispatch.proofs.Aiming.{slot_below}
use Rattle.quick.proofs.Trying.{none_missed}
use Rattle.book.proofs.Answering.{no_step_by, step_answered, frame_answered}
use Rattle.book.proofs.answer.Goals as goal

pub other_step-requires : goal.other_step-requires
other_step-requires c =
    let below = subst (λ (t : ℕ). t < team_count) (sym c.requires.1) (slot_below c.args.frame.now (aim_numbered c.args.aim) c.requires.0) in
    (below, (λ found missed. absurd (none_missed found missed)), (λ known. absurd (false≢true known)), c.requires.2)

pub returns-then-is_step : goal.returns-then-is_step
returns-then-is_step c =
    let left = c.other_step in
    step_answered c.args.book.now c.args.targets.now c.args.ranks.now c.args.frame.now (aim_numbered c.args.aim) c.args.team c.requires.1 c.args.ticket _ _ _ _ _ _ _ (sym c.is_step.ensures ∙ c.if-is_step.true) refl left.ensures

pub other_frame-opened-requires : goal.other_frame-opened-requires
other_frame-opened-requires c =
    (c.requires.0, no_step_by (aim_numbered c.args.aim) (sym c.is_step.ensures ∙ c.if-is_step.false), c.requires.2)

pub returns : goal.returns
returns c =
    let frame = c.other_frame-opened in
    let other = no_step_by (aim_numbered c.args.aim) (sym c.is_step.ensures ∙ c.if-is_step.false) in
    frame_answered c.args.book.now c.args.targets.now c.args.ranks.now c.args.frame.now (aim_numbered c.args.aim) c.args.team c.requires.1 c.args.ticket frame.result _ _ _ _ other (sym c.unwrap_or.ensures) frame.ensures
