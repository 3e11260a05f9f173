-- `dispatch::is_step_at` meets its contract: the three tests of the definition, in its order.
use Rattle.dispatch.proofs.Steps.{step_short, step_other, step_team}
use Rattle.dispatch.proofs.is_step_at.Goals as goal

pub returns-then-input-at-lt-STEP : goal.returns-then-input-at-lt-STEP
returns-then-input-at-lt-STEP c = step_short c.args.input.now c.args.at c.if-input-at-lt-STEP.true

pub returns-then-read32-ne-STEP_HEAD : goal.returns-then-read32-ne-STEP_HEAD
returns-then-read32-ne-STEP_HEAD c =
    step_other c.args.input.now c.args.at c.if-input-at-lt-STEP.false _ c.read32.ensures c.if-read32-ne-STEP_HEAD.true

pub returns : goal.returns
returns c =
    step_team c.args.input.now c.args.at c.if-input-at-lt-STEP.false _ c.read32.ensures c.if-read32-ne-STEP_HEAD.false _ c.read16.ensures.0
