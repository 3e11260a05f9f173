-- `carry::has_leg_above` meets its contract: the chain asks of each place whether it is 0.
use mathlib.Core.Path.{refl, ◌∙◌}
use native.Mathlib.Omega.{arith}
use Prim.Native.Nat.{◌+◌}
use Rattle.std.proofs.Common.{rules, tests}
use Rattle.std.proofs.lemmas.Iterator.{YieldsList-from_range}
use Rattle.std.proofs.lemmas.Iterator.Search.{any_from_yields_List}
use Rattle.words.specs.declared.LegLayout.TheVariants.{ThreeWords}
use Rattle.words.specs.Words.{last_leg, last_leg_in}
use Rattle.carry.proofs.Above.{has_place, any_place}
use Rattle.carry.proofs.has_leg_above.Goals as goal

pub returns : goal.returns
returns c =
    any_from_yields_List (has_place c.args.old.now) _ _ _ c.any.ensures.ran
    (YieldsList-from_range (last_leg + 1) (last_leg_in ThreeWords + 1) 336 refl refl)
    (λ x b q k. search (rules, tests))
    ∙ any_place c.args.old.now c.requires 336 (last_leg + 1) (omega arith) (omega arith) (λ r high low. absurd (omega arith))
