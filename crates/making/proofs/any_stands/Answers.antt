-- `making::any_stands` meets its contract: the chain asks of each slot what the definition asks of its ticket.
use Rattle.std.proofs.Common.{rules, tests}
use Rattle.std.proofs.lemmas.Iterator.{YieldsList-from_slice}
use Rattle.std.proofs.lemmas.Iterator.Search.{any_from_yields_List}
use mathlib.Core.Path.{◌∙◌}
use Rattle.making.proofs.Parts.{any_in, any_stands_lem}
use Rattle.making.proofs.any_stands.Goals as goal

pub returns : goal.returns
returns c =
    any_from_yields_List any_in _ _ _ c.any.ensures.ran (YieldsList-from_slice c.args.slots.now cc) (λ x b q k. search (rules, tests)) ∙ any_stands_lem c.args.slots.now c.told-slots
