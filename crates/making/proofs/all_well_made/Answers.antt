-- `making::all_well_made` meets its contract: the chain asks of each slot what the definition asks of its ticket.
use Rattle.std.proofs.Common.{rules, tests}
use Rattle.std.proofs.lemmas.Iterator.{YieldsList-from_slice}
use Rattle.std.proofs.lemmas.Iterator.Search.{all_from_yields_List}
use mathlib.Core.Path.{◌∙◌}
use Rattle.making.proofs.Parts.{passes_in, all_slots_lem}
use Rattle.making.proofs.all_well_made.Goals as goal

pub returns : goal.returns
returns c =
    all_from_yields_List passes_in _ _ _ c.all.ensures.ran (YieldsList-from_slice c.args.slots.now cc) (λ x b q k. search (rules, tests)) ∙ all_slots_lem c.args.slots.now c.told-slots
