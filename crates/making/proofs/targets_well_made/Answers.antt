-- `making::targets_well_made` meets its contract: the chain asks one target after another.
use Rattle.std.proofs.Common.{rules, tests}
use Rattle.std.proofs.lemmas.Iterator.{YieldsList-from_slice}
use Rattle.std.proofs.lemmas.Iterator.Search.{all_from_yields_List}
use mathlib.Core.Path.{◌∙◌}
use Rattle.tickets.specs.Tickets.{target_well_made}
use Rattle.making.proofs.Parts.{all_targets_lem}
use Rattle.making.proofs.targets_well_made.Goals as goal

pub returns : goal.returns
returns c =
    all_from_yields_List target_well_made _ _ _ c.all.ensures.ran (YieldsList-from_slice c.args.targets.now cc) (λ x b q k. search (rules, tests)) ∙ all_targets_lem c.args.targets.now
