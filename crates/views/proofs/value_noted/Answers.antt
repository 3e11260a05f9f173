-- `views::value_noted` meets its contract: what the library finds is what the definition does.
use Rattle.std.proofs.Common.{rules, tests}
use Rattle.std.proofs.lemmas.Iterator.{YieldsList-from_slice}
use Rattle.std.proofs.lemmas.Iterator.Search.{find_from_yields_List}
use mathlib.Core.Path.{sym, ap, ◌∙◌}
use lib.Dec.{eqb}
use Rattle.std.specs.Option.{option_map, option_map_or}
use Rattle.tickets.specs.Table.{quoted_in}
use Rattle.views.proofs.Seeing.{noted_found}
use Rattle.views.proofs.value_noted.Goals as goal

pub returns-in_default : goal.returns-in_default
returns-in_default c =
    let word = c.args.word in
    let found = find_from_yields_List (λ target. eqb target.word word) _ _ c.find.result c.find.ensures.ran (YieldsList-from_slice c.args.targets.now cc) (λ x b q k. search (rules, tests)) in
    ap (λ o. option_map_or quoted_in (option_map (λ one. one.now) o) 0) (sym c.in_default.is) ∙ ap (λ o. option_map_or quoted_in o 0) found ∙ noted_found c.args.targets.now word

pub returns : goal.returns
returns c =
    let word = c.args.word in
    let found = find_from_yields_List (λ target. eqb target.word word) _ _ c.find.result c.find.ensures.ran (YieldsList-from_slice c.args.targets.now cc) (λ x b q k. search (rules, tests)) in
    ap (λ o. option_map_or quoted_in (option_map (λ one. one.now) o) 0) (sym c.in-Some.is) ∙ ap (λ o. option_map_or quoted_in o 0) found ∙ noted_found c.args.targets.now word
