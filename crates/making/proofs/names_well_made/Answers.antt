-- `making::names_well_made` meets its contract: both tests of the names, each on the first n numbers of a mapped room.
use Rattle.std.proofs.Common.{rules, tests}
use Rattle.std.proofs.lemmas.Iterator.{YieldsList-from_slice}
use Rattle.std.proofs.lemmas.Iterator.Search.{all_from_yields_List}
use mathlib.Core.Path.{◌≡◌, sym, ap, ◌∙◌}
use mathlib.Core.Bool.{true, false}
use lib.ListN.{take}
use Rattle.words.specs.Tests.{all_occur, distinct, occurs}
use Rattle.words.proofs.Tests.{next_test, failed_test, last_test}
use Rattle.tickets.specs.Table.{word_in, new_in}
use Rattle.making.proofs.Parts.{all_occur_lem, taken_mapped}
use Rattle.making.proofs.names_well_made.Goals as goal

pub returns-then-not-distinct : goal.returns-then-not-distinct
returns-then-not-distinct c =
    let names = taken_mapped new_in _ _ (λ x y q called. search rules) c.args.targets.now c.map-names.result c.args.n c.told-targets c.map-names.ensures.items.long c.map-names.ensures.items.each c.requires in
    let twice : c.distinct.result ≡ false = c.if-not-distinct.true in
    sym (failed_test _ _ (ap distinct (sym names) ∙ sym c.distinct.ensures ∙ twice))

pub returns : goal.returns
returns c =
    let names = taken_mapped new_in _ _ (λ x y q called. search rules) c.args.targets.now c.map-names.result c.args.n c.told-targets c.map-names.ensures.items.long c.map-names.ensures.items.each c.requires in
    let words = taken_mapped word_in _ _ (λ x y q called. search rules) c.args.targets.now c.map-words.result c.args.n c.told-targets c.map-words.ensures.items.long c.map-words.ensures.items.each c.requires in
    let once : c.distinct.result ≡ true = c.if-not-distinct.false in
    let asked = take c.args.n c.map-names.result in
    all_from_yields_List (λ name. occurs name (take c.args.n c.map-words.result)) _ _ _ c.all.ensures.ran (YieldsList-from_slice asked cc) (λ x b q k. search (rules, tests))
    ∙ all_occur_lem asked (take c.args.n c.map-words.result)
    ∙ (λ i. all_occur (names i) (words i))
    ∙ sym (next_test _ _ (ap distinct (sym names) ∙ sym c.distinct.ensures ∙ once) ∙ last_test _)
