-- `ranks::is_permutation` meets its contract: so many numbers are marked.
use Rattle.std.proofs.Common.{◌≡◌, sym, ◌∙◌, rules, tests, arith, length}
use Rattle.std.proofs.lemmas.Iterator.{YieldsList-from_slice}
use Rattle.std.proofs.lemmas.Iterator.Search.{all_from_yields_List}
use Rattle.words.specs.Words.{passage_count}
use Rattle.ranks.proofs.Marking.{permutation_is, permutation_other, all_marked}
use Rattle.ranks.proofs.is_permutation.Goals as goal

pub returns-then-ranks : goal.returns-then-ranks
returns-then-ranks c = sym (permutation_other c.args.ranks.now (λ same. c.if-ranks.true same))

pub returns : goal.returns
returns c =
    let found = c.marked-found.result in
    let ranks = c.args.ranks.now in
    let long : length found ≡ passage_count = search rules in
    all_from_yields_List (λ mark. mark) _ _ _ c.all.ensures.ran (YieldsList-from_slice found cc) (λ x b q k. search (rules, tests))
    ∙ all_marked found ranks long c.marked-found.ensures
    ∙ sym (permutation_is ranks (omega (arith, c.if-ranks.false)))
