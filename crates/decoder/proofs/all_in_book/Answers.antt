-- `decoder::all_in_book` meets its contract: the chain asks of all words what the definition does.
use Rattle.std.proofs.Common.{refl, ◌∙◌, rules, tests}
use Rattle.std.proofs.lemmas.Iterator.{YieldsList-from_slice}
use Rattle.std.proofs.lemmas.Iterator.Search.{all_from_yields_List}
use lib.Dec.{ltb}
use Rattle.words.specs.Words.{words_in_book}
use Rattle.words.proofs.Tests.{all_is}
use Rattle.edits.specs.Views.{all_in_book}
use Rattle.decoder.proofs.all_in_book.Goals as goal

pub returns : goal.returns
unfolding all_in_book
returns c =
    let words = c.args.words.now in
    all_from_yields_List (λ word. ltb word words_in_book) _ _ _ c.all.ensures.ran (YieldsList-from_slice words cc) (λ x b q k. search (rules, tests))
    ∙ all_is _ all_in_book refl (λ _ _. refl) words
