-- `carry::move_words` meets its contract: the words so far are those moved.
use mathlib.Core.Path.{sym, ap, ◌∙◌}
use Prim.Native.Nat.{ℕ, ◌<◌}
use native.Mathlib.Omega.{arith}
use lib.ListN.{get_or, set, length-set}
use lib.Seq.{ext_get_or}
use Rattle.words.specs.Words.{words_in_book}
use Rattle.words.proofs.Copying.{same_more}
use Rattle.carrying.specs.Carrying.{words_from}
use Rattle.carrying.proofs.Carrying.{length_from, read_whole}
use Rattle.carry.specs.Writing.{moved_word}
use Rattle.carry.proofs.move_words.Goals as goal

pub loop-word-preserved : goal.loop-word-preserved
loop-word-preserved c =
    let loop = c.loop-word in
    let old = c.args.old.now in
    let whole = words_from (moved_word old) 0 words_in_book in
    let inside : loop.word < words_in_book = omega arith in
    let here = c.moved_word.ensures ∙ sym (read_whole (moved_word old) loop.word inside) in (
      length-set loop.second loop.word _ ∙ loop.invariant.0,
      λ i below. ap (λ (value : ℕ). get_or (set loop.second loop.word value) i 0) here ∙ same_more loop.word loop.second whole (omega (arith, loop.invariant.0)) loop.invariant.1 i below,
    )

pub returns : goal.returns
returns c =
    let loop = c.loop-word in
    let old = c.args.old.now in
    ext_get_or 0 loop.second (words_from (moved_word old) 0 words_in_book) (loop.invariant.0 ∙ sym (length_from (moved_word old) 0 words_in_book))
    (λ i below. loop.invariant.1 i (omega (arith, loop.invariant.0)))
