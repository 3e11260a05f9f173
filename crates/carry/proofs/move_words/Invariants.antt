use mathlib.Core.Path.{◌≡◌}
use lib.ListN.{length}
use Rattle.words.specs.Words.{words_in_book}
use Rattle.words.proofs.Copying.{SameUpTo}
use Rattle.carrying.specs.Carrying.{words_from}
use Rattle.carry.specs.Writing.{moved_word}
use Rattle.carry.proofs.move_words.Given as goal

abbrev pub invariant-loop-word : goal.invariant-loop-word
invariant-loop-word l = (length l.second ≡ words_in_book) × SameUpTo l.word l.second (words_from (moved_word l.old) 0 words_in_book)
