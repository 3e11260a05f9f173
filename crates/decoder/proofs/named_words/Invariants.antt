use mathlib.Core.Path.{◌≡◌}
use Rattle.edits.specs.Views.{padded_names}
use Rattle.frames.specs.Numbers.{numbers16}
use Rattle.decoder.proofs.named_words.Given as goal

abbrev pub invariant-loop-k : goal.invariant-loop-k
invariant-loop-k l = l.words ≡ padded_names (numbers16 l.k l.part 4)
