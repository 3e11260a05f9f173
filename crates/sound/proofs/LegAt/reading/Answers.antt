-- `sound::LegAt::reading` meets its contract: the words are the book's.
use Prim.Native.Nat.{ℕ, ◌+◌}
use mathlib.Core.Path.{ap, ◌∙◌}
use Rattle.words.specs.Words.{read_of}
use Rattle.legs.specs.Reading.{reading_of}
use Rattle.sound.proofs.LegAt.reading.Goals as goal

pub returns : goal.returns
returns c =
    let words = c.args.self.book.words.now in
    c.read_leg.ensures ∙ ap (λ (at : ℕ). reading_of (read_of words (at + 1)) (read_of words (at + 2))) c.link_word-at.ensures.0
