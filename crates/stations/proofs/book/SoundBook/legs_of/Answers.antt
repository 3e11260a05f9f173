-- `stations::SoundBook::legs_of` meets its contract: along the links of a sound book there are legs.
use mathlib.Core.Path.{◌≡◌, sym, subst}
use Rattle.words.specs.declared.LegLayout.TheVariants.{FourWords}
use Rattle.words.specs.Words.{read_of}
use Rattle.plain.proofs.OneList.{Every}
use Rattle.plain.proofs.Slots.{InRange}
use Rattle.soundness.specs.InWords.{legs_along, list_in}
use Rattle.stations.proofs.Walking.{legs_fit, along_legs}
use Rattle.stations.proofs.book.SoundBook.legs_of.Goals as goal

pub invariant_of-result : goal.invariant_of-result
invariant_of-result c =
    let words = c.args.self.words.now in
    let whole : legs_along FourWords words (read_of words c.count_word.result) (read_of words c.newest_word.result) ≡ list_in FourWords words c.args.passage = λ i.
    legs_along FourWords words (read_of words (c.count_word.ensures i)) (read_of words (c.newest_word.ensures i)) in
    record { legs = along_legs words _ _ (subst (Every InRange) (sym whole) (legs_fit words c.args.self.sound c.args.passage c.requires)) }
