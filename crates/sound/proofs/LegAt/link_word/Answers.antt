-- `sound::LegAt::link_word` meets its contract.
use mathlib.Core.Path.{◌∙◌}
use Rattle.sound.proofs.Bits.{three_inside}
use Rattle.sound.proofs.LegAt.link_word.Goals as goal

pub returns : goal.returns
returns c =
    let leg = c.args.self in
    let here = c.from.ensures ∙ c.link_word_in.ensures in
    (here, three_inside leg.book.layout leg.number c.from.result here leg.is_leg.0 leg.is_leg.1)
