-- `sound::LegAt::used_or_zero` meets its contract, by the flag.
use mathlib.Core.Path.{sym, ◌∙◌}
use Rattle.soundness.proofs.Walking.{used_leg, unused_leg}
use Rattle.sound.proofs.Bits.{marked_tells}
use Rattle.sound.proofs.LegAt.used_or_zero.Goals as goal

pub returns-then-is_marked : goal.returns-then-is_marked
returns-then-is_marked c =
    let leg = c.args.self in
    λ used marked. c.if-is_marked.true ∙ sym (used_leg leg.book.layout leg.book.words.now used leg.number
    (sym (marked_tells marked leg.number leg.is_leg.0 leg.is_leg.1) ∙ sym c.is_marked.ensures ∙ c.if-is_marked.true))

pub returns-else-is_marked : goal.returns-else-is_marked
returns-else-is_marked c =
    let leg = c.args.self in
    λ used marked. c.is_zero.ensures ∙ sym (unused_leg leg.book.layout leg.book.words.now used leg.number
    (sym (marked_tells marked leg.number leg.is_leg.0 leg.is_leg.1) ∙ sym c.is_marked.ensures ∙ c.if-is_marked.false))
