-- `sound::LegAt::may_follow` meets its contract, test by test.
use Prim.Native.Nat.{ℕ}
use mathlib.Core.Path.{◌≡◌, sym, ap, ◌∙◌}
use mathlib.Core.List.{List}
use Rattle.words.specs.Tests.{occurs}
use Rattle.soundness.specs.Checking.{is_of_passage, reading_at}
use Rattle.soundness.proofs.Walking.{used_before, reads_other, fourth_next}
use Rattle.sound.specs.Bits.{Marked}
use Rattle.sound.proofs.Bits.{marked_tells}
use Rattle.sound.proofs.LegAt.may_follow.Goals as goal
use Rattle.sound.proofs.LegAt.may_follow.Goals.{After-is_marked, After-is_of_passage}

-- Its bit tells whether it is used,
told : (c : After-is_marked) (used : List ℕ) → Marked c.args.self.book.layout c.args.bits.now used → occurs c.args.self.number used ≡ c.is_marked.result
told c used marked =
    let leg = c.args.self in
    sym (marked_tells marked leg.number leg.is_leg.0 leg.is_leg.1) ∙ sym c.is_marked.ensures

-- and its words tell its passage.
reads : (c : After-is_of_passage) → c.is_of_passage.result ≡ is_of_passage c.args.passage (reading_at c.args.self.book.layout c.args.self.book.words.now c.args.self.number)
reads c = c.is_of_passage.ensures ∙ ap (is_of_passage c.args.passage) c.reading.ensures

pub returns-then-is_marked : goal.returns-then-is_marked
returns-then-is_marked c =
    let leg = c.args.self in
    let at = goal.at.returns-then-is_marked c in
    λ used marked. sym (used_before leg.book.layout leg.book.words.now c.args.passage used c.args.newer leg.number leg.is_leg.0 leg.is_leg.1 (told at.After-is_marked used marked ∙ c.if-is_marked.true))

pub returns-then-not-is_of_passage : goal.returns-then-not-is_of_passage
returns-then-not-is_of_passage c =
    let leg = c.args.self in
    let at = goal.at.returns-then-not-is_of_passage c in
    λ used marked. sym (reads_other leg.book.layout leg.book.words.now c.args.passage used c.args.newer leg.number leg.is_leg.0 leg.is_leg.1
    (told at.After-is_marked used marked ∙ c.if-is_marked.false)
    (sym (reads at.After-is_of_passage) ∙ c.if-not-is_of_passage.true))

pub returns : goal.returns
returns c =
    let leg = c.args.self in
    let at = goal.at.returns c in
    λ used marked. c.fourth_is.ensures
    ∙ sym (fourth_next leg.book.layout leg.book.words.now c.args.passage used c.args.newer leg.number leg.is_leg.0 leg.is_leg.1
    (told at.After-is_marked used marked ∙ c.if-is_marked.false)
    (sym (reads at.After-is_of_passage) ∙ c.if-not-is_of_passage.false))
