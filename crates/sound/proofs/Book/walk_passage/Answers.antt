-- `sound::Book::walk_passage` meets its contract: a count that is too large is a no, and any other is walked.
use Prim.Native.Nat.{◌≤◌, ◌<◌}
use native.Mathlib.Omega.{arith}
use Rattle.words.specs.Words.{last_leg_in, read_of}
use Rattle.sound.proofs.Bits.{went_passage, went_above}
use Rattle.sound.proofs.Book.walk_passage.Goals as goal

pub returns-then-from-count : goal.returns-then-from-count
returns-then-from-count c =
    let book = c.args.self in
    let above : last_leg_in book.layout < read_of book.words.now c.count_word.result = omega (arith, c.if-from-count.true, c.from.ensures, c.last_leg_in.ensures) in
    λ used marked. went_above book.layout book.words.now c.args.passage c.args.bits.now used _ c.count_word.ensures above

pub returns : goal.returns
returns c =
    let book = c.args.self in
    let fits : read_of book.words.now c.count_word.result ≤ last_leg_in book.layout = omega (arith, c.if-from-count.false, c.from.ensures, c.last_leg_in.ensures) in
    λ used marked. went_passage book.layout book.words.now c.args.passage used _ _ c.count_word.ensures c.newest_word.ensures c.walk_legs.result _ fits (c.walk_legs.ensures used marked)
