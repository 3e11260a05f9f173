-- `sound::Book::walk_passages` meets its contract: the passages so far are walked, and the bits are those of the legs used.
use mathlib.Core.List.{[]}
use native.Mathlib.Omega.{arith}
use Rattle.words.specs.Words.{passage_count}
use Rattle.soundness.proofs.Walking.{below_none}
use Rattle.sound.proofs.Bits.{reached_on, reached_off, reached_all}
use Rattle.sound.proofs.Book.walk_passages.Goals as goal

pub loop-passage-init : goal.loop-passage-init
loop-passage-init c = record { used = []; marked = c.requires; same = below_none _ _ }

pub returns-then-not-walk_passage : goal.returns-then-not-walk_passage
returns-then-not-walk_passage c =
    let loop = c.loop-passage in
    let book = c.args.self in
    reached_off book.layout book.words.now loop.bits _ loop.passage c.walk_passage.result loop.invariant (c.walk_passage.ensures loop.invariant.used loop.invariant.marked) c.if-not-walk_passage.true passage_count (omega arith)

pub loop-passage-preserved : goal.loop-passage-preserved
loop-passage-preserved c =
    let loop = c.loop-passage in
    let book = c.args.self in
    reached_on book.layout book.words.now loop.bits _ loop.passage c.walk_passage.result loop.invariant (c.walk_passage.ensures loop.invariant.used loop.invariant.marked) c.if-not-walk_passage.false

pub returns : goal.returns
returns c =
    let loop = c.loop-passage in
    let book = c.args.self in
    reached_all book.layout book.words.now loop.bits loop.passage loop.invariant passage_count (omega arith)
