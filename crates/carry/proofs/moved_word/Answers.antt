-- `carry::moved_word` meets its contract, by where the word stands.
use mathlib.Core.Path.{sym, ap, ◌∙◌}
use Prim.Native.Nat.{ℕ, ◌+◌}
use Rattle.words.specs.Words.{read_of}
use Rattle.carry.specs.Writing.{index_in_leg}
use Rattle.carry.proofs.Writing.{moved_passage, moved_fourth, moved_leg}
use Rattle.carry.proofs.moved_word.Goals as goal

pub returns-then-word-first : goal.returns-then-word-first
returns-then-word-first c =
    let args = c.args in
    sym (moved_passage args.old.now args.word c.if-word-first.true)

pub returns-then-which-eq-OLD_LEG_WORDS : goal.returns-then-which-eq-OLD_LEG_WORDS
returns-then-which-eq-OLD_LEG_WORDS c =
    let args = c.args in
    sym (moved_fourth args.old.now args.word c.if-word-first.false c.if-which-eq-OLD_LEG_WORDS.true)

pub returns : goal.returns
returns c =
    let args = c.args in
    ap (λ (at : ℕ). read_of args.old.now (at + index_in_leg args.word)) c.link_word_in.ensures
    ∙ sym (moved_leg args.old.now args.word c.if-word-first.false c.if-which-eq-OLD_LEG_WORDS.false)
