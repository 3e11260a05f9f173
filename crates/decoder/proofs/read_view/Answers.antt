-- `decoder::read_view` meets its contract: the count, the words and repeats are tested in that order.
use mathlib.Core.Path.{sym, ◌∙◌}
use Rattle.decoder.proofs.Viewed.{miscounted, outside, repeated, view_read_lem}
use Rattle.decoder.proofs.read_view.Goals as goal

pub returns-then-n-count : goal.returns-then-n-count
returns-then-n-count c =
    miscounted c.args.part.now c.read16-n.ensures.0 c.if-n-count.true

pub returns-then-not-all_in_book : goal.returns-then-not-all_in_book
returns-then-not-all_in_book c =
    outside c.args.part.now c.read16-n.ensures.0 c.if-n-count.false c.named_words-words.ensures (sym c.all_in_book.ensures ∙ c.if-not-all_in_book.true)

pub returns-then-not-distinct : goal.returns-then-not-distinct
returns-then-not-distinct c =
    repeated c.args.part.now c.read16-n.ensures.0 c.if-n-count.false c.named_words-words.ensures
    (sym c.all_in_book.ensures ∙ c.if-not-all_in_book.false) (sym c.distinct.ensures ∙ c.if-not-distinct.true)

pub returns : goal.returns
returns c =
    view_read_lem c.args.part.now c.read16-n.ensures.0 c.if-n-count.false c.named_words-words.ensures
    (sym c.all_in_book.ensures ∙ c.if-not-all_in_book.false) (sym c.distinct.ensures ∙ c.if-not-distinct.false)
