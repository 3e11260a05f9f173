-- `sound::is_sound` meets its contract: the walks, the ones, and then the legs that none of the walks used.
use mathlib.Core.Path.{◌≡◌, sym, ap, ◌∙◌}
use Prim.Native.Nat.{ℕ}
use lib.ListN.{length, replicate}
use borrow.Author.Rules.{rules}
use Rattle.sound.proofs.Bits.{none_marked, went_room, counts_fit, sound_broken, sound_uncounted, sound_through}
use Rattle.sound.proofs.is_sound.Goals as goal

pub walk_passages-requires : goal.walk_passages-requires
walk_passages-requires c =
    let zeros : c.fill.new.self ≡ replicate (length c.args.bits.now) 0 = search rules in
    none_marked c.args.layout c.fill.new.self (zeros ∙ ap (λ (n : ℕ). replicate n 0) c.requires)

pub returns-then-not-walk_passages : goal.returns-then-not-walk_passages
returns-then-not-walk_passages c =
    let args = c.args in
    sound_broken args.layout args.book.now c.walk_passages.result _ c.if-not-walk_passages.true c.walk_passages.ensures

pub count_ones-requires : goal.count_ones-requires
count_ones-requires c =
    let args = c.args in
    went_room args.layout c.walk_passages.result _ _ c.if-not-walk_passages.false c.walk_passages.ensures

pub sum_of_counts-requires : goal.sum_of_counts-requires
sum_of_counts-requires c =
    counts_fit c.args.layout c.args.book.now c.walk_passages.result _ c.if-not-walk_passages.false c.walk_passages.ensures

pub returns-then-from-sum_of_counts : goal.returns-then-from-sum_of_counts
returns-then-from-sum_of_counts c =
    let args = c.args in
    sound_uncounted args.layout args.book.now c.walk_passages.result _ c.if-not-walk_passages.false c.walk_passages.ensures
    (λ equal. c.if-from-sum_of_counts.true (c.from.ensures ∙ c.count_ones.ensures.0 ∙ equal ∙ sym c.sum_of_counts.ensures))

pub returns : goal.returns
returns c =
    let args = c.args in
    sound_through args.layout args.book.now c.walk_passages.result _ c.if-not-walk_passages.false c.walk_passages.ensures c.rest_zero.result c.rest_zero.ensures
