-- `ranks::load` meets its contract: the checks are made in the order of the refusals.
use Rattle.std.specs.Prelude.{Ok}
use mathlib.Core.Path.{refl, sym, ◌∙◌}
use mathlib.Core.Bool.{true, false}
use native.Mathlib.Omega.{arith}
use Rattle.legs.specs.Positions.{is_permutation}
use Rattle.tickets.specs.Table.{table_of}
use Rattle.calls.specs.Outcomes.{ticket_stands}
use Rattle.ranks.proofs.Loading.{load_is, book_wrong_lem, book_right, permutation_long}
use Rattle.ranks.proofs.load.Goals as goal

pub returns-then-book-ne-WORDS : goal.returns-then-book-ne-WORDS
returns-then-book-ne-WORDS c =
    sym (load_is c.args.book.now (table_of c.args.tickets) c.args.ranks.now c.args.loaded.now true (is_permutation c.args.loaded.now) (ticket_stands (table_of c.args.tickets)) (book_wrong_lem c.args.book.now c.if-book-ne-WORDS.true) refl refl)

pub returns-then-not-is_permutation : goal.returns-then-not-is_permutation
returns-then-not-is_permutation c =
    sym (load_is c.args.book.now (table_of c.args.tickets) c.args.ranks.now c.args.loaded.now false false (ticket_stands (table_of c.args.tickets)) (book_right c.args.book.now (omega (arith, c.if-book-ne-WORDS.false)))
    (sym c.is_permutation.ensures ∙ c.if-not-is_permutation.true) refl)

pub returns-then-any_stands : goal.returns-then-any_stands
returns-then-any_stands c =
    sym (load_is c.args.book.now (table_of c.args.tickets) c.args.ranks.now c.args.loaded.now false true true (book_right c.args.book.now (omega (arith, c.if-book-ne-WORDS.false)))
    (sym c.is_permutation.ensures ∙ c.if-not-is_permutation.false) (sym c.any_stands.ensures ∙ c.if-any_stands.true))

pub copy_from_slice-requires : goal.copy_from_slice-requires
copy_from_slice-requires c =
    omega (arith, permutation_long c.args.loaded.now (sym c.is_permutation.ensures ∙ c.if-not-is_permutation.false))

pub returns : goal.returns
returns c =
    (λ i. (Ok tt, c.copy_from_slice.ensures.after i))
    ∙ sym (load_is c.args.book.now (table_of c.args.tickets) c.args.ranks.now c.args.loaded.now false true false (book_right c.args.book.now (omega (arith, c.if-book-ne-WORDS.false)))
    (sym c.is_permutation.ensures ∙ c.if-not-is_permutation.false) (sym c.any_stands.ensures ∙ c.if-any_stands.false))
