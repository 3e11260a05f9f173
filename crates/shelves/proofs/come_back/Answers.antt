-- `shelves::come_back` meets its contract: by its checks, refused or come back.
use Rattle.std.specs.Prelude.{Ok}
use Rattle.std.proofs.lemmas.Result.{err_from_is_err_and}
use mathlib.Core.Path.{◌≡◌, sym, ap, ◌∙◌}
use mathlib.Core.Bool.{true, false}
use Prim.Native.Nat.{ℕ, ◌+◌, ◌-◌, ◌<◌}
use native.Mathlib.Omega.{arith}
use lib.ListN.{length, take, drop}
use borrow.Author.Rules.{rules}
use Rattle.words.specs.Words.{words_in_book, shelf_count, words_in_store}
use Rattle.tickets.specs.Table.{table_of}
use Rattle.calls.specs.Shelves.{shelf_of}
use Rattle.shelves.proofs.Checks.{lengths_right, filled_known, back_before, back_refused, back_last, back_done}
use Rattle.shelves.proofs.come_back.Goals as goal
use Rattle.shelves.proofs.come_back.Goals.{Else-never_filled}

-- Where every check is passed, the shelf is one, and the lengths are right.
known : (c : Else-never_filled) → c.args.shelf < shelf_count
known c = filled_known c.args.filled.now c.args.shelf (sym c.never_filled.ensures ∙ c.if-never_filled.false)

right : (c : Else-never_filled) → (length c.args.book.now ≡ words_in_book) × (length c.args.store.now ≡ words_in_store)
right c = lengths_right _ (table_of c.args.tickets) _ c.in_ok-checked.ensures

pub returns-in_err-checked : goal.returns-in_err-checked
returns-in_err-checked c =
    let p = err_from_is_err_and c.from_residual.result c.from_residual.ensures.1 in
    rw (p.1, p.2) (back_refused _ _ _ _ _ _ (back_before _ _ _ c.args.shelf _ _ c.in_err-checked.ensures))

pub returns-then-never_filled : goal.returns-then-never_filled
returns-then-never_filled c =
    back_refused _ _ _ _ _ 20 (back_last _ _ _ c.args.shelf c.args.filled.now true (sym c.never_filled.ensures ∙ c.if-never_filled.true) c.in_ok-checked.ensures)

pub shelf_at-from-requires : goal.shelf_at-from-requires
shelf_at-from-requires c = omega (arith, known (goal.at.shelf_at-from-requires c).Else-never_filled)

pub overflow_add-from : goal.overflow_add-from
overflow_add-from c = omega (arith, known (goal.at.overflow_add-from c).Else-never_filled, c.shelf_at-from.ensures)

pub offset_bounds-store-from : goal.offset_bounds-store-from
offset_bounds-store-from c = omega (arith, known (goal.at.offset_bounds-store-from c).Else-never_filled, c.shelf_at-from.ensures)

pub slice_bounds-copy_from_slice-end : goal.slice_bounds-copy_from_slice-end
slice_bounds-copy_from_slice-end c =
    let at = (goal.at.slice_bounds-copy_from_slice-end c).Else-never_filled in
    let inside = known at in
    let long = (right at).1 in
    search rules

pub returns : goal.returns
returns c =
    let store = c.args.store.now in
    let from : ℕ = c.shelf_at-from.result in
    let size : from + words_in_book - from ≡ words_in_book = omega arith in
    let kept : c.copy_from_slice.new.self ≡ shelf_of store c.args.shelf =
    c.copy_from_slice.ensures.after
    ∙ ap (λ (k : ℕ). take k (drop from store)) size
    ∙ ap (λ (at : ℕ). take words_in_book (drop at store)) c.shelf_at-from.ensures in
    (λ i. (Ok tt, kept i)) ∙ back_done _ _ _ _ _ (back_last _ _ _ c.args.shelf c.args.filled.now false (sym c.never_filled.ensures ∙ c.if-never_filled.false) c.in_ok-checked.ensures)
