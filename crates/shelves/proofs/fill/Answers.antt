-- `shelves::fill` meets its contract: by its checks, refused or kept.
use Rattle.std.specs.Prelude.{Ok}
use Rattle.std.proofs.lemmas.Result.{err_from_is_err_and}
use mathlib.Core.Path.{◌≡◌, ap, ◌∙◌}
use mathlib.Core.Bool.{true, false}
use mathlib.Core.List.{◌++◌}
use Prim.Native.Nat.{ℕ, ◌+◌, ◌-◌}
use native.Mathlib.Omega.{arith}
use lib.ListN.{take, drop, set}
use Rattle.words.specs.Words.{Words, words_in_book}
use Rattle.calls.specs.Shelves.{with_shelf}
use Rattle.shelves.proofs.Checks.{fill_before, fill_refused, fill_last, fill_done, shelf_wrong_lem, shelf_right}
use Rattle.shelves.proofs.fill.Goals as goal

pub returns-in_err-checked : goal.returns-in_err-checked
returns-in_err-checked c =
    let p = err_from_is_err_and c.from_residual.result c.from_residual.ensures.1 in
    rw (p.1, p.2) (fill_refused _ _ _ c.args.filled.now _ _ (fill_before _ _ _ c.args.shelf _ c.in_err-checked.ensures))

pub returns-then-shelf-ge-SHELVES : goal.returns-then-shelf-ge-SHELVES
returns-then-shelf-ge-SHELVES c =
    fill_refused _ _ _ c.args.filled.now _ 20 (fill_last _ _ _ c.args.shelf true (shelf_wrong_lem c.args.shelf (omega (arith, c.if-shelf-ge-SHELVES.true))) c.in_ok-checked.ensures)

pub returns : goal.returns
returns c =
    let store = c.args.store.now in
    let at : ℕ = c.shelf_at-at.result in
    let part : Words = c.copy_from_slice.new.self in
    let size : at + words_in_book - at ≡ words_in_book = omega arith in
    let kept : take at store ++ (part ++ drop (at + words_in_book - at) (drop at store)) ≡ with_shelf store c.args.shelf c.args.book.now =
    ap (λ (k : ℕ). take at store ++ (part ++ drop k (drop at store))) size
    ∙ ap (λ (kept : Words). take at store ++ (kept ++ drop words_in_book (drop at store))) c.copy_from_slice.ensures.after
    ∙ ap (λ (at : ℕ). take at store ++ (c.args.book.now ++ drop words_in_book (drop at store))) c.shelf_at-at.ensures in
    (λ i. (Ok tt, kept i, set c.args.filled.now c.args.shelf true))
    ∙ fill_done _ _ _ c.args.filled.now _ (fill_last _ _ _ c.args.shelf false (shelf_right c.args.shelf (omega (arith, c.if-shelf-ge-SHELVES.false))) c.in_ok-checked.ensures)
