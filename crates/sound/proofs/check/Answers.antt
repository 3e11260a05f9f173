-- `sound::check` meets its contract.
use Rattle.std.specs.Prelude.{Ok}
use Rattle.std.proofs.lemmas.Option.{MatchOption-at_some, MatchOption-at_none}
use Rattle.std.proofs.lemmas.Result.{err_from_is_err_and}
use Rattle.frames.specs.declared.Refusal.{Refusal}
use mathlib.Core.Path.{◌≡◌, refl, sym, ap, ◌∙◌}
use Prim.Native.Nat.{ℕ, ◌≤◌}
use native.Mathlib.Omega.{arith}
use mathlib.Core.Option.{Option, none, some}
use lib.ListN.{length}
use Rattle.soundness.specs.Checking.{is_sound}
use Rattle.soundness.specs.Answering.{scratch_bytes}
use Rattle.soundness.proofs.Answering.{wrong_book, short_scratch, answers}
use Rattle.sound.proofs.Bits.{after_bits}
use Rattle.sound.proofs.Refusing.{error_told}
use borrow.Author.Rules.{rules}
use Rattle.sound.proofs.check.Goals as goal

-- Yes and no have no number.
none_some : (number : ℕ) → ◌≡◌ {A = Option ℕ} none (some number) → ⊥
none_some number e = let never : ◌≡◌ {A = ℕ} 0 1 = cc in omega arith

pub returns-in_err-book : goal.returns-in_err-book
returns-in_err-book c =
    let p = err_from_is_err_and c.from_residual.result c.from_residual.ensures.1 in
    let nothing = c.in_err-book.ensures.ok_part in
    let told : c.in_err-book.field-0.0 ≡ Refusal.Book = error_told _ _ _ c.in_err-book.ensures.value nothing in
    rw (p.1, p.2, told) record { answer = sym (wrong_book c.args.book.now _ (MatchOption-at_none _ _ nothing c.as_array.ensures.cases)); later = (refl, refl); refused = λ number e. refl }

pub returns-then-scratch-lt-BYTES : goal.returns-then-scratch-lt-BYTES
returns-then-scratch-lt-BYTES c =
    let whole = MatchOption-at_some _ _ _ c.in_ok-book.ensures.ok_part c.as_array.ensures.cases in
    record { answer = sym (short_scratch c.args.book.now _ whole.long c.if-scratch-lt-BYTES.true); later = (refl, refl); refused = λ number e. refl }

pub returns : goal.returns
returns c =
    let args = c.args in
    let whole = MatchOption-at_some _ _ _ c.in_ok-book.ensures.ok_part c.as_array.ensures.cases in
    let long : scratch_bytes ≤ length args.scratch.now = omega arith in
    record { answer = ap Ok (c.is_sound.ensures ∙ ap is_sound whole.same) ∙ sym (answers args.book.now _ whole.long long); later = after_bits c.is_sound.new.bits args.scratch.now (search rules) long; refused = λ number e. absurd (none_some number e) }
