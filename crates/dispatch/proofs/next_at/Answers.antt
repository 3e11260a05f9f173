-- `dispatch::next_at` meets its contract: a step told by its first bytes, or the next frame, each where there is room.
use Rattle.std.specs.Prelude.{Ok}
use native.Mathlib.Omega.{arith}
use Prim.Native.Nat.{ℕ, ◌+◌, ◌<◌}
use mathlib.Core.Path.{◌≡◌, sym, subst, ◌∙◌}
use lib.ListN.{get_or}
use Rattle.frames.specs.Numbers.{Bytes, number16}
use Rattle.calls.specs.Stream.{NextInside}
use Rattle.std.proofs.lemmas.Result.{err_from_is_err_and}
use Rattle.dispatch.specs.Ahead.{ahead_of, AheadInside}
use Rattle.dispatch.specs.declared.Ahead.TheVariants as Ahead
use Rattle.dispatch.proofs.Steps.{step_there_lem, step_found, step_ahead, full_ahead, end_ahead, other_ahead}
use Rattle.dispatch.proofs.next_at.Goals as goal

-- Two bytes make a number of 16 bits.
low : (input : Bytes) (at : ℕ) → ((k : ℕ) → get_or input k 0 < 256) → number16 input at < 65536
low input at byte = omega (arith, byte at, byte (at + 1))

pub returns-then-room-lt-LONGEST : goal.returns-then-room-lt-LONGEST
returns-then-room-lt-LONGEST c =
    let input = c.args.input.now in
    let there = step_there_lem input c.args.at (low input c.args.at (λ (k : ℕ). omega (arith, c.shared_slice_known-1.given k))) (sym c.is_step_at.ensures ∙ c.if-is_step_at.true) in
    (full_ahead input c.args.at c.args.room _ (step_found input c.args.at there) c.if-room-lt-LONGEST.true, tt)

pub read16-requires : goal.read16-requires
read16-requires c =
    let input = c.args.input.now in
    let there = step_there_lem input c.args.at (low input c.args.at (λ (k : ℕ). omega (arith, c.shared_slice_known-1.given k))) (sym c.is_step_at.ensures ∙ c.if-is_step_at.true) in
    omega (arith, there.inside)

pub returns-then-is_step_at : goal.returns-then-is_step_at
returns-then-is_step_at c =
    let input = c.args.input.now in
    let there = step_there_lem input c.args.at (low input c.args.at (λ (k : ℕ). omega (arith, c.shared_slice_known-1.given k))) (sym c.is_step_at.ensures ∙ c.if-is_step_at.true) in
    subst (λ (t : ℕ). (Ok (Ahead.Step t) ≡ ahead_of input c.args.at c.args.room) × AheadInside input c.args.at c.args.room (Ok (Ahead.Step t))) (sym c.read16.ensures.0)
    (step_ahead input c.args.at there c.args.room c.if-room-lt-LONGEST.false)

pub returns-in_err-size : goal.returns-in_err-size
returns-in_err-size c =
    let p = err_from_is_err_and c.from_residual.result c.from_residual.ensures.1 in
    rw (p.1, p.2) (end_ahead c.args.input.now c.args.at c.args.room _ (sym c.in_err-size.ensures.0), tt)

pub returns-then-room-lt-LONGEST-2 : goal.returns-then-room-lt-LONGEST-2
returns-then-room-lt-LONGEST-2 c = (full_ahead c.args.input.now c.args.at c.args.room _ (sym c.in_ok-size.ensures.0) c.if-room-lt-LONGEST-2.true, tt)

pub returns : goal.returns
returns c =
    let next = c.in_ok-size.ensures in
    other_ahead c.args.input.now c.args.at c.args.room _ (sym c.is_step_at.ensures ∙ c.if-is_step_at.false) (sym next.0) next.1.0 next.1.1 c.if-room-lt-LONGEST-2.false
