-- `dispatch::next_frame` meets its contract: the three tests of the definition, in its order.
use Rattle.std.specs.Prelude.{Ok}
use native.Mathlib.Omega.{arith}
use mathlib.Core.Path.{ap, subst, ◌∙◌}
use Prim.Native.Nat.{ℕ, ◌+◌, ◌-◌, ◌<◌, ◌≤◌}
use lib.ListN.{length}
use Rattle.calls.specs.Survey.{longest_field}
use Rattle.calls.proofs.Streaming.{next_short, next_bad, next_torn, next_whole}
use Rattle.dispatch.proofs.next_frame.Goals as goal

pub returns-then-rest-lt-FIELD : goal.returns-then-rest-lt-FIELD
returns-then-rest-lt-FIELD c = (next_short c.args.input.now c.args.at c.if-rest-lt-FIELD.true, tt)

pub returns-then-length : goal.returns-then-length
returns-then-length c =
    let read = c.read16-length.ensures.0 in
    (next_bad c.args.input.now c.args.at c.if-rest-lt-FIELD.false (subst (λ (n : ℕ). longest_field < n) read c.if-length.true), tt)

pub returns-then-rest-size : goal.returns-then-rest-size
returns-then-rest-size c =
    let read = c.read16-length.ensures.0 in
    (next_torn c.args.input.now c.args.at c.if-rest-lt-FIELD.false (subst (λ (n : ℕ). n ≤ longest_field) read c.if-length.false) (subst (λ (n : ℕ). length c.args.input.now - c.args.at < 2 + n) read c.if-rest-size.true), tt)

pub returns : goal.returns
returns c =
    let read = c.read16-length.ensures.0 in
    let inside = c.if-rest-size.false in (
      ap (λ (n : ℕ). Ok (2 + n)) read
          ∙ next_whole c.args.input.now c.args.at c.if-rest-lt-FIELD.false (subst (λ (n : ℕ). n ≤ longest_field) read c.if-length.false) (subst (λ (n : ℕ). 2 + n ≤ length c.args.input.now - c.args.at) read inside),
      (omega arith, omega (arith, c.requires, inside)),
    )
