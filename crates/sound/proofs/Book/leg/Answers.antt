-- `sound::Book::leg` meets its contract.
use Prim.Native.Nat.{◌≤◌}
use native.Mathlib.Omega.{arith}
use borrow.Author.Rules.{rules}
use Rattle.words.specs.Tests.{within}
use Rattle.words.specs.Words.{last_leg_in}
use Rattle.words.proofs.Tests.{is_false}
use Rattle.soundness.proofs.Walking.{in_number}
use Rattle.sound.proofs.Book.leg.Goals as goal

pub returns-then-not-contains : goal.returns-then-not-contains
returns-then-not-contains c =
    let number = c.args.number in
    is_false (within 1 (last_leg_in c.args.self.layout) number) (λ e.
    let fits = in_number c.args.self.layout number e in
    let no : (1 ≤ number) × (number ≤ c.from.result) → ⊥ = search rules in
    no (fits.0, omega (arith, fits.1, c.last_leg_in.ensures, c.from.ensures)))
