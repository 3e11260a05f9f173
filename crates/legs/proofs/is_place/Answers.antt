-- `legs::is_place` meets its contract: each early return meets a condition that a place cannot fail.
use native.Mathlib.Omega.{arith}
use mathlib.Core.Path.{sym}
use Rattle.legs.proofs.Figures.{no_place, place_differs}
use Rattle.legs.proofs.is_place.Goals as goal

pub returns-then-not-contains : goal.returns-then-not-contains
returns-then-not-contains c = sym (no_place c.args.place (λ l. grind (arith, l.least, l.most)))

pub returns-then-to-gt-LAST : goal.returns-then-to-gt-LAST
returns-then-to-gt-LAST c = sym (no_place c.args.place (λ l. omega (arith, l.to_fits)))

pub returns : goal.returns
returns c =
    rw (c.from_in-from.ensures, c.to_in-to.ensures)
    (place_differs c.args.place (grind arith) (grind arith) (omega arith))
