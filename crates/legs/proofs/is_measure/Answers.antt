-- `legs::is_measure` meets its contract: each early return meets a condition that a measure cannot fail.
use Prim.Native.Nat.{ℕ, ◌*◌, ◌/◌, ◌≤◌}
use native.Mathlib.Omega.{arith}
use mathlib.Core.Path.{◌≡◌, sym, ap, ◌∙◌}
use mathlib.Core.Bool.{Bool, not}
use lib.IntN.{ℤ}
use mir.Syntax.{w16}
use mir.Val.{to_z, of_z}
use Rattle.legs.specs.Legs.{clino_unit, steepest_clino, is_plumb}
use Rattle.legs.specs.Reading.{clino_at}
use Rattle.legs.proofs.Clino.{kept16, clino_in_range_lem}
use Rattle.legs.proofs.Figures.{no_measure, measure_plumb, measure_sloping}
use Rattle.legs.proofs.is_measure.Goals as goal

-- Whether the clino of an offset is plumb is seen in its 16 bits.
told : (plumb : Bool) (measure offset : ℕ) (clino : ℤ) → offset ≤ 2 * steepest_clino → offset ≡ measure / clino_unit → clino ≡ clino_at offset → plumb ≡ is_plumb (to_z w16 (of_z w16 clino))
    → is_plumb (clino_at (measure / clino_unit)) ≡ plumb
told plumb measure offset clino most is same tested =
    let kept : to_z w16 (of_z w16 clino) ≡ clino_at (measure / clino_unit) =
    ap (λ z. to_z w16 (of_z w16 z)) same ∙ kept16 (clino_at offset) (clino_in_range_lem offset most) ∙ ap clino_at is in
    sym (tested ∙ ap is_plumb kept)

pub returns-then-not-contains : goal.returns-then-not-contains
returns-then-not-contains c = sym (no_measure c.args.measure (λ l. grind (arith, l.least, l.most)))

pub returns-then-compass-gt-LAST_COMPASS : goal.returns-then-compass-gt-LAST_COMPASS
returns-then-compass-gt-LAST_COMPASS c = sym (no_measure c.args.measure (λ l. omega (arith, l.compass_fits)))

pub returns-then-offset : goal.returns-then-offset
returns-then-offset c = sym (no_measure c.args.measure (λ l. omega (arith, l.offset_fits)))

pub returns-then-not-is_plumb : goal.returns-then-not-is_plumb
returns-then-not-is_plumb c =
    let plumb = told _ _ _ _ c.if-offset.false c.offset_in-offset.ensures c.clino_at.ensures c.is_plumb.ensures in
    ap not c.if-not-is_plumb.true ∙ measure_sloping c.args.measure (grind arith) (grind arith) (omega arith) (omega arith) (plumb ∙ c.if-not-is_plumb.true)

pub returns-else-not-is_plumb : goal.returns-else-not-is_plumb
returns-else-not-is_plumb c =
    let plumb = told _ _ _ _ c.if-offset.false c.offset_in-offset.ensures c.clino_at.ensures c.is_plumb.ensures in
    rw c.compass_in-compass.ensures
    (measure_plumb c.args.measure (grind arith) (grind arith) (omega arith) (omega arith) (plumb ∙ c.if-not-is_plumb.false))
