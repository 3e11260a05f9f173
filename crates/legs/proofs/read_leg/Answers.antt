-- `legs::read_leg` meets its contract: the figures are read where both words are tested to be a leg's.
use native.Mathlib.Omega.{arith}
use mathlib.Core.Path.{◌≡◌, sym, ap, ◌∙◌}
use Prim.Native.Nat.{◌-◌, ◌/◌}
use mir.Syntax.{w16}
use mir.Val.{to_z, of_z}
use Rattle.std.specs.Prelude.{Some}
use Rattle.legs.specs.Legs.{clino_unit}
use Rattle.legs.specs.Reading.{clino_at}
use Rattle.legs.proofs.Clino.{kept16, clino_in_range_lem}
use Rattle.legs.proofs.Figures.{in_place, in_measure}
use Rattle.legs.proofs.RoundTrip.{reading_no_place, reading_no_measure, reading_is}
use Rattle.legs.proofs.read_leg.Goals as goal
use Rattle.legs.proofs.read_leg.Goals.{then-not-is_place-via-then-not-is_place, then-not-is_place-via-else-not-is_place+then-not-is_measure}

pub returns-then-not-is_place : goal.returns-then-not-is_place
returns-then-not-is_place c = elim c.then-not-is_place.branch [
  | then-not-is_place-via-then-not-is_place w ↦ reading_no_place _ _ (sym w.if-not-is_place.ensures)
  | then-not-is_place-via-else-not-is_place+then-not-is_measure w ↦ reading_no_measure _ _ (sym w.if-not-is_place.ensures) (sym w.if-not-is_measure.ensures)
]

pub overflow_sub-result : goal.overflow_sub-result
overflow_sub-result c = omega (arith, (in_place _ (sym c.if-not-is_place.ensures)).least)

pub overflow_cast-result-3 : goal.overflow_cast-result-3
overflow_cast-result-3 c = let to_fits = (in_place _ (sym c.if-not-is_place.ensures)).to_fits in omega (arith, to_fits)

pub clino_at-requires : goal.clino_at-requires
clino_at-requires c = omega (arith, (in_measure _ (sym c.if-not-is_measure.ensures)).offset_fits)

pub returns : goal.returns
returns c =
    let args = c.args in
    let measure_is = sym c.if-not-is_measure.ensures in
    let clino : to_z w16 (of_z w16 c.clino_at.result) ≡ clino_at (args.measure / clino_unit) =
    ap (λ z. to_z w16 (of_z w16 z)) (c.clino_at.ensures ∙ ap clino_at c.offset_in.ensures) ∙ kept16 _ (clino_in_range_lem _ (in_measure _ measure_is).offset_fits) in
    (λ i. Some (record {
      passage = c.passage_number_in.ensures i - 1;
      stations = record { from = c.from_in.ensures i; to = c.to_in.ensures i };
      measure = record { distance = c.distance_in.ensures i; compass = c.compass_in.ensures i; clino = clino i };
    }))
    ∙ reading_is args.place args.measure (sym c.if-not-is_place.ensures) measure_is
