-- `decoder::read_correct` meets its contract: the first field out of range is some field out of range, and then from and to are compared.
use Prim.Native.Nat.{ℕ, ◌+◌}
use borrow.Author.Tests.{eq-eqb, ne_eqb}
use mathlib.Core.Path.{◌≡◌, sym, ap, ◌∙◌}
use mathlib.Core.Bool.{Bool, true, true≢false}
use Rattle.edits.specs.declared.Edit.{Edit}
use Rattle.edits.specs.Ranges.{edit_in_range}
use Rattle.frames.specs.Requests.{correct_with}
use Rattle.frames.specs.Fields.{measure_size, angles_fit_at, measure_read_at, measure_field_at}
use Rattle.decoder.proofs.Answered.{from_one, field_out, measure_if_out, measure_if_in}
use Rattle.decoder.proofs.Decoded.{refused_11, read_as_lem, correct_refused, correct_read_lem, correct_decoded, correct_repeats}
use Rattle.decoder.proofs.read_correct.Goals as goal
use Rattle.decoder.proofs.read_correct.Given.{Over}
use Rattle.decoder.proofs.read_correct.Goals.{In-Some-measure_field-2}

-- Where the second measure stands.
abbrev second : Bool → ℕ
second minutes = 10 + measure_size minutes

-- The edit that is read where each field is in range,
abbrev read_edit : (g : Over) → In-Some-measure_field-2 g → Edit
read_edit g c = Edit.Correct (record {
  passage = c.in-Some.passage;
  leg = c.in-Some-field.leg;
  stations = c.stations_at-stations.result;
  old = c.in-Some-measure_field.old;
  new = c.in-Some-measure_field-2.new;
})

-- and the one that the part holds.
abbrev edit_there : (g : Over) → In-Some-measure_field-2 g → Edit
edit_there g c = Edit.Correct (correct_with (measure_read_at g.U.AngleUnit.minutes c.args.part.now 10) (measure_read_at g.U.AngleUnit.minutes c.args.part.now (second g.U.AngleUnit.minutes)) c.args.part.now)

all_in_range : (g : Over) (c : In-Some-measure_field-2 g)
    → (angles_fit_at g.U.AngleUnit.minutes c.args.part.now 10 ≡ true)
    × (angles_fit_at g.U.AngleUnit.minutes c.args.part.now (second g.U.AngleUnit.minutes) ≡ true)
    × (read_edit g c ≡ edit_there g c)
    × (edit_in_range (edit_there g c) ≡ true)
all_in_range g c =
    let (old_angles, old_measured) = measure_if_in _ _ _ (sym c.measure_field.ensures ∙ c.in-Some-measure_field.is) in
    let (new_angles, new_measured) = measure_if_in (angles_fit_at g.U.AngleUnit.minutes c.args.part.now (second g.U.AngleUnit.minutes)) (measure_read_at g.U.AngleUnit.minutes c.args.part.now (second g.U.AngleUnit.minutes)) _ (ap (λ (size : ℕ). measure_field_at g.U.AngleUnit.minutes c.args.part.now (10 + size)) (sym c.measure_size-second.ensures) ∙ sym c.measure_field-2.ensures ∙ c.in-Some-measure_field-2.is) in
    let (same, fits) =
    correct_decoded c.args.part.now _ _ _ _ _ _ _
    (sym c.passage_field.ensures ∙ c.in-Some.is)
    (from_one c.new.result _ _ c.new.ensures.start c.new.ensures.end c.new.ensures.exhausted ∙ sym c.field.ensures ∙ c.in-Some-field.is)
    c.stations_at-stations.ensures
    old_measured
    new_measured in
    (old_angles, new_angles, same, fits)

pub returns-in_default : goal.returns-in_default
returns-in_default g c = let args = c.args in
    correct_refused g.U.AngleUnit.minutes args.part.now (λ angles fits. true≢false (sym fits.passage ∙ field_out _ _ (sym c.passage_field.ensures ∙ c.in_default.is)))

pub returns-in_default-field : goal.returns-in_default-field
returns-in_default-field g c = let args = c.args in
    correct_refused g.U.AngleUnit.minutes args.part.now (λ angles fits. true≢false (sym fits.leg ∙ field_out _ _ (from_one c.new.result _ _ c.new.ensures.start c.new.ensures.end c.new.ensures.exhausted ∙ sym c.field.ensures ∙ c.in_default-field.is)))

pub returns-in_default-measure_field : goal.returns-in_default-measure_field
returns-in_default-measure_field g c = let args = c.args in
    correct_refused g.U.AngleUnit.minutes args.part.now (λ angles fits. true≢false (sym fits.old ∙ measure_if_out _ _ (sym c.measure_field.ensures ∙ c.in_default-measure_field.is) angles.0))

pub returns-in_default-measure_field-2 : goal.returns-in_default-measure_field-2
returns-in_default-measure_field-2 g c = let args = c.args in
    let told = ap (λ (size : ℕ). measure_field_at g.U.AngleUnit.minutes args.part.now (10 + size)) (sym c.measure_size-second.ensures) ∙ sym c.measure_field-2.ensures ∙ c.in_default-measure_field-2.is in
    correct_refused g.U.AngleUnit.minutes args.part.now (λ angles fits. true≢false (sym fits.new ∙ measure_if_out _ _ told angles.1))

pub returns-then-stations : goal.returns-then-stations
returns-then-stations g c =
    let (old_angles, new_angles, same, fits) = all_in_range g (goal.at.returns-then-stations g c).In-Some-measure_field-2 in
    correct_read_lem g.U.AngleUnit.minutes c.args.part.now old_angles new_angles (refused_11 _ _ same fits (correct_repeats _ ∙ eq-eqb _ _ c.if-stations.true))

pub returns : goal.returns
returns g c =
    let (old_angles, new_angles, same, fits) = all_in_range g (goal.at.returns g c).In-Some-measure_field-2 in
    correct_read_lem g.U.AngleUnit.minutes c.args.part.now old_angles new_angles (read_as_lem _ _ same fits (correct_repeats _ ∙ ne_eqb _ _ c.if-stations.false))
