-- `decoder::read_add` meets its contract: the first field out of range is some field out of range, and then the repeats are tested.
use borrow.Author.Tests.{eq-eqb, ne_eqb}
use mathlib.Core.Path.{◌≡◌, sym, ◌∙◌}
use mathlib.Core.Bool.{true, true≢false}
use Rattle.edits.specs.declared.Edit.{Edit}
use Rattle.edits.specs.Ranges.{edit_in_range}
use Rattle.frames.specs.Requests.{add_with}
use Rattle.frames.specs.Fields.{angles_fit_at, measure_read_at}
use Rattle.frames.proofs.Ranges.{first_of, next_of, none_of}
use Rattle.decoder.proofs.Answered.{up_to, from_one, field_out, measure_if_out, measure_if_in}
use Rattle.decoder.proofs.Decoded.{refused_11, read_as_lem, add_refused, add_read_lem, add_decoded, add_repeats}
use Rattle.decoder.proofs.read_add.Goals as goal
use Rattle.decoder.proofs.read_add.Given.{Over}
use Rattle.decoder.proofs.read_add.Goals.{In-Some-measure_field}

-- The edit that is read where each field is in range,
abbrev read_edit : (g : Over) → In-Some-measure_field g → Edit
read_edit g c = Edit.Add (record {
  passage = c.in-Some.passage;
  leg = c.in-Some-field.leg;
  newest = c.in-Some-field-2.newest;
  count = c.in-Some-field-3.count;
  stations = c.stations_at-stations.result;
  measure = c.in-Some-measure_field.measure;
})

-- and the one that the part holds.
abbrev edit_there : (g : Over) → In-Some-measure_field g → Edit
edit_there g c = Edit.Add (add_with (measure_read_at g.U.AngleUnit.minutes c.args.part.now 14) c.args.part.now)

all_in_range : (g : Over) (c : In-Some-measure_field g) → (angles_fit_at g.U.AngleUnit.minutes c.args.part.now 14 ≡ true) × (read_edit g c ≡ edit_there g c) × (edit_in_range (edit_there g c) ≡ true)
all_in_range g c =
    let (angles, measured) = measure_if_in _ _ _ (sym c.measure_field.ensures ∙ c.in-Some-measure_field.is) in
    let (same, fits) =
    add_decoded c.args.part.now _ _ _ _ _ _ _
    (sym c.passage_field.ensures ∙ c.in-Some.is)
    (from_one c.new.result _ _ c.new.ensures.start c.new.ensures.end c.new.ensures.exhausted ∙ sym c.field.ensures ∙ c.in-Some-field.is)
    (up_to c.new-2.result _ _ c.new-2.ensures.start c.new-2.ensures.end c.new-2.ensures.exhausted ∙ sym c.field-2.ensures ∙ c.in-Some-field-2.is)
    (up_to c.new-3.result _ _ c.new-3.ensures.start c.new-3.ensures.end c.new-3.ensures.exhausted ∙ sym c.field-3.ensures ∙ c.in-Some-field-3.is)
    c.stations_at-stations.ensures
    measured in
    (angles, same, fits)

pub returns-in_default : goal.returns-in_default
returns-in_default g c = let args = c.args in
    add_refused g.U.AngleUnit.minutes args.part.now (λ angles fits. true≢false (sym fits.passage ∙ field_out _ _ (sym c.passage_field.ensures ∙ c.in_default.is)))

pub returns-in_default-field : goal.returns-in_default-field
returns-in_default-field g c = let args = c.args in
    add_refused g.U.AngleUnit.minutes args.part.now (λ angles fits. true≢false (sym fits.leg ∙ field_out _ _ (from_one c.new.result _ _ c.new.ensures.start c.new.ensures.end c.new.ensures.exhausted ∙ sym c.field.ensures ∙ c.in_default-field.is)))

pub returns-in_default-field-2 : goal.returns-in_default-field-2
returns-in_default-field-2 g c = let args = c.args in
    add_refused g.U.AngleUnit.minutes args.part.now (λ angles fits. true≢false (sym fits.newest ∙ field_out _ _ (up_to c.new-2.result _ _ c.new-2.ensures.start c.new-2.ensures.end c.new-2.ensures.exhausted ∙ sym c.field-2.ensures ∙ c.in_default-field-2.is)))

pub returns-in_default-field-3 : goal.returns-in_default-field-3
returns-in_default-field-3 g c = let args = c.args in
    add_refused g.U.AngleUnit.minutes args.part.now (λ angles fits. true≢false (sym fits.count ∙ field_out _ _ (up_to c.new-3.result _ _ c.new-3.ensures.start c.new-3.ensures.end c.new-3.ensures.exhausted ∙ sym c.field-3.ensures ∙ c.in_default-field-3.is)))

pub returns-in_default-measure_field : goal.returns-in_default-measure_field
returns-in_default-measure_field g c = let args = c.args in
    add_refused g.U.AngleUnit.minutes args.part.now (λ angles fits. true≢false (sym fits.measure ∙ measure_if_out _ _ (sym c.measure_field.ensures ∙ c.in_default-measure_field.is) angles))

pub returns-then-stations : goal.returns-then-stations
returns-then-stations g c =
    let (angles, same, fits) = all_in_range g (goal.at.returns-then-stations g c).In-Some-measure_field in
    add_read_lem g.U.AngleUnit.minutes c.args.part.now angles (refused_11 _ _ same fits (add_repeats _ ∙ first_of _ _ (eq-eqb _ _ c.if-stations.true)))

pub returns-then-named_twice : goal.returns-then-named_twice
returns-then-named_twice g c =
    let (angles, same, fits) = all_in_range g (goal.at.returns-then-named_twice g c).In-Some-measure_field in
    add_read_lem g.U.AngleUnit.minutes c.args.part.now angles (refused_11 _ _ same fits (add_repeats _ ∙ next_of _ _ _ (ne_eqb _ _ c.if-stations.false) (first_of _ _ (sym c.named_twice.ensures ∙ c.if-named_twice.true))))

pub returns : goal.returns
returns g c =
    let (angles, same, fits) = all_in_range g (goal.at.returns g c).In-Some-measure_field in
    add_read_lem g.U.AngleUnit.minutes c.args.part.now angles (read_as_lem _ _ same fits (add_repeats _ ∙ next_of _ _ _ (ne_eqb _ _ c.if-stations.false) (next_of _ _ _ (sym c.named_twice.ensures ∙ c.if-named_twice.false) none_of)))
