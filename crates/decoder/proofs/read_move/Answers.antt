-- `decoder::read_move` meets its contract: the first field out of range is some field out of range, and then the repeats are tested.
use borrow.Author.Tests.{eq-eqb, ne_eqb}
use mathlib.Core.Path.{◌≡◌, sym, ◌∙◌}
use mathlib.Core.Bool.{true, true≢false}
use Rattle.edits.specs.declared.Edit.{Edit}
use Rattle.edits.specs.Ranges.{edit_in_range}
use mathlib.Core.Logic.{⊎_elim}
use Rattle.frames.specs.Requests.{move_in, taken_at}
use Rattle.frames.proofs.Ranges.{first_of, next_of, none_of}
use Rattle.decoder.proofs.Answered.{up_to, field_out}
use Rattle.decoder.proofs.Decoded.{refused_10, refused_11, read_as_lem, move_fits, move_decoded, move_repeats}
use Rattle.decoder.proofs.read_move.Goals as goal
use Rattle.decoder.proofs.read_move.Goals.{After-stations_at-stations}

-- The edit that is read where each field is in range.
abbrev read_edit : After-stations_at-stations → Edit
read_edit c = Edit.Move (record {
  passage = c.in-Some.passage;
  into = c.in-Some-passage_field.into;
  newer = c.in-Some-taken_field.taken.newer;
  leg = c.in-Some-taken_field.taken.leg;
  older = c.in-Some-taken_field.taken.older;
  count = c.in-Some-taken_field.taken.count;
  into_newest = c.in-Some-field.newest;
  into_count = c.in-Some-field-2.count;
  stations = c.stations_at-stations.result;
})

all_in_range : (c : After-stations_at-stations) → (read_edit c ≡ Edit.Move (move_in c.args.part.now)) × (edit_in_range (Edit.Move (move_in c.args.part.now)) ≡ true)
all_in_range c =
    move_decoded c.args.part.now _ _ _ _ _ _
    (sym c.passage_field.ensures ∙ c.in-Some.is)
    (sym c.passage_field-2.ensures ∙ c.in-Some-passage_field.is)
    (sym c.taken_field.ensures ∙ c.in-Some-taken_field.is)
    (up_to c.new.result _ _ c.new.ensures.start c.new.ensures.end c.new.ensures.exhausted ∙ sym c.field.ensures ∙ c.in-Some-field.is)
    (up_to c.new-2.result _ _ c.new-2.ensures.start c.new-2.ensures.end c.new-2.ensures.exhausted ∙ sym c.field-2.ensures ∙ c.in-Some-field-2.is)
    c.stations_at-stations.ensures

pub returns-in_default : goal.returns-in_default
unfolding move_in
returns-in_default c = let part = c.args.part.now in
    refused_10 (Edit.Move (move_in part))
    (λ h. true≢false (sym (move_fits (move_in part) h).passage ∙ field_out _ _ (sym c.passage_field.ensures ∙ c.in_default.is)))

pub returns-in_default-passage_field : goal.returns-in_default-passage_field
unfolding move_in
returns-in_default-passage_field c = let part = c.args.part.now in
    refused_10 (Edit.Move (move_in part))
    (λ h. true≢false (sym (move_fits (move_in part) h).into ∙ field_out _ _ (sym c.passage_field-2.ensures ∙ c.in_default-passage_field.is)))

pub returns-in_default-taken_field : goal.returns-in_default-taken_field
unfolding move_in
returns-in_default-taken_field c = let part = c.args.part.now in
    refused_10 (Edit.Move (move_in part))
    (λ h. true≢false (sym (move_fits (move_in part) h).taken ∙ field_out _ (taken_at part 6) (sym c.taken_field.ensures ∙ c.in_default-taken_field.is)))

pub returns-in_default-field : goal.returns-in_default-field
unfolding move_in
returns-in_default-field c = let part = c.args.part.now in
    refused_10 (Edit.Move (move_in part))
    (λ h. true≢false (sym (move_fits (move_in part) h).newest ∙ field_out _ _ (up_to c.new.result _ _ c.new.ensures.start c.new.ensures.end c.new.ensures.exhausted ∙ sym c.field.ensures ∙ c.in_default-field.is)))

pub returns-in_default-field-2 : goal.returns-in_default-field-2
unfolding move_in
returns-in_default-field-2 c = let part = c.args.part.now in
    refused_10 (Edit.Move (move_in part))
    (λ h. true≢false (sym (move_fits (move_in part) h).count ∙ field_out _ _ (up_to c.new-2.result _ _ c.new-2.ensures.start c.new-2.ensures.end c.new-2.ensures.exhausted ∙ sym c.field-2.ensures ∙ c.in_default-field-2.is)))

pub returns-then-stations : goal.returns-then-stations
returns-then-stations c =
    let (same, fits) = all_in_range (goal.at.returns-then-stations c).After-stations_at-stations in
    refused_11 _ _ same fits (move_repeats _ ∙ ⊎_elim (λ w. first_of _ _ (eq-eqb _ _ w)) (λ w. next_of _ _ _ (ne_eqb _ _ w.0) (first_of _ _ (eq-eqb _ _ w.1))) c.then-stations.either)

pub returns-then-named_twice : goal.returns-then-named_twice
returns-then-named_twice c =
    let (same, fits) = all_in_range (goal.at.returns-then-named_twice c).After-stations_at-stations in
    refused_11 _ _ same fits (move_repeats _ ∙ next_of _ _ _ (ne_eqb _ _ c.if-stations.false) (next_of _ _ _ (ne_eqb _ _ c.if-into-passage.false) (first_of _ _ (sym c.named_twice.ensures ∙ c.if-named_twice.true))))

pub returns : goal.returns
returns c =
    let (same, fits) = all_in_range (goal.at.returns c).After-stations_at-stations in
    read_as_lem _ _ same fits (move_repeats _ ∙ next_of _ _ _ (ne_eqb _ _ c.if-stations.false) (next_of _ _ _ (ne_eqb _ _ c.if-into-passage.false) (next_of _ _ _ (sym c.named_twice.ensures ∙ c.if-named_twice.false) none_of)))
