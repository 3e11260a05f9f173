-- `decoder::read_strike` meets its contract: the first field out of range is some field out of range, and then the repeats are tested.
use borrow.Author.Tests.{eq-eqb, ne_eqb}
use mathlib.Core.Path.{sym, ◌∙◌}
use mathlib.Core.Bool.{true≢false}
use Rattle.edits.specs.declared.Edit.TheVariants as Edit
use Rattle.frames.specs.Requests.{strike_in, taken_at}
use Rattle.frames.proofs.Ranges.{first_of, next_of, none_of}
use Rattle.decoder.proofs.Answered.{field_out}
use Rattle.decoder.proofs.Decoded.{refused_10, refused_11, read_as_lem, strike_fits, strike_decoded, strike_repeats}
use Rattle.decoder.proofs.read_strike.Goals as goal

pub returns-in_default : goal.returns-in_default
unfolding strike_in
returns-in_default c = let part = c.args.part.now in
    refused_10 (Edit.Strike (strike_in part))
    (λ h. true≢false (sym (strike_fits (strike_in part) h).passage ∙ field_out _ _ (sym c.passage_field.ensures ∙ c.in_default.is)))

pub returns-in_default-taken_field : goal.returns-in_default-taken_field
unfolding strike_in
returns-in_default-taken_field c = let part = c.args.part.now in
    refused_10 (Edit.Strike (strike_in part))
    (λ h. true≢false (sym (strike_fits (strike_in part) h).taken ∙ field_out _ (taken_at part 4) (sym c.taken_field.ensures ∙ c.in_default-taken_field.is)))

pub returns-in_default-measure_field : goal.returns-in_default-measure_field
unfolding strike_in
returns-in_default-measure_field c = let part = c.args.part.now in
    refused_10 (Edit.Strike (strike_in part))
    (λ h. true≢false (sym (strike_fits (strike_in part) h).measure ∙ field_out _ _ (sym c.measure_field.ensures ∙ c.in_default-measure_field.is)))

pub returns-then-stations : goal.returns-then-stations
returns-then-stations c = let part = c.args.part.now in
    let (same, fits) =
    strike_decoded part c.in-Some.passage c.in-Some-taken_field.taken c.stations_at-stations.result c.in-Some-measure_field.measure
    (sym c.passage_field.ensures ∙ c.in-Some.is)
    (sym c.taken_field.ensures ∙ c.in-Some-taken_field.is)
    c.stations_at-stations.ensures
    (sym c.measure_field.ensures ∙ c.in-Some-measure_field.is) in
    refused_11 _ _ same fits (strike_repeats _ ∙ first_of _ _ (eq-eqb _ _ c.if-stations.true))

pub returns-then-named_twice : goal.returns-then-named_twice
returns-then-named_twice c = let part = c.args.part.now in
    let (same, fits) =
    strike_decoded part c.in-Some.passage c.in-Some-taken_field.taken c.stations_at-stations.result c.in-Some-measure_field.measure
    (sym c.passage_field.ensures ∙ c.in-Some.is)
    (sym c.taken_field.ensures ∙ c.in-Some-taken_field.is)
    c.stations_at-stations.ensures
    (sym c.measure_field.ensures ∙ c.in-Some-measure_field.is) in
    refused_11 _ _ same fits (strike_repeats _ ∙ next_of _ _ _ (ne_eqb _ _ c.if-stations.false) (first_of _ _ (sym c.named_twice.ensures ∙ c.if-named_twice.true)))

pub returns : goal.returns
returns c = let part = c.args.part.now in
    let (same, fits) =
    strike_decoded part c.in-Some.passage c.in-Some-taken_field.taken c.stations_at-stations.result c.in-Some-measure_field.measure
    (sym c.passage_field.ensures ∙ c.in-Some.is)
    (sym c.taken_field.ensures ∙ c.in-Some-taken_field.is)
    c.stations_at-stations.ensures
    (sym c.measure_field.ensures ∙ c.in-Some-measure_field.is) in
    read_as_lem _ _ same fits (strike_repeats _ ∙ next_of _ _ _ (ne_eqb _ _ c.if-stations.false) (next_of _ _ _ (sym c.named_twice.ensures ∙ c.if-named_twice.false) none_of))
