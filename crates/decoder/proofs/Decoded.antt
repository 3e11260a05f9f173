-- What the fields of an edit are read as, from the answers of the fields and from what repeats.
use Prim.Native.Nat.{ℕ, ◌+◌}
use mathlib.Core.Path.{◌≡◌, refl, sym, ap, ◌∙◌}
use mathlib.Core.List.{List, [], ◌∷◌}
use mathlib.Core.Bool.{Bool, true, false, not, cond}
use lib.Dec.{eqb}
use Rattle.std.specs.Prelude.{Some, Result, Ok, Err}
use Rattle.words.specs.Tests.{all_hold, some_holds}
use Rattle.words.proofs.Tests.{split, join, is_false}
use Rattle.legs.specs.declared.Stations.{Stations}
use Rattle.legs.specs.declared.Measure.{Measure}
use Rattle.legs.specs.Legs.{measure_in_range}
use Rattle.edits.specs.declared.Add.{Add}
use Rattle.edits.specs.declared.Correct.{Correct}
use Rattle.edits.specs.declared.Strike.{Strike}
use Rattle.edits.specs.declared.Move.{Move}
use Rattle.edits.specs.declared.Edit.{Edit}
use Rattle.edits.specs.Ranges.{passage_in_range, leg_number_in_range, leg_or_none_in_range, count_before_add_in_range, count_before_strike_in_range, edit_in_range, edit_repeats, edit_allowed, named_twice, same_station}
use Rattle.frames.specs.declared.Taken.{Taken}
use Rattle.frames.specs.Numbers.{Bytes, number16}
use Rattle.frames.specs.Requests.{stations_at, measure_at, taken_at, add_with, correct_with, strike_in, move_in}
use Rattle.frames.specs.Fields.{field_of, measure_field_of, taken_in_range, taken_field_of, measure_size, measure_read_at, angles_fit_at, edit_read, read_if, add_read, correct_read}
use Rattle.decoder.proofs.Answered.{chosen, field_in, taken_fits, fits_taken}

-- An edit out of range is refused by 10.
pub refused_10 : (edit : Edit) → (edit_in_range edit ≡ true → ⊥) → Err 10 ≡ edit_read edit
unfolding edit_read
refused_10 edit out = simp (is_false (edit_in_range edit) out)

-- So is one whose angles are out of range in minutes.
pub refused_if : (angles : Bool) (edit : Edit) → (angles ≡ true → edit_in_range edit ≡ true → ⊥) → Err 10 ≡ read_if angles edit
refused_if true edit out = refused_10 edit (out refl)
refused_if false edit out = refl

pub read_if_lem : {read : Result Edit ℕ} (angles : Bool) (edit : Edit) → angles ≡ true → read ≡ edit_read edit → read ≡ read_if angles edit
read_if_lem angles edit fit is = is ∙ chosen angles (edit_read edit) (Err 10) fit

-- One in range in which something repeats is refused by 11,
pub refused_11 : (edit there : Edit) → edit ≡ there → edit_in_range there ≡ true → edit_repeats edit ≡ true → Err 11 ≡ edit_read there
unfolding edit_read
refused_11 edit there same fits repeats = simp (fits, sym (ap edit_repeats same) ∙ repeats)

-- and any other is read.
pub read_as_lem : (edit there : Edit) → edit ≡ there → edit_in_range there ≡ true → edit_repeats edit ≡ false → Ok edit ≡ edit_read there
unfolding edit_read
read_as_lem edit there same fits repeats = ap Ok same ∙ simp (fits, sym (ap edit_repeats same) ∙ repeats)

-- What is read is the edit, and neither refusal applies to it.
pub only_allowed : (edit there : Edit) → edit_read edit ≡ Ok there → (edit ≡ there) × (edit_allowed edit ≡ true)
unfolding edit_read all_hold
only_allowed edit there e = by (edit_in_range edit) (edit_repeats edit) e
  where
    by : (fits repeats : Bool) → cond {A = Result Edit ℕ} fits (cond repeats (Err 11) (Ok edit)) (Err 10) ≡ Ok there
        → (edit ≡ there) × (cond fits (cond (not repeats) true false) false ≡ true)
    by true true e = (cc, cc)
    by true false e = (cc, refl)
    by false repeats e = (cc, cc)

-- What repeats in each edit, as its decoder tests it.
pub add_repeats : (e : Add) → edit_repeats (Edit.Add e) ≡ some_holds (same_station e.stations ∷ named_twice (e.leg ∷ e.newest ∷ []) ∷ [])
unfolding edit_repeats
add_repeats e = refl

pub strike_repeats : (e : Strike) → edit_repeats (Edit.Strike e) ≡ some_holds (same_station e.stations ∷ named_twice (e.newer ∷ e.leg ∷ e.older ∷ []) ∷ [])
unfolding edit_repeats
strike_repeats e = refl

pub correct_repeats : (e : Correct) → edit_repeats (Edit.Correct e) ≡ same_station e.stations
unfolding edit_repeats
correct_repeats e = refl

pub move_repeats : (e : Move) → edit_repeats (Edit.Move e) ≡ some_holds (same_station e.stations ∷ eqb e.into e.passage ∷ named_twice (e.newer ∷ e.leg ∷ e.older ∷ e.into_newest ∷ []) ∷ [])
unfolding edit_repeats
move_repeats e = refl

-- Each field of an edit in range is in range.
pub record AddFits (e : Add) : Type 0 where
  pub passage : passage_in_range e.passage ≡ true
  pub leg : leg_number_in_range e.leg ≡ true
  pub newest : leg_or_none_in_range e.newest ≡ true
  pub count : count_before_add_in_range e.count ≡ true
  pub measure : measure_in_range e.measure ≡ true

abbrev add_tests : Add → List Bool
add_tests e = passage_in_range e.passage ∷ leg_number_in_range e.leg ∷ leg_or_none_in_range e.newest ∷ count_before_add_in_range e.count ∷ measure_in_range e.measure ∷ []

pub add_fits : (e : Add) → edit_in_range (Edit.Add e) ≡ true → AddFits e
unfolding edit_in_range
add_fits e h =
    let (passage, (leg, (newest, (count, (measure, u))))) = split (add_tests e) h in
    record { passage = passage; leg = leg; newest = newest; count = count; measure = measure }

pub fits_add : (e : Add) → AddFits e → edit_in_range (Edit.Add e) ≡ true
unfolding edit_in_range
fits_add e fits = join (add_tests e) (fits.passage, (fits.leg, (fits.newest, (fits.count, (fits.measure, tt)))))

-- What Add is read as, in minutes or in hundredths.
pub add_refused : (minutes : Bool) (part : Bytes) → (angles_fit_at minutes part 14 ≡ true → AddFits (add_with (measure_read_at minutes part 14) part) → ⊥) → Err 10 ≡ add_read minutes part
unfolding add_read
add_refused minutes part out = refused_if (angles_fit_at minutes part 14) (Edit.Add (add_with (measure_read_at minutes part 14) part)) (λ angles h. out angles (add_fits (add_with (measure_read_at minutes part 14) part) h))

pub add_read_lem : {read : Result Edit ℕ} (minutes : Bool) (part : Bytes) → angles_fit_at minutes part 14 ≡ true → read ≡ edit_read (Edit.Add (add_with (measure_read_at minutes part 14) part)) → read ≡ add_read minutes part
unfolding add_read
add_read_lem minutes part angles is = read_if_lem (angles_fit_at minutes part 14) (Edit.Add (add_with (measure_read_at minutes part 14) part)) angles is

pub record CorrectFits (e : Correct) : Type 0 where
  pub passage : passage_in_range e.passage ≡ true
  pub leg : leg_number_in_range e.leg ≡ true
  pub old : measure_in_range e.old ≡ true
  pub new : measure_in_range e.new ≡ true

abbrev correct_tests : Correct → List Bool
correct_tests e = passage_in_range e.passage ∷ leg_number_in_range e.leg ∷ measure_in_range e.old ∷ measure_in_range e.new ∷ []

pub correct_fits : (e : Correct) → edit_in_range (Edit.Correct e) ≡ true → CorrectFits e
unfolding edit_in_range
correct_fits e h =
    let (passage, (leg, (old, (new, u)))) = split (correct_tests e) h in
    record { passage = passage; leg = leg; old = old; new = new }

pub fits_correct : (e : Correct) → CorrectFits e → edit_in_range (Edit.Correct e) ≡ true
unfolding edit_in_range
fits_correct e fits = join (correct_tests e) (fits.passage, (fits.leg, (fits.old, (fits.new, tt))))

-- What Correct is read as, likewise.
module _ (minutes : Bool) (part : Bytes) where
  abbrev new_place : ℕ
  new_place = 10 + measure_size minutes

  abbrev correct_there : Correct
  correct_there = correct_with (measure_read_at minutes part 10) (measure_read_at minutes part new_place) part

  abbrev correct_angles : List Bool
  correct_angles = angles_fit_at minutes part 10 ∷ angles_fit_at minutes part new_place ∷ []

  pub correct_refused : ((angles_fit_at minutes part 10 ≡ true) × (angles_fit_at minutes part new_place ≡ true) → CorrectFits correct_there → ⊥) → Err 10 ≡ correct_read minutes part
  unfolding correct_read
  correct_refused out =
      refused_if (all_hold correct_angles) (Edit.Correct correct_there)
      (λ angles h. let (old, (new, u)) = split correct_angles angles in out (old, new) (correct_fits correct_there h))

  pub correct_read_lem : {read : Result Edit ℕ} → angles_fit_at minutes part 10 ≡ true → angles_fit_at minutes part new_place ≡ true → read ≡ edit_read (Edit.Correct correct_there) → read ≡ correct_read minutes part
  unfolding correct_read
  correct_read_lem old new is = read_if_lem (all_hold correct_angles) (Edit.Correct correct_there) (join correct_angles (old, (new, tt))) is

-- The leg that a strike takes out.
abbrev pub struck : Strike → Taken
struck e = record { newer = e.newer; leg = e.leg; older = e.older; count = e.count }

pub record StrikeFits (e : Strike) : Type 0 where
  pub passage : passage_in_range e.passage ≡ true
  pub taken : taken_in_range (struck e) ≡ true
  pub measure : measure_in_range e.measure ≡ true

abbrev strike_tests : Strike → List Bool
strike_tests e =
    passage_in_range e.passage ∷ leg_or_none_in_range e.newer ∷ leg_number_in_range e.leg ∷ leg_or_none_in_range e.older
    ∷ count_before_strike_in_range e.count
    ∷ measure_in_range e.measure
    ∷ []

pub strike_fits : (e : Strike) → edit_in_range (Edit.Strike e) ≡ true → StrikeFits e
unfolding edit_in_range
strike_fits e h =
    let (passage, (newer, (leg, (older, (count, (measure, u)))))) = split (strike_tests e) h in
    record { passage = passage; taken = fits_taken (struck e) (record { newer = newer; leg = leg; older = older; count = count }); measure = measure }

pub fits_strike : (e : Strike) → StrikeFits e → edit_in_range (Edit.Strike e) ≡ true
unfolding edit_in_range
fits_strike e fits =
    let taken = taken_fits (struck e) fits.taken in
    join (strike_tests e) (fits.passage, (taken.newer, (taken.leg, (taken.older, (taken.count, (fits.measure, tt))))))

-- The leg that a move takes out.
abbrev pub moved : Move → Taken
moved e = record { newer = e.newer; leg = e.leg; older = e.older; count = e.count }

pub record MoveFits (e : Move) : Type 0 where
  pub passage : passage_in_range e.passage ≡ true
  pub into : passage_in_range e.into ≡ true
  pub taken : taken_in_range (moved e) ≡ true
  pub newest : leg_or_none_in_range e.into_newest ≡ true
  pub count : count_before_add_in_range e.into_count ≡ true

abbrev move_tests : Move → List Bool
move_tests e =
    passage_in_range e.passage ∷ passage_in_range e.into ∷ leg_or_none_in_range e.newer ∷ leg_number_in_range e.leg ∷ leg_or_none_in_range e.older
    ∷ count_before_strike_in_range e.count
    ∷ leg_or_none_in_range e.into_newest
    ∷ count_before_add_in_range e.into_count
    ∷ []

pub move_fits : (e : Move) → edit_in_range (Edit.Move e) ≡ true → MoveFits e
unfolding edit_in_range
move_fits e h =
    let (passage, (into, (newer, (leg, (older, (count, (newest, (counts, u)))))))) = split (move_tests e) h in
    record { passage = passage; into = into; taken = fits_taken (moved e) (record { newer = newer; leg = leg; older = older; count = count }); newest = newest; count = counts }

pub fits_move : (e : Move) → MoveFits e → edit_in_range (Edit.Move e) ≡ true
unfolding edit_in_range
fits_move e fits =
    let taken = taken_fits (moved e) fits.taken in
    join (move_tests e) (fits.passage, (fits.into, (taken.newer, (taken.leg, (taken.older, (taken.count, (fits.newest, (fits.count, tt))))))))

-- Answers that are all in range are those of an edit in range, and their values are its fields.
pub add_decoded : (part : Bytes) (there : Measure) (passage leg newest count : ℕ) (stations : Stations) (measure : Measure)
    → field_of (passage_in_range (number16 part 2)) (number16 part 2) ≡ Some passage
    → field_of (leg_number_in_range (number16 part 4)) (number16 part 4) ≡ Some leg
    → field_of (leg_or_none_in_range (number16 part 6)) (number16 part 6) ≡ Some newest
    → field_of (count_before_add_in_range (number16 part 8)) (number16 part 8) ≡ Some count
    → stations ≡ stations_at part 10
    → measure_field_of there ≡ Some measure
    → (Edit.Add (record { passage = passage; leg = leg; newest = newest; count = count; stations = stations; measure = measure }) ≡ Edit.Add (add_with there part)) × (edit_in_range (Edit.Add (add_with there part)) ≡ true)
add_decoded part there passage leg newest count stations measure e1 e2 e3 e4 e5 e6 =
    let (passage_fits, p) = field_in _ _ passage e1 in
    let (leg_fits, l) = field_in _ _ leg e2 in
    let (newest_fits, n) = field_in _ _ newest e3 in
    let (count_fits, c) = field_in _ _ count e4 in
    let (measure_fits_lem, m) = field_in _ _ measure e6 in (
      λ i. Edit.Add (record { passage = sym p i; leg = sym l i; newest = sym n i; count = sym c i; stations = e5 i; measure = sym m i }),
      fits_add (add_with there part) (record { passage = passage_fits; leg = leg_fits; newest = newest_fits; count = count_fits; measure = measure_fits_lem }),
    )

pub correct_decoded : (part : Bytes) (old_there new_there : Measure) (passage leg : ℕ) (stations : Stations) (old new : Measure)
    → field_of (passage_in_range (number16 part 2)) (number16 part 2) ≡ Some passage
    → field_of (leg_number_in_range (number16 part 4)) (number16 part 4) ≡ Some leg
    → stations ≡ stations_at part 6
    → measure_field_of old_there ≡ Some old
    → measure_field_of new_there ≡ Some new
    → (Edit.Correct (record { passage = passage; leg = leg; stations = stations; old = old; new = new }) ≡ Edit.Correct (correct_with old_there new_there part)) × (edit_in_range (Edit.Correct (correct_with old_there new_there part)) ≡ true)
correct_decoded part old_there new_there passage leg stations old new e1 e2 e3 e4 e5 =
    let (passage_fits, p) = field_in _ _ passage e1 in
    let (leg_fits, l) = field_in _ _ leg e2 in
    let (old_fits, o) = field_in _ _ old e4 in
    let (new_fits, n) = field_in _ _ new e5 in (
      λ i. Edit.Correct (record { passage = sym p i; leg = sym l i; stations = e3 i; old = sym o i; new = sym n i }),
      fits_correct (correct_with old_there new_there part) (record { passage = passage_fits; leg = leg_fits; old = old_fits; new = new_fits }),
    )

pub strike_decoded : (part : Bytes) (passage : ℕ) (taken : Taken) (stations : Stations) (measure : Measure)
    → field_of (passage_in_range (number16 part 2)) (number16 part 2) ≡ Some passage
    → taken_field_of (taken_at part 4) ≡ Some taken
    → stations ≡ stations_at part 12
    → measure_field_of (measure_at part 16) ≡ Some measure
    → (Edit.Strike (record { passage = passage; newer = taken.newer; leg = taken.leg; older = taken.older; count = taken.count; stations = stations; measure = measure }) ≡ Edit.Strike (strike_in part)) × (edit_in_range (Edit.Strike (strike_in part)) ≡ true)
unfolding strike_in
strike_decoded part passage taken stations measure e1 e2 e3 e4 =
    let (passage_fits, p) = field_in _ _ passage e1 in
    let (taken_fits, t) = field_in _ _ taken e2 in
    let (measure_fits_lem, m) = field_in _ _ measure e4 in (
      λ i. Edit.Strike (record { passage = sym p i; newer = (sym t i).newer; leg = (sym t i).leg; older = (sym t i).older; count = (sym t i).count; stations = e3 i; measure = sym m i }),
      fits_strike (strike_in part) (record { passage = passage_fits; taken = taken_fits; measure = measure_fits_lem }),
    )

pub move_decoded : (part : Bytes) (passage into : ℕ) (taken : Taken) (newest count : ℕ) (stations : Stations)
    → field_of (passage_in_range (number16 part 2)) (number16 part 2) ≡ Some passage
    → field_of (passage_in_range (number16 part 4)) (number16 part 4) ≡ Some into
    → taken_field_of (taken_at part 6) ≡ Some taken
    → field_of (leg_or_none_in_range (number16 part 14)) (number16 part 14) ≡ Some newest
    → field_of (count_before_add_in_range (number16 part 16)) (number16 part 16) ≡ Some count
    → stations ≡ stations_at part 18
    → (Edit.Move (record { passage = passage; into = into; newer = taken.newer; leg = taken.leg; older = taken.older; count = taken.count; into_newest = newest; into_count = count; stations = stations }) ≡ Edit.Move (move_in part)) × (edit_in_range (Edit.Move (move_in part)) ≡ true)
unfolding move_in
move_decoded part passage into taken newest count stations e1 e2 e3 e4 e5 e6 =
    let (passage_fits, p) = field_in _ _ passage e1 in
    let (into_fits, q) = field_in _ _ into e2 in
    let (taken_fits, t) = field_in _ _ taken e3 in
    let (newest_fits, n) = field_in _ _ newest e4 in
    let (count_fits, c) = field_in _ _ count e5 in (
      λ i. Edit.Move (record { passage = sym p i; into = sym q i; newer = (sym t i).newer; leg = (sym t i).leg; older = (sym t i).older; count = (sym t i).count; into_newest = sym n i; into_count = sym c i; stations = e6 i }),
      fits_move (move_in part) (record { passage = passage_fits; into = into_fits; taken = taken_fits; newest = newest_fits; count = count_fits }),
    )
