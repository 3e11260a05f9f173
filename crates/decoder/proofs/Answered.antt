-- What each field's answer says of its value, and what the fields of M and of a leg taken out say together.
use Prim.Native.Nat.{ℕ, ◌≤◌}
use mathlib.Core.Path.{◌≡◌, refl, sym, ap, subst, ◌∙◌}
use mathlib.Core.List.{List, [], ◌∷◌}
use mathlib.Core.Bool.{Bool, true, false, cond, ◌&&◌, false≢true}
use native.Mathlib.Omega.{arith}
use native.Mathlib.Decide.{ℕ_discrete}
use mir.Syntax.{w16}
use mir.Val.{to_z, of_z}
use borrow.Author.Tests.{leb-true, le-leb, eq-eqb, ne_eqb}
use lib.Dec.{eqb, leb}
use lib.IntN.{ℤ}
use Rattle.std.specs.Prelude.{Option, Some, None}
use Rattle.std.specs.declared.cmp.Ordering.{Ordering}
use Rattle.std.specs.Ordering.{nat_cmp, partial_le, partial_lt}
use Rattle.std.specs.declared.ops.RangeInclusive.{RangeInclusive}
use Rattle.std.specs.Range.{range_inclusive_start, range_inclusive_end, range_inclusive_exhausted, range_inclusive_contains}
use Rattle.std.proofs.lemmas.Bool.Decides.{nat_tests}
use Rattle.words.specs.Tests.{all_hold, within}
use Rattle.words.proofs.Tests.{split, join, is_false, failed_test}
use Rattle.legs.specs.declared.Measure.{Measure}
use Rattle.legs.specs.Legs.{longest_distance, last_compass, steepest_clino, clino_in_range, measure_in_range}
use Rattle.legs.specs.Minutes.{Minutes, minutes_of, hundredths_of, signed_by, compass_angle_in_range, clino_angle_in_range, angles_in_range, rounded}
use Rattle.legs.proofs.Ranges.{measure_fits_lem}
use Rattle.legs.proofs.Clino.{kept16}
use Rattle.legs.proofs.Minutes.{steep_fits, rounded_in_range}
use Rattle.edits.specs.Ranges.{leg_number_in_range, leg_or_none_in_range, count_before_strike_in_range}
use Rattle.frames.specs.declared.Taken.{Taken}
use Rattle.frames.specs.Numbers.{Bytes, number32}
use Rattle.frames.specs.Requests.{measure_at, minutes_at}
use Rattle.frames.specs.Fields.{field_of, field_of, measure_field_of, clino_minutes_field_of, measure_field_if, minutes_field_of, measure_field_at, taken_in_range, taken_field_of}
use Rattle.frames.proofs.Ranges.{within_in}
use Rattle.decoder.specs.Angles.{compass_field_at, clino_field_at}

-- A choice by a test that is known.
pub chosen : {A : Type 0} (test : Bool) (x y : A) → test ≡ true → x ≡ cond test x y
chosen true x y h = refl
chosen false x y h = absurd (false≢true h)

pub not_chosen : {A : Type 0} (test : Bool) (x y : A) → test ≡ false → y ≡ cond test x y
not_chosen true x y h = absurd (false≢true (sym h))
not_chosen false x y h = refl

-- A field out of range failed its test; one in range passed it, and its value is the field's.
pub field_out : {A : Type 0} (test : Bool) (value : A) → field_of test value ≡ None → test ≡ false
field_out true value e = cc
field_out false value e = refl

pub field_in : {A : Type 0} (test : Bool) (value given : A) → field_of test value ≡ Some given → (test ≡ true) × (value ≡ given)
field_in true value given e = (refl, cc)
field_in false value given e = (cc, cc)

-- What the library tests of a range is the definition's test, from 0 or from 1 on: a field is the same by either.
abbrev compared : ℕ → ℕ → Option Ordering
compared x y = Some (nat_cmp x y)

both_ends : (x least most : ℕ) → (partial_le compared least x && partial_le compared x most) ≡ within least most x
unfolding all_hold
both_ends x least most = grind (arith, nat_tests)

one_end : (x most : ℕ) → (partial_le compared 0 x && partial_le compared x most) ≡ leb x most
one_end x most = grind (arith, nat_tests)

module _ (range : RangeInclusive ℕ) (x most : ℕ) where
  tested : (least : ℕ) → range_inclusive_start range ≡ least → range_inclusive_end range ≡ most → range_inclusive_exhausted range ≡ false
      → range_inclusive_contains compared range x ≡ (partial_le compared least x && partial_le compared x most)
  tested least start end left = λ i. partial_le compared (start i) x && cond (left i) (partial_lt compared x (end i)) (partial_le compared x (end i))

  pub up_to : range_inclusive_start range ≡ 0 → range_inclusive_end range ≡ most → range_inclusive_exhausted range ≡ false
      → field_of (leb x most) x ≡ field_of (range_inclusive_contains compared range x) x
  up_to start end left = ap (λ (test : Bool). field_of test x) (sym (tested 0 start end left ∙ one_end x most))

  pub from_one : range_inclusive_start range ≡ 1 → range_inclusive_end range ≡ most → range_inclusive_exhausted range ≡ false
      → field_of (within 1 most x) x ≡ field_of (range_inclusive_contains compared range x) x
  from_one start end left = ap (λ (test : Bool). field_of test x) (sym (tested 1 start end left ∙ both_ends x 1 most))

-- A field up to a bound, in range.
pub bounded_in : (value most given : ℕ) → field_of (leb value most) value ≡ Some given → (leb value most ≡ true) × (value ≡ given) × (given ≤ most)
bounded_in value most given e =
    let (fits, is) = field_in (leb value most) value given e in
    (fits, is, subst (λ (n : ℕ). n ≤ most) is (leb-true value most fits))

-- M is out of range where one of its fields is, and in range where all three are.
pub no_measure_distance : (measure : Measure) → within 1 longest_distance measure.distance ≡ false → measure_in_range measure ≡ false
no_measure_distance measure e =
    is_false _ (λ h. let fits = measure_fits_lem measure h in false≢true (sym e ∙ within_in 1 longest_distance measure.distance fits.distance_least fits.distance_most))

pub no_measure_compass : (measure : Measure) → leb measure.compass last_compass ≡ false → measure_in_range measure ≡ false
no_measure_compass measure e =
    is_false _ (λ h. false≢true (sym e ∙ le-leb measure.compass last_compass (measure_fits_lem measure h).compass_fits))

pub no_measure_clino : (measure : Measure) → clino_in_range measure.clino ≡ false → measure_in_range measure ≡ false
no_measure_clino measure e = is_false _ (λ h. false≢true (sym e ∙ (measure_fits_lem measure h).clino_fits))

pub all_measure : (measure : Measure) → within 1 longest_distance measure.distance ≡ true → leb measure.compass last_compass ≡ true → clino_in_range measure.clino ≡ true → measure_in_range measure ≡ true
unfolding measure_in_range
all_measure measure distance compass clino =
    join (within 1 longest_distance measure.distance ∷ leb measure.compass last_compass ∷ clino_in_range measure.clino ∷ []) (distance, (compass, (clino, tt)))

-- The fields of a clino in minutes, which is in range where all are.
pub record ClinoAngleFits (sign degrees minutes : ℕ) : Type 0 where
  pub sign_fits : leb sign 1 ≡ true
  pub degrees_fit : leb degrees 90 ≡ true
  pub minutes_fit_lem : leb minutes 59 ≡ true
  pub steepness : leb (minutes_of degrees minutes) (minutes_of 90 0) ≡ true

abbrev clino_tests : ℕ → ℕ → ℕ → List Bool
clino_tests sign degrees minutes = leb sign 1 ∷ leb degrees 90 ∷ leb minutes 59 ∷ leb (minutes_of degrees minutes) (minutes_of 90 0) ∷ []

pub clino_angle_out : (sign degrees minutes : ℕ) → (ClinoAngleFits sign degrees minutes → ⊥) → None ≡ clino_minutes_field_of sign degrees minutes
clino_angle_out sign degrees minutes out =
    not_chosen (clino_angle_in_range sign degrees minutes) (Some (signed_by sign (hundredths_of degrees minutes))) None
    (is_false _ (λ h.
    let (s, (d, (m, (t, u)))) = split (clino_tests sign degrees minutes) h in
    out (record { sign_fits = s; degrees_fit = d; minutes_fit_lem = m; steepness = t })))

-- Of so many degrees the minutes may go up to the last: they are below 60, and the angle is not over 90 degrees.
abbrev pub last_minute : ℕ → ℕ
last_minute degrees = cond (eqb degrees 90) 0 59

minute_fits : (degrees minutes : ℕ) → leb degrees 90 ≡ true → leb minutes (last_minute degrees) ≡ true → (leb minutes 59 ≡ true) × (leb (minutes_of degrees minutes) (minutes_of 90 0) ≡ true)
minute_fits degrees minutes d m = elim (ℕ_discrete degrees 90) [
  | yes ninety ↦
      let least = leb-true minutes 0 (rw (eq-eqb degrees 90 ninety) at m) in
      (le-leb minutes 59 (omega (arith, least)), le-leb (minutes_of degrees minutes) (minutes_of 90 0) (omega (arith, least, ninety)))
  | no other ↦
      let most = leb-true minutes 59 (rw (ne_eqb degrees 90 other) at m) in
      let below = leb-true degrees 90 d in
      (le-leb minutes 59 most, le-leb (minutes_of degrees minutes) (minutes_of 90 0) (omega (arith, most, below, other)))
]

pub minute_out : (sign degrees minutes d last : ℕ) → degrees ≡ d → last ≡ last_minute d → leb minutes last ≡ false → ClinoAngleFits sign degrees minutes → ⊥
minute_out sign degrees minutes d last same is over fits =
    let out : leb minutes (last_minute degrees) ≡ false = ap (λ (l : ℕ). leb minutes l) (ap last_minute same ∙ sym is) ∙ over in elim (ℕ_discrete degrees 90) [
      | yes ninety ↦
          let steep = leb-true (minutes_of degrees minutes) (minutes_of 90 0) fits.steepness in
          false≢true (sym (rw (eq-eqb degrees 90 ninety) at out) ∙ le-leb minutes 0 (omega (arith, steep, ninety)))
      | no other ↦ false≢true (sym (rw (ne_eqb degrees 90 other) at out) ∙ fits.minutes_fit_lem)
    ]

clino_angle_in : (sign degrees minutes : ℕ) → ClinoAngleFits sign degrees minutes → Some (signed_by sign (hundredths_of degrees minutes)) ≡ clino_minutes_field_of sign degrees minutes
clino_angle_in sign degrees minutes fits =
    chosen (clino_angle_in_range sign degrees minutes) (Some (signed_by sign (hundredths_of degrees minutes))) None
    (join (clino_tests sign degrees minutes) (fits.sign_fits, (fits.degrees_fit, (fits.minutes_fit_lem, (fits.steepness, tt)))))

-- The fields of a clino, and what they were read as.
pub record ClinoRead (sign degrees minutes s d m : ℕ) : Type 0 where
  pub fits : ClinoAngleFits sign degrees minutes
  pub sign_is : sign ≡ s
  pub degrees_is : degrees ≡ d
  pub minutes_is : minutes ≡ m

pub clino_read : (sign degrees minutes s d m last : ℕ)
    → field_of (leb sign 1) sign ≡ Some s
    → field_of (leb degrees 90) degrees ≡ Some d
    → last ≡ last_minute d
    → field_of (leb minutes last) minutes ≡ Some m
    → ClinoRead sign degrees minutes s d m
clino_read sign degrees minutes s d m last e1 e2 is e3 =
    let (sign_fits, sign_is) = field_in (leb sign 1) sign s e1 in
    let (degrees_fit, degrees_is) = field_in (leb degrees 90) degrees d e2 in
    let (below, minutes_is) = field_in (leb minutes last) minutes m e3 in
    let (minutes_fit_lem, steepness) = minute_fits degrees minutes degrees_fit (ap (λ (l : ℕ). leb minutes l) (ap last_minute degrees_is ∙ sym is) ∙ below) in
    record {
      fits = record { sign_fits = sign_fits; degrees_fit = degrees_fit; minutes_fit_lem = minutes_fit_lem; steepness = steepness };
      sign_is = sign_is;
      degrees_is = degrees_is;
      minutes_is = minutes_is;
    }

module _ {sign degrees minutes s d m : ℕ} (read : ClinoRead sign degrees minutes s d m) where
  pub clino_read_small : (d ≤ 359) × (m ≤ 59)
  clino_read_small =
      let degrees_most = leb-true degrees 90 read.fits.degrees_fit in
      let minutes_most = leb-true minutes 59 read.fits.minutes_fit_lem in
      (omega (arith, degrees_most, read.degrees_is), omega (arith, minutes_most, read.minutes_is))

  pub clino_read_steep : hundredths_of d m ≤ steepest_clino
  clino_read_steep =
      let steep = leb-true (minutes_of degrees minutes) (minutes_of 90 0) read.fits.steepness in
      steep_fits d m (omega (arith, steep, read.degrees_is, read.minutes_is))

  pub clino_read_in : Some (signed_by s (hundredths_of d m)) ≡ clino_minutes_field_of sign degrees minutes
  clino_read_in =
      (λ i. Some (signed_by (sym read.sign_is i) (hundredths_of (sym read.degrees_is i) (sym read.minutes_is i))))
      ∙ clino_angle_in sign degrees minutes read.fits

-- M in minutes is out of range where its distance or an angle is, and in range where all are.
pub minutes_out : (m : Minutes) → (angles_in_range m ≡ true → measure_in_range (rounded m) ≡ false) → None ≡ minutes_field_of m
minutes_out m out = go (angles_in_range m) out
  where
    go : (angles : Bool) → (angles ≡ true → measure_in_range (rounded m) ≡ false) → None ≡ measure_field_if angles (rounded m)
    go true out = not_chosen (measure_in_range (rounded m)) (Some (rounded m)) None (out refl)
    go false out = refl

pub no_compass_angle : (m : Minutes) → compass_angle_in_range m.compass_degrees m.compass_minutes ≡ false → angles_in_range m ≡ true → measure_in_range (rounded m) ≡ false
unfolding angles_in_range
no_compass_angle m e h = absurd (false≢true (sym (failed_test _ (clino_angle_in_range m.sign m.clino_degrees m.clino_minutes ∷ []) e) ∙ h))

pub no_clino_angle : (m : Minutes) → clino_angle_in_range m.sign m.clino_degrees m.clino_minutes ≡ false → angles_in_range m ≡ true → measure_in_range (rounded m) ≡ false
unfolding angles_in_range
no_clino_angle m e h = absurd (false≢true (sym e ∙ (split (compass_angle_in_range m.compass_degrees m.compass_minutes ∷ clino_angle_in_range m.sign m.clino_degrees m.clino_minutes ∷ []) h).1.0))

pub minutes_in : (m : Minutes) → within 1 longest_distance m.distance ≡ true → compass_angle_in_range m.compass_degrees m.compass_minutes ≡ true → clino_angle_in_range m.sign m.clino_degrees m.clino_minutes ≡ true
    → (Some (rounded m) ≡ minutes_field_of m) × (clino_in_range (rounded m).clino ≡ true)
unfolding angles_in_range
minutes_in m distance compass clino =
    let angles = join (compass_angle_in_range m.compass_degrees m.compass_minutes ∷ clino_angle_in_range m.sign m.clino_degrees m.clino_minutes ∷ []) (compass, (clino, tt)) in
    let fits = rounded_in_range m angles distance in (
      chosen (measure_in_range (rounded m)) (Some (rounded m)) None fits
          ∙ chosen (angles_in_range m) (measure_field_of (rounded m)) None angles,
      (measure_fits_lem (rounded m) fits).clino_fits,
    )

-- M, in minutes or in hundredths, is out of range where its distance, its compass or its clino is, and in range where all three are.
pub distance_out : (minutes : Bool) (part : Bytes) (at : ℕ) → field_of (within 1 longest_distance (number32 part at)) (number32 part at) ≡ None → None ≡ measure_field_at minutes part at
distance_out true part at e =
    let m = minutes_at part at in
    minutes_out m (λ angles. no_measure_distance (rounded m) (field_out (within 1 longest_distance m.distance) m.distance e))
distance_out false part at e =
    let m = measure_at part at in
    not_chosen (measure_in_range m) (Some m) None (no_measure_distance m (field_out _ _ e))

pub compass_out : (minutes : Bool) (part : Bytes) (at : ℕ) → compass_field_at minutes part at ≡ None → None ≡ measure_field_at minutes part at
compass_out true part at e =
    let m = minutes_at part at in
    minutes_out m (no_compass_angle m (field_out (compass_angle_in_range m.compass_degrees m.compass_minutes) (rounded m).compass e))
compass_out false part at e =
    let m = measure_at part at in
    not_chosen (measure_in_range m) (Some m) None (no_measure_compass m (field_out _ _ e))

pub clino_out : (minutes : Bool) (part : Bytes) (at : ℕ) → clino_field_at minutes part at ≡ None → None ≡ measure_field_at minutes part at
clino_out true part at e =
    let m = minutes_at part at in
    minutes_out m (no_clino_angle m (field_out (clino_angle_in_range m.sign m.clino_degrees m.clino_minutes) (rounded m).clino e))
clino_out false part at e =
    let m = measure_at part at in
    not_chosen (measure_in_range m) (Some m) None (no_measure_clino m (field_out _ m.clino e))

pub all_in : (minutes : Bool) (part : Bytes) (at distance compass : ℕ) (clino : ℤ) → field_of (within 1 longest_distance (number32 part at)) (number32 part at) ≡ Some distance
    → compass_field_at minutes part at ≡ Some compass
    → clino_field_at minutes part at ≡ Some clino
    → Some (record { distance = distance; compass = compass; clino = to_z w16 (of_z w16 clino) }) ≡ measure_field_at minutes part at
all_in true part at distance compass clino e1 e2 e3 =
    let m = minutes_at part at in
    let (distance_fits, d) = field_in (within 1 longest_distance m.distance) m.distance distance e1 in
    let (compass_fits, c) = field_in (compass_angle_in_range m.compass_degrees m.compass_minutes) (rounded m).compass compass e2 in
    let (angle_fits, a) = field_in (clino_angle_in_range m.sign m.clino_degrees m.clino_minutes) (rounded m).clino clino e3 in
    let (each_in_range, clino_fits) = minutes_in m distance_fits compass_fits angle_fits in
    let kept = ap (λ z. to_z w16 (of_z w16 z)) (sym a) ∙ kept16 (rounded m).clino clino_fits in
    (λ i. Some (record { distance = sym d i; compass = sym c i; clino = kept i })) ∙ each_in_range
all_in false part at distance compass clino e1 e2 e3 =
    let m = measure_at part at in
    let (distance_fits, d) = field_in _ _ distance e1 in
    let (compass_fits, c) = field_in _ _ compass e2 in
    let (clino_fits, a) = field_in _ m.clino clino e3 in
    let kept = ap (λ z. to_z w16 (of_z w16 z)) (sym a) ∙ kept16 m.clino clino_fits in
    (λ i. Some (record { distance = sym d i; compass = sym c i; clino = kept i }))
    ∙ chosen (measure_in_range m) (Some m) None (all_measure m distance_fits compass_fits clino_fits)

pub measure_if_out : (angles : Bool) (measure : Measure) → measure_field_if angles measure ≡ None → angles ≡ true → measure_in_range measure ≡ false
measure_if_out true measure e h = field_out _ measure e
measure_if_out false measure e h = absurd (false≢true h)

pub measure_if_in : (angles : Bool) (measure given : Measure) → measure_field_if angles measure ≡ Some given → (angles ≡ true) × (measure_field_of measure ≡ Some given)
measure_if_in true measure given e = (refl, e)
measure_if_in false measure given e = (cc, cc)

-- So are f, r, s and c.
pub record TakenFits (taken : Taken) : Type 0 where
  pub newer : leg_or_none_in_range taken.newer ≡ true
  pub leg : leg_number_in_range taken.leg ≡ true
  pub older : leg_or_none_in_range taken.older ≡ true
  pub count : count_before_strike_in_range taken.count ≡ true

pub taken_fits : (taken : Taken) → taken_in_range taken ≡ true → TakenFits taken
taken_fits taken h =
    let (newer, (leg, (older, (count, u)))) =
    split (leg_or_none_in_range taken.newer ∷ leg_number_in_range taken.leg ∷ leg_or_none_in_range taken.older ∷ count_before_strike_in_range taken.count ∷ []) h in
    record { newer = newer; leg = leg; older = older; count = count }

pub fits_taken : (taken : Taken) → TakenFits taken → taken_in_range taken ≡ true
fits_taken taken fits =
    join (leg_or_none_in_range taken.newer ∷ leg_number_in_range taken.leg ∷ leg_or_none_in_range taken.older ∷ count_before_strike_in_range taken.count ∷ [])
    (fits.newer, (fits.leg, (fits.older, (fits.count, tt))))

pub taken_in : (taken : Taken) (newer leg older count : ℕ) → field_of (leg_or_none_in_range taken.newer) taken.newer ≡ Some newer
    → field_of (leg_number_in_range taken.leg) taken.leg ≡ Some leg
    → field_of (leg_or_none_in_range taken.older) taken.older ≡ Some older
    → field_of (count_before_strike_in_range taken.count) taken.count ≡ Some count
    → Some (record { newer = newer; leg = leg; older = older; count = count }) ≡ taken_field_of taken
taken_in taken newer leg older count e1 e2 e3 e4 =
    let (newer_fits, n) = field_in _ _ newer e1 in
    let (leg_fits, l) = field_in _ _ leg e2 in
    let (older_fits, o) = field_in _ _ older e3 in
    let (count_fits, c) = field_in _ _ count e4 in
    (λ i. Some (record { newer = sym n i; leg = sym l i; older = sym o i; count = sym c i }))
    ∙ chosen (taken_in_range taken) (Some taken) None (fits_taken taken (record { newer = newer_fits; leg = leg_fits; older = older_fits; count = count_fits }))
