-- Angles in minutes, rounded: to the nearest hundredth, within a third of one, both of M; figures in range stay so; zero has no sign; plumb at 90 degrees alone.
use Prim.Native.Nat.{ℕ, zero, suc, ◌+◌, ◌*◌, ◌/◌, ◌≤◌}
use mathlib.Core.Path.{◌≡◌, refl, sym, ap, ◌∙◌}
use mathlib.Core.List.{[], ◌∷◌}
use mathlib.Core.Bool.{Bool, true, false, cond}
use mathlib.Core.Logic.{inl, inr}
use native.Mathlib.Omega.{arith}
use native.Mathlib.Decide.{ℕ_discrete, dec_lt}
use borrow.Author.Tests.{leb-true, le-leb, eq-eqb, ne_eqb}
use lib.Dec.{eqb, leb}
use lib.IntN.{pos}
use Rattle.words.specs.Tests.{all_hold, within}
use Rattle.words.proofs.Tests.{split, join}
use Rattle.legs.specs.Legs.{longest_distance, last_compass, steepest_clino, clino_in_range, is_plumb, measure_in_range}
use Rattle.legs.specs.Minutes.{Minutes, minutes_of, hundredths_of, down, signed_by, compass_angle_in_range, clino_angle_in_range, angles_in_range, Rounded, RoundsToTheNearest, RoundsBothAngles, RoundedInRange, ZeroHasNoSign, PlumbAtNinety}

-- As it is computed: 100 hundredths a degree, and 5/3 a minute.
pub by_thirds : (degrees minutes : ℕ) → hundredths_of degrees minutes ≡ 100 * degrees + (5 * minutes + 1) / 3
unfolding hundredths_of
by_thirds degrees minutes = omega arith

pub rounds_to_the_nearest : RoundsToTheNearest
rounds_to_the_nearest degrees minutes = by (hundredths_of degrees minutes) (by_thirds degrees minutes)
  where
    by : (whole : ℕ) → whole ≡ 100 * degrees + (5 * minutes + 1) / 3 → Rounded (minutes_of degrees minutes) whole
    by whole e = record {
      within_a_third = (omega arith, omega arith);
      others_farther = λ other apart. elim (dec_lt other whole) [
        | yes below ↦ inl (omega arith)
        | no above ↦ inr (omega (arith, apart))
      ];
      no_half = λ k half. omega arith;
    }

pub rounds_both_angles : RoundsBothAngles
rounds_both_angles m = record {
  distance = refl;
  compass = rounds_to_the_nearest m.compass_degrees m.compass_minutes;
  steepness = hundredths_of m.clino_degrees m.clino_minutes;
  steep = rounds_to_the_nearest m.clino_degrees m.clino_minutes;
  clino = refl;
}

-- What the test says of each field.
record AnglesFit (m : Minutes) : Type 0 where
  pub compass_degrees_lem : m.compass_degrees ≤ 359
  pub compass_minutes_lem : m.compass_minutes ≤ 59
  pub sign : m.sign ≤ 1
  pub clino_degrees_lem : m.clino_degrees ≤ 90
  pub clino_minutes_lem : m.clino_minutes ≤ 59
  pub clino : 60 * m.clino_degrees + m.clino_minutes ≤ 5400

angles_fit : (m : Minutes) → angles_in_range m ≡ true → AnglesFit m
unfolding angles_in_range
angles_fit m h =
    let (compass, (clino, t)) = split (compass_angle_in_range m.compass_degrees m.compass_minutes ∷ clino_angle_in_range m.sign m.clino_degrees m.clino_minutes ∷ []) h in
    let (a, (b, u)) = split (leb m.compass_degrees 359 ∷ leb m.compass_minutes 59 ∷ []) compass in
    let (c, (d, (e, (f, v)))) = split (leb m.sign 1 ∷ leb m.clino_degrees 90 ∷ leb m.clino_minutes 59 ∷ leb (minutes_of m.clino_degrees m.clino_minutes) (minutes_of 90 0) ∷ []) clino in
    record {
      compass_degrees_lem = leb-true _ _ a;
      compass_minutes_lem = leb-true _ _ b;
      sign = leb-true _ _ c;
      clino_degrees_lem = leb-true _ _ d;
      clino_minutes_lem = leb-true _ _ e;
      clino = leb-true _ _ f;
    }

-- A clino so steep, up or down, is in range.
signed_fits_lem : (sign hundredths : ℕ) → hundredths ≤ steepest_clino → clino_in_range (signed_by sign hundredths) ≡ true
signed_fits_lem sign hundredths h = by (eqb sign 0) hundredths h
  where
    by : (up : Bool) (n : ℕ) → n ≤ steepest_clino → clino_in_range (cond up (pos n) (down n)) ≡ true
    by true n h = le-leb n steepest_clino h
    by false zero h = refl
    by false (suc n) h = le-leb (n + 1) steepest_clino (omega arith)

-- An angle up to 90 degrees comes to 9,000 hundredths at most.
pub steep_fits : (degrees minutes : ℕ) → minutes_of degrees minutes ≤ minutes_of 90 0 → hundredths_of degrees minutes ≤ steepest_clino
steep_fits degrees minutes h = omega (arith, by_thirds degrees minutes)

-- Angles in range come to figures in range.
pub angles_rounded : (m : Minutes) → angles_in_range m ≡ true → (hundredths_of m.compass_degrees m.compass_minutes ≤ last_compass) × (hundredths_of m.clino_degrees m.clino_minutes ≤ steepest_clino)
angles_rounded m h =
    let l = angles_fit m h in
    (omega (arith, by_thirds m.compass_degrees m.compass_minutes, l.compass_degrees_lem, l.compass_minutes_lem), steep_fits m.clino_degrees m.clino_minutes l.clino)

pub rounded_in_range : RoundedInRange
unfolding measure_in_range
rounded_in_range m h distance_fits =
    let (compass_fits, clino_fits) = angles_rounded m h in
    join (within 1 longest_distance m.distance ∷ leb (hundredths_of m.compass_degrees m.compass_minutes) last_compass ∷ clino_in_range (signed_by m.sign (hundredths_of m.clino_degrees m.clino_minutes)) ∷ [])
    (distance_fits, (le-leb _ _ compass_fits, (signed_fits_lem m.sign _ clino_fits, tt)))

pub zero_has_no_sign : ZeroHasNoSign
unfolding hundredths_of all_hold
zero_has_no_sign = (refl, refl, refl)

pub plumb_at_ninety : PlumbAtNinety
plumb_at_ninety m h =
    let l = angles_fit m h in
    by (eqb m.sign 0) (hundredths_of m.clino_degrees m.clino_minutes)
    (λ e. omega (arith, e, by_thirds m.clino_degrees m.clino_minutes, l.clino, l.clino_minutes_lem))
    (λ e. omega (arith, e, by_thirds m.clino_degrees m.clino_minutes, l.clino, l.clino_minutes_lem))
  where
    test : (n : ℕ) → (n ≡ 9000 → m.clino_degrees ≡ 90) → (m.clino_degrees ≡ 90 → n ≡ 9000) → eqb n 9000 ≡ eqb m.clino_degrees 90
    test n there back = elim (ℕ_discrete n 9000) [
      | yes same ↦ eq-eqb _ _ same ∙ sym (eq-eqb _ _ (there same))
      | no apart ↦ ne_eqb _ _ apart ∙ sym (ne_eqb _ _ (λ e. apart (back e)))
    ]

    by : (up : Bool) (n : ℕ) → (n ≡ 9000 → m.clino_degrees ≡ 90) → (m.clino_degrees ≡ 90 → n ≡ 9000) → is_plumb (cond up (pos n) (down n)) ≡ eqb m.clino_degrees 90
    by true n there back = test n there back
    by false zero there back = test zero there back
    by false (suc n) there back = ap (λ (k : ℕ). eqb k 9000) (plus_one n) ∙ test (suc n) there back
      where
        plus_one : (n : ℕ) → n + 1 ≡ suc n
        plus_one n = omega arith
