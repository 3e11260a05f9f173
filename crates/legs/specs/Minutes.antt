-- Request 9: compass and clino in degrees and minutes, rounded to hundredths of a degree.
use Rattle.std.specs.Prelude.{ℕ, zero, suc, ◌+◌, ◌*◌, ◌/◌, ◌≤◌, ◌≡◌, [], ◌∷◌, Bool, true, cond, ◌≢◌, ◌⊎◌, eqb, leb, ℤ, pos, negsuc}
use Rattle.words.specs.Tests.{all_hold, within}
use Rattle.legs.specs.declared.Measure.{Measure}
use Rattle.legs.specs.Legs.{longest_distance, is_plumb, measure_in_range}

-- M as such a frame has it: distance, degrees and minutes of the compass, a sign (0 up, 1 down), degrees and minutes of the clino.
pub record Minutes : Type 0 where
  pub distance : ℕ
  pub compass_degrees : ℕ
  pub compass_minutes : ℕ
  pub sign : ℕ
  pub clino_degrees : ℕ
  pub clino_minutes : ℕ

-- An angle of degrees and minutes, in minutes.
abbrev pub minutes_of : ℕ → ℕ → ℕ
minutes_of degrees minutes = 60 * degrees + minutes

-- The whole number nearest to a / b; a half would go up.
abbrev pub nearest : ℕ → ℕ → ℕ
nearest a b = (2 * a + b) / (2 * b)

-- "The angle is rounded to the nearest hundredth of a degree": 60 minutes are 100 hundredths.
unfoldable pub hundredths_of : ℕ → ℕ → ℕ
hundredths_of degrees minutes = nearest (100 * minutes_of degrees minutes) 60

-- So many hundredths down; `negsuc n` is −(n + 1).
abbrev pub down : ℕ → ℤ
down zero = pos zero
down (suc n) = negsuc n

-- "0 up, 1 down".
abbrev pub signed_by : ℕ → ℕ → ℤ
signed_by sign hundredths = cond (eqb sign 0) (pos hundredths) (down hundredths)

-- "Minutes are 0 to 59, degrees up to 359 and 90": of a compass,
abbrev pub compass_angle_in_range : ℕ → ℕ → Bool
compass_angle_in_range degrees minutes = all_hold (leb degrees 359 ∷ leb minutes 59 ∷ [])

-- and of a clino, where "over 90 degrees 0 minutes, or another sign, is out of range".
abbrev pub clino_angle_in_range : ℕ → ℕ → ℕ → Bool
clino_angle_in_range sign degrees minutes = all_hold (leb sign 1 ∷ leb degrees 90 ∷ leb minutes 59 ∷ leb (minutes_of degrees minutes) (minutes_of 90 0) ∷ [])

unfoldable pub angles_in_range : Minutes → Bool
angles_in_range m =
    all_hold (
    compass_angle_in_range m.compass_degrees m.compass_minutes
    ∷ clino_angle_in_range m.sign m.clino_degrees m.clino_minutes
    ∷ []
    )

-- The same in hundredths.
abbrev pub rounded : Minutes → Measure
rounded m = record {
  distance = m.distance;
  compass = hundredths_of m.compass_degrees m.compass_minutes;
  clino = signed_by m.sign (hundredths_of m.clino_degrees m.clino_minutes);
}

-- A whole number of hundredths beside an exact angle in minutes, which is 100/60 times as many hundredths. Both sides are in sixtieths of a hundredth.
pub record Rounded (exact whole : ℕ) : Type 0 where
  -- "within a third of one": 20 sixtieths;
  pub within_a_third : (60 * whole ≤ 100 * exact + 20) × (100 * exact ≤ 60 * whole + 20)
  -- every other whole number is off by two thirds or more, so that this is the nearest;
  pub others_farther : (other : ℕ) → other ≢ whole → (60 * other + 40 ≤ 100 * exact) ⊎ (100 * exact + 40 ≤ 60 * other)
  -- "no half occurs": the angle is k + 1/2 hundredths for no k.
  pub no_half : (k : ℕ) → 2 * (100 * exact) ≢ 60 * (2 * k + 1)

-- Statement: of every angle.
abbrev pub RoundsToTheNearest : Type 0
RoundsToTheNearest = (degrees minutes : ℕ) → Rounded (minutes_of degrees minutes) (hundredths_of degrees minutes)

-- What M is rounded to: its distance as sent, its compass to the nearest, and its clino so steep, to the nearest, up or down as its sign says.
pub record MeasureRounded (m : Minutes) (measure : Measure) : Type 0 where
  pub distance : measure.distance ≡ m.distance
  pub compass : Rounded (minutes_of m.compass_degrees m.compass_minutes) measure.compass
  pub steepness : ℕ
  pub steep : Rounded (minutes_of m.clino_degrees m.clino_minutes) steepness
  pub clino : measure.clino ≡ signed_by m.sign steepness

-- Statement: of every M.
abbrev pub RoundsBothAngles : Type 0
RoundsBothAngles = (m : Minutes) → MeasureRounded m (rounded m)

-- Statement: figures in range stay so: the compass never comes to 36,000, nor the clino past 9,000.
abbrev pub RoundedInRange : Type 0
RoundedInRange = (m : Minutes) → angles_in_range m ≡ true → within 1 longest_distance m.distance ≡ true → measure_in_range (rounded m) ≡ true

-- Statement: "Up and down zero mean the same": both may be sent, and come to the same clino.
abbrev pub ZeroHasNoSign : Type 0
ZeroHasNoSign =
    (clino_angle_in_range 0 0 0 ≡ true)
    × (clino_angle_in_range 1 0 0 ≡ true)
    × (signed_by 0 (hundredths_of 0 0) ≡ signed_by 1 (hundredths_of 0 0))

-- Statement: a leg is plumb at 90 degrees alone, up or down; nothing is rounded to it.
abbrev pub PlumbAtNinety : Type 0
PlumbAtNinety = (m : Minutes) → angles_in_range m ≡ true → is_plumb (rounded m).clino ≡ eqb m.clino_degrees 90
