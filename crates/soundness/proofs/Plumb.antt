-- A plumb leg with a compass other than 0 stands in no plain book, so the answer to its words is no.
use Rattle.std.specs.Prelude.{Ok}
use Prim.Native.Nat.{ℕ, ◌+◌, ◌*◌, ◌≤◌, ◌<◌}
use mathlib.Core.Path.{◌≡◌, refl, sym, ap, ◌∙◌}
use mathlib.Core.Bool.{Bool, true, false}
use native.Mathlib.Omega.{arith}
use Rattle.words.specs.declared.LegLayout.TheVariants.{FourWords}
use Rattle.words.specs.Words.{passage_count, measure_word}
use Rattle.legs.specs.declared.Leg.{Leg}
use Rattle.std.specs.Prelude.{None, Some}
use Rattle.legs.specs.Legs.{compass_unit, clino_unit, clino_offset, place_of, measure_of}
use Rattle.legs.specs.Reading.{reading_of}
use Rattle.legs.proofs.RoundTrip.{legs_read_back, plumb_compass_reads_as_none}
use Rattle.plain.specs.Plain.{Plain, in_passage, list_of, times_in, word_of, Sound}
use Rattle.plain.proofs.Sums.{sum_below, sum_some}
use Rattle.plain.proofs.OneList.{leg_in, leg_every, has}
use Rattle.plain.proofs.Slots.{measure_at, measure_in, InRange}
use Rattle.plain.proofs.Figures.{leg_in_range_lem}
use Rattle.plain.proofs.OneHome.{value_leg}
use Rattle.plain.proofs.Lists.{leg_words_lem, fair_of}
use Rattle.plain.proofs.LaidOut.{words_follow_layout}
use Rattle.soundness.specs.Checking.{is_sound}
use Rattle.soundness.specs.Soundness.{OfSomePlainBook, PlumbCompassIsUnsound}
use Rattle.soundness.specs.Answering.{check_of}
use Rattle.soundness.proofs.Answering.{says_no}
use Rattle.soundness.proofs.Recovered.{recovered}

-- Words don't read as a leg and as none.
both_ways : (place measure : ℕ) (leg : Leg) → reading_of place measure ≡ Some leg → reading_of place measure ≡ None → ⊥
both_ways place measure leg reads none = let never : ◌≡◌ {A = ℕ} 0 1 = cc in omega arith

-- A measure in a plain book's words is that of one of its legs, which is in range.
module _ (plain : Plain) (sound : Sound plain) (r : ℕ) (some : 1 ≤ r) (used : 0 < word_of plain (measure_word r)) where
  summed : word_of plain (measure_word r) ≡ sum_below (measure_in r) (list_of plain) passage_count
  summed = (words_follow_layout FourWords plain).measure r some ∙ (leg_words_lem plain (fair_of FourWords plain sound).once r).measure

  -- It reads as that leg with its own place.
  reads : (place : ℕ) × (leg : Leg) × (reading_of place (word_of plain (measure_word r)) ≡ Some leg)
  reads = let home = sum_some (measure_in r) (list_of plain) passage_count (rw summed at used) in at_home home.0 home.1 (has (λ a l. measure_at a) r (list_of plain home.0) home.2)
    where
      at_home : (p : ℕ) → p < passage_count → 0 < times_in r (list_of plain p) → (place : ℕ) × (leg : Leg) × (reading_of place (word_of plain (measure_word r)) ≡ Some leg)
      at_home p fits inside =
          let leg = in_passage p (leg_in r (list_of plain p)) in
          let measured : word_of plain (measure_word r) ≡ measure_of leg.measure = summed ∙ value_leg (list_of plain) (fair_of FourWords plain sound).once r p fits inside (λ q. measure_at) in
          let ranged = leg_in_range_lem p (leg_in r (list_of plain p)) fits (leg_every InRange r (list_of plain p) ((fair_of FourWords plain sound).range p) inside) in
          (place_of leg.passage leg.stations, _, ap (reading_of (place_of leg.passage leg.stations)) measured ∙ legs_read_back leg ranged)

pub plumb_compass_is_unsound : PlumbCompassIsUnsound
plumb_compass_is_unsound words room leg distance compass clino whole long least most distance_fits compass_fits plumb other written =
    by_check (is_sound words) refl
  where
    never : OfSomePlainBook FourWords words → ⊥
    never (plain, sound, agree) =
        let same : word_of plain (measure_word leg) ≡ distance + compass_unit * compass + clino_unit * clino_offset clino = sym (agree (measure_word leg) (omega arith)) ∙ written in
        let read = reads plain sound leg least (omega (arith, same)) in
        both_ways read.0 _ read.1 read.2 (ap (reading_of read.0) same ∙ plumb_compass_reads_as_none read.0 distance compass clino distance_fits compass_fits plumb other)

    by_check : (b : Bool) → is_sound words ≡ b → check_of words room ≡ Ok false
    by_check true e = absurd (never (recovered FourWords words e))
    by_check false e = says_no words room whole long e
