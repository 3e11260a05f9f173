-- Every edit that is read from bytes has room in a frame in hundredths.
use Prim.Native.Nat.{ℕ, zero, suc, ◌+◌, ◌-◌, ◌<◌}
use mathlib.Core.Path.{◌≡◌, refl, subst}
use mathlib.Core.List.{[], ◌∷◌, map}
use mathlib.Core.Bool.{Bool, true, false, cond}
use native.Mathlib.Omega.{arith}
use native.Mathlib.Decide.{dec_lt}
use borrow.Author.Tests.{lt-ltb, le-ltb}
use lib.Dec.{eqb, ltb}
use lib.IntN.{pos}
use Rattle.words.specs.Tests.{all_hold}
use Rattle.words.proofs.Tests.{AllTrue, split, join}
use Rattle.legs.specs.Minutes.{hundredths_of, down, signed_by, angles_in_range, rounded}
use Rattle.legs.proofs.Minutes.{angles_rounded}
use Rattle.edits.specs.declared.Edit.{Edit}
use Rattle.frames.specs.Request.{Request, Open, Step, Look, View}
use Rattle.frames.specs.Numbers.{Bytes, are_bytes, number16, number32, signed_of, fits16}
use Rattle.frames.specs.Requests.{kind_field, part_after_kind, team_in, add_kind, correct_kind, strike_kind, step_kind, look_kind, view_kind, add_minutes_kind, correct_minutes_kind, measure_at, minutes_at, add_in, correct_in, strike_in, move_in, add_in_minutes, correct_in_minutes, edit_of_kind, angles_of_kind, view_words_in, request_of_kind, request_in}
use Rattle.frames.specs.Writing.{edit_numbers, edit_measures, signed_fits, measure_fits, request_fits}
use Rattle.frames.specs.Minutes.{EditsReadFit}
use Rattle.frames.proofs.Bytes.{bytes_after, numbers_fit}

module _ (part : Bytes) (bytes : are_bytes part ≡ true) where
  -- A number of 16 bits, and of 32.
  fit : (at : ℕ) → fits16 (number16 part at) ≡ true
  fit at = lt-ltb (number16 part at) 65536 (numbers_fit part bytes at)

  long_fit : (at : ℕ) → ltb (number32 part at) 4294967296 ≡ true
  long_fit at = lt-ltb (number32 part at) 4294967296 (omega (arith, numbers_fit part bytes at, numbers_fit part bytes (at + 2)))

  -- M, in hundredths and in minutes.
  signed_fit : (bits : ℕ) → bits < 65536 → signed_fits (signed_of bits) ≡ true
  signed_fit bits small = elim (dec_lt bits 32768) [
    | yes up ↦ rw (lt-ltb bits 32768 up) (lt-ltb bits 32768 up)
    | no above ↦ rw (le-ltb bits 32768 (omega arith)) (lt-ltb (65535 - bits) 32768 (omega arith))
  ]

  measure_fit : (at : ℕ) → measure_fits (measure_at part at) ≡ true
  measure_fit at =
      join (ltb (number32 part at) 4294967296 ∷ fits16 (number16 part (at + 4)) ∷ signed_fits (signed_of (number16 part (at + 6))) ∷ [])
      (long_fit at, (fit (at + 4), (signed_fit (number16 part (at + 6)) (numbers_fit part bytes (at + 6)), tt)))

  sign_fit : (sign hundredths : ℕ) → hundredths < 32768 → signed_fits (signed_by sign hundredths) ≡ true
  sign_fit sign hundredths small = by (eqb sign 0) hundredths small
    where
      by : (up : Bool) (n : ℕ) → n < 32768 → signed_fits (cond up (pos n) (down n)) ≡ true
      by true n small = lt-ltb n 32768 small
      by false zero small = refl
      by false (suc n) small = lt-ltb n 32768 (omega arith)

  rounded_fit : (at : ℕ) → angles_in_range (minutes_at part at) ≡ true → measure_fits (rounded (minutes_at part at)) ≡ true
  rounded_fit at angles =
      let m = minutes_at part at in
      let (compass, clino) = angles_rounded m angles in
      join (ltb (number32 part at) 4294967296 ∷ fits16 (hundredths_of m.compass_degrees m.compass_minutes) ∷ signed_fits (signed_by m.sign (hundredths_of m.clino_degrees m.clino_minutes)) ∷ [])
      (long_fit at, (lt-ltb (hundredths_of m.compass_degrees m.compass_minutes) 65536 (omega (arith, compass)), (sign_fit m.sign (hundredths_of m.clino_degrees m.clino_minutes) (omega (arith, clino)), tt)))

  -- An edit fits where its numbers and measures do.
  edit_fit : (edit : Edit) → AllTrue (map fits16 (team_in part ∷ edit_numbers edit)) → AllTrue (map measure_fits (edit_measures edit)) → request_fits (Open (team_in part) edit) ≡ true
  edit_fit edit numbers measures =
      join (all_hold (map fits16 (team_in part ∷ edit_numbers edit)) ∷ all_hold (map measure_fits (edit_measures edit)) ∷ [])
      (join (map fits16 (team_in part ∷ edit_numbers edit)) numbers, (join (map measure_fits (edit_measures edit)) measures, tt))

  edits_fit : (kind : ℕ) → angles_of_kind kind part ≡ true → request_fits (Open (team_in part) (edit_of_kind kind part)) ≡ true
  unfolding edit_of_kind angles_of_kind add_in correct_in strike_in move_in add_in_minutes correct_in_minutes
  edits_fit kind angles = by (eqb kind add_kind) (eqb kind correct_kind) (eqb kind strike_kind) (eqb kind add_minutes_kind) (eqb kind correct_minutes_kind) angles
    where
      by : (add correct strike in_minutes_lem corrects : Bool)
          → cond in_minutes_lem (angles_in_range (minutes_at part 14)) (cond corrects (all_hold (angles_in_range (minutes_at part 10) ∷ angles_in_range (minutes_at part 24) ∷ [])) true) ≡ true
          → request_fits (Open (team_in part) (cond add (Edit.Add (add_in part)) (cond correct (Edit.Correct (correct_in part)) (cond strike (Edit.Strike (strike_in part))
          (cond in_minutes_lem (Edit.Add (add_in_minutes part)) (cond corrects (Edit.Correct (correct_in_minutes part)) (Edit.Move (move_in part)))))))) ≡ true
      by true correct strike in_minutes_lem corrects angles = edit_fit (Edit.Add (add_in part)) (fit 0, (fit 2, (fit 4, (fit 6, (fit 8, (fit 10, (fit 12, tt))))))) (measure_fit 14, tt)
      by false true strike in_minutes_lem corrects angles = edit_fit (Edit.Correct (correct_in part)) (fit 0, (fit 2, (fit 4, (fit 6, (fit 8, tt))))) (measure_fit 10, (measure_fit 18, tt))
      by false false true in_minutes_lem corrects angles = edit_fit (Edit.Strike (strike_in part)) (fit 0, (fit 2, (fit 4, (fit 6, (fit 8, (fit 10, (fit 12, (fit 14, tt)))))))) (measure_fit 16, tt)
      by false false false true corrects angles = edit_fit (Edit.Add (add_in_minutes part)) (fit 0, (fit 2, (fit 4, (fit 6, (fit 8, (fit 10, (fit 12, tt))))))) (rounded_fit 14 angles, tt)
      by false false false false true angles =
          let (old, (new, u)) = split (angles_in_range (minutes_at part 10) ∷ angles_in_range (minutes_at part 24) ∷ []) angles in
          edit_fit (Edit.Correct (correct_in_minutes part)) (fit 0, (fit 2, (fit 4, (fit 6, (fit 8, tt))))) (rounded_fit 10 old, (rounded_fit 24 new, tt))
      by false false false false false angles =
          edit_fit (Edit.Move (move_in part)) (fit 0, (fit 2, (fit 4, (fit 6, (fit 8, (fit 10, (fit 12, (fit 14, (fit 16, (fit 18, (fit 20, tt))))))))))) tt

abbrev FitsIfEdit : Request → Type 0
FitsIfEdit (Open team edit) = request_fits (Open team edit) ≡ true
FitsIfEdit (Step team) = Unit {0}
FitsIfEdit (Look word) = Unit {0}
FitsIfEdit (View team n words) = Unit {0}

request_fits_lem : (kind : ℕ) (part : Bytes) → are_bytes part ≡ true → angles_of_kind kind part ≡ true → FitsIfEdit (request_of_kind kind part)
unfolding request_of_kind
request_fits_lem kind part bytes angles = by (eqb kind step_kind) (eqb kind look_kind) (eqb kind view_kind)
  where
    by : (step look view : Bool) → FitsIfEdit (cond step (Step (team_in part)) (cond look (Look (number16 part 0)) (cond view (View (team_in part) (number16 part 2) (view_words_in part)) (Open (team_in part) (edit_of_kind kind part)))))
    by true look view = tt
    by false true view = tt
    by false false true = tt
    by false false false = edits_fit part bytes kind angles

pub edits_read_fit : EditsReadFit
unfolding request_in
edits_read_fit frame team edit bytes angles e =
    subst (λ (request : Request). FitsIfEdit request) e (request_fits_lem (kind_field frame) (part_after_kind frame) (bytes_after 4 frame bytes) angles)
