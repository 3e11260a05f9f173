-- What is asked for is read back from its frame, which 3, 4 and 5 do not refuse; and what is read from bytes has stations of 16 bits.
use Prim.Native.Nat.{ℕ, ◌+◌, ◌*◌, ◌-◌, ◌/◌, ◌%◌, ◌<◌, ◌≤◌}
use mathlib.Core.Path.{◌≡◌, refl, ap, subst, ◌∙◌, sym}
use mathlib.Core.List.{List, [], ◌∷◌, ◌++◌, map}
use mathlib.Core.Bool.{Bool, true, false, cond}
use native.Mathlib.Omega.{arith}
use borrow.Author.Tests.{ltb-true, leb-true, eq-eqb, lt-ltb, le-leb, le-ltb}
use lib.Dec.{eqb, leb, ltb}
use lib.ListN.{length}
use lib.IntN.{ℤ, pos, negsuc}
use Rattle.words.specs.Tests.{all_hold, some_holds}
use Rattle.words.proofs.Tests.{AllTrue, split, join, last_test}
use Rattle.legs.specs.declared.Stations.{Stations}
use Rattle.legs.specs.declared.Measure.{Measure}
use Rattle.legs.specs.Legs.{last_station}
use Rattle.legs.specs.Minutes.{Minutes, angles_in_range, rounded}
use Rattle.edits.specs.declared.Edit.{Edit}
use Rattle.edits.specs.Ranges.{stations_in_range, edit_stations_in_range}
use Rattle.frames.specs.Request.{Request, Open, Step, Look, View}
use Rattle.frames.specs.Numbers.{Bytes, are_bytes, bytes32, number16, numbers16, signed_of, fits16}
use Rattle.frames.specs.Requests.{length_field, kind_field, part_after_kind, team_in, add_kind, correct_kind, strike_kind, step_kind, look_kind, view_kind, add_minutes_kind, correct_minutes_kind, view_words_in, stations_at, measure_at, minutes_at, add_in, correct_in, strike_in, move_in, add_in_minutes, correct_in_minutes, edit_of_kind, angles_of_kind, request_of_kind, request_in, length_fits, StationsFit}
use Rattle.frames.specs.Fields.{header_of}
use Rattle.frames.specs.Writing.{bits_of, fields16, measure_bytes, edit_numbers, edit_measures, signed_fits, measure_fits, request_frame, RequestsReadBack, RequestFramesWhole}
use Rattle.frames.specs.Minutes.{AddInMinutes, CorrectInMinutes, rounded_edit, angles_of, minutes_bytes, minutes_of_edit, minutes_frame, minutes_fit, all_minutes_bytes, MinutesReadBack, MinutesFramesWhole, MinutesFramesAreBytes}
use Rattle.frames.proofs.Bytes.{back16, back32, bytes_after, numbers_fit, numbers_further16, numbers_back16, length_fields16}
use Rattle.frames.proofs.Headers.{not_torn, length_due, header_kind, view_even}

-- A signed number that fits has 16 bits, and is that of its bits.
bits_fit : (clino : ℤ) → signed_fits clino ≡ true → bits_of clino < 65536
bits_fit (pos n) h = let l = ltb-true n 32768 h in omega arith
bits_fit (negsuc n) h = omega arith

bits_back : (clino : ℤ) → signed_fits clino ≡ true → signed_of (bits_of clino) ≡ clino
bits_back (pos n) h = simp h
bits_back (negsuc n) h =
    let l = ltb-true n 32768 h in
    simp (le-ltb (65535 - n) 32768 (omega arith)) (ap negsuc (omega arith))

-- A number, stations and a measure, read from their bytes.
number_back : (number : ℕ) → fits16 number ≡ true → number % 256 + 256 * (number / 256 % 256) ≡ number
number_back number h = back16 number (ltb-true number 65536 h)

stations_back : (stations : Stations) → fits16 stations.from ≡ true → fits16 stations.to ≡ true → stations_at (fields16 (stations.from ∷ stations.to ∷ [])) 0 ≡ stations
stations_back stations from to = λ i. record { from = number_back stations.from from i; to = number_back stations.to to i }

measure_back : (measure : Measure) → measure_fits measure ≡ true → measure_at (measure_bytes measure) 0 ≡ measure
measure_back measure h =
    let (distance, (compass, (clino, u))) = split (ltb measure.distance 4294967296 ∷ fits16 measure.compass ∷ signed_fits measure.clino ∷ []) h in
    let distance_back = back32 measure.distance (ltb-true measure.distance 4294967296 distance) in
    let clino_back = ap signed_of (back16 (bits_of measure.clino) (bits_fit measure.clino clino)) ∙ bits_back measure.clino clino in
    λ i. record { distance = distance_back i; compass = number_back measure.compass compass i; clino = clino_back i }

words_back : (team n : ℕ) (words : List ℕ) → AllTrue (map fits16 words) → view_words_in (fields16 (team ∷ n ∷ words)) ≡ words
words_back team n words h =
    let part = fields16 (team ∷ n ∷ words) in
    let many : (length part - 4) / 2 ≡ length words = omega (arith, length_fields16 words) in
    ap (λ (k : ℕ). numbers16 k part 4) many ∙ numbers_further16 (length words) part 4 0 ∙ numbers_back16 words h

pub requests_read_back : RequestsReadBack
unfolding request_in request_of_kind edit_of_kind request_frame add_in correct_in strike_in move_in
requests_read_back (Open team (Edit.Add e)) h =
    let (n, (m, u)) = split (all_hold (map fits16 (team ∷ edit_numbers (Edit.Add e))) ∷ all_hold (map measure_fits (edit_measures (Edit.Add e))) ∷ []) h in
    let (t, (passage, (leg, (newest, (count, (from, (to, v))))))) = split (map fits16 (team ∷ edit_numbers (Edit.Add e))) n in
    let (measure, w) = split (map measure_fits (edit_measures (Edit.Add e))) m in
    λ i. Open (number_back team t i) (Edit.Add (record {
      passage = number_back e.passage passage i;
      leg = number_back e.leg leg i;
      newest = number_back e.newest newest i;
      count = number_back e.count count i;
      stations = stations_back e.stations from to i;
      measure = measure_back e.measure measure i;
    }))
requests_read_back (Open team (Edit.Correct e)) h =
    let (n, (m, u)) = split (all_hold (map fits16 (team ∷ edit_numbers (Edit.Correct e))) ∷ all_hold (map measure_fits (edit_measures (Edit.Correct e))) ∷ []) h in
    let (t, (passage, (leg, (from, (to, v))))) = split (map fits16 (team ∷ edit_numbers (Edit.Correct e))) n in
    let (old, (new, w)) = split (map measure_fits (edit_measures (Edit.Correct e))) m in
    λ i. Open (number_back team t i) (Edit.Correct (record {
      passage = number_back e.passage passage i;
      leg = number_back e.leg leg i;
      stations = stations_back e.stations from to i;
      old = measure_back e.old old i;
      new = measure_back e.new new i;
    }))
requests_read_back (Open team (Edit.Strike e)) h =
    let (n, (m, u)) = split (all_hold (map fits16 (team ∷ edit_numbers (Edit.Strike e))) ∷ all_hold (map measure_fits (edit_measures (Edit.Strike e))) ∷ []) h in
    let (t, (passage, (newer, (leg, (older, (count, (from, (to, v)))))))) = split (map fits16 (team ∷ edit_numbers (Edit.Strike e))) n in
    let (measure, w) = split (map measure_fits (edit_measures (Edit.Strike e))) m in
    λ i. Open (number_back team t i) (Edit.Strike (record {
      passage = number_back e.passage passage i;
      newer = number_back e.newer newer i;
      leg = number_back e.leg leg i;
      older = number_back e.older older i;
      count = number_back e.count count i;
      stations = stations_back e.stations from to i;
      measure = measure_back e.measure measure i;
    }))
requests_read_back (Open team (Edit.Move e)) h =
    let (n, (m, u)) = split (all_hold (map fits16 (team ∷ edit_numbers (Edit.Move e))) ∷ all_hold (map measure_fits (edit_measures (Edit.Move e))) ∷ []) h in
    let (t, (passage, (into, (newer, (leg, (older, (count, (into_newest_lem, (into_count_lem, (from, (to, v))))))))))) = split (map fits16 (team ∷ edit_numbers (Edit.Move e))) n in
    λ i. Open (number_back team t i) (Edit.Move (record {
      passage = number_back e.passage passage i;
      into = number_back e.into into i;
      newer = number_back e.newer newer i;
      leg = number_back e.leg leg i;
      older = number_back e.older older i;
      count = number_back e.count count i;
      into_newest = number_back e.into_newest into_newest_lem i;
      into_count = number_back e.into_count into_count_lem i;
      stations = stations_back e.stations from to i;
    }))
requests_read_back (Step team) h = ap Step (number_back team h)
requests_read_back (Look word) h = ap Look (number_back word h)
requests_read_back (View team n words) h =
    let (t, (many, rest)) = split (map fits16 (team ∷ n ∷ words)) h in
    λ i. View (number_back team t i) (number_back n many i) (words_back team n words rest i)

-- M in minutes, likewise.
minutes_back : (m : Minutes) → minutes_fit m ≡ true → minutes_at (minutes_bytes m) 0 ≡ m
minutes_back m h =
    let (distance, (c_degrees, (c_minutes, (sign, (degrees, (minutes, u)))))) = split (ltb m.distance 4294967296 ∷ map fits16 (angles_of m)) h in
    λ i. record {
      distance = back32 m.distance (ltb-true m.distance 4294967296 distance) i;
      compass_degrees = number_back m.compass_degrees c_degrees i;
      compass_minutes = number_back m.compass_minutes c_minutes i;
      sign = number_back m.sign sign i;
      clino_degrees = number_back m.clino_degrees degrees i;
      clino_minutes = number_back m.clino_minutes minutes i;
    }

pub minutes_read_back : MinutesReadBack
unfolding request_in request_of_kind edit_of_kind minutes_frame add_in_minutes correct_in_minutes angles_of_kind all_hold
minutes_read_back team (AddInMinutes passage leg newest count stations m) h =
    let edit = AddInMinutes passage leg newest count stations m in
    let (n, (ms, u)) = split (all_hold (map fits16 (team ∷ edit_numbers (rounded_edit edit))) ∷ all_hold (map minutes_fit (minutes_of_edit edit)) ∷ []) h in
    let (t, (passage_fits, (leg_fits, (newest_fits, (count_fits, (from, (to, v))))))) = split (map fits16 (team ∷ edit_numbers (rounded_edit edit))) n in
    let (fits, w) = split (map minutes_fit (minutes_of_edit edit)) ms in
    let back = minutes_back m fits in (
      λ i. Open (number_back team t i) (Edit.Add (record {
        passage = number_back passage passage_fits i;
        leg = number_back leg leg_fits i;
        newest = number_back newest newest_fits i;
        count = number_back count count_fits i;
        stations = stations_back stations from to i;
        measure = rounded (back i);
      })),
      ap angles_in_range back ∙ sym (last_test (angles_in_range m)),
    )
minutes_read_back team (CorrectInMinutes passage leg stations old new) h =
    let edit = CorrectInMinutes passage leg stations old new in
    let (n, (ms, u)) = split (all_hold (map fits16 (team ∷ edit_numbers (rounded_edit edit))) ∷ all_hold (map minutes_fit (minutes_of_edit edit)) ∷ []) h in
    let (t, (passage_fits, (leg_fits, (from, (to, v))))) = split (map fits16 (team ∷ edit_numbers (rounded_edit edit))) n in
    let (old_fits, (new_fits, w)) = split (map minutes_fit (minutes_of_edit edit)) ms in
    let old_back = minutes_back old old_fits in
    let new_back = minutes_back new new_fits in (
      λ i. Open (number_back team t i) (Edit.Correct (record {
        passage = number_back passage passage_fits i;
        leg = number_back leg leg_fits i;
        stations = stations_back stations from to i;
        old = rounded (old_back i);
        new = rounded (new_back i);
      })),
      λ i. all_hold (angles_in_range (old_back i) ∷ angles_in_range (new_back i) ∷ []),
    )

pub minutes_frames_whole : MinutesFramesWhole
unfolding header_of minutes_frame some_holds all_hold length_fits
minutes_frames_whole team (AddInMinutes passage leg newest count stations m) = refl
minutes_frames_whole team (CorrectInMinutes passage leg stations old new) = refl

-- A byte before bytes; the bytes of fields, and of M in minutes, before bytes.
byte_and : (x : ℕ) (bytes : Bytes) → are_bytes bytes ≡ true → are_bytes (x % 256 ∷ bytes) ≡ true
unfolding are_bytes
byte_and x bytes h = ap (λ (small : Bool). cond small (are_bytes bytes) false) (lt-ltb (x % 256) 256 (omega arith)) ∙ h

fields_and : (numbers : List ℕ) (bytes : Bytes) → are_bytes bytes ≡ true → are_bytes (fields16 numbers ++ bytes) ≡ true
fields_and [] bytes h = h
fields_and (number ∷ numbers) bytes h = byte_and number _ (byte_and (number / 256) _ (fields_and numbers bytes h))

long_and : (x : ℕ) (bytes : Bytes) → are_bytes bytes ≡ true → are_bytes (bytes32 x ++ bytes) ≡ true
long_and x bytes h = byte_and x _ (byte_and (x / 256) _ (byte_and (x / 65536) _ (byte_and (x / 65536 / 256) _ h)))

-- The fields of each M follow its distance, and then the next M.
all_minutes_bytes_lem : (ms : List Minutes) → are_bytes (all_minutes_bytes ms) ≡ true
unfolding are_bytes
all_minutes_bytes_lem [] = refl
all_minutes_bytes_lem (m ∷ ms) = long_and m.distance (fields16 (angles_of m) ++ all_minutes_bytes ms) (fields_and (angles_of m) (all_minutes_bytes ms) (all_minutes_bytes_lem ms))

pub minutes_frames_are_bytes : MinutesFramesAreBytes
unfolding minutes_frame
minutes_frames_are_bytes team (AddInMinutes passage leg newest count stations m) =
    let edit = AddInMinutes passage leg newest count stations m in
    fields_and (30 ∷ add_minutes_kind ∷ team ∷ edit_numbers (rounded_edit edit)) (all_minutes_bytes (minutes_of_edit edit)) (all_minutes_bytes_lem (minutes_of_edit edit))
minutes_frames_are_bytes team (CorrectInMinutes passage leg stations old new) =
    let edit = CorrectInMinutes passage leg stations old new in
    fields_and (40 ∷ correct_minutes_kind ∷ team ∷ edit_numbers (rounded_edit edit)) (all_minutes_bytes (minutes_of_edit edit)) (all_minutes_bytes_lem (minutes_of_edit edit))

pub request_frames_whole : RequestFramesWhole
unfolding header_of request_frame some_holds all_hold length_fits
request_frames_whole (Open team (Edit.Add e)) h = refl
request_frames_whole (Open team (Edit.Correct e)) h = refl
request_frames_whole (Open team (Edit.Strike e)) h = refl
request_frames_whole (Open team (Edit.Move e)) h = refl
request_frames_whole (Step team) h = refl
request_frames_whole (Look word) h = refl
request_frames_whole (View team n words) h =
    let frame = request_frame (View team n words) in
    let (l, (m, u)) = split (leb 1 (length words) ∷ leb (length words) 6 ∷ []) h in
    let least : 1 ≤ length words = leb-true _ _ l in
    let most : length words ≤ 6 = leb-true _ _ m in
    let long = length_fields16 words in
    let fits = view_even (length_field frame) (omega arith) (omega arith) ∙ eq-eqb (length_field frame % 2) 0 (omega arith) in
    sym (header_kind frame (not_torn frame (omega arith) (omega arith) (omega arith)) refl (length_due frame fits))

-- Stations read from bytes are 16 bits each.
stations_fit_at : (part : Bytes) (at : ℕ) → are_bytes part ≡ true → stations_in_range (stations_at part at) ≡ true
stations_fit_at part at h =
    join (leb (number16 part at) last_station ∷ leb (number16 part (at + 2)) last_station ∷ [])
    (le-leb (number16 part at) last_station (omega (arith, numbers_fit part h at)), (le-leb (number16 part (at + 2)) last_station (omega (arith, numbers_fit part h (at + 2))), tt))

edit_cond : (test : Bool) (x y : Edit) → edit_stations_in_range x ≡ true → edit_stations_in_range y ≡ true → edit_stations_in_range (cond test x y) ≡ true
edit_cond true x y p q = p
edit_cond false x y p q = q

pub edit_stations : (kind : ℕ) (part : Bytes) → are_bytes part ≡ true → edit_stations_in_range (edit_of_kind kind part) ≡ true
unfolding edit_of_kind add_in correct_in strike_in move_in add_in_minutes correct_in_minutes
edit_stations kind part h =
    edit_cond (eqb kind add_kind) (Edit.Add (add_in part)) _ (stations_fit_at part 10 h)
    (edit_cond (eqb kind correct_kind) (Edit.Correct (correct_in part)) _ (stations_fit_at part 6 h)
    (edit_cond (eqb kind strike_kind) (Edit.Strike (strike_in part)) _ (stations_fit_at part 12 h)
    (edit_cond (eqb kind add_minutes_kind) (Edit.Add (add_in_minutes part)) _ (stations_fit_at part 10 h)
    (edit_cond (eqb kind correct_minutes_kind) (Edit.Correct (correct_in_minutes part)) (Edit.Move (move_in part)) (stations_fit_at part 6 h) (stations_fit_at part 18 h)))))

abbrev StationsOf : Request → Type 0
StationsOf (Open team edit) = edit_stations_in_range edit ≡ true
StationsOf (Step team) = Unit {0}
StationsOf (Look word) = Unit {0}
StationsOf (View team n words) = Unit {0}

request_cond : (test : Bool) (x y : Request) → StationsOf x → StationsOf y → StationsOf (cond test x y)
request_cond true x y p q = p
request_cond false x y p q = q

request_stations : (kind : ℕ) (part : Bytes) → are_bytes part ≡ true → StationsOf (request_of_kind kind part)
unfolding request_of_kind
request_stations kind part h =
    request_cond (eqb kind step_kind) (Step (team_in part)) _ tt
    (request_cond (eqb kind look_kind) (Look (number16 part 0)) _ tt
    (request_cond (eqb kind view_kind) (View (team_in part) (number16 part 2) (view_words_in part)) (Open (team_in part) (edit_of_kind kind part)) tt (edit_stations kind part h)))

pub stations_fit : StationsFit
unfolding request_in
stations_fit frame team edit h e =
    subst (λ (request : Request). StationsOf request) e (request_stations (kind_field frame) (part_after_kind frame) (bytes_after 4 frame h))
