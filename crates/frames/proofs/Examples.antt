-- Examples computed: the frame of the whole case, answers' bytes, and what frames and fields are read as.
use Prim.Native.Nat.{ℕ}
use mathlib.Core.Path.{◌≡◌, refl}
use mathlib.Core.List.{[], ◌∷◌, map}
use mathlib.Core.Bool.{true, false}
use mathlib.Core.Option.{none, some}
use lib.IntN.{ℤ, pos, negsuc}
use lib.ListN.{length, replicate}
use Rattle.words.specs.Tests.{all_hold, some_holds, distinct}
use Rattle.legs.specs.declared.Measure.{Measure}
use Rattle.legs.specs.Legs.{measure_in_range}
use Rattle.legs.specs.Minutes.{Minutes, hundredths_of}
use Rattle.tickets.specs.declared.StepAnswer.TheVariants.{Waiting, Granted, Stale, Seen}
use Rattle.tickets.specs.declared.Values.{Values}
use Rattle.tickets.specs.Steps.{values_from}
use Rattle.std.specs.Prelude.{None, Some}
use Rattle.edits.specs.declared.Edit.{Edit}
use Rattle.edits.specs.Ranges.{edit_in_range, edit_repeats}
use Rattle.edits.specs.Views.{all_in_book, view_in_range, view_repeats}
use Rattle.frames.specs.Request as Request
use Rattle.frames.specs.declared.Answer.TheVariants as Answer
use Rattle.std.specs.Prelude.{Ok, Err}
use Rattle.frames.specs.Numbers.{Bytes, numbers16, numbers64, fields64}
use Rattle.frames.specs.Requests.{length_of_kind, is_edit_kind, is_kind, length_fits, add_in, add_in_minutes, correct_in_minutes, edit_of_kind, request_of_kind, request_in}
use Rattle.frames.specs.Answers.{answer_frame, written}
use Rattle.frames.specs.Fields.{header_of, edit_read, view_read}
use Rattle.frames.specs.Writing.{request_frame}
use Rattle.frames.specs.Minutes.{AddInMinutes, CorrectInMinutes, minutes_frame}
use Rattle.frames.specs.Reading.{answer_in}

-- The whole case's input: 18 00 01 00 00 00 00 00 01 00 00 00 00 00 01 00 02 00 88 13 00 00 28 23 6A FF.
abbrev whole_case : Bytes
whole_case =
    24 ∷ 0 ∷ 1 ∷ 0 ∷ 0 ∷ 0 ∷ 0 ∷ 0 ∷ 1 ∷ 0 ∷ 0 ∷ 0 ∷ 0 ∷ 0 ∷ 1 ∷ 0 ∷ 2 ∷ 0 ∷ 136 ∷ 19 ∷ 0 ∷ 0 ∷ 40 ∷ 35 ∷ 106 ∷ 255 ∷ []

-- Leg 1 is added to the empty passage 0: from 1 to 2, and M.
abbrev add_of : Measure → Edit
add_of measure = Edit.Add (record { passage = 0; leg = 1; newest = 0; count = 0; stations = record { from = 1; to = 2 }; measure = measure })

-- M: a distance, 90.00°, and a clino.
abbrev adding : ℕ → ℤ → Edit
adding distance clino = add_of (record { distance = distance; compass = 9000; clino = clino })

whole_case_asked : request_frame (Request.Open 0 (adding 5000 (negsuc 149))) ≡ whole_case
unfolding request_frame
whole_case_asked = refl

whole_case_read : request_in whole_case ≡ Request.Open 0 (adding 5000 (negsuc 149))
unfolding request_in request_of_kind edit_of_kind add_in
whole_case_read = refl

whole_case_header : header_of whole_case ≡ Ok 1
unfolding header_of length_fits some_holds all_hold
whole_case_header = refl

-- Then ten times 04 00 05 00 00 00.
step_asked : request_frame (Request.Step 0) ≡ 4 ∷ 0 ∷ 5 ∷ 0 ∷ 0 ∷ 0 ∷ []
unfolding request_frame
step_asked = refl

-- Team 3 asks for words 64 and 4,095 together: 0A 00 07 00 03 00 02 00 40 00 FF 0F.
abbrev two_words : Bytes
two_words = 10 ∷ 0 ∷ 7 ∷ 0 ∷ 3 ∷ 0 ∷ 2 ∷ 0 ∷ 64 ∷ 0 ∷ 255 ∷ 15 ∷ []

view_asked : request_frame (Request.View 3 2 (64 ∷ 4095 ∷ [])) ≡ two_words
unfolding request_frame
view_asked = refl

view_read_lem : request_in two_words ≡ Request.View 3 2 (64 ∷ 4095 ∷ [])
unfolding request_in request_of_kind numbers16
view_read_lem = refl

view_header : header_of two_words ≡ Ok 7
unfolding header_of length_fits some_holds all_hold
view_header = refl

-- The kinds' lengths; which numbers are kinds, and which are edits'.
lengths : map length_of_kind (1 ∷ 2 ∷ 3 ∷ 4 ∷ 5 ∷ 6 ∷ 17 ∷ 18 ∷ []) ≡ 24 ∷ 28 ∷ 26 ∷ 24 ∷ 4 ∷ 4 ∷ 30 ∷ 40 ∷ []
lengths = refl

known_kinds : map is_kind (0 ∷ 1 ∷ 7 ∷ 8 ∷ 16 ∷ 17 ∷ 18 ∷ 19 ∷ 81 ∷ 82 ∷ []) ≡ false ∷ true ∷ true ∷ false ∷ false ∷ true ∷ true ∷ false ∷ false ∷ false ∷ []
unfolding some_holds
known_kinds = refl

edit_kinds_lem : map is_edit_kind (0 ∷ 1 ∷ 2 ∷ 3 ∷ 4 ∷ 5 ∷ 7 ∷ 16 ∷ 17 ∷ 18 ∷ 19 ∷ []) ≡ false ∷ true ∷ true ∷ true ∷ true ∷ false ∷ false ∷ false ∷ true ∷ true ∷ false ∷ []
edit_kinds_lem = refl

-- Kind 17 with the length of an Add in hundredths, and kind 16 with its own.
short_in_minutes : header_of (24 ∷ 0 ∷ 17 ∷ 0 ∷ replicate 22 0) ≡ Err 5
unfolding header_of length_fits some_holds all_hold
short_in_minutes = refl

kind_16 : header_of (30 ∷ 0 ∷ 16 ∷ 0 ∷ replicate 28 0) ≡ Err 4
unfolding header_of length_fits some_holds all_hold
kind_16 = refl

-- 90° 0', down 1° 30' in place of 90.00° and −1.50°: the edit of the whole case.
abbrev minutes_case : Bytes
minutes_case =
    30 ∷ 0 ∷ 17 ∷ 0 ∷ 0 ∷ 0 ∷ 0 ∷ 0 ∷ 1 ∷ 0 ∷ 0 ∷ 0 ∷ 0 ∷ 0 ∷ 1 ∷ 0 ∷ 2 ∷ 0 ∷ 136 ∷ 19 ∷ 0 ∷ 0 ∷ 90 ∷ 0 ∷ 0 ∷ 0 ∷ 1 ∷ 0 ∷ 1 ∷ 0 ∷ 30 ∷ 0 ∷ []

abbrev in_minutes : ℕ → ℕ → ℕ → ℕ → ℕ → Minutes
in_minutes compass_degrees compass_minutes sign clino_degrees clino_minutes = record {
  distance = 5000;
  compass_degrees = compass_degrees;
  compass_minutes = compass_minutes;
  sign = sign;
  clino_degrees = clino_degrees;
  clino_minutes = clino_minutes;
}

minutes_asked : minutes_frame 0 (AddInMinutes 0 1 0 0 (record { from = 1; to = 2 }) (in_minutes 90 0 1 1 30)) ≡ minutes_case
unfolding minutes_frame
minutes_asked = refl

minutes_read : request_in minutes_case ≡ Request.Open 0 (adding 5000 (negsuc 149))
unfolding request_in request_of_kind edit_of_kind add_in_minutes hundredths_of
minutes_read = refl

minutes_header : header_of minutes_case ≡ Ok 17
unfolding header_of length_fits some_holds all_hold
minutes_header = refl

-- 45° 10', down 3° 20': five different numbers, so that each has its own place; 45.17° and −3.33°.
abbrev five_fields : Bytes
five_fields =
    30 ∷ 0 ∷ 17 ∷ 0 ∷ 0 ∷ 0 ∷ 0 ∷ 0 ∷ 1 ∷ 0 ∷ 0 ∷ 0 ∷ 0 ∷ 0 ∷ 1 ∷ 0 ∷ 2 ∷ 0 ∷ 136 ∷ 19 ∷ 0 ∷ 0 ∷ 45 ∷ 0 ∷ 10 ∷ 0 ∷ 1 ∷ 0 ∷ 3 ∷ 0 ∷ 20 ∷ 0 ∷ []

fields_asked : minutes_frame 0 (AddInMinutes 0 1 0 0 (record { from = 1; to = 2 }) (in_minutes 45 10 1 3 20)) ≡ five_fields
unfolding minutes_frame
fields_asked = refl

fields_read : request_in five_fields ≡ Request.Open 0 (add_of (record { distance = 5000; compass = 4517; clino = negsuc 332 }))
unfolding request_in request_of_kind edit_of_kind add_in_minutes hundredths_of
fields_read = refl

-- That leg corrected, from 90° 0', down 1° 30' to 45° 1', down 0° 30':
-- 28 00 12 00 00 00 00 00 01 00 01 00 02 00, 88 13 00 00 5A 00 00 00 01 00 01 00 1E 00, 88 13 00 00 2D 00 01 00 01 00 00 00 1E 00.
abbrev correction_case : Bytes
correction_case =
    40 ∷ 0 ∷ 18 ∷ 0 ∷ 0 ∷ 0 ∷ 0 ∷ 0 ∷ 1 ∷ 0 ∷ 1 ∷ 0 ∷ 2 ∷ 0
    ∷ 136 ∷ 19 ∷ 0 ∷ 0 ∷ 90 ∷ 0 ∷ 0 ∷ 0 ∷ 1 ∷ 0 ∷ 1 ∷ 0 ∷ 30 ∷ 0
    ∷ 136 ∷ 19 ∷ 0 ∷ 0 ∷ 45 ∷ 0 ∷ 1 ∷ 0 ∷ 1 ∷ 0 ∷ 0 ∷ 0 ∷ 30 ∷ 0 ∷ []

correction_asked : minutes_frame 0 (CorrectInMinutes 0 1 (record { from = 1; to = 2 }) (in_minutes 90 0 1 1 30) (in_minutes 45 1 1 0 30)) ≡ correction_case
unfolding minutes_frame
correction_asked = refl

correction_read : request_in correction_case ≡ Request.Open 0 (Edit.Correct (record {
  passage = 0;
  leg = 1;
  stations = record { from = 1; to = 2 };
  old = record { distance = 5000; compass = 9000; clino = negsuc 149 };
  new = record { distance = 5000; compass = 4502; clino = negsuc 49 };
}))
unfolding request_in request_of_kind edit_of_kind correct_in_minutes hundredths_of
correction_read = refl

correction_header : header_of correction_case ≡ Ok 18
unfolding header_of length_fits some_holds all_hold
correction_header = refl

view_lengths : map (length_fits 7) (6 ∷ 7 ∷ 8 ∷ 9 ∷ 10 ∷ 18 ∷ 19 ∷ 20 ∷ []) ≡ false ∷ false ∷ true ∷ false ∷ true ∷ true ∷ false ∷ false ∷ []
unfolding length_fits all_hold
view_lengths = refl

-- Answers.
standing_5 : answer_frame (Answer.Standing 5) ≡ 4 ∷ 0 ∷ 128 ∷ 0 ∷ 5 ∷ 0 ∷ []
unfolding answer_frame
standing_5 = refl

granted_10 : answer_frame (Answer.Step (Granted 10)) ≡ 6 ∷ 0 ∷ 134 ∷ 0 ∷ 10 ∷ 0 ∷ 0 ∷ 0 ∷ []
unfolding answer_frame
granted_10 = refl

stale_1_3 : answer_frame (Answer.Step (Stale 1 3)) ≡ 8 ∷ 0 ∷ 135 ∷ 0 ∷ 1 ∷ 0 ∷ 3 ∷ 0 ∷ 0 ∷ 0 ∷ []
unfolding answer_frame
stale_1_3 = refl

-- Word 4,095 is waited for, which team 3 holds: the word goes before the team.
waiting_4095_3 : answer_frame (Answer.Step (Waiting 4095 3)) ≡ 6 ∷ 0 ∷ 130 ∷ 0 ∷ 255 ∷ 15 ∷ 3 ∷ 0 ∷ []
unfolding answer_frame
waiting_4095_3 = refl

waiting_heard : answer_in (6 ∷ 0 ∷ 130 ∷ 0 ∷ 255 ∷ 15 ∷ 3 ∷ 0 ∷ []) ≡ some (Answer.Step (Waiting 4095 3))
unfolding answer_in answer_frame numbers64 fields64
waiting_heard = refl

-- The measure of the leg above, looked at.
value : answer_frame (Answer.Look (Some 76022100792200)) ≡ 10 ∷ 0 ∷ 136 ∷ 0 ∷ 136 ∷ 19 ∷ 80 ∷ 70 ∷ 36 ∷ 69 ∷ 0 ∷ 0 ∷ []
unfolding answer_frame
value = refl

held : answer_frame (Answer.Look None) ≡ 2 ∷ 0 ∷ 137 ∷ 0 ∷ []
unfolding answer_frame
held = refl

-- Two values seen together, of a view whose room for six holds no more; and the longest answer, six.
abbrev seen_of : ℕ → Values
seen_of n = values_from n (1 ∷ 76022100792200 ∷ [])

seen_two_lem : answer_frame (Answer.Step (Seen (seen_of 2))) ≡ 18 ∷ 0 ∷ 139 ∷ 0 ∷ 1 ∷ 0 ∷ 0 ∷ 0 ∷ 0 ∷ 0 ∷ 0 ∷ 0 ∷ 136 ∷ 19 ∷ 80 ∷ 70 ∷ 36 ∷ 69 ∷ 0 ∷ 0 ∷ []
unfolding answer_frame fields64
seen_two_lem = refl

seen_six : length (answer_frame (Answer.Step (Seen (seen_of 6)))) ≡ 52
unfolding answer_frame fields64
seen_six = refl

seen_heard : answer_in (answer_frame (Answer.Step (Seen (seen_of 2)))) ≡ some (Answer.Step (Seen (seen_of 2)))
unfolding answer_in answer_frame numbers64 fields64
seen_heard = refl

-- The bytes of an output after the frame stay.
held_written : written (replicate 12 7) (answer_frame (Answer.Look None)) ≡ (4, 2 ∷ 0 ∷ 137 ∷ 0 ∷ replicate 8 7)
unfolding answer_frame
held_written = refl

-- Bytes heard: a frame, the frame with a byte more, with another length field, and of another kind.
heard : answer_in (4 ∷ 0 ∷ 138 ∷ 0 ∷ 11 ∷ 0 ∷ []) ≡ some (Answer.Refused 11)
unfolding answer_in answer_frame numbers64 fields64
heard = refl

heard_more : answer_in (4 ∷ 0 ∷ 138 ∷ 0 ∷ 11 ∷ 0 ∷ 0 ∷ []) ≡ none
unfolding answer_in answer_frame numbers64 fields64
heard_more = refl

heard_length : answer_in (5 ∷ 0 ∷ 138 ∷ 0 ∷ 11 ∷ 0 ∷ []) ≡ none
unfolding answer_in answer_frame numbers64 fields64
heard_length = refl

heard_kind : answer_in (4 ∷ 0 ∷ 139 ∷ 0 ∷ 11 ∷ 0 ∷ []) ≡ none
unfolding answer_in answer_frame numbers64 fields64
heard_kind = refl

-- Frames refused by 3, 4 and 5.
short : header_of (2 ∷ 0 ∷ 5 ∷ []) ≡ Err 3
unfolding header_of length_fits some_holds all_hold
short = refl

torn : header_of (6 ∷ 0 ∷ 5 ∷ 0 ∷ 0 ∷ 0 ∷ []) ≡ Err 3
unfolding header_of length_fits some_holds all_hold
torn = refl

kind_8 : header_of (4 ∷ 0 ∷ 8 ∷ 0 ∷ 0 ∷ 0 ∷ []) ≡ Err 4
unfolding header_of length_fits some_holds all_hold
kind_8 = refl

step_as_add : header_of (4 ∷ 0 ∷ 1 ∷ 0 ∷ 0 ∷ 0 ∷ []) ≡ Err 5
unfolding header_of length_fits some_holds all_hold
step_as_add = refl

-- A view with no word, with half a word more than none or one, and with seven.
view_of_none : header_of (6 ∷ 0 ∷ 7 ∷ 0 ∷ 3 ∷ 0 ∷ 0 ∷ 0 ∷ []) ≡ Err 5
unfolding header_of length_fits some_holds all_hold
view_of_none = refl

view_of_half : header_of (7 ∷ 0 ∷ 7 ∷ 0 ∷ 3 ∷ 0 ∷ 1 ∷ 0 ∷ 64 ∷ []) ≡ Err 5
unfolding header_of length_fits some_holds all_hold
view_of_half = refl

view_and_half : header_of (9 ∷ 0 ∷ 7 ∷ 0 ∷ 3 ∷ 0 ∷ 1 ∷ 0 ∷ 64 ∷ 0 ∷ 65 ∷ []) ≡ Err 5
unfolding header_of length_fits some_holds all_hold
view_and_half = refl

view_of_seven : header_of (request_frame (Request.View 3 7 (0 ∷ 1 ∷ 2 ∷ 3 ∷ 4 ∷ 5 ∷ 6 ∷ []))) ≡ Err 5
unfolding header_of length_fits request_frame some_holds all_hold
view_of_seven = refl

-- Clino 9,001: 10. Distance 0: 10. Distance 100,000 passes. Strike with f = r: 11.
clino_9001 : edit_read (adding 5000 (pos 9001)) ≡ Err 10
unfolding edit_read edit_in_range edit_repeats measure_in_range all_hold some_holds
clino_9001 = refl

distance_0 : edit_read (adding 0 (negsuc 149)) ≡ Err 10
unfolding edit_read edit_in_range edit_repeats measure_in_range all_hold some_holds
distance_0 = refl

distance_100000 : edit_read (adding 100000 (negsuc 149)) ≡ Ok (adding 100000 (negsuc 149))
unfolding edit_read edit_in_range edit_repeats measure_in_range all_hold some_holds
distance_100000 = refl

abbrev striking : ℕ → ℕ → ℕ → ℕ → Edit
striking newer distance from to = Edit.Strike (record {
  passage = 0;
  newer = newer;
  leg = 1;
  older = 0;
  count = 1;
  stations = record { from = from; to = to };
  measure = record { distance = distance; compass = 9000; clino = negsuc 149 };
})

strike_itself : edit_read (striking 1 5000 1 2) ≡ Err 11
unfolding edit_read edit_in_range edit_repeats measure_in_range all_hold some_holds
strike_itself = refl

-- 10 goes before 11 across the whole edit.
range_first : edit_read (striking 1 0 7 7) ≡ Err 10
unfolding edit_read edit_in_range edit_repeats measure_in_range all_hold some_holds
range_first = refl

-- A view: an n other than the count of words, or a word above 4,095: 10, before 11. Equal words: 11.
view_other_n : view_read 3 (64 ∷ 65 ∷ []) ≡ Err 10
unfolding view_read view_in_range view_repeats all_in_book distinct all_hold
view_other_n = refl

view_word_4096 : view_read 2 (64 ∷ 4096 ∷ []) ≡ Err 10
unfolding view_read view_in_range view_repeats all_in_book distinct all_hold
view_word_4096 = refl

view_twice : view_read 3 (64 ∷ 65 ∷ 64 ∷ []) ≡ Err 11
unfolding view_read view_in_range view_repeats all_in_book distinct all_hold
view_twice = refl

view_range_first : view_read 3 (4096 ∷ 64 ∷ 64 ∷ []) ≡ Err 10
unfolding view_read view_in_range view_repeats all_in_book distinct all_hold
view_range_first = refl

view_fine : view_read 2 (64 ∷ 4095 ∷ []) ≡ Ok (record { n = 2; words = 64 ∷ 4095 ∷ 0 ∷ 0 ∷ 0 ∷ 0 ∷ [] })
unfolding view_read view_in_range view_repeats all_in_book distinct all_hold
view_fine = refl
