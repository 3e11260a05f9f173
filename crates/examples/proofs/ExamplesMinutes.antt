-- Edits in degrees and minutes: the whole case in minutes, a leg quoted in the other form, a plumb leg, and angles out of range.
use Prim.Native.Nat.{ℕ}
use mathlib.Core.Path.{◌≡◌, refl}
use mathlib.Core.List.{List, [], ◌∷◌, ◌++◌, map}
use mathlib.Core.Option.{Option, none, some}
use lib.ListN.{replicate}
use lib.IntN.{pos, negsuc}
use Rattle.words.specs.Words.{words_in_book}
use Rattle.legs.specs.declared.Measure.{Measure}
use Rattle.legs.specs.Positions.{fixed_ranks}
use Rattle.legs.specs.Minutes.{Minutes}
use Rattle.tickets.specs.Tickets.{Tickets, fresh_tickets, with_ticket}
use Rattle.edits.specs.Opened.{opened_ticket}
use Rattle.frames.specs.Request.{Open}
use Rattle.frames.specs.Numbers.{Bytes}
use Rattle.frames.specs.Answers.{longest_answer}
use Rattle.frames.specs.Writing.{request_frame}
use Rattle.frames.specs.Minutes.{MinutesEdit, AddInMinutes, CorrectInMinutes, rounded_edit, minutes_frame}
use Rattle.plain.specs.Plain.{Plain}
use Rattle.calls.specs.Call.{refusal_of}
use Rattle.calls.specs.Run.{Call, framed}
use Rattle.calls.specs.Order.{granted, decided}
use Rattle.calls.specs.Linearizable.{play, heard_on, order_of}
use Rattle.calls.specs.Survey.{all_written}
use Rattle.calls.specs.Bench.{stations, that_measure, first_leg, add_frame, step_frame, whole_case_output}
use Rattle.calls.proofs.Computing.{everything}
use Rattle.calls.proofs.ExampleCalls.{every_run, leg}

-- 90° 0', down 1° 30': 1E 00 11 00 00 00 00 00 01 00 00 00 00 00 01 00 02 00 88 13 00 00 5A 00 00 00 01 00 01 00 1E 00.
abbrev minutes_case : Bytes
minutes_case =
    30 ∷ 0 ∷ 17 ∷ 0 ∷ 0 ∷ 0 ∷ 0 ∷ 0 ∷ 1 ∷ 0 ∷ 0 ∷ 0 ∷ 0 ∷ 0 ∷ 1 ∷ 0 ∷ 2 ∷ 0 ∷ 136 ∷ 19 ∷ 0 ∷ 0 ∷ 90 ∷ 0 ∷ 0 ∷ 0 ∷ 1 ∷ 0 ∷ 1 ∷ 0 ∷ 30 ∷ 0 ∷ []

abbrev called : Bytes → Call
called frame = framed frame (replicate longest_answer 0)

-- The add and ten steps: the bytes and the order of the whole case.
abbrev whole_in_minutes : List Call
whole_in_minutes = called minutes_case ∷ replicate 10 (called step_frame)

minutes_written : all_written (heard_on [] whole_in_minutes) ≡ whole_case_output
unfolding every_run
minutes_written = refl

minutes_order : order_of [] whole_in_minutes ≡ decided granted (first_leg 1 0 that_measure) ∷ []
unfolding every_run
minutes_order = refl

-- That leg's M in minutes, and others: 5,000 mm.
abbrev in_minutes : ℕ → ℕ → ℕ → ℕ → ℕ → Minutes
in_minutes compass_degrees compass_minutes sign clino_degrees clino_minutes = record {
  distance = 5000;
  compass_degrees = compass_degrees;
  compass_minutes = compass_minutes;
  sign = sign;
  clino_degrees = clino_degrees;
  clino_minutes = clino_minutes;
}

abbrev adding : Minutes → MinutesEdit
adding m = AddInMinutes 0 1 0 0 stations m

-- Added in hundredths and corrected in minutes, to 45° 1' and half a degree down: granted, to 45.02° and −0.50°.
abbrev correction : MinutesEdit
correction = CorrectInMinutes 0 1 stations (in_minutes 90 0 1 1 30) (in_minutes 45 1 1 0 30)

abbrev corrected : List Call
corrected = called add_frame ∷ replicate 10 (called step_frame) ++ called (minutes_frame 0 correction) ∷ replicate 4 (called step_frame)

corrected_order : order_of [] corrected ≡ decided granted (first_leg 1 0 that_measure) ∷ decided granted (rounded_edit correction) ∷ []
unfolding every_run minutes_frame
corrected_order = refl

abbrev corrected_measure : Measure
corrected_measure = record { distance = 5000; compass = 4502; clino = negsuc 49 }

abbrev corrected_book : Plain
corrected_book = (leg 1 corrected_measure ∷ []) ∷ replicate 31 []

corrected_book_lem : play (order_of [] corrected) ≡ corrected_book
unfolding every_run minutes_frame
corrected_book_lem = refl

-- Added in hundredths at 45.02° and −0.02°, and quoted as 45° 1', down 0° 1', both of which are rounded up: granted, to 10° 0' and down 0° 0', which is 0.
abbrev quoted_measure : Measure
quoted_measure = record { distance = 5000; compass = 4502; clino = negsuc 1 }

abbrev quoting : MinutesEdit
quoting = CorrectInMinutes 0 1 stations (in_minutes 45 1 1 0 1) (in_minutes 10 0 1 0 0)

abbrev quoted : List Call
quoted = called (request_frame (Open 0 (first_leg 1 0 quoted_measure))) ∷ replicate 10 (called step_frame) ++ called (minutes_frame 0 quoting) ∷ replicate 4 (called step_frame)

quoted_order : order_of [] quoted ≡ decided granted (first_leg 1 0 quoted_measure) ∷ decided granted (rounded_edit quoting) ∷ []
unfolding every_run minutes_frame
quoted_order = refl

abbrev level_measure : Measure
level_measure = record { distance = 5000; compass = 1000; clino = pos 0 }

abbrev level_book : Plain
level_book = (leg 1 level_measure ∷ []) ∷ replicate 31 []

quoted_book : play (order_of [] quoted) ≡ level_book
unfolding every_run minutes_frame
quoted_book = refl

-- A plumb leg in minutes: its compass is taken as 0.
abbrev plumb_measure : Measure
plumb_measure = record { distance = 5000; compass = 0; clino = negsuc 8999 }

abbrev plumb_book : Plain
plumb_book = (leg 1 plumb_measure ∷ []) ∷ replicate 31 []

plumb_book_lem : play (decided granted (rounded_edit (adding (in_minutes 17 10 1 90 0))) ∷ []) ≡ plumb_book
unfolding every_run
plumb_book_lem = refl

-- Refused over an empty book and these tickets; over none.
abbrev refusals_over : Tickets → List Bytes → List (Option ℕ)
refusals_over tickets frames = map (λ frame. refusal_of (replicate words_in_book 0) tickets fixed_ranks frame (replicate longest_answer 0)) frames

abbrev refusals : List Bytes → List (Option ℕ)
refusals frames = refusals_over fresh_tickets frames

-- The ends of the ranges, and zero down; minute 60 of the compass (10° 60' would come to 11.00°) and of the clino; degree 360, at a clino of 90° too; sign 2; 91°; 90° 1'.
angles_refused :
    refusals (map (λ m. minutes_frame 0 (adding m)) (
    in_minutes 359 59 0 90 0
    ∷ in_minutes 0 0 1 90 0
    ∷ in_minutes 0 0 1 0 0
    ∷ in_minutes 10 60 0 0 0
    ∷ in_minutes 10 0 0 10 60
    ∷ in_minutes 360 0 0 0 0
    ∷ in_minutes 360 0 0 90 0
    ∷ in_minutes 10 0 2 0 0
    ∷ in_minutes 10 0 0 91 0
    ∷ in_minutes 10 0 0 90 1
    ∷ []
    ))
    ≡ none ∷ none ∷ none ∷ some 10 ∷ some 10 ∷ some 10 ∷ some 10 ∷ some 10 ∷ some 10 ∷ some 10 ∷ []
unfolding everything minutes_frame
angles_refused = refl

-- Over a ticket, 8 goes before an angle.
angles_over_ticket :
    refusals_over (with_ticket fresh_tickets 0 (opened_ticket fixed_ranks (first_leg 1 0 that_measure))) (map (λ m. minutes_frame 0 (adding m)) (
    in_minutes 10 60 0 0 0
    ∷ in_minutes 10 0 0 0 0
    ∷ []
    ))
    ≡ some 8 ∷ some 8 ∷ []
unfolding everything minutes_frame
angles_over_ticket = refl

-- Of a correction, either M; and an angle goes before from equal to to.
corrections_refused :
    refusals (map (minutes_frame 0) (
    CorrectInMinutes 0 1 stations (in_minutes 10 60 0 0 0) (in_minutes 10 0 0 0 0)
    ∷ CorrectInMinutes 0 1 stations (in_minutes 10 0 0 0 0) (in_minutes 10 0 2 0 0)
    ∷ CorrectInMinutes 0 1 (record { from = 7; to = 7 }) (in_minutes 10 60 0 0 0) (in_minutes 10 0 0 0 0)
    ∷ CorrectInMinutes 0 1 (record { from = 7; to = 7 }) (in_minutes 10 0 0 0 0) (in_minutes 10 0 0 0 0)
    ∷ []
    ))
    ≡ some 10 ∷ some 10 ∷ some 10 ∷ some 11 ∷ []
unfolding everything minutes_frame
corrections_refused = refl
