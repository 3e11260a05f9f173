-- Two opposite moves between passages 0 and 1 do not block each other; an add whose leg is in use gives back; and all four edits, one after another.
use Prim.Native.Nat.{ℕ}
use mathlib.Core.Path.{◌≡◌, refl}
use mathlib.Core.Bool.{Bool, true, false}
use mathlib.Core.List.{List, [], ◌∷◌, ◌++◌, map}
use mathlib.Core.Option.{some}
use lib.ListN.{take, drop, replicate}
use lib.IntN.{pos}
use Rattle.legs.specs.Legs.{place_of, measure_of}
use Rattle.tickets.specs.declared.StepAnswer.TheVariants.{Claimed, Waiting, Found, Put, Returned, Granted, Stale}
use Rattle.std.specs.Prelude.{None, Some}
use Rattle.edits.specs.declared.Edit.{Edit}
use Rattle.edits.specs.declared.Edit.TheVariants.{Add, Correct, Strike, Move}
use Rattle.frames.specs.declared.Answer.TheVariants as Answer
use Rattle.frames.specs.Request.{Request, Open, Step, Look}
use Rattle.plain.specs.Plain.{Plain, legs_in_book}
use Rattle.plain.specs.Editing.{adds_in, strikes_in}
use Rattle.calls.specs.Order.{granted, stale, Event, decided, looked, holds}
use Rattle.calls.specs.Linearizable.{play, granted_of, heard_on, order_of, book_after}
use Rattle.calls.specs.Bench.{stations, that_measure, measured, first_leg}
use Rattle.calls.proofs.ExampleCalls.{every_run, calls, steps, answers, leg, plain_words}

-- Leg r to the front of passage p, for h and c.
abbrev pub adding : ℕ → ℕ → ℕ → ℕ → Edit
adding passage number newest count = Add (record { passage = passage; leg = number; newest = newest; count = count; stations = stations; measure = that_measure })

-- Leg 1 from passage 0 to 1; leg 2 from passage 1 to 0.
abbrev pub move_first : Edit
move_first = Move (record { passage = 0; into = 1; newer = 0; leg = 1; older = 0; count = 1; into_newest = 2; into_count = 1; stations = stations })

abbrev pub move_second : Edit
move_second = Move (record { passage = 1; into = 0; newer = 0; leg = 2; older = 0; count = 1; into_newest = 1; into_count = 1; stations = stations })

abbrev pub setting : List Request
setting = (Open 0 (first_leg 1 0 that_measure) ∷ steps 10 0) ++ (Open 1 (adding 1 2 0 0) ∷ steps 10 1)

abbrev opposite : List Request
opposite =
    Open 0 move_first ∷ Open 1 move_second ∷ Step 1 ∷ Step 0 ∷ Look 0 ∷ Look 2
    ∷ steps 7 1 ++ (Step 0 ∷ steps 8 1) ++ (Step 0 ∷ Look 2 ∷ [])

opposite_answers : drop 22 (answers (calls (setting ++ opposite)))
    ≡ map some (Answer.Standing 8 ∷ Answer.Standing 8 ∷ Answer.Step (Claimed 1) ∷ Answer.Step (Waiting 0 1) ∷ Answer.Look None ∷ Answer.Look (Some 2)
    ∷ Answer.Step (Claimed 2) ∷ Answer.Step (Claimed 3) ∷ Answer.Step (Claimed 4) ∷ Answer.Step (Claimed 5) ∷ Answer.Step (Claimed 6) ∷ Answer.Step (Claimed 7) ∷ Answer.Step (Claimed 8)
    ∷ Answer.Step (Waiting 0 1)
    ∷ Answer.Step (Put 1) ∷ Answer.Step (Put 2) ∷ Answer.Step (Put 3) ∷ Answer.Step (Put 4) ∷ Answer.Step (Put 5) ∷ Answer.Step (Put 6) ∷ Answer.Step (Put 7) ∷ Answer.Step (Granted 16)
    ∷ Answer.Step (Stale 0 3) ∷ Answer.Look (Some 0) ∷ [])
unfolding every_run
opposite_answers = refl

abbrev opposite_events : List Event
opposite_events =
    decided granted (first_leg 1 0 that_measure) ∷ decided granted (adding 1 2 0 0)
    ∷ looked 2 2 ∷ decided granted move_second ∷ decided stale move_first ∷ looked 2 0 ∷ []

opposite_order : order_of [] (calls (setting ++ opposite)) ≡ opposite_events
unfolding every_run
opposite_order = refl

opposite_plain : play opposite_events ≡ (leg 2 that_measure ∷ leg 1 that_measure ∷ []) ∷ replicate 31 []
unfolding every_run
opposite_plain = refl

-- Leg 1 is in use: words 10, 11 and 64 are claimed, 65 differs, and the three are given back.
abbrev in_use : List Request
in_use = (Open 0 (first_leg 1 0 that_measure) ∷ steps 10 0) ++ (Open 2 (adding 5 1 0 0) ∷ steps 7 2)

in_use_answers : drop 11 (answers (calls in_use))
    ≡ map some (Answer.Standing 5 ∷ Answer.Step (Claimed 1) ∷ Answer.Step (Claimed 2) ∷ Answer.Step (Claimed 3) ∷ Answer.Step (Found 65)
    ∷ Answer.Step (Returned 1) ∷ Answer.Step (Returned 2) ∷ Answer.Step (Stale 65 7) ∷ [])
unfolding every_run
in_use_answers = refl

-- Decided as stale at Found; after Returned 1 words 11 and 64 are still held.
in_use_order : order_of [] (calls (take 16 in_use)) ≡ decided granted (first_leg 1 0 that_measure) ∷ decided stale (adding 5 1 0 0) ∷ []
unfolding every_run
in_use_order = refl

abbrev held_after_returned : List Bool
held_after_returned =
    let heard = heard_on [] (calls (take 17 in_use)) in
    holds heard 2 10 ∷ holds heard 2 11 ∷ holds heard 2 64 ∷ holds heard 2 65 ∷ []

in_use_held : held_after_returned ≡ false ∷ true ∷ true ∷ false ∷ []
unfolding every_run
in_use_held = refl

-- Legs 1 and 2 are added to passage 0, leg 1 corrected, leg 2 moved to passage 3, leg 1 struck; looks between, at leg 2's link and at leg 1's newer word too.
abbrev correct_first : Edit
correct_first = Correct (record { passage = 0; leg = 1; stations = stations; old = that_measure; new = measured 6000 (pos 20) })

abbrev move_away : Edit
move_away = Move (record { passage = 0; into = 3; newer = 0; leg = 2; older = 1; count = 2; into_newest = 0; into_count = 0; stations = stations })

abbrev strike_first : Edit
strike_first = Strike (record { passage = 0; newer = 0; leg = 1; older = 0; count = 1; stations = stations; measure = measured 6000 (pos 20) })

abbrev four : List Request
four =
    (Open 0 (first_leg 1 0 that_measure) ∷ steps 10 0) ++ (Open 0 (adding 0 2 1 1) ∷ steps 12 0)
    ++ (Look 68 ∷ Look 67 ∷ Open 0 correct_first ∷ steps 4 0)
    ++ (Look 66 ∷ Open 0 move_away ∷ steps 16 0)
    ++ (Look 6 ∷ Look 7 ∷ Look 69 ∷ Look 67 ∷ Open 0 strike_first ∷ steps 12 0)
    ++ (Look 0 ∷ Look 1 ∷ Look 65 ∷ [])

abbrev four_events : List Event
four_events =
    decided granted (first_leg 1 0 that_measure) ∷ decided granted (adding 0 2 1 1)
    ∷ looked 68 1 ∷ looked 67 2 ∷ decided granted correct_first
    ∷ looked 66 (measure_of (measured 6000 (pos 20))) ∷ decided granted move_away
    ∷ looked 6 2 ∷ looked 7 1 ∷ looked 69 (place_of 3 stations) ∷ looked 67 0 ∷ decided granted strike_first
    ∷ looked 0 0 ∷ looked 1 0 ∷ looked 65 0 ∷ []

four_order : order_of [] (calls four) ≡ four_events
unfolding every_run
four_order = refl

-- The plain book in the end: passage 3 has leg 2, and all else is empty.
abbrev four_plain : Plain
four_plain = [] ∷ [] ∷ [] ∷ (leg 2 that_measure ∷ []) ∷ replicate 28 []

four_plain_lem : play four_events ≡ four_plain
unfolding every_run
four_plain_lem = refl

-- Its legs are the granted adds less the granted strikes.
four_counts : legs_in_book four_plain ∷ granted_of adds_in four_events ∷ granted_of strikes_in four_events ∷ [] ≡ 1 ∷ 2 ∷ 1 ∷ []
unfolding every_run
four_counts = refl

-- The book's first 72 words, the last of them leg 2's newer word, and the plain book's.
abbrev first_words : List ℕ
first_words = replicate 6 0 ++ (2 ∷ 1 ∷ replicate 61 0) ++ (place_of 3 stations ∷ measure_of that_measure ∷ 0 ∷ [])

four_words : take 72 (book_after [] (calls four)) ≡ first_words
unfolding every_run
four_words = refl

four_plain_words : plain_words 72 0 four_plain ≡ first_words
unfolding every_run
four_plain_words = refl
