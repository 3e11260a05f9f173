-- A correction lands between two looks, and not between the words of a view; a view that waits; and where a view has its place.
use Prim.Native.Nat.{ℕ}
use mathlib.Core.Path.{◌≡◌, refl}
use mathlib.Core.Bool.{true, false}
use mathlib.Core.List.{List, [], ◌∷◌, ◌++◌, map}
use mathlib.Core.Option.{Option, none, some}
use lib.ListN.{take, drop}
use lib.IntN.{pos}
use Rattle.legs.specs.Legs.{place_of, measure_of}
use Rattle.tickets.specs.declared.StepAnswer.TheVariants.{Claimed, Waiting, Put, Returned, Granted, Seen}
use Rattle.std.specs.Prelude.{None, Some}
use Rattle.edits.specs.declared.Edit.{Edit}
use Rattle.edits.specs.declared.Edit.TheVariants.{Add, Correct}
use Rattle.frames.specs.declared.Answer.TheVariants as Answer
use Rattle.frames.specs.Request.{Request, Open, Step, Look, View}
use Rattle.plain.specs.Plain.{word_of}
use Rattle.calls.specs.Order.{granted, Event, decided, looked, seen, Last, was_granted, was_seen, Ended, ended, holds, notes_on}
use Rattle.calls.specs.Linearizable.{play, heard_on, order_of}
use Rattle.calls.specs.Bench.{stations, that_measure, measured, first_leg}
use Rattle.calls.proofs.ExampleCalls.{every_run, calls, steps, answers}

-- Leg 1 is in passage 0; its words are 64 to 67, the third of which a correction changes.
abbrev adding : Edit
adding = first_leg 1 0 that_measure

abbrev correcting : Edit
correcting = Correct (record { passage = 0; leg = 1; stations = stations; old = that_measure; new = measured 6000 (pos 20) })

abbrev place : ℕ
place = place_of 0 stations

abbrev before : ℕ
before = measure_of that_measure

abbrev after : ℕ
after = measure_of (measured 6000 (pos 20))

-- Two looks, the correction between them.
abbrev looks : List Request
looks = (Open 0 adding ∷ steps 10 0) ++ (Look 65 ∷ Open 0 correcting ∷ steps 4 0) ++ (Look 66 ∷ [])

looks_order : order_of [] (calls looks) ≡ decided granted adding ∷ looked 65 place ∷ decided granted correcting ∷ looked 66 after ∷ []
unfolding every_run
looks_order = refl

-- A view of words 66, 65 and 69, which are claimed as 65, 66, 69. Leg 2 is added after its first claim; the correction waits until two words are
-- given back. Both are granted before the view's last answer, which shows the words of its last claim in the order named.
abbrev adding_second : Edit
adding_second = Add (record { passage = 1; leg = 2; newest = 0; count = 0; stations = stations; measure = that_measure })

abbrev views : List Request
views =
    (Open 0 adding ∷ steps 10 0)
    ++ (View 1 3 (66 ∷ 65 ∷ 69 ∷ []) ∷ Step 1 ∷ Open 2 adding_second ∷ steps 10 2)
    ++ (Open 0 correcting ∷ Step 0 ∷ Step 1 ∷ Step 1 ∷ Step 0 ∷ Step 1 ∷ Step 1 ∷ steps 4 0)
    ++ (Look 66 ∷ Step 1 ∷ [])

views_answers : drop 24 (answers (calls views))
    ≡ map some (Answer.Standing 2 ∷ Answer.Step (Waiting 65 1) ∷ Answer.Step (Claimed 2) ∷ Answer.Step (Claimed 3) ∷ Answer.Step (Waiting 65 1)
    ∷ Answer.Step (Returned 1) ∷ Answer.Step (Returned 2) ∷ Answer.Step (Claimed 1) ∷ Answer.Step (Claimed 2) ∷ Answer.Step (Put 1) ∷ Answer.Step (Granted 6)
    ∷ Answer.Look (Some after)
    ∷ Answer.Step (Seen (record { n = 3; values = before ∷ place ∷ place_of 1 stations ∷ 0 ∷ 0 ∷ 0 ∷ [] })) ∷ [])
unfolding every_run
views_answers = refl

-- It stands at its last claim, after the add and before the correction; unfinished it had no place.
abbrev values : List ℕ
values = before ∷ place ∷ place_of 1 stations ∷ []

views_order : order_of [] (calls views)
    ≡ decided granted adding ∷ decided granted adding_second ∷ seen (66 ∷ 65 ∷ 69 ∷ []) values ∷ decided granted correcting ∷ looked 66 after ∷ []
unfolding every_run
views_order = refl

unfinished_order : order_of [] (calls (take 36 views)) ≡ decided granted adding ∷ decided granted adding_second ∷ decided granted correcting ∷ looked 66 after ∷ []
unfolding every_run
unfinished_order = refl

-- The values are the plain book's words there.
views_plain : map (word_of (play (decided granted adding ∷ decided granted adding_second ∷ []))) (66 ∷ 65 ∷ 69 ∷ []) ≡ values
unfolding every_run
views_plain = refl

-- Word 65 is held from Claimed 1 until Returned 1.
views_held : map (λ many. holds (heard_on [] (calls (take many views))) 1 65) (12 ∷ 13 ∷ 29 ∷ 30 ∷ []) ≡ false ∷ true ∷ true ∷ false ∷ []
unfolding every_run
views_held = refl

-- Of each ticket that ended: its last answer, its steps, its waits, and the order before the place of a view.
abbrev endings : List Ended → List (Last × ℕ × ℕ × Option (List Event))
endings ends = map (λ end. (end.last, end.ticket.steps, end.ticket.waits, end.ticket.place)) ends

views_ended : endings (ended (heard_on [] (calls views)))
    ≡ (was_granted 10, 10, 0, none) ∷ (was_granted 10, 10, 0, none) ∷ (was_granted 6, 6, 2, none)
    ∷ (was_seen values, 6, 0, some (decided granted adding ∷ decided granted adding_second ∷ [])) ∷ []
unfolding every_run
views_ended = refl

-- A view never is stale: it waits for word 0, which an add holds, and shows what the add left, after 2 × 2 + 1 steps.
abbrev patient : List Request
patient = Open 0 (first_leg 5 0 that_measure) ∷ Step 0 ∷ View 1 2 (1 ∷ 0 ∷ []) ∷ Step 1 ∷ steps 9 0 ++ steps 4 1

patient_ended : endings (ended (heard_on [] (calls patient)))
    ≡ (was_granted 10, 10, 0, none) ∷ (was_seen (1 ∷ 5 ∷ []), 5, 1, some (decided granted (first_leg 5 0 that_measure) ∷ [])) ∷ []
unfolding every_run
patient_ended = refl

patient_order : order_of [] (calls patient) ≡ decided granted (first_leg 5 0 that_measure) ∷ seen (1 ∷ 0 ∷ []) (1 ∷ 5 ∷ []) ∷ []
unfolding every_run
patient_order = refl

-- Nothing was out of turn.
in_turn : (notes_on (heard_on [] (calls views))).out_of_turn ∷ (notes_on (heard_on [] (calls patient))).out_of_turn ∷ [] ≡ 0 ∷ 0 ∷ []
unfolding every_run
in_turn = refl
