-- Examples 10 and 12 as lists of calls: an add that finds another count and gives back; and two teams that contend for passage 0, with looks between. A third: a team that waits and is granted.
use Prim.Native.Nat.{ℕ}
use mathlib.Core.Path.{◌≡◌, refl}
use mathlib.Core.Bool.{true, false}
use mathlib.Core.List.{List, [], ◌∷◌, ◌++◌, map}
use mathlib.Core.Option.{Option, none, some}
use lib.ListN.{length, replicate}
use Rattle.tickets.specs.declared.StepAnswer.TheVariants.{Claimed, Waiting, Found, Put, Granted, Stale}
use Rattle.std.specs.Prelude.{None, Some}
use Rattle.edits.specs.declared.Edit.{Edit}
use Rattle.edits.specs.declared.Edit.TheVariants.{Add}
use Rattle.frames.specs.declared.Answer.TheVariants as Answer
use Rattle.frames.specs.Request.{Open, Step, Look}
use Rattle.plain.specs.Plain.{fresh_plain}
use Rattle.calls.specs.Run.{Call}
use Rattle.calls.specs.Order.{granted, stale, Event, decided, looked, Last, was_granted, was_stale, Ended, ended, holds, notes_on}
use Rattle.calls.specs.Linearizable.{play, heard_on, order_of}
use Rattle.calls.specs.Bench.{stations, that_measure, first_leg}
use Rattle.calls.proofs.ExampleCalls.{every_run, calls, steps, answers, leg}

-- Of each ticket that ended: its last answer, its steps, its waits, the word that Found named, and how many decisions it had.
pub record EndedAs : Type 0 where
  last : Last
  steps : ℕ
  waits : ℕ
  found : Option ℕ
  decisions : ℕ

abbrev ended_as : List Ended → List EndedAs
ended_as ends = map (λ end. record { last = end.last; steps = end.ticket.steps; waits = end.ticket.waits; found = end.ticket.found; decisions = length end.ticket.decisions }) ends

-- Example 10: fresh book, Add p 0, h 0, c 1; then so many steps.
abbrev other_count : ℕ → List Call
other_count many = calls (Open 0 (first_leg 1 1 that_measure) ∷ steps many 0)

other_answers : answers (other_count 3) ≡ map some (Answer.Standing 5 ∷ Answer.Step (Claimed 1) ∷ Answer.Step (Found 1) ∷ Answer.Step (Stale 1 3) ∷ [])
unfolding every_run
other_answers = refl

-- It is decided as stale at Found, and not again at Stale.
other_order : map (λ many. order_of [] (other_count many)) (1 ∷ 2 ∷ 3 ∷ []) ≡ [] ∷ (decided stale (first_leg 1 1 that_measure) ∷ []) ∷ (decided stale (first_leg 1 1 that_measure) ∷ []) ∷ []
unfolding every_run
other_order = refl

other_plain : play (order_of [] (other_count 3)) ≡ fresh_plain
unfolding every_run
other_plain = refl

-- Word 0 is held from Claimed until the last answer, which gives it back.
other_held : map (λ many. holds (heard_on [] (other_count many)) 0 0) (0 ∷ 1 ∷ 2 ∷ 3 ∷ []) ≡ false ∷ true ∷ true ∷ false ∷ []
unfolding every_run
other_held = refl

other_ended : ended_as (ended (heard_on [] (other_count 3))) ≡ record { last = was_stale 1 3; steps = 3; waits = 0; found = some 1; decisions = 1 } ∷ []
unfolding every_run
other_ended = refl

-- Example 12: teams 0 and 1 both add first legs to passage 0.
abbrev contended : List Call
contended =
    calls (Open 0 (first_leg 1 0 that_measure) ∷ Open 1 (first_leg 2 0 that_measure) ∷ Step 0 ∷ Step 1 ∷ Look 0 ∷ Look 1
    ∷ steps 9 0 ++ (Look 0 ∷ Step 1 ∷ Step 1 ∷ []))

contended_answers : answers contended
    ≡ map some (Answer.Standing 5 ∷ Answer.Standing 5 ∷ Answer.Step (Claimed 1) ∷ Answer.Step (Waiting 0 0) ∷ Answer.Look None ∷ Answer.Look (Some 0)
    ∷ Answer.Step (Claimed 2) ∷ Answer.Step (Claimed 3) ∷ Answer.Step (Claimed 4) ∷ Answer.Step (Claimed 5)
    ∷ Answer.Step (Put 1) ∷ Answer.Step (Put 2) ∷ Answer.Step (Put 3) ∷ Answer.Step (Put 4) ∷ Answer.Step (Granted 10)
    ∷ Answer.Look (Some 1) ∷ Answer.Step (Stale 0 2) ∷ Answer.Refused 9 ∷ [])
unfolding every_run
contended_answers = refl

abbrev events : List Event
events = looked 1 0 ∷ decided granted (first_leg 1 0 that_measure) ∷ looked 0 1 ∷ decided stale (first_leg 2 0 that_measure) ∷ []

contended_order : order_of [] contended ≡ events
unfolding every_run
contended_order = refl

contended_plain : play events ≡ (leg 1 that_measure ∷ []) ∷ replicate 31 []
unfolding every_run
contended_plain = refl

contended_ended : ended_as (ended (heard_on [] contended))
    ≡ record { last = was_granted 10; steps = 10; waits = 0; found = none; decisions = 1 }
    ∷ record { last = was_stale 0 2; steps = 2; waits = 1; found = none; decisions = 1 } ∷ []
unfolding every_run
contended_ended = refl

contended_in_turn : (notes_on (heard_on [] contended)).out_of_turn ≡ 0
unfolding every_run
contended_in_turn = refl

-- Team 1 adds behind team 0's leg, which is decided and not yet put: it waits once, and is granted after 2 × 6 + 1 tries, since it sets leg 1's newer word too.
abbrev behind : Edit
behind = Add record { passage = 0; leg = 2; newest = 1; count = 1; stations = stations; measure = that_measure }

abbrev patient : List Call
patient = calls (Open 0 (first_leg 1 0 that_measure) ∷ steps 5 0 ++ (Open 1 behind ∷ Step 1 ∷ steps 5 0 ++ steps 12 1))

patient_ended : ended_as (ended (heard_on [] patient))
    ≡ record { last = was_granted 10; steps = 10; waits = 0; found = none; decisions = 1 }
    ∷ record { last = was_granted 13; steps = 13; waits = 1; found = none; decisions = 1 } ∷ []
unfolding every_run
patient_ended = refl

patient_plain : play (order_of [] patient) ≡ (leg 2 that_measure ∷ leg 1 that_measure ∷ []) ∷ replicate 31 []
unfolding every_run
patient_plain = refl
