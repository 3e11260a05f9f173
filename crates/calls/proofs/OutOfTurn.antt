-- Heard by hand: answers out of turn, which no book gives.
use Prim.Native.Nat.{ℕ}
use mathlib.Core.Path.{◌≡◌, refl}
use mathlib.Core.List.{List, [], ◌∷◌}
use Rattle.tickets.specs.declared.StepAnswer.TheVariants.{Claimed, Put, Granted}
use Rattle.frames.specs.declared.Answer.TheVariants as Answer
use Rattle.frames.specs.Request.{Open, Step, Look, View}
use Rattle.frames.specs.Writing.{request_frame}
use Rattle.calls.specs.Run.{framed, Heard}
use Rattle.calls.specs.Order.{notes_on}
use Rattle.calls.specs.Bench.{that_measure, first_leg}
use Rattle.calls.proofs.ExampleCalls.{every_run, heard_as}

abbrev out_of_turn_in : List Heard → ℕ
out_of_turn_in heard = (notes_on heard).out_of_turn

-- A step's answer without a ticket; Standing with another number, and over a ticket; an answer of another kind; no answer; Put and Granted to a view.
out_of_turn_lem :
    out_of_turn_in (heard_as (Step 0) (Answer.Step (Claimed 1)) ∷ [])
    ∷ out_of_turn_in (heard_as (Open 0 (first_leg 1 0 that_measure)) (Answer.Standing 4) ∷ [])
    ∷ out_of_turn_in (heard_as (Open 0 (first_leg 1 0 that_measure)) (Answer.Standing 5) ∷ heard_as (Open 0 (first_leg 1 0 that_measure)) (Answer.Standing 5) ∷ [])
    ∷ out_of_turn_in (heard_as (Look 0) (Answer.Standing 1) ∷ [])
    ∷ out_of_turn_in (record { call = framed (request_frame (Look 0)) []; returned = 3; output = 0 ∷ 0 ∷ 0 ∷ [] } ∷ [])
    ∷ out_of_turn_in (heard_as (View 0 1 (0 ∷ [])) (Answer.Standing 1) ∷ heard_as (Step 0) (Answer.Step (Put 1)) ∷ [])
    ∷ out_of_turn_in (heard_as (View 0 1 (0 ∷ [])) (Answer.Standing 1) ∷ heard_as (Step 0) (Answer.Step (Granted 1)) ∷ [])
    ∷ []
    ≡ 1 ∷ 1 ∷ 1 ∷ 1 ∷ 1 ∷ 1 ∷ 1 ∷ []
unfolding every_run
out_of_turn_lem = refl

-- An answer of the right kind at a wrong moment is not counted, as Put while an edit claims: demand 2's step rule forbids it.
not_counted : out_of_turn_in (heard_as (Open 0 (first_leg 1 0 that_measure)) (Answer.Standing 5) ∷ heard_as (Step 0) (Answer.Step (Put 3)) ∷ []) ≡ 0
unfolding every_run
not_counted = refl
