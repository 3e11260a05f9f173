-- Short outputs and two views at once, heard.
use mathlib.Core.Path.{◌≡◌, refl}
use mathlib.Core.List.{List, [], ◌∷◌, ◌++◌, map}
use mathlib.Core.Option.{some}
use lib.ListN.{replicate}
use Rattle.tickets.specs.declared.StepAnswer.TheVariants.{Claimed}
use Rattle.frames.specs.declared.Answer.TheVariants as Answer
use Rattle.frames.specs.Request.{Request, Look, View}
use Rattle.calls.specs.Run.{Call, framed, answer_heard}
use Rattle.calls.specs.Order.{looked, seen}
use Rattle.calls.specs.Linearizable.{heard_on, order_of}
use Rattle.calls.specs.Bench.{add_frame, step_frame}
use Rattle.calls.proofs.ExampleCalls.{every_run, calls, steps}

-- A short output, in a list: refusal 2 is heard and passed over.
abbrev short : List Call
short = framed add_frame (replicate 51 0) ∷ framed add_frame (replicate 52 0) ∷ framed step_frame [] ∷ framed step_frame (replicate 52 0) ∷ framed (4 ∷ []) (replicate 52 0) ∷ []

short_heard : map answer_heard (heard_on [] short)
    ≡ map some (Answer.Refused 2 ∷ Answer.Standing 5 ∷ Answer.Refused 2 ∷ Answer.Step (Claimed 1) ∷ Answer.Refused 3 ∷ [])
unfolding every_run
short_heard = refl

-- Two views; a look between a last claim and the first word given back; finished the other way round.
abbrev both : List Request
both = View 0 2 (70 ∷ 3 ∷ []) ∷ View 1 2 (2 ∷ 71 ∷ []) ∷ steps 2 0 ++ (Look 80 ∷ steps 2 1) ++ (Look 81 ∷ steps 2 1) ++ (Look 82 ∷ steps 2 0)

both_order : order_of [] (calls both) ≡ seen (70 ∷ 3 ∷ []) (0 ∷ 0 ∷ []) ∷ looked 80 0 ∷ seen (2 ∷ 71 ∷ []) (0 ∷ 0 ∷ []) ∷ looked 81 0 ∷ looked 82 0 ∷ []
unfolding every_run
both_order = refl
