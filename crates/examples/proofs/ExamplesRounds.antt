-- Two views of one word take all four rounds; two opposite moves take sixteen of thirty-two.
use Prim.Native.Nat.{ℕ, zero, suc}
use mathlib.Core.Path.{◌≡◌, refl, ◌∙◌}
use mathlib.Core.Bool.{Bool, true, false, cond}
use mathlib.Core.List.{List, [], ◌∷◌, ◌++◌, map}
use native.Mathlib.Omega.{arith}
use lib.Dec.{eqb}
use lib.ListN.{take, replicate}
use Rattle.words.specs.Words.{team_count}
use Rattle.tickets.specs.Tickets.{Tickets, ticket_of, has_ticket}
use Rattle.frames.specs.Request.{Open, View}
use Rattle.frames.specs.Numbers.{are_bytes}
use Rattle.frames.specs.Answers.{longest_answer}
use Rattle.calls.specs.Run.{Call, Shared, run}
use Rattle.calls.proofs.ExampleCalls.{every_run, calls}
use Rattle.examples.proofs.ExamplesMoves.{move_first, move_second, setting}
use Rattle.progress.specs.Rounds.{Turn, turns_below, after_round, after_rounds, RoundsFrom, targets_below, targets_standing, NoneStands}
use Rattle.progress.proofs.Existing.{there_is_a_round}
use Rattle.progress.proofs.Done.{every_ticket_gets_done}

-- The teams below n that have a ticket.
abbrev pub standing_below : ℕ → Tickets → List ℕ
standing_below zero tickets = []
standing_below (suc n) tickets = cond (has_ticket (ticket_of tickets n).phase) (n ∷ standing_below n tickets) (standing_below n tickets)

abbrev turn : ℕ → Turn
turn team = record { team = team; out = replicate longest_answer 0 }

-- Teams 0 and 1 see word 0. Team 0 claims it, and team 1 waits twice: in the first round after team 0, in the second before it.
abbrev two : List Call
two = calls (View 0 1 (0 ∷ []) ∷ View 1 1 (0 ∷ []) ∷ [])

abbrev rounds : List (List Turn)
rounds = (turn 0 ∷ turn 1 ∷ []) ∷ (turn 1 ∷ turn 0 ∷ []) ∷ (turn 1 ∷ []) ∷ (turn 1 ∷ []) ∷ []

two_targets : targets_standing (run [] two).end.tickets ≡ 2
unfolding every_run targets_below
two_targets = refl

-- Three rounds are not enough, and four are.
two_standing : map (λ many. standing_below team_count (after_rounds (run [] two).end (take many rounds)).tickets) (0 ∷ 1 ∷ 2 ∷ 3 ∷ 4 ∷ [])
    ≡ (1 ∷ 0 ∷ []) ∷ (1 ∷ 0 ∷ []) ∷ (1 ∷ []) ∷ (1 ∷ []) ∷ [] ∷ []
unfolding every_run
two_standing = refl

-- They are rounds: the first is the one of `turns_below` the other way round, and the others are those.
other_way : (one other : Bool) → cond one true (cond other true false) ≡ cond other true (cond one true false)
other_way true true = refl
other_way true false = refl
other_way false true = refl
other_way false false = refl

two_rounds : RoundsFrom (run [] two).end rounds
unfolding every_run turns_below
two_rounds = let end = (run [] two).end in (
  record {
    standing = (refl, (refl, tt));
    roomy = (omega arith, (omega arith, tt));
    once = refl;
    all = λ team stands. other_way (eqb team 0) (eqb team 1) ∙ (there_is_a_round end.tickets refl).all team stands;
  },
  (
    there_is_a_round (after_rounds end (take 1 rounds)).tickets refl,
    (
      there_is_a_round (after_rounds end (take 2 rounds)).tickets refl,
      (there_is_a_round (after_rounds end (take 3 rounds)).tickets refl, tt),
    ),
  ),
)

two_done : NoneStands (after_rounds (run [] two).end rounds).tickets
unfolding every_run targets_below are_bytes
two_done = every_ticket_gets_done [] two (refl, (refl, tt)) rounds two_rounds (omega (arith, two_targets))

-- So many rounds, each of them that of `turns_below`.
abbrev pub played_on : ℕ → Shared → Shared
played_on zero shared = shared
played_on (suc many) shared = played_on many (after_round shared (turns_below team_count shared.tickets))

-- Leg 1 from passage 0 to 1, and leg 2 from passage 1 to 0. Team 1 claims eight words and puts them; team 0 waits, and is stale when word 0 is put.
abbrev opposite : List Call
opposite = calls (setting ++ (Open 0 move_first ∷ Open 1 move_second ∷ []))

opposite_targets : targets_standing (run [] opposite).end.tickets ≡ 16
unfolding every_run targets_below
opposite_targets = refl

opposite_standing : map (λ many. standing_below team_count (played_on many (run [] opposite).end).tickets) (0 ∷ 8 ∷ 9 ∷ 15 ∷ 16 ∷ [])
    ≡ (1 ∷ 0 ∷ []) ∷ (1 ∷ 0 ∷ []) ∷ (1 ∷ []) ∷ (1 ∷ []) ∷ [] ∷ []
unfolding every_run turns_below
opposite_standing = refl
