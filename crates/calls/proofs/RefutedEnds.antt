-- Ends and decisions that demand 3 forbids, written by hand: no list of answers is heard as one of them, so that nothing else would tell if they were allowed.
use mathlib.Core.Path.{sym, ap, subst}
use mathlib.Core.Bool.{Bool, true, false, not, false≢true}
use mathlib.Core.List.{List, [], ◌∷◌}
use mathlib.Core.Logic.{inl, inr}
use mathlib.Core.Option.{none, some}
use Rattle.legs.specs.Positions.{fixed_ranks}
use Rattle.calls.specs.Order.{Verdict, granted, stale, an_edit, a_view, Decision, Noted, noted, Last, was_granted, was_stale, was_seen, Ended, ended_by}
use Rattle.calls.specs.Linearizable.{fresh_state, EndedRight, StandingRight, FoundFits}
use Rattle.calls.specs.Bench.{that_measure, first_leg}

-- A view of word 2 that claimed it, gave it back, and ended with this answer.
abbrev viewed : Last → Ended
viewed last = ended_by (noted (a_view (2 ∷ [])) fixed_ranks (1 ∷ []) [] 2 0 none [] (some [])) last

view_granted : EndedRight fresh_state (viewed (was_granted 2)) → ⊥
view_granted right = right.shows

view_stale : EndedRight fresh_state (viewed (was_stale 2 2)) → ⊥
view_stale right = right.shows

-- An add that was granted on the fresh book, and ended with values.
abbrev granted_at_once : Decision
granted_at_once = record { verdict = granted; before = [] }

edit_seen : EndedRight fresh_state (ended_by (noted (an_edit (first_leg 1 0 that_measure)) fixed_ranks [] [] 10 0 none (granted_at_once ∷ []) none) (was_seen (0 ∷ []))) → ⊥
edit_seen right = right.fits

-- An add decided as stale, its ticket still standing, and no Found came.
abbrev stale_at_once : Decision
stale_at_once = record { verdict = stale; before = [] }

-- Whether some decision was made; and the latest verdict.
abbrev was_decided : List Decision → Bool
was_decided [] = false
was_decided (latest ∷ earlier) = true

abbrev latest_verdict : List Decision → Verdict
latest_verdict [] = stale
latest_verdict (latest ∷ earlier) = latest.verdict

abbrev unfound : Noted
unfound = noted (an_edit (first_leg 1 1 that_measure)) fixed_ranks (1 ∷ []) [] 2 0 none (stale_at_once ∷ []) none

stale_without_found : StandingRight fresh_state (some unfound) → ⊥
stale_without_found (inl undecided) = false≢true (ap (λ made. not (was_decided made)) undecided.0)
stale_without_found (inr (decision, once, right, fits)) =
    subst (λ verdict. FoundFits fresh_state (first_leg 1 1 that_measure) unfound decision verdict none) (ap latest_verdict (sym once)) fits
