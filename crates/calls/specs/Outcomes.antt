-- Calls without a frame: what they return, and that they go only while no ticket stands.
use Rattle.std.specs.Prelude.{ℕ, Bool, Result, Ok, Err}
use Rattle.std.proofs.Math.Option.{Option, none, some}
use Rattle.words.specs.Words.{team_count}
use Rattle.tickets.specs.Tickets.{Tickets, stands_below}

-- What such a call comes to: it went, or the number of its refusal.
abbrev pub Outcome : Type 0
Outcome = Result (Unit {0}) ℕ

-- "A refused call without a frame returns its number"; one that is not refused returns none of these, here 0.
abbrev pub outcome_of : Option ℕ → Outcome
outcome_of none = Ok tt
outcome_of (some refusal) = Err refusal

abbrev pub number_of : Outcome → ℕ
number_of (Ok gone) = 0
number_of (Err refusal) = refusal

-- 14. A ticket stands, whichever of the teams has it.
abbrev pub ticket_stands : Tickets → Bool
ticket_stands tickets = stands_below team_count tickets
