-- Request 5, "Every ticket gets done": rounds of steps, and that they come to an end.
use Rattle.std.specs.Prelude.{ℕ, zero, suc, ◌+◌, ◌*◌, ◌^◌, ◌≤◌, ◌≡◌, List, [], ◌∷◌, map, true, false, cond, length, replicate}
use Rattle.words.specs.Tests.{occurs, distinct, Every}
use Rattle.words.specs.Words.{Words, team_count, read_of}
use Rattle.tickets.specs.Tickets.{Ticket, Tickets, target_at, targets_in, ticket_of, has_ticket, claims}
use Rattle.tickets.specs.Invariant.{Invariant}
use Rattle.edits.specs.Ordering.{RisesStrictly}
use Rattle.frames.specs.Numbers.{Bytes}
use Rattle.frames.specs.Request.{Step}
use Rattle.frames.specs.Writing.{request_frame}
use Rattle.frames.specs.Answers.{longest_answer}
use Rattle.plain.specs.Plain.{Plain}
use Rattle.calls.specs.Run.{Call, framed, Admitted, Shared, run_from, run}
use Rattle.calls.specs.Demand3From.{Begins}

-- A team's turn in a round: a step, with an output of its own.
pub record Turn : Type 0 where
  pub team : ℕ
  pub out : Bytes

-- The call of a turn: a frame of kind 5.
abbrev pub step_call : Turn → Call
step_call turn = framed (request_frame (Step turn.team)) turn.out

abbrev pub teams_in : List Turn → List ℕ
teams_in turns = map (λ turn. turn.team) turns

-- A team has a ticket.
abbrev pub Stands : Tickets → ℕ → Type 0
Stands tickets team = has_ticket (ticket_of tickets team).phase ≡ true

-- A round for a table of tickets: "each team with a ticket steps once, in any order, each step with an output of 52 bytes or more".
pub record RoundFor (tickets : Tickets) (turns : List Turn) : Type 0 where
  pub standing : Every (λ turn. Stands tickets turn.team) turns
  pub roomy : Every (λ turn. longest_answer ≤ length turn.out) turns
  pub once : distinct (teams_in turns) ≡ true
  pub all : (team : ℕ) → Stands tickets team → occurs team (teams_in turns) ≡ true

-- Each team with a ticket, from team n - 1 down to team 0, with an output of 52 bytes.
unfoldable pub turns_below : ℕ → Tickets → List Turn
turns_below zero tickets = []
turns_below (suc n) tickets =
    let later = turns_below n tickets in
    cond (has_ticket (ticket_of tickets n).phase) (record { team = n; out = replicate longest_answer 0 } ∷ later) later

-- Statement: so there is a round for every table of sixteen tickets.
abbrev pub ThereIsARound : Type 0
ThereIsARound = (tickets : Tickets) → length tickets.slots ≡ team_count → RoundFor tickets (turns_below team_count tickets)

-- Book and tickets after a round, and after rounds.
abbrev pub after_round : Shared → List Turn → Shared
after_round shared turns = (run_from shared (map step_call turns)).end

abbrev pub after_rounds : Shared → List (List Turn) → Shared
after_rounds shared [] = shared
after_rounds shared (round ∷ rounds) = after_rounds (after_round shared round) rounds

-- Rounds one after another: each is one for the tickets that stand when it begins.
abbrev pub RoundsFrom : Shared → List (List Turn) → Type 0
RoundsFrom shared [] = Unit {0}
RoundsFrom shared (round ∷ rounds) = RoundFor shared.tickets round × RoundsFrom (after_round shared round) rounds

-- So many rounds, each of them that of `turns_below` for the tickets that then stand.
unfoldable pub rounds_on : ℕ → Shared → List (List Turn)
rounds_on zero shared = []
rounds_on (suc many) shared =
    let round = turns_below team_count shared.tickets in
    round ∷ rounds_on many (after_round shared round)

-- Statement: so after every list of calls there are as many rounds as one likes.
abbrev pub ThereAreRounds : Type 0
ThereAreRounds =
    (store : Words) (calls : List Call) (many : ℕ)
    → (length (rounds_on many (run store calls).end) ≡ many) × RoundsFrom (run store calls).end (rounds_on many (run store calls).end)

-- How many targets the standing tickets of the teams below n have together; and of all teams.
unfoldable pub targets_below : ℕ → Tickets → ℕ
targets_below zero tickets = 0
targets_below (suc n) tickets = cond (has_ticket (ticket_of tickets n).phase) (ticket_of tickets n).n 0 + targets_below n tickets

abbrev pub targets_standing : Tickets → ℕ
targets_standing tickets = targets_below team_count tickets

-- No ticket stands.
abbrev pub NoneStands : Tickets → Type 0
NoneStands tickets = (team : ℕ) → has_ticket (ticket_of tickets team).phase ≡ false

-- Statement: "After every list of calls from a fresh book, let only steps follow, in rounds .. After twice as many rounds as the standing
-- tickets have targets together, none stands." (Request 8) The list may hold loads: it holds "for each accepted table".
abbrev pub EveryTicketGetsDone : Type 0
EveryTicketGetsDone =
    (store : Words) (calls : List Call) → Every Admitted calls
    → (rounds : List (List Turn)) → RoundsFrom (run store calls).end rounds
    → 2 * targets_standing (run store calls).end.tickets ≤ length rounds
    → NoneStands (after_rounds (run store calls).end rounds).tickets

-- Statement: so it is from wherever a run may begin.
abbrev pub EveryTicketGetsDoneFrom : Type 0
EveryTicketGetsDoneFrom =
    (shared : Shared) (plain : Plain) → Begins shared plain
    → (calls : List Call) → Every Admitted calls
    → (rounds : List (List Turn)) → RoundsFrom (run_from shared calls).end rounds
    → 2 * targets_standing (run_from shared calls).end.tickets ≤ length rounds
    → NoneStands (after_rounds (run_from shared calls).end rounds).tickets

-- Statement: "With no ticket it takes no round."
abbrev pub NoTicketNoRound : Type 0
NoTicketNoRound = (tickets : Tickets) → NoneStands tickets → targets_standing tickets ≡ 0

-- A ticket waits: it claims, and its next word is held.
pub record Waits (words : Words) (ticket : Ticket) : Type 0 where
  pub claiming : claims ticket.phase ≡ true
  pub held : 2 ^ 63 ≤ read_of words (target_at ticket ticket.claimed).word

-- Every standing ticket's targets rise strictly by a position function.
abbrev pub AllRise : (ℕ → ℕ) → (ℕ → Ticket) → Type 0
AllRise position tickets = (team : ℕ) → has_ticket (tickets team).phase ≡ true → RisesStrictly position (targets_in (tickets team))

-- Statement: whatever the position function is, where every standing ticket claims by rising position, not all of them wait.
abbrev pub NotAllWait : Type 0
NotAllWait =
    (position : ℕ → ℕ) (words : Words) (tickets : ℕ → Ticket) (plain : ℕ → ℕ) (team : ℕ)
    → Invariant words tickets plain
    → AllRise position tickets
    → has_ticket (tickets team).phase ≡ true
    → ((other : ℕ) → has_ticket (tickets other).phase ≡ true → Waits words (tickets other))
    → ⊥
