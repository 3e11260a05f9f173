-- Demand 1: every frame gets one answer from the list, for every book, ticket table and ranks; a refusal changes no word and no ticket.
use Rattle.std.specs.Prelude.{ℕ, ◌≤◌, ◌<◌, ◌≡◌, true, length, take, drop}
use Rattle.std.proofs.Math.Option.{none, some}
use Rattle.words.specs.Words.{Words, team_count}
use Rattle.legs.specs.Positions.{Ranks}
use Rattle.tickets.specs.declared.Tickets as Code
use Rattle.tickets.specs.Tickets.{Tickets, ticket_of}
use Rattle.tickets.specs.declared.StepAnswer.{StepAnswer}
use Rattle.tickets.specs.Steps.{Looked}
use Rattle.tickets.specs.Steps.{most_tries}
use Rattle.tickets.specs.Table.{table_of, slot_of}
use Rattle.edits.specs.Opened.{target_count}
use Rattle.frames.specs.Request.{Request, Open, Step, Look, View}
use Rattle.frames.specs.declared.Answer.{Answer}
use Rattle.frames.specs.Numbers.{Bytes}
use Rattle.frames.specs.Requests.{head_bytes, request_in}
use Rattle.frames.specs.Answers.{longest_answer}
use Rattle.frames.specs.Reading.{answer_in, answer_fits}
use Rattle.calls.specs.Call.{refusal_of, is_returned, done_of, call_of}
use Rattle.calls.specs.Run.{framed, Shared, answer_heard, heard_of}

-- A table as the code has it: sixteen slots, and tries of 32 bits.
pub record TableFits (tickets : Tickets) : Type 0 where
  pub teams : length tickets.slots ≡ team_count
  pub tries : (team : ℕ) → team < team_count → (ticket_of tickets team).tries ≤ most_tries

-- Statement: what every table of the code says is one, whatever its targets are.
abbrev pub CodeTablesFit : Type 0
CodeTablesFit =
    (table : Code.Tickets) → length table.slots ≡ team_count → ((team : ℕ) → team < team_count → (slot_of table team).ticket.tries ≤ most_tries)
    → TableFits (table_of table)

-- The answers that fit a request: an edit or a view gets Standing with the number of its targets, a step a step's answer, a look Value or Held.
pub data AnswerTo : Request → Answer → Type 0 where
  opened : (team : ℕ) {edit : _} → AnswerTo (Open team edit) (Answer.Standing (target_count edit))
  stepped : (team : ℕ) (answer : StepAnswer) → AnswerTo (Step team) (Answer.Step answer)
  shown : (word : ℕ) (answer : Looked) → AnswerTo (Look word) (Answer.Look answer)
  viewing : (team n : ℕ) {words : _} → AnswerTo (View team n words) (Answer.Standing (length words))

-- Book and tickets keep every value.
pub record NothingChanged (words : Words) (tickets : Tickets) (ranks : Ranks) (frame out : Bytes) : Type 0 where
  pub same_tickets : (call_of words tickets ranks frame out).0.tickets ≡ tickets
  pub same_words : (call_of words tickets ranks frame out).1 ≡ words

-- Exactly one answer is written, at the front of the output; it is read back from its bytes, and later bytes keep their contents.
pub record Answers (words : Words) (tickets : Tickets) (ranks : Ranks) (frame out : Bytes) (answer : Answer) : Type 0 where
  pub bytes_read : answer_in (take (call_of words tickets ranks frame out).0.written (call_of words tickets ranks frame out).2) ≡ some answer
  pub at_least : head_bytes ≤ (call_of words tickets ranks frame out).0.written
  pub at_most : (call_of words tickets ranks frame out).0.written ≤ longest_answer
  pub later_bytes : drop (call_of words tickets ranks frame out).0.written (call_of words tickets ranks frame out).2 ≡ drop (call_of words tickets ranks frame out).0.written out

-- What a call can come to.
pub data Answered (words : Words) (tickets : Tickets) (ranks : Ranks) (frame out : Bytes) : Type 0 where
  -- Refusal 1, 13 or 2, the first that applies: it returns its number and writes nothing.
  turned_away : (number : ℕ) → refusal_of words tickets ranks frame out ≡ some number → is_returned number ≡ true
      → (call_of words tickets ranks frame out).0.written ≡ number
      → (call_of words tickets ranks frame out).2 ≡ out
      → NothingChanged words tickets ranks frame out
      → Answered words tickets ranks frame out
  -- Refusal 3 to 11, the first that applies: a Refused frame.
  refused : (number : ℕ) → refusal_of words tickets ranks frame out ≡ some number → 3 ≤ number → number ≤ 11
      → Answers words tickets ranks frame out (Answer.Refused number)
      → NothingChanged words tickets ranks frame out
      → Answered words tickets ranks frame out
  -- No test applies: the answer fits what the frame asks for.
  answered : (answer : Answer) → refusal_of words tickets ranks frame out ≡ none
      → AnswerTo (request_in frame) answer
      → Answers words tickets ranks frame out answer
      → Answered words tickets ranks frame out

-- Statement: demand 1, for every book, every table as the code has it, all ranks, every frame and every output.
abbrev pub Demand1 : Type 0
Demand1 = (words : Words) (tickets : Tickets) (ranks : Ranks) (frame out : Bytes) → TableFits tickets → Answered words tickets ranks frame out

-- Statement: every answer of a call fits its fields, so that no bits are lost.
abbrev pub AnswersFit : Type 0
AnswersFit = (words : Words) (tickets : Tickets) (ranks : Ranks) (frame out : Bytes) → TableFits tickets → answer_fits (done_of words tickets ranks frame out).answer ≡ true

-- Statement: a call leaves a table as the code has it,
abbrev pub TablesStay : Type 0
TablesStay = (words : Words) (tickets : Tickets) (ranks : Ranks) (frame out : Bytes) → TableFits tickets → TableFits (call_of words tickets ranks frame out).0.tickets

-- The team that a request is of.
abbrev pub IsOf : ℕ → Request → Type 0
IsOf team (Open other edit) = team ≡ other
IsOf team (Step other) = team ≡ other
IsOf team (Look word) = ⊥
IsOf team (View other n words) = team ≡ other

-- Statement: and every other team's ticket as it was.
abbrev pub OthersKeepTickets : Type 0
OthersKeepTickets =
    (words : Words) (tickets : Tickets) (ranks : Ranks) (frame out : Bytes) (team : ℕ)
    → (IsOf team (request_in frame) → ⊥)
    → ticket_of (call_of words tickets ranks frame out).0.tickets team ≡ ticket_of tickets team

-- Statement: what is heard of a call, read from the number returned and the bytes written, is the answer of its definition.
abbrev pub AnswersHeard : Type 0
AnswersHeard =
    (shared : Shared) (frame out : Bytes) → TableFits shared.tickets
    → answer_heard (heard_of shared (framed frame out)) ≡ some (done_of shared.book shared.tickets shared.ranks frame out).answer
