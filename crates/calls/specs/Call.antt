-- The call: "Frames refused, in checking order", and what a frame that is not refused does.
use Rattle.std.specs.Prelude.{ℕ, List, [], ◌∷◌, Bool, false, cond, not, length, eqb, ltb}
use Rattle.std.proofs.Math.Option.{Option, none, some}
use Rattle.words.specs.Tests.{all_hold, occurs}
use Rattle.words.specs.Words.{Words, words_in_book, team_count}
use Rattle.legs.specs.Positions.{Ranks, is_permutation}
use Rattle.tickets.specs.Tickets.{Ticket, Tickets, ticket_of, with_ticket, has_ticket, well_made}
use Rattle.tickets.specs.Steps.{Stepped, step_of, look_of}
use Rattle.edits.specs.Opened.{target_count, opened_ticket}
use Rattle.edits.specs.Views.{opened_view}
use Rattle.frames.specs.Request.{Request, Open, Step, Look, View}
use Rattle.frames.specs.declared.Answer.{Answer}
use Rattle.frames.specs.Numbers.{Bytes}
use Rattle.frames.specs.Requests.{request_in}
use Rattle.frames.specs.Answers.{answer_frame, longest_answer, written}
use Rattle.frames.specs.Fields.{frame_torn, kind_unknown, length_wrong, field_out_of_range, field_repeated}

-- 1. The book isn't 4,096 words long.
abbrev pub book_length_wrong : Words → Bool
book_length_wrong words = not (eqb (length words) words_in_book)

-- 13. "Not 32 ranks or not each of 0 to 31."
abbrev pub ranks_wrong : Ranks → Bool
ranks_wrong ranks = not (is_permutation ranks)

-- 2. The output is shorter than 52 bytes.
abbrev pub output_short : Bytes → Bool
output_short out = ltb (length out) longest_answer

-- 6. The team is above 15. (A look has no team.)
abbrev pub team_unknown : Request → Bool
team_unknown (Open team edit) = not (ltb team team_count)
team_unknown (Step team) = not (ltb team team_count)
team_unknown (Look word) = false
team_unknown (View team n words) = not (ltb team team_count)

-- 7. The team's own ticket isn't well made.
abbrev pub badly_made : Ticket → Bool
badly_made ticket = all_hold (has_ticket ticket.phase ∷ not (well_made ticket) ∷ [])

abbrev pub own_ticket_badly_made : Tickets → Request → Bool
own_ticket_badly_made tickets (Open team edit) = badly_made (ticket_of tickets team)
own_ticket_badly_made tickets (Step team) = badly_made (ticket_of tickets team)
own_ticket_badly_made tickets (Look word) = false
own_ticket_badly_made tickets (View team n words) = badly_made (ticket_of tickets team)

-- 8. An edit or a view comes from a team with a ticket.
abbrev pub opens_over_ticket : Tickets → Request → Bool
opens_over_ticket tickets (Open team edit) = has_ticket (ticket_of tickets team).phase
opens_over_ticket tickets (Step team) = false
opens_over_ticket tickets (Look word) = false
opens_over_ticket tickets (View team n words) = has_ticket (ticket_of tickets team).phase

-- 9. A step comes from a team without one.
abbrev pub step_without_ticket : Tickets → Request → Bool
step_without_ticket tickets (Open team edit) = false
step_without_ticket tickets (Step team) = not (has_ticket (ticket_of tickets team).phase)
step_without_ticket tickets (Look word) = false
step_without_ticket tickets (View team n words) = false

-- A check: its number, and whether it applies.
pub record Check : Type 0 where
  pub number : ℕ
  pub applies : Bool

abbrev pub check : ℕ → Bool → Check
check number applies = record { number = number; applies = applies }

-- "The first that applies is given, and none otherwise."
abbrev pub first_of : List Check → Option ℕ
first_of [] = none
first_of (one ∷ later) = cond one.applies (some one.number) (first_of later)

-- "Frames refused, in checking order"; (request 8) "13 .. after 1".
unfoldable pub refusal_checks : Words → Tickets → Ranks → Bytes → Bytes → List Check
refusal_checks words tickets ranks frame out =
    let request = request_in frame in
    check 1 (book_length_wrong words)
    ∷ check 13 (ranks_wrong ranks)
    ∷ check 2 (output_short out)
    ∷ check 3 (frame_torn frame)
    ∷ check 4 (kind_unknown frame)
    ∷ check 5 (length_wrong frame)
    ∷ check 6 (team_unknown request)
    ∷ check 7 (own_ticket_badly_made tickets request)
    ∷ check 8 (opens_over_ticket tickets request)
    ∷ check 9 (step_without_ticket tickets request)
    ∷ check 10 (field_out_of_range frame request)
    ∷ check 11 (field_repeated request)
    ∷ []

unfoldable pub refusal_of : Words → Tickets → Ranks → Bytes → Bytes → Option ℕ
refusal_of words tickets ranks frame out = first_of (refusal_checks words tickets ranks frame out)

-- What a call does before it is answered: the answer, the tickets and the words that it leaves.
pub record Done : Type 0 where
  pub answer : Answer
  pub tickets : Tickets
  pub words : Words

abbrev pub done : Answer → Tickets → Words → Done
done answer tickets words = record { answer = answer; tickets = tickets; words = words }

-- A step: the team's ticket and the words as the step leaves them.
abbrev pub step_done : Tickets → ℕ → Stepped × Words → Done
step_done tickets team result = done (Answer.Step result.0.answer) (with_ticket tickets team result.0.ticket) result.1

-- What a request does: an edit or a view opens a ticket, its targets by the ranks, and changes no word (Standing); a step is one swap; a look is one read.
unfoldable pub request_done : Words → Tickets → Ranks → Request → Done
request_done words tickets ranks (Open team edit) = done (Answer.Standing (target_count edit)) (with_ticket tickets team (opened_ticket ranks edit)) words
request_done words tickets ranks (Step team) = step_done tickets team (step_of words (ticket_of tickets team) team)
request_done words tickets ranks (Look word) = done (Answer.Look (look_of words word)) tickets words
request_done words tickets ranks (View team n named) = done (Answer.Standing (length named)) (with_ticket tickets team (opened_view ranks named)) words

-- A refusal, where "book and tickets keep every value", or what the request does.
abbrev pub refused_or : Option ℕ → Words → Tickets → Ranks → Request → Done
refused_or none words tickets ranks request = request_done words tickets ranks request
refused_or (some number) words tickets ranks request = done (Answer.Refused number) tickets words

unfoldable pub done_of : Words → Tickets → Ranks → Bytes → Bytes → Done
done_of words tickets ranks frame out = refused_or (refusal_of words tickets ranks frame out) words tickets ranks (request_in frame)

-- What goes out: a number alone, or the bytes of an answer.
pub data Sent : Type 0 where
  number : ℕ → Sent
  bytes : Bytes → Sent

-- "1 and 2 return their number and write nothing; 3 to 11 write a Refused frame." (Request 8) A frame "returns 13 and writes nothing", too.
abbrev pub is_returned : ℕ → Bool
is_returned refusal = occurs refusal (1 ∷ 13 ∷ 2 ∷ [])

unfoldable pub sent_of : Answer → Sent
sent_of (Answer.Standing n) = bytes (answer_frame (Answer.Standing n))
sent_of (Answer.Step answer) = bytes (answer_frame (Answer.Step answer))
sent_of (Answer.Look answer) = bytes (answer_frame (Answer.Look answer))
sent_of (Answer.Refused refusal) = cond (is_returned refusal) (number refusal) (bytes (answer_frame (Answer.Refused refusal)))

-- The number returned, and the output: "later bytes of the output keep their contents".
abbrev pub written_by : Bytes → Sent → ℕ × Bytes
written_by out (number refusal) = (refusal, out)
written_by out (bytes answer) = written out answer

-- What the call returns: the bytes written (1, 13 or 2 for those refusals), and the tickets.
pub record Reply : Type 0 where
  pub written : ℕ
  pub tickets : Tickets

-- What the call does, for every book, table, ranks, frame and output: return and tickets, the words, the output's bytes. It writes no rank.
unfoldable pub call_of : Words → Tickets → Ranks → Bytes → Bytes → Reply × Words × Bytes
call_of words tickets ranks frame out =
    let result = done_of words tickets ranks frame out in
    let output = written_by out (sent_of result.answer) in
    (record { written = output.0; tickets = result.tickets }, result.words, output.1)
