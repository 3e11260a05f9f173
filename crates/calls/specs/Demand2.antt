-- Demand 2: "Each edit opens exactly the ticket of document 01, each step is one conditional swap of the published method, each look one of its reads, over that paper's words, ranks and frames; a leg written into words reads out as the same leg, and only words of a leg read as one."
use Rattle.std.specs.Prelude.{◌≡◌, cond, length, None, Some}
use Rattle.std.proofs.Math.Option.{none}
use Rattle.words.specs.Words.{Words, is_held, read_of, swap_of}
use Rattle.legs.specs.Positions.{Ranks, FixedRanksArePermutation, PositionsDiffer}
use Rattle.legs.specs.Reading.{LegsReadBack, OnlyLegsRead}
use Rattle.tickets.specs.Tickets.{Tickets, ticket_of, with_ticket}
use Rattle.tickets.specs.Steps.{swap_tried, settled}
use Rattle.tickets.specs.Swapping.{StepSwapsOneWord, ViewsTakeAnyValue, WaitingTellsHolder}
use Rattle.edits.specs.Opened.{target_count, opened_ticket}
use Rattle.edits.specs.Views.{opened_view}
use Rattle.frames.specs.Request.{Request, Open, Step, Look, View}
use Rattle.frames.specs.declared.Answer.{Answer}
use Rattle.frames.specs.Numbers.{Bytes}
use Rattle.frames.specs.Requests.{request_in}
use Rattle.frames.specs.Writing.{RequestsReadBack}
use Rattle.frames.specs.Answers.{answer_frame, written}
use Rattle.frames.specs.Reading.{AnswersReadBack}
use Rattle.calls.specs.Call.{refusal_of, Done, done_of, call_of}

-- The words and the tickets that a call leaves, and its answer.
pub record ResultIs (result : Done) (words : Words) (tickets : Tickets) (answer : Answer) : Type 0 where
  pub words_left : result.words ≡ words
  pub tickets_left : result.tickets ≡ tickets
  pub answered : result.answer ≡ answer

-- What each request does to words and tickets, and what it answers.
abbrev pub Does : Words → Tickets → Ranks → Request → Done → Type 0
-- An edit opens its ticket, by the ranks in force, and changes no word.
Does words tickets ranks (Open team edit) result = ResultIs result words (with_ticket tickets team (opened_ticket ranks edit)) (Answer.Standing (target_count edit))
-- A step is one conditional swap (Figure 7, line 5, 12 or 14: `swap_tried_in`), the one that the ticket tries; the word that it found settles the ticket and the answer. A view's claiming swap is one too (request 1): it "takes any value below 2^63 and else waits" (`views_take_any`).
Does words tickets ranks (Step team) result =
    let ticket = ticket_of tickets team in
    let tried = swap_tried words ticket team in
    let swap = swap_of words tried.word tried.expected tried.desired in
    let after = settled ticket swap.found in
    ResultIs result swap.words (with_ticket tickets team after.ticket) (Answer.Step after.answer)
-- A look is one read (Figure 8, line 2) and changes nothing: a mark is Held, and a value is told.
Does words tickets ranks (Look word) result =
    let found = read_of words word in
    ResultIs result words tickets (Answer.Look (cond (is_held found) None (Some found)))
-- A view opens its ticket and changes no word.
Does words tickets ranks (View team n named) result = ResultIs result words (with_ticket tickets team (opened_view ranks named)) (Answer.Standing (length named))

-- The call leaves the words and the tickets of what was done, and writes the answer's frame.
pub record CallGives (words : Words) (tickets : Tickets) (ranks : Ranks) (frame out : Bytes) (result : Done) : Type 0 where
  pub words_left : (call_of words tickets ranks frame out).1 ≡ result.words
  pub tickets_left : (call_of words tickets ranks frame out).0.tickets ≡ result.tickets
  pub output : ((call_of words tickets ranks frame out).0.written, (call_of words tickets ranks frame out).2) ≡ written out (answer_frame result.answer)

-- Statement: for every book, table, ranks and frame that is not refused, the frame's request does that, and so does the call.
abbrev pub CallsDo : Type 0
CallsDo =
    (words : Words) (tickets : Tickets) (ranks : Ranks) (frame out : Bytes) (request : Request)
    → refusal_of words tickets ranks frame out ≡ none → request_in frame ≡ request
    → let result = done_of words tickets ranks frame out in
    Does words tickets ranks request result × CallGives words tickets ranks frame out result

-- Statement: all of demand 2.
pub record Demand2 : Type 0 where
  -- Each edit opens its ticket, each step is one swap, each look one read.
  pub calls_do : CallsDo
  -- That one swap changes no other word, and its own exactly where it is as expected; a view's takes any value; Waiting tells the holder that it reports.
  pub steps_swap_one : StepSwapsOneWord
  pub views_take_any : ViewsTakeAnyValue
  pub waiting_tells : WaitingTellsHolder
  -- The fixed ranks are accepted, and under any ranks that are no two words share a position.
  pub ranks_permute : FixedRanksArePermutation
  pub positions_differ : PositionsDiffer
  -- A frame reads back as the request or the answer that was written.
  pub requests_read : RequestsReadBack
  pub answers_read : AnswersReadBack
  -- A leg written into words reads out as the same leg, and only words of a leg read as one.
  pub legs_read : LegsReadBack
  pub only_legs_read : OnlyLegsRead
