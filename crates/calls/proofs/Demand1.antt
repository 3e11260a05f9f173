-- Demand 1: every frame gets one answer from the list; a refusal changes nothing; other teams' tickets stay.
use Prim.Native.Nat.{ℕ}
use mathlib.Core.Path.{◌≡◌, refl, sym, ap, subst, ◌∙◌}
use mathlib.Core.Bool.{true}
use mathlib.Core.Option.{Option, none, some}
use mathlib.Core.Logic.{inl, inr}
use lib.Seq.{get_or-set_other}
use Rattle.words.specs.Words.{Words}
use Rattle.legs.specs.Positions.{Ranks}
use Rattle.tickets.specs.Tickets.{Tickets, no_ticket, ticket_of}
use Rattle.tickets.specs.Steps.{step_of, look_of}
use Rattle.edits.specs.Opened.{opened_ticket}
use Rattle.edits.specs.Views.{opened_view}
use Rattle.frames.specs.Request.{Request, Open, Step, Look, View}
use Rattle.frames.specs.declared.Answer.{Answer}
use Rattle.frames.specs.Numbers.{Bytes}
use Rattle.frames.specs.Requests.{request_in}
use Rattle.frames.specs.Answers.{answer_frame}
use Rattle.frames.specs.Reading.{answer_fits}
use Rattle.calls.specs.Call.{refusal_of, Done, done, request_done, refused_or, done_of, Sent, number, bytes, sent_of, written_by, call_of}
use Rattle.calls.specs.Demand1.{TableFits, AnswerTo, opened, stepped, shown, viewing, NothingChanged, Answers, Answered, turned_away, refused, answered, Demand1, IsOf, OthersKeepTickets}
use Rattle.calls.proofs.Refusing.{Sorted, AllSorted, refusal_sorted}
use Rattle.calls.proofs.Fitting.{answer_fits_lem}
use Rattle.calls.proofs.Hearing.{InFrame, in_frame, sent_alone, sent_refused}

-- A request's answer fits it, and goes out in its frame.
answer_to_lem : (words : Words) (tickets : Tickets) (ranks : Ranks) (request : Request) → AnswerTo request (request_done words tickets ranks request).answer
unfolding request_done
answer_to_lem words tickets ranks (Open team edit) = opened team
answer_to_lem words tickets ranks (Step team) = stepped team (step_of words (ticket_of tickets team) team).0.answer
answer_to_lem words tickets ranks (Look word) = shown word (look_of words word)
answer_to_lem words tickets ranks (View team n named) = viewing team n

sent_in_frame : {request : Request} {answer : Answer} → AnswerTo request answer → sent_of answer ≡ bytes (answer_frame answer)
unfolding sent_of
sent_in_frame (opened team) = refl
sent_in_frame (stepped team answer) = refl
sent_in_frame (shown word answer) = refl
sent_in_frame (viewing team n) = refl

module _ (words : Words) (tickets : Tickets) (ranks : Ranks) (frame out : Bytes) where
  -- What went out: the number returned, and the output.
  abbrev gone : ℕ × Bytes
  gone = ((call_of words tickets ranks frame out).0.written, (call_of words tickets ranks frame out).2)

  module _ (result : Done) (is : done_of words tickets ranks frame out ≡ result) where
    gone_out : (sent : Sent) → sent_of result.answer ≡ sent → gone ≡ written_by out sent
    unfolding call_of
    gone_out sent sends = ap (λ (result : Done). written_by out (sent_of result.answer)) is ∙ ap (written_by out) sends

    answers : TableFits tickets → sent_of result.answer ≡ bytes (answer_frame result.answer) → Answers words tickets ranks frame out result.answer
    answers table sends =
        let fits : answer_fits result.answer ≡ true = subst (λ (result : Done). answer_fits result.answer ≡ true) is (answer_fits_lem words tickets ranks table frame out) in
        let framed = subst (InFrame out result.answer) (sym (gone_out (bytes (answer_frame result.answer)) sends)) (in_frame out result.answer fits) in
        record { bytes_read = framed.bytes_read; at_least = framed.at_least; at_most = framed.at_most; later_bytes = framed.later_bytes }

    -- The tickets and the words are those of what was done.
    left_tickets : (call_of words tickets ranks frame out).0.tickets ≡ result.tickets
    unfolding call_of
    left_tickets = ap (λ (result : Done). result.tickets) is

    left_words : (call_of words tickets ranks frame out).1 ≡ result.words
    unfolding call_of
    left_words = ap (λ (result : Done). result.words) is

  by_refusal : (refusal : Option ℕ) → refusal_of words tickets ranks frame out ≡ refusal → done_of words tickets ranks frame out ≡ refused_or refusal words tickets ranks (request_in frame)
  unfolding done_of
  by_refusal refusal given = ap (λ (refusal : Option ℕ). refused_or refusal words tickets ranks (request_in frame)) given

  refused_by : TableFits tickets → (refusal : ℕ) → refusal_of words tickets ranks frame out ≡ some refusal → Sorted refusal → Answered words tickets ranks frame out
  refused_by table refusal given sorted =
      let result = done (Answer.Refused refusal) tickets words in
      let is : done_of words tickets ranks frame out ≡ result = by_refusal (some refusal) given in
      let same : NothingChanged words tickets ranks frame out = record { same_tickets = left_tickets result is; same_words = left_words result is } in
      elim sorted [
        | inl alone ↦
            let out_alone : gone ≡ (refusal, out) = gone_out result is (number refusal) (sent_alone refusal alone) in
            turned_away refusal given alone (ap (λ (gone : ℕ × Bytes). gone.0) out_alone) (ap (λ (gone : ℕ × Bytes). gone.1) out_alone) same
        | inr (least, most) ↦ refused refusal given least most (answers result is table (sent_refused refusal least most)) same
      ]

  passed_by : TableFits tickets → refusal_of words tickets ranks frame out ≡ none → Answered words tickets ranks frame out
  passed_by table none_given =
      let result = request_done words tickets ranks (request_in frame) in
      let fitting = answer_to_lem words tickets ranks (request_in frame) in
      answered result.answer none_given fitting (answers result (by_refusal none none_given) table (sent_in_frame fitting))

  answered_by : TableFits tickets → (refusal : Option ℕ) → refusal_of words tickets ranks frame out ≡ refusal → AllSorted refusal → Answered words tickets ranks frame out
  answered_by table none given sorted = passed_by table given
  answered_by table (some refusal) given sorted = refused_by table refusal given sorted

pub demand1 : Demand1
demand1 words tickets ranks frame out table = answered_by words tickets ranks frame out table (refusal_of words tickets ranks frame out) refl (refusal_sorted words tickets ranks frame out)

-- Of every other team than a request's the ticket stays.
others_keep : (words : Words) (tickets : Tickets) (ranks : Ranks) (request : Request) (team : ℕ) → (IsOf team request → ⊥) → ticket_of (request_done words tickets ranks request).tickets team ≡ ticket_of tickets team
unfolding request_done
others_keep words tickets ranks (Open other edit) team differs = get_or-set_other tickets.slots other team (opened_ticket ranks edit) no_ticket differs
others_keep words tickets ranks (Step other) team differs = get_or-set_other tickets.slots other team (step_of words (ticket_of tickets other) other).0.ticket no_ticket differs
others_keep words tickets ranks (Look word) team differs = refl
others_keep words tickets ranks (View other n named) team differs = get_or-set_other tickets.slots other team (opened_view ranks named) no_ticket differs

keep_by : (refusal : Option ℕ) (words : Words) (tickets : Tickets) (ranks : Ranks) (request : Request) (team : ℕ) → (IsOf team request → ⊥) → ticket_of (refused_or refusal words tickets ranks request).tickets team ≡ ticket_of tickets team
keep_by none words tickets ranks request team differs = others_keep words tickets ranks request team differs
keep_by (some refusal) words tickets ranks request team differs = refl

pub others_keep_tickets : OthersKeepTickets
unfolding call_of done_of
others_keep_tickets words tickets ranks frame out team differs = keep_by (refusal_of words tickets ranks frame out) words tickets ranks (request_in frame) team differs
