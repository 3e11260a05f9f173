-- Demand 2: an edit or a view opens its ticket, a step is one conditional swap, a look is one read, each by the call's definition; the rest is proved where it stands.
use mathlib.Core.Path.{◌≡◌, refl, sym, ap, subst, ◌∙◌}
use mathlib.Core.Option.{none}
use Rattle.words.specs.Words.{Words}
use Rattle.legs.specs.Positions.{Ranks}
use Rattle.tickets.specs.Tickets.{Tickets}
use Rattle.tickets.specs.Steps.{step_of}
use Rattle.tickets.proofs.Swapping.{step_swaps_one_word, views_take_any_value, waiting_tells_holder}
use Rattle.legs.proofs.Ranks.{fixed_ranks_are_permutation, positions_differ}
use Rattle.legs.proofs.RoundTrip.{legs_read_back, only_legs_read}
use Rattle.frames.proofs.Asked.{requests_read_back}
use Rattle.frames.proofs.ReadsBack.{answers_read_back}
use Rattle.frames.specs.Request.{Request, Open, Step, Look, View}
use Rattle.frames.specs.Numbers.{Bytes}
use Rattle.frames.specs.Requests.{request_in}
use Rattle.frames.specs.Answers.{answer_frame}
use Rattle.calls.specs.Call.{refusal_of, Done, bytes, request_done, refused_or, done_of, sent_of, written_by, call_of}
use Rattle.calls.specs.Demand2.{Does, CallGives, CallsDo, Demand2}

request_does : (words : Words) (tickets : Tickets) (ranks : Ranks) (request : Request) → Does words tickets ranks request (request_done words tickets ranks request)
unfolding request_done step_of
request_does words tickets ranks (Open team edit) = record { words_left = refl; tickets_left = refl; answered = refl }
request_does words tickets ranks (Step team) = record { words_left = refl; tickets_left = refl; answered = refl }
request_does words tickets ranks (Look word) = record { words_left = refl; tickets_left = refl; answered = refl }
request_does words tickets ranks (View team n named) = record { words_left = refl; tickets_left = refl; answered = refl }

-- Its answer goes out in its frame.
request_sent : (words : Words) (tickets : Tickets) (ranks : Ranks) (request : Request) → let answer = (request_done words tickets ranks request).answer in sent_of answer ≡ bytes (answer_frame answer)
unfolding request_done sent_of
request_sent words tickets ranks (Open team edit) = refl
request_sent words tickets ranks (Step team) = refl
request_sent words tickets ranks (Look word) = refl
request_sent words tickets ranks (View team n named) = refl

-- A frame that is not refused does what its request does.
not_refused : (words : Words) (tickets : Tickets) (ranks : Ranks) (frame out : Bytes) (request : Request) → refusal_of words tickets ranks frame out ≡ none → request_in frame ≡ request
    → request_done words tickets ranks request ≡ done_of words tickets ranks frame out
unfolding done_of
not_refused words tickets ranks frame out request passes asked = sym (ap (λ refusal. refused_or refusal words tickets ranks (request_in frame)) passes ∙ ap (request_done words tickets ranks) asked)

call_gives : (words : Words) (tickets : Tickets) (ranks : Ranks) (frame out : Bytes) → let answer = (done_of words tickets ranks frame out).answer in sent_of answer ≡ bytes (answer_frame answer)
    → CallGives words tickets ranks frame out (done_of words tickets ranks frame out)
unfolding call_of
call_gives words tickets ranks frame out sends = record { words_left = refl; tickets_left = refl; output = ap (written_by out) sends }

calls_do : CallsDo
calls_do words tickets ranks frame out request passes asked =
    let is = not_refused words tickets ranks frame out request passes asked in
    let sends = subst (λ (result : Done). sent_of result.answer ≡ bytes (answer_frame result.answer)) is (request_sent words tickets ranks request) in
    (subst (Does words tickets ranks request) is (request_does words tickets ranks request), call_gives words tickets ranks frame out sends)

pub demand2 : Demand2
demand2 = record {
  calls_do = calls_do;
  steps_swap_one = step_swaps_one_word;
  views_take_any = views_take_any_value;
  waiting_tells = waiting_tells_holder;
  ranks_permute = fixed_ranks_are_permutation;
  positions_differ = positions_differ;
  requests_read = requests_read_back;
  answers_read = answers_read_back;
  legs_read = legs_read_back;
  only_legs_read = only_legs_read;
}
