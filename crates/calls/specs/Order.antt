-- "A ticket's edit is the edit frame that opened it …", and a view is the frame that named its words: the order, the tickets that ended, and what is held, from frames and answers alone.
use Rattle.std.specs.Prelude.{ℕ, zero, suc, ◌+◌, ◌≡◌, List, [], ◌∷◌, ◌++◌, map, Bool, true, false, cond, not, None, Some, eqb, ltb, length, set}
use Rattle.std.proofs.Math.Option.{Option, none, some}
use Rattle.words.specs.Tests.{all_hold, some_holds, occurs}
use Rattle.words.specs.Words.{team_count, shelf_count}
use Rattle.tickets.specs.declared.StepAnswer.{StepAnswer}
use Rattle.tickets.specs.declared.StepAnswer.TheVariants.{Claimed, Waiting, Found, Put, Returned, Granted, Stale, Seen}
use Rattle.tickets.specs.declared.Target.{Target}
use Rattle.tickets.specs.Tickets.{target}
use Rattle.tickets.specs.Steps.{Looked}
use Rattle.edits.specs.declared.Edit.{Edit}
use Rattle.legs.specs.Positions.{Ranks, fixed_ranks, position_by}
use Rattle.edits.specs.Edits.{listed_targets}
use Rattle.edits.specs.Opened.{ordered_by, target_count}
use Rattle.frames.specs.Request.{Request, Open, Step, Look, View}
use Rattle.frames.specs.declared.Answer.{Answer}
use Rattle.frames.specs.Numbers.{Bytes}
use Rattle.frames.specs.Requests.{request_in}
use Rattle.frames.specs.Answers.{values_shown}
use Rattle.calls.specs.Run.{Call, framed, loading, filling, coming_back, Heard, answer_heard}

pub data Verdict : Type 0 where
  granted stale : Verdict

-- What has a place in the order: a ticket's edit, decided as granted or as stale; a look at a word, with the value it gave; a view that is
-- finished, with the words it named and their values. A view that has claimed all its words reserves its place until it is finished. A shelf that is
-- come back to; and, so that it is known to what, a shelf that is filled, which changes nothing and is no place (`FillingsHaveNoPlace`).
pub data Event : Type 0 where
  decided : Verdict → Edit → Event
  looked : (word value : ℕ) → Event
  seen : (words values : List ℕ) → Event
  reserved : (team : ℕ) → Event
  filled : (shelf : ℕ) → Event
  came_back : (shelf : ℕ) → Event

-- A view that is not finished has no place: one that is only reserved is left out.
unfoldable pub finished : List Event → List Event
finished [] = []
finished (decided verdict edit ∷ events) = decided verdict edit ∷ finished events
finished (looked word value ∷ events) = looked word value ∷ finished events
finished (seen words values ∷ events) = seen words values ∷ finished events
finished (reserved team ∷ events) = finished events
finished (filled shelf ∷ events) = filled shelf ∷ finished events
finished (came_back shelf ∷ events) = came_back shelf ∷ finished events

-- A shelf is filled among some events.
unfoldable pub was_filled : ℕ → List Event → Bool
was_filled shelf [] = false
was_filled shelf (decided verdict edit ∷ events) = was_filled shelf events
was_filled shelf (looked word value ∷ events) = was_filled shelf events
was_filled shelf (seen words values ∷ events) = was_filled shelf events
was_filled shelf (reserved team ∷ events) = was_filled shelf events
was_filled shelf (filled other ∷ events) = cond (eqb shelf other) true (was_filled shelf events)
was_filled shelf (came_back other ∷ events) = was_filled shelf events

-- What a ticket was opened for: an edit, or a view of these words, as named.
pub data Asked : Type 0 where
  an_edit : Edit → Asked
  a_view : (words : List ℕ) → Asked

-- Its targets as its frame gives them; a view quotes nothing.
abbrev pub targets_asked : Asked → List Target
targets_asked (an_edit edit) = listed_targets edit
targets_asked (a_view words) = map (λ word. target word 0 0) words

-- "Targets are claimed by rising position": by the frame and the ranks alone, whatever a ticket stores.
abbrev pub claim_order : Ranks → Asked → List Target
claim_order ranks asked = ordered_by (position_by ranks) (targets_asked asked)

-- Its words in that order, and how many targets it has.
abbrev pub words_asked : Ranks → Asked → List ℕ
words_asked ranks asked = map (λ target. target.word) (claim_order ranks asked)

abbrev pub count_asked : Asked → ℕ
count_asked (an_edit edit) = target_count edit
count_asked (a_view words) = length words

-- A decision of an edit's ticket: what it was, and the order before it as it stood then. A place in it that is filled later changes no plain book.
pub record Decision : Type 0 where
  pub verdict : Verdict
  pub before : List Event

-- What has been heard of a ticket since its Standing.
pub record Noted : Type 0 where
  pub asked : Asked
  -- the ranks in force at its Standing: a load that comes after its end changes nothing of it
  pub ranks : Ranks
  -- the k of each Claimed k, and of each Put k and Returned k, the latest first
  pub claimed : List ℕ
  pub released : List ℕ
  -- how many steps were answered, and how many of them Waiting
  pub steps : ℕ
  pub waits : ℕ
  -- the word that Found named
  pub found : Option ℕ
  -- every decision, the latest first
  pub decisions : List Decision
  -- of a view, the order before its last claim
  pub place : Option (List Event)

-- The last answer of a ticket: Granted with its tries, Stale with the word it named and its tries, or Seen with the values.
pub data Last : Type 0 where
  was_granted : (tries : ℕ) → Last
  was_stale : (word tries : ℕ) → Last
  was_seen : (values : List ℕ) → Last

-- A ticket whose last answer has come: what was heard of it, and that answer.
pub record Ended : Type 0 where
  pub ticket : Noted
  pub last : Last

-- What a bystander has written down: the order so far, each team's ticket, the tickets that ended, the ranks in force, and how often an answer came out
-- of turn: a Standing over a ticket still noted or with another number of targets, a step's answer where no ticket is noted or that its
-- ticket can't get, an answer that does not fit its frame, bytes that are no answer, a load, a filling or a coming back that went while a ticket
-- is noted, or a shelf that there is not or that was never filled.
pub record Notes : Type 0 where
  pub order : List Event
  pub tickets : ℕ → Option Noted
  pub ended : List Ended
  -- those of the last load that went, and before one those of the start
  pub ranks : Ranks
  -- (An edit's ticket can't get Seen; a view can't get Found, Put, Granted or Stale, nor Seen before its last claim. An answer of the right kind
  -- at a wrong moment, as Put while an edit claims, is not counted: like Waiting while the word is free, demand 2's step rule forbids it.)
  pub out_of_turn : ℕ

abbrev pub notes : List Event → (ℕ → Option Noted) → List Ended → Ranks → ℕ → Notes
notes order tickets ended ranks out_of_turn = record { order = order; tickets = tickets; ended = ended; ranks = ranks; out_of_turn = out_of_turn }

-- At the start nothing but the ranks in force; and those are the fixed ones where a book is fresh.
abbrev pub first_notes : Ranks → Notes
first_notes ranks = notes [] (λ team. none) [] ranks 0

abbrev pub no_notes : Notes
no_notes = first_notes fixed_ranks

-- The tickets with another for one team.
abbrev pub retold : (ℕ → Option Noted) → ℕ → Option Noted → ℕ → Option Noted
retold tickets team ticket other = cond (eqb other team) ticket (tickets other)

-- One more event; one team's ticket noted anew; one team's ticket ended, and gone; other ranks in force; one more answer out of turn.
abbrev pub note_event : Notes → Event → Notes
note_event n event = notes (n.order ++ (event ∷ [])) n.tickets n.ended n.ranks n.out_of_turn

-- A place that was reserved, filled.
abbrev pub fill_place : Notes → ℕ → Event → Notes
fill_place n at event = notes (set n.order at event) n.tickets n.ended n.ranks n.out_of_turn

abbrev pub note_ticket : Notes → ℕ → Noted → Notes
note_ticket n team ticket = notes n.order (retold n.tickets team (some ticket)) n.ended n.ranks n.out_of_turn

abbrev pub note_end : Notes → ℕ → Ended → Notes
note_end n team end = notes n.order (retold n.tickets team none) (n.ended ++ (end ∷ [])) n.ranks n.out_of_turn

abbrev pub note_ranks : Notes → Ranks → Notes
note_ranks n ranks = notes n.order n.tickets n.ended ranks n.out_of_turn

abbrev pub note_out_of_turn : Notes → Notes
note_out_of_turn n = notes n.order n.tickets n.ended n.ranks (n.out_of_turn + 1)

-- A ticket noted: at Standing; with one more Claimed k; one more Put k or Returned k; one more Waiting; one more step; Found; one more decision; its place.
abbrev pub noted : Asked → Ranks → List ℕ → List ℕ → ℕ → ℕ → Option ℕ → List Decision → Option (List Event) → Noted
noted asked ranks claimed released steps waits found decisions place =
    record { asked = asked; ranks = ranks; claimed = claimed; released = released; steps = steps; waits = waits; found = found; decisions = decisions; place = place }

abbrev pub at_standing : Ranks → Asked → Noted
at_standing ranks asked = noted asked ranks [] [] 0 0 none [] none

abbrev pub with_claimed : ℕ → Noted → Noted
with_claimed k t = noted t.asked t.ranks (k ∷ t.claimed) t.released t.steps t.waits t.found t.decisions t.place

abbrev pub with_released : ℕ → Noted → Noted
with_released k t = noted t.asked t.ranks t.claimed (k ∷ t.released) t.steps t.waits t.found t.decisions t.place

abbrev pub with_wait : Noted → Noted
with_wait t = noted t.asked t.ranks t.claimed t.released t.steps (t.waits + 1) t.found t.decisions t.place

abbrev pub with_step : Noted → Noted
with_step t = noted t.asked t.ranks t.claimed t.released (t.steps + 1) t.waits t.found t.decisions t.place

abbrev pub with_found : ℕ → Noted → Noted
with_found word t = noted t.asked t.ranks t.claimed t.released t.steps t.waits (some word) t.decisions t.place

abbrev pub with_decision : Verdict → List Event → Noted → Noted
with_decision verdict before t =
    noted t.asked t.ranks t.claimed t.released t.steps t.waits t.found (record { verdict = verdict; before = before } ∷ t.decisions) t.place

abbrev pub with_place : List Event → Noted → Noted
with_place before t = noted t.asked t.ranks t.claimed t.released t.steps t.waits t.found t.decisions (some before)

abbrev pub ended_by : Noted → Last → Ended
ended_by ticket last = record { ticket = ticket; last = last }

-- An edit is decided now: it has its place in the order. A view is never decided: such an answer is out of turn.
abbrev pub decide : Notes → ℕ → Verdict → Noted → Asked → Notes
decide n team verdict ticket (an_edit edit) = note_event (note_ticket n team (with_decision verdict n.order ticket)) (decided verdict edit)
decide n team verdict ticket (a_view words) = note_out_of_turn n

-- A finished view takes its place "at its last claim": it reserves it there, once.
abbrev pub hear_place : Notes → ℕ → Noted → Option (List Event) → Notes
hear_place n team ticket none = note_event (note_ticket n team (with_place n.order ticket)) (reserved team)
hear_place n team ticket (some before) = note_out_of_turn n

-- The last claim: an edit is "decided as granted at the step answered Claimed with the number of its edit's targets"; a
-- view has its place here.
abbrev pub hear_all_claimed : Notes → ℕ → Noted → Asked → Notes
hear_all_claimed n team ticket (an_edit edit) = decide n team granted ticket (an_edit edit)
hear_all_claimed n team ticket (a_view words) = hear_place n team ticket ticket.place

abbrev pub hear_claimed : Notes → ℕ → Noted → ℕ → Notes
hear_claimed n team ticket k =
    cond (eqb k (count_asked ticket.asked)) (hear_all_claimed n team (with_claimed k ticket) ticket.asked) (note_ticket n team (with_claimed k ticket))

-- "and as stale at Found, or at Stale with no Found before it in that ticket".
abbrev pub hear_stale : Notes → ℕ → Noted → Asked → Option ℕ → Last → Notes
hear_stale n team ticket (an_edit edit) none last =
    note_end (note_event n (decided stale edit)) team (ended_by (with_decision stale n.order ticket) last)
hear_stale n team ticket (an_edit edit) (some word) last = note_end n team (ended_by ticket last)
hear_stale n team ticket (a_view words) found last = note_out_of_turn n

-- A view is finished: its place is filled. One that has reserved none, or an edit, can't get this answer.
abbrev pub hear_seen : Notes → ℕ → Noted → Asked → Option (List Event) → List ℕ → Notes
hear_seen n team ticket (a_view words) (some before) values = note_end (fill_place n (length before) (seen words values)) team (ended_by ticket (was_seen values))
hear_seen n team ticket (a_view words) none values = note_out_of_turn n
hear_seen n team ticket (an_edit edit) place values = note_out_of_turn n

-- An edit puts; a view can't get this answer.
abbrev pub hear_put : Notes → ℕ → Noted → Asked → ℕ → Notes
hear_put n team ticket (an_edit edit) k = note_ticket n team (with_released k ticket)
hear_put n team ticket (a_view words) k = note_out_of_turn n

-- An edit is granted; a view can't get this answer.
abbrev pub hear_granted : Notes → ℕ → Noted → Asked → Last → Notes
hear_granted n team ticket (an_edit edit) last = note_end n team (ended_by ticket last)
hear_granted n team ticket (a_view words) last = note_out_of_turn n

abbrev pub hear_step_answer : Notes → ℕ → Noted → StepAnswer → Notes
hear_step_answer n team ticket (Claimed k) = hear_claimed n team ticket k
hear_step_answer n team ticket (Waiting word holder) = note_ticket n team (with_wait ticket)
hear_step_answer n team ticket (Found word) = decide n team stale (with_found word ticket) ticket.asked
hear_step_answer n team ticket (Put k) = hear_put n team ticket ticket.asked k
hear_step_answer n team ticket (Returned k) = note_ticket n team (with_released k ticket)
hear_step_answer n team ticket (Granted tries) = hear_granted n team ticket ticket.asked (was_granted tries)
hear_step_answer n team ticket (Stale word tries) = hear_stale n team ticket ticket.asked ticket.found (was_stale word tries)
hear_step_answer n team ticket (Seen values) = hear_seen n team ticket ticket.asked ticket.place (values_shown values)

-- A step's answer, for a team whose ticket is noted or not.
abbrev pub hear_step : Notes → ℕ → Option Noted → StepAnswer → Notes
hear_step n team none answer = note_out_of_turn n
hear_step n team (some ticket) answer = hear_step_answer n team (with_step ticket) answer

-- An edit or a view answered Standing, with the number of its targets, opens a ticket under the ranks in force.
abbrev pub hear_standing : Notes → ℕ → Option Noted → Asked → Notes
hear_standing n team none asked = note_ticket n team (at_standing n.ranks asked)
hear_standing n team (some ticket) asked = note_out_of_turn (note_ticket n team (at_standing n.ranks asked))

abbrev pub hear_opened : Notes → ℕ → Asked → ℕ → Notes
hear_opened n team asked targets = cond (eqb targets (count_asked asked)) (hear_standing n team (n.tickets team) asked) (note_out_of_turn n)

-- A look is decided at Value.
abbrev pub hear_look : Notes → ℕ → Looked → Notes
hear_look n word (Some value) = note_event n (looked word value)
hear_look n word None = n

-- How an answer is heard, by what it is. "Every refusal is passed over."
abbrev pub hear_by : Notes → (ℕ → Notes) → (StepAnswer → Notes) → (Looked → Notes) → Answer → Notes
hear_by n standing step look (Answer.Standing number) = standing number
hear_by n standing step look (Answer.Step answer) = step answer
hear_by n standing step look (Answer.Look answer) = look answer
hear_by n standing step look (Answer.Refused refusal) = n

-- "Nothing else has a place in the order": an answer that does not fit its frame is out of turn.
abbrev pub unfit : {A : Type 0} → Notes → A → Notes
unfit n answer = note_out_of_turn n

abbrev pub hear_request : Notes → Request → Answer → Notes
hear_request n (Open team edit) answer = hear_by n (hear_opened n team (an_edit edit)) (unfit n) (unfit n) answer
hear_request n (Step team) answer = hear_by n (unfit n) (hear_step n team (n.tickets team)) (unfit n) answer
hear_request n (Look word) answer = hear_by n (unfit n) (unfit n) (hear_look n word) answer
hear_request n (View team many words) answer = hear_by n (hear_opened n team (a_view words)) (unfit n) (unfit n) answer

-- What was heard of a frame; bytes that are no answer are out of turn.
abbrev pub hear_answer : Notes → Bytes → Option Answer → Notes
hear_answer n frame none = note_out_of_turn n
hear_answer n frame (some answer) = hear_request n (request_in frame) answer

-- Some team below n has a ticket noted.
unfoldable pub noted_below : ℕ → (ℕ → Option Noted) → Bool
noted_below zero tickets = false
noted_below (suc n) tickets = elim (tickets n) [ none ↦ noted_below n tickets | some ticket ↦ true ]

-- A call that goes only while no ticket stands has gone.
abbrev pub hear_alone : Notes → Notes → Notes
hear_alone n after = cond (noted_below team_count n.tickets) (note_out_of_turn n) after

-- A load went: its ranks are in force.
abbrev pub hear_loaded : Notes → Ranks → Notes
hear_loaded n ranks = hear_alone n (note_ranks n ranks)

-- A shelf was filled: one of the three.
abbrev pub hear_filled : Notes → ℕ → Notes
hear_filled n shelf = hear_alone n (cond (ltb shelf shelf_count) (note_event n (filled shelf)) (note_out_of_turn n))

-- "Coming back takes its place in the order": to a shelf that was filled.
abbrev pub hear_back : Notes → ℕ → Notes
hear_back n shelf = hear_alone n (cond (was_filled shelf n.order) (note_event n (came_back shelf)) (note_out_of_turn n))

-- What was heard of a call. "Every refusal is passed over."
abbrev pub hear_call : Notes → Call → Heard → Notes
hear_call n (framed frame out) one = hear_answer n frame (answer_heard one)
hear_call n (loading ranks) one = cond (eqb one.returned 0) (hear_loaded n ranks) n
hear_call n (filling shelf lent) one = cond (eqb one.returned 0) (hear_filled n shelf) n
hear_call n (coming_back shelf lent) one = cond (eqb one.returned 0) (hear_back n shelf) n

unfoldable pub notes_from : Notes → List Heard → Notes
notes_from n [] = n
notes_from n (one ∷ heard) = notes_from (hear_call n one.call one) heard

abbrev pub notes_on : List Heard → Notes
notes_on heard = notes_from no_notes heard

-- The order of what was heard since the first notes. Its type has neither the book nor the tickets in it.
abbrev pub order_from : Notes → List Heard → List Event
order_from first heard = finished (notes_from first heard).order

abbrev pub order : List Heard → List Event
order heard = order_from no_notes heard

-- The tickets whose last answer has come.
abbrev pub ended_from : Notes → List Heard → List Ended
ended_from first heard = (notes_from first heard).ended

abbrev pub ended : List Heard → List Ended
ended heard = ended_from no_notes heard

-- "A ticket holds its k-th target by position from Claimed k until Put k, Returned k" (or its last answer, when it is gone).
abbrev pub holds_target : Noted → ℕ → Bool
holds_target ticket k = all_hold (occurs k ticket.claimed ∷ not (occurs k ticket.released) ∷ [])

-- It holds a word that is one of its own, the first of which is the k-th.
abbrev pub holds_among : Noted → ℕ → ℕ → List ℕ → Bool
holds_among ticket word k [] = false
holds_among ticket word k (first ∷ later) =
    some_holds (all_hold (eqb word first ∷ holds_target ticket k ∷ []) ∷ holds_among ticket word (k + 1) later ∷ [])

abbrev pub holds_word : Option Noted → ℕ → Bool
holds_word none word = false
holds_word (some ticket) word = holds_among ticket word 1 (words_asked ticket.ranks ticket.asked)

unfoldable pub holds_from : Notes → List Heard → ℕ → ℕ → Bool
holds_from first heard team word = holds_word ((notes_from first heard).tickets team) word

abbrev pub holds : List Heard → ℕ → ℕ → Bool
holds heard team word = holds_from no_notes heard team word

-- A team holds a word, by what was heard since the first notes.
abbrev pub HeldFrom : Notes → List Heard → ℕ → ℕ → Type 0
HeldFrom first heard team word = holds_from first heard team word ≡ true

abbrev pub HeldBy : List Heard → ℕ → ℕ → Type 0
HeldBy heard team word = HeldFrom no_notes heard team word
