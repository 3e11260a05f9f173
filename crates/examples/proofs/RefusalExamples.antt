-- Refusals 1 to 6 and those of a view, each given by a call that runs into it first (7 to 11 of edits, steps and looks: RefusalOrder of calls); what is written; and survey on torn input. All by computation.
use mathlib.Core.Path.{◌≡◌, refl}
use mathlib.Core.List.{[], ◌∷◌, ◌++◌, map}
use mathlib.Core.Option.{none, some}
use lib.ListN.{replicate}
use Rattle.legs.specs.Positions.{fixed_ranks}
use Rattle.tickets.specs.declared.Phase.TheVariants.{Claiming}
use Rattle.tickets.specs.Tickets.{fresh_tickets, with_ticket}
use Rattle.edits.specs.Opened.{opened_ticket}
use Rattle.edits.specs.Views.{opened_view}
use Rattle.frames.specs.Request.{Step, View}
use Rattle.frames.specs.declared.Answer.TheVariants.{Refused}
use Rattle.frames.specs.Writing.{request_frame}
use Rattle.frames.specs.Answers.{answer_frame}
use Rattle.calls.specs.Call.{refusal_of, call_of}
use Rattle.calls.specs.Survey.{survey_of}
use Rattle.calls.proofs.Computing.{everything}
use Rattle.calls.proofs.RefusalOrder.{book, out, damaged, ten_targets, repeats}

-- 1 to 6, in checking order: each call breaks the next rule too.
refusals_1_to_6 :
    refusal_of (replicate 4095 0) fresh_tickets fixed_ranks [] []
    ∷ refusal_of book fresh_tickets fixed_ranks [] (replicate 51 7)
    ∷ refusal_of book fresh_tickets fixed_ranks (4 ∷ 0 ∷ 8 ∷ 0 ∷ 0 ∷ []) out
    ∷ refusal_of book fresh_tickets fixed_ranks (5 ∷ 0 ∷ 8 ∷ 0 ∷ 16 ∷ 0 ∷ 0 ∷ []) out
    ∷ refusal_of book fresh_tickets fixed_ranks (5 ∷ 0 ∷ 5 ∷ 0 ∷ 16 ∷ 0 ∷ 0 ∷ []) out
    ∷ refusal_of book fresh_tickets fixed_ranks (request_frame (Step 16)) out
    ∷ []
    ≡ map some (1 ∷ 2 ∷ 3 ∷ 4 ∷ 5 ∷ 6 ∷ [])
unfolding everything
refusals_1_to_6 = refl

-- A view, likewise: of no word, of seven words, and of half a word (5); of team 16; over a damaged ticket, and over another; an n that is not the count of words, before a word above 4,095 and a word twice; that word alone; a word twice; and no refusal.
views_refused :
    refusal_of book fresh_tickets fixed_ranks (request_frame (View 16 0 [])) out
    ∷ refusal_of book fresh_tickets fixed_ranks (request_frame (View 16 7 (1 ∷ 2 ∷ 3 ∷ 4 ∷ 5 ∷ 6 ∷ 7 ∷ []))) out
    ∷ refusal_of book fresh_tickets fixed_ranks (9 ∷ 0 ∷ 7 ∷ 0 ∷ 16 ∷ 0 ∷ 1 ∷ 0 ∷ 3 ∷ 0 ∷ 4 ∷ []) out
    ∷ refusal_of book fresh_tickets fixed_ranks (request_frame (View 16 1 (3 ∷ []))) out
    ∷ refusal_of book (with_ticket fresh_tickets 0 ten_targets) fixed_ranks (request_frame (View 0 2 (4096 ∷ []))) out
    ∷ refusal_of book (with_ticket fresh_tickets 0 (opened_ticket fixed_ranks repeats)) fixed_ranks (request_frame (View 0 2 (4096 ∷ []))) out
    ∷ refusal_of book fresh_tickets fixed_ranks (request_frame (View 0 1 (3 ∷ 3 ∷ []))) out
    ∷ refusal_of book fresh_tickets fixed_ranks (request_frame (View 0 3 (4096 ∷ 3 ∷ 3 ∷ []))) out
    ∷ refusal_of book fresh_tickets fixed_ranks (request_frame (View 0 2 (3 ∷ 3 ∷ []))) out
    ∷ refusal_of book fresh_tickets fixed_ranks (request_frame (View 15 6 (4095 ∷ 0 ∷ 3 ∷ 2 ∷ 63 ∷ 64 ∷ []))) out
    ∷ []
    ≡ map some (5 ∷ 5 ∷ 5 ∷ 6 ∷ 7 ∷ 8 ∷ 10 ∷ 10 ∷ 11 ∷ []) ++ (none ∷ [])
unfolding everything
views_refused = refl

-- "An edit's ticket has up to 9 targets, a view's up to 6 as before": a step of an edit's with nine and with ten, and of a view's with six and with seven.
most_targets_lem :
    refusal_of book (with_ticket fresh_tickets 0 (damaged Claiming 9 0)) fixed_ranks (request_frame (Step 0)) out
    ∷ refusal_of book (with_ticket fresh_tickets 0 ten_targets) fixed_ranks (request_frame (Step 0)) out
    ∷ refusal_of book (with_ticket fresh_tickets 0 (opened_view fixed_ranks (1 ∷ 2 ∷ 3 ∷ 4 ∷ 5 ∷ 6 ∷ []))) fixed_ranks (request_frame (Step 0)) out
    ∷ refusal_of book (with_ticket fresh_tickets 0 (opened_view fixed_ranks (1 ∷ 2 ∷ 3 ∷ 4 ∷ 5 ∷ 6 ∷ 7 ∷ []))) fixed_ranks (request_frame (Step 0)) out
    ∷ []
    ≡ none ∷ some 7 ∷ none ∷ some 7 ∷ []
unfolding everything
most_targets_lem = refl

-- A refusal writes six bytes, and the rest of the output stays; 1, 13 and 2 return their number and write nothing.
refused_bytes : (call_of book fresh_tickets fixed_ranks (request_frame (Step 1)) out).2 ≡ answer_frame (Refused 9) ++ replicate 46 7
unfolding everything
refused_bytes = refl

no_book : call_of [] fresh_tickets fixed_ranks [] out ≡ (record { written = 1; tickets = fresh_tickets }, [], out)
unfolding everything
no_book = refl

short_output : (call_of book fresh_tickets fixed_ranks (request_frame (Step 1)) (replicate 51 7)).2 ≡ replicate 51 7
unfolding everything
short_output = refl

short_returns : (call_of book fresh_tickets fixed_ranks (request_frame (Step 1)) (replicate 51 7)).0.written ≡ 2
unfolding everything
short_returns = refl

-- survey: no input; a lone last byte, and a last frame that is too short, are torn; a length field of 63 stops it at once, and 62 is the longest.
no_input : survey_of [] ≡ []
unfolding everything
no_input = refl

lone_byte : survey_of (request_frame (Step 3) ++ (4 ∷ [])) ≡ answer_frame (Refused 9) ++ answer_frame (Refused 3)
unfolding everything
lone_byte = refl

short_frame : survey_of (4 ∷ 0 ∷ 5 ∷ 0 ∷ 3 ∷ []) ≡ answer_frame (Refused 3)
unfolding everything
short_frame = refl

length_63 : survey_of ((63 ∷ 0 ∷ []) ++ replicate 100 0) ≡ answer_frame (Refused 3)
unfolding everything
length_63 = refl

length_62 : survey_of ((62 ∷ 0 ∷ []) ++ replicate 62 0) ≡ answer_frame (Refused 4)
unfolding everything
length_62 = refl

-- Length fields of 0 and 1 make whole frames, which are refused, and it goes on.
length_0_and_1 : survey_of ((0 ∷ 0 ∷ 1 ∷ 0 ∷ 9 ∷ []) ++ request_frame (Step 3)) ≡ answer_frame (Refused 3) ++ answer_frame (Refused 3) ++ answer_frame (Refused 9)
unfolding everything
length_0_and_1 = refl
