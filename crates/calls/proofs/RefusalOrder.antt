-- The order of the refusals 1, 13 and 2, and of 7 to 11, computed: each call that breaks two of these rules is refused by the first.
use Prim.Native.Nat.{ℕ}
use mathlib.Core.Path.{◌≡◌, refl}
use mathlib.Core.List.{[], ◌∷◌, map}
use mathlib.Core.Option.{none, some}
use lib.ListN.{replicate}
use lib.IntN.{pos}
use Rattle.words.specs.Words.{Words, most_targets, words_in_book}
use Rattle.legs.specs.Positions.{fixed_ranks}
use Rattle.legs.specs.declared.Stations.{Stations}
use Rattle.legs.specs.declared.Measure.{Measure}
use Rattle.tickets.specs.declared.Phase.{Phase}
use Rattle.tickets.specs.declared.Phase.TheVariants.{Claiming, GivingBack}
use Rattle.tickets.specs.Tickets.{Ticket, fresh_tickets, with_ticket}
use Rattle.edits.specs.declared.Edit.{Edit}
use Rattle.edits.specs.declared.Edit.TheVariants.{Add}
use Rattle.edits.specs.Opened.{opened_ticket}
use Rattle.frames.specs.Request.{Open, Step, Look}
use Rattle.frames.specs.Numbers.{Bytes}
use Rattle.frames.specs.Writing.{request_frame}
use Rattle.frames.specs.Answers.{longest_answer}
use Rattle.calls.specs.Call.{refusal_of}
use Rattle.calls.specs.Bench.{stations, that_measure, measured}
use Rattle.calls.proofs.Computing.{everything}

abbrev pub book : Words
book = replicate words_in_book 0

abbrev pub out : Bytes
out = replicate longest_answer 7

-- A damaged ticket: of ten targets; or one that gives back as many as it has.
abbrev pub damaged : Phase → ℕ → ℕ → Ticket
damaged phase n claimed = record {
  quoted = replicate most_targets 0;
  new = replicate most_targets 1;
  words = replicate most_targets 0;
  n = n;
  tries = 0;
  claimed = claimed;
  done = 0;
  phase = phase;
}

abbrev pub ten_targets : Ticket
ten_targets = damaged Claiming 10 0

abbrev pub all_claimed : Ticket
all_claimed = damaged GivingBack 2 2

abbrev pub adding : Stations → Measure → Edit
adding stations measure = Add (record { passage = 0; leg = 1; newest = 0; count = 0; stations = stations; measure = measure })

abbrev pub same_stations : Stations
same_stations = record { from = 4; to = 4 }

-- From is to (11), and clino is 9,001 too (10).
abbrev pub repeats : Edit
repeats = adding same_stations that_measure

abbrev pub both_faults : Edit
both_faults = adding same_stations (measured 5000 (pos 9001))

-- 1; 13, and before 2 and 3; 2, and before 3.
refusals_1_13_2 :
    refusal_of [] fresh_tickets [] [] []
    ∷ refusal_of book fresh_tickets [] [] []
    ∷ refusal_of book fresh_tickets fixed_ranks [] []
    ∷ []
    ≡ map some (1 ∷ 13 ∷ 2 ∷ [])
unfolding everything
refusals_1_13_2 = refl

-- 7, and before 8, 10 and 11; 8 before 10 and 11; 9; another team's damaged ticket is nothing to a team.
refusals_7_to_9 :
    refusal_of book (with_ticket fresh_tickets 0 ten_targets) fixed_ranks (request_frame (Step 0)) out
    ∷ refusal_of book (with_ticket fresh_tickets 0 all_claimed) fixed_ranks (request_frame (Open 0 both_faults)) out
    ∷ refusal_of book (with_ticket fresh_tickets 0 (opened_ticket fixed_ranks repeats)) fixed_ranks (request_frame (Open 0 both_faults)) out
    ∷ refusal_of book (with_ticket fresh_tickets 0 ten_targets) fixed_ranks (request_frame (Step 1)) out
    ∷ []
    ≡ map some (7 ∷ 7 ∷ 8 ∷ 9 ∷ [])
unfolding everything
refusals_7_to_9 = refl

-- 10, of a look, and before 11; 11; and no refusal.
refusals_10_and_11 :
    refusal_of book fresh_tickets fixed_ranks (request_frame (Look 4096)) out
    ∷ refusal_of book fresh_tickets fixed_ranks (request_frame (Open 0 both_faults)) out
    ∷ refusal_of book fresh_tickets fixed_ranks (request_frame (Open 0 repeats)) out
    ∷ refusal_of book fresh_tickets fixed_ranks (request_frame (Open 0 (adding stations that_measure))) out
    ∷ []
    ≡ some 10 ∷ some 10 ∷ some 11 ∷ none ∷ []
unfolding everything
refusals_10_and_11 = refl
