-- The whole frames of an input of bytes are frames of bytes, so that demand 3 holds of their run.
use Prim.Native.Nat.{ℕ, zero, suc, ◌+◌}
use mathlib.Core.Path.{◌≡◌, ap}
use mathlib.Core.Bool.{Bool, true, false, cond}
use mathlib.Core.List.{List, [], ◌∷◌}
use lib.ListN.{length, length-replicate, get_or-replicate}
use Rattle.words.specs.Tests.{Every}
use Rattle.words.specs.Words.{words_in_book, team_count}
use Rattle.legs.specs.Positions.{fixed_ranks}
use Rattle.tickets.specs.Tickets.{Ticket, no_ticket, fresh_tickets, has_ticket}
use Rattle.frames.specs.Numbers.{Bytes, are_bytes}
use Rattle.frames.specs.Requests.{length_field}
use Rattle.frames.proofs.Bytes.{bytes_after}
use Rattle.calls.specs.Run.{loading, Admitted, fresh, under_ranks}
use Rattle.calls.specs.Survey.{torn, first_frame, after_first_frame, frames_from, frames_in, calls_on}
use Rattle.calls.specs.SurveyDemand3.{SurveyLinearizable, LoadBegins, SurveyLinearizableUnder}
use Rattle.calls.proofs.WellMadeTables.{bytes_before}
use Rattle.calls.proofs.Loading.{load_goes}
use Rattle.calls.proofs.Demand3.{demand3}

frame_turn : (test : Bool) (frame : Bytes) (frames : List Bytes) → are_bytes frame ≡ true → Every Admitted (calls_on frames)
    → Every Admitted (calls_on (cond test [] (frame ∷ frames)))
frame_turn true frame frames own later = tt
frame_turn false frame frames own later = (own, later)

frames_of_bytes : (most : ℕ) (input : Bytes) → are_bytes input ≡ true → Every Admitted (calls_on (frames_from most input))
unfolding frames_from
frames_of_bytes zero input bytes = tt
frames_of_bytes (suc most) [] bytes = tt
frames_of_bytes (suc most) (byte ∷ others) bytes =
    let input = byte ∷ others in
    frame_turn (torn input) (first_frame input) (frames_from most (after_first_frame input))
    (bytes_before (length_field input + 2) input bytes)
    (frames_of_bytes most (after_first_frame input) (bytes_after (length_field input + 2) input bytes))

pub survey_linearizable : SurveyLinearizable
survey_linearizable input bytes = demand3 [] (calls_on (frames_in input)) (frames_of_bytes (length input) input bytes)

-- No ticket stands at the start, so that a load of accepted ranks goes.
pub load_begins : LoadBegins
load_begins store ranks accepted =
    ap (under_ranks (fresh store)) (load_goes (fresh store).book fresh_tickets fixed_ranks ranks (length-replicate {A = ℕ} words_in_book 0) accepted (λ team inside. ap (λ (t : Ticket). has_ticket t.phase) (get_or-replicate {A = Ticket} team_count team no_ticket no_ticket inside)))

pub survey_linearizable_under : SurveyLinearizableUnder
survey_linearizable_under ranks accepted input bytes = demand3 [] (loading ranks ∷ calls_on (frames_in input)) (tt, frames_of_bytes (length input) input bytes)
