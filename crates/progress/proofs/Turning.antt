-- A turn: the call of a team with a ticket is not refused, and does its step.
use Prim.Native.Nat.{◌≤◌, ◌<◌}
use mathlib.Core.Path.{◌≡◌, ap, ◌∙◌}
use mathlib.Core.Bool.{true, false, not}
use mathlib.Core.Option.{none}
use native.Mathlib.Omega.{arith}
use lib.ListN.{length}
use borrow.Author.Tests.{eq-eqb, lt-ltb, le-ltb}
use Rattle.words.specs.Tests.{all_hold, some_holds}
use Rattle.words.specs.Words.{words_in_book, team_count}
use Rattle.words.proofs.Tests.{next_test, failed_test}
use Rattle.legs.specs.Positions.{Accepted}
use Rattle.tickets.specs.Tickets.{ticket_of, with_ticket, well_made}
use Rattle.tickets.specs.Steps.{step_of}
use Rattle.frames.specs.Request.{Step}
use Rattle.frames.specs.Numbers.{Bytes}
use Rattle.frames.specs.Requests.{request_in, angles_of_kind, length_fits}
use Rattle.frames.specs.Writing.{request_frame}
use Rattle.frames.specs.Answers.{longest_answer}
use Rattle.frames.proofs.Asked.{requests_read_back}
use Rattle.calls.specs.Call.{badly_made, refusal_checks, refusal_of, Done, request_done, refused_or, done_of, call_of}
use Rattle.calls.specs.Run.{Shared, onward, left_by}
use Rattle.progress.specs.Rounds.{Turn, step_call, Stands}

module _ (shared : Shared) (turn : Turn) (whole : length shared.book ≡ words_in_book) (accepted : Accepted shared.ranks) (inside : turn.team < team_count) (stands : Stands shared.tickets turn.team)
    (well : well_made (ticket_of shared.tickets turn.team) ≡ true) (room : longest_answer ≤ length turn.out) where
  abbrev frame : Bytes
  frame = request_frame (Step turn.team)

  read_back_lem : request_in frame ≡ Step turn.team
  read_back_lem = requests_read_back (Step turn.team) (lt-ltb turn.team 65536 (omega arith))

  not_badly_made : badly_made (ticket_of shared.tickets turn.team) ≡ false
  not_badly_made = next_test _ _ stands ∙ failed_test _ _ (ap not well)

  not_refused : refusal_of shared.book shared.tickets shared.ranks frame turn.out ≡ none
  unfolding refusal_of refusal_checks request_frame angles_of_kind some_holds all_hold length_fits
  not_refused =
      rw (eq-eqb (length shared.book) words_in_book whole, accepted, le-ltb (length turn.out) longest_answer room, read_back_lem, lt-ltb turn.team team_count inside, not_badly_made, stands)

  does_step : done_of shared.book shared.tickets shared.ranks frame turn.out ≡ request_done shared.book shared.tickets shared.ranks (Step turn.team)
  unfolding done_of
  does_step =
      ap (λ refusal. refused_or refusal shared.book shared.tickets shared.ranks (request_in frame)) not_refused
      ∙ ap (request_done shared.book shared.tickets shared.ranks) read_back_lem

  -- The step's ticket and words are what is left.
  pub left_by_step : let step = step_of shared.book (ticket_of shared.tickets turn.team) turn.team in
      left_by shared (step_call turn) ≡ onward shared step.1 (with_ticket shared.tickets turn.team step.0.ticket)
  unfolding call_of request_done
  left_by_step = ap (λ (result : Done). onward shared result.words result.tickets) does_step
