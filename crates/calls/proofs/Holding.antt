-- A step that is answered Waiting names the team that holds the word, and it is another one.
use mathlib.Core.Path.{◌≡◌, refl, sym, ap, subst, ◌∙◌}
use mathlib.Core.Bool.{true, false, false≢true}
use mathlib.Core.Option.{Option, none, some}
use Prim.Native.Nat.{ℕ, ◌<◌}
use lib.ListN.{length}
use Rattle.words.specs.Words.{team_count, mark_of, holder_of}
use Rattle.words.proofs.Marks.{mark_held_by}
use Rattle.tickets.specs.Tickets.{Ticket, ticket_of, target_at, targets_in, has_ticket}
use Rattle.tickets.specs.declared.StepAnswer.{StepAnswer}
use Rattle.tickets.specs.declared.StepAnswer.TheVariants.{Claimed, Waiting, Found, Put, Returned, Granted, Stale, Seen}
use Rattle.tickets.specs.declared.Values.{Values}
use Rattle.tickets.specs.Steps.{step_of}
use Rattle.tickets.specs.Invariant.{Holder, FitTicket, Leaves, StepKept, one_claimed, claimed_last, waiting, found_other, stale_at_once, put_one, put_last, returned_one, returned_last, viewed_one, viewed_last, view_waiting, view_returned_one, view_returned_last}
use Rattle.tickets.proofs.Keeping.{standing_fit}
use Rattle.tickets.proofs.Putting.{all_put, all_put_lem}
use Rattle.tickets.proofs.Stepping.{step_keeps}
use Rattle.frames.specs.Request.{Step}
use Rattle.frames.specs.declared.Answer.{Answer}
use Rattle.frames.specs.Numbers.{Bytes, are_bytes}
use Rattle.frames.specs.Requests.{request_in}
use Rattle.plain.specs.Plain.{word_of}
use Rattle.calls.specs.Call.{refusal_of, request_done, refused_or, done_of}
use Rattle.calls.specs.Run.{Shared, run}
use Rattle.calls.specs.Order.{Notes, holds_from, holds_word, notes_on}
use Rattle.calls.specs.Linearizable.{PlainState, plain_from, heard_on}
use Rattle.calls.specs.Holder.{WaitingNamesTheHolder}
use Rattle.calls.specs.Demand1.{TableFits}
use Rattle.calls.proofs.Tables.{standing_inside}
use Rattle.calls.proofs.Hearing.{answers_heard}
use Rattle.calls.proofs.Passing.{Passes, passes}
use Rattle.calls.proofs.Turns.{Good}
use Rattle.calls.proofs.Demand3.{to_heard, run_good, run_table}

module _ {start : PlainState} (shared : Shared) (n : Notes) (table : TableFits shared.tickets) (good : Good start shared n) (waiter word team : ℕ) where
  -- What is to be shown.
  abbrev Names : Type 0
  Names = (holds_word (n.tickets team) word ≡ true) × (team < team_count) × (team ≡ waiter → ⊥)

  abbrev ticket : Ticket
  ticket = ticket_of shared.tickets waiter

  -- The holder of the word that the ticket waits for, another team.
  names : (holder : Holder (ticket_of shared.tickets) (target_at ticket ticket.claimed).word) → (holder.team ≡ waiter → ⊥)
      → Waiting (target_at ticket ticket.claimed).word (holder_of (mark_of holder.team)) ≡ Waiting word team → Names
  names holder other same =
      let inside = standing_inside shared.tickets table.teams holder.team holder.holds.stands in
      let named : holder.team ≡ team = sym (mark_held_by holder.team inside) ∙ cc in
      let is_word : (target_at ticket ticket.claimed).word ≡ word = cc in (
        subst (λ (t : ℕ). holds_word (n.tickets t) word ≡ true) named
            (subst (λ (w : ℕ). holds_word (n.tickets holder.team) w ≡ true) is_word (to_heard shared n good holder.team _ holder.value holder.holds)),
        subst (λ (t : ℕ). t < team_count) named inside,
        λ same_team. other (named ∙ same_team),
      )

  -- No other answer is Waiting.
  never : false ≡ true → Names
  never e = absurd (false≢true e)

  is_claimed : (k : ℕ) → Claimed k ≡ Waiting word team → Names
  is_claimed k e = never cc

  is_found : (w : ℕ) → Found w ≡ Waiting word team → Names
  is_found w e = never cc

  is_put : (k : ℕ) → Put k ≡ Waiting word team → Names
  is_put k e = never cc

  is_returned_lem : (k : ℕ) → Returned k ≡ Waiting word team → Names
  is_returned_lem k e = never cc

  is_granted : (tries : ℕ) → Granted tries ≡ Waiting word team → Names
  is_granted tries e = never cc

  is_stale : (w tries : ℕ) → Stale w tries ≡ Waiting word team → Names
  is_stale w tries e = never cc

  is_seen : (values : Values) → Seen values ≡ Waiting word team → Names
  is_seen values e = never cc

  module _ (stands : has_ticket ticket.phase ≡ true) (answered : (step_of shared.book ticket waiter).0.answer ≡ Waiting word team) where
    abbrev plain : ℕ → ℕ
    plain = word_of (plain_from start n.order)

    fit : FitTicket (length shared.book) ticket
    fit = standing_fit (length shared.book) ticket (good.agree.fit waiter) stands

    -- The answer of a step that leaves this one.
    told : {after : ℕ → ℕ} {left : Ticket} {answer : StepAnswer} → Leaves shared.book (ticket_of shared.tickets) waiter after left answer → answer ≡ Waiting word team
    told left = sym (λ i. (left.is i).answer) ∙ answered

    by_step : StepKept shared.book (ticket_of shared.tickets) plain waiter ticket → Names
    by_step (one_claimed claiming more left) = is_claimed _ (told left)
    by_step (claimed_last claiming last matches left) = is_claimed _ (told (left (all_put (targets_in ticket) plain) (all_put_lem (targets_in ticket) plain fit.claimable.once)))
    by_step (waiting claiming holder other left) = names holder other (told left)
    by_step (found_other claiming some_claimed differs left) = is_found _ (told left)
    by_step (stale_at_once claiming none_claimed differs left) = is_stale _ _ (told left)
    by_step (put_one putting more left) = is_put _ (told left)
    by_step (put_last putting last left) = is_granted _ (told left)
    by_step (returned_one giving more left) = is_returned_lem _ (told left)
    by_step (returned_last giving last left) = is_stale _ _ (told left)
    by_step (viewed_one viewing more value same left) = is_claimed _ (told left)
    by_step (viewed_last viewing last value matches left) = is_claimed _ (told left)
    by_step (view_waiting viewing holder other left) = names holder other (told left)
    by_step (view_returned_one viewed more left) = is_returned_lem _ (told left)
    by_step (view_returned_last viewed last left) = is_seen _ (told left)

    step_names : Names
    step_names = by_step (step_keeps shared.book (ticket_of shared.tickets) plain waiter good.agree stands)

  -- The call, by its request.
  pub call_names : (frame out : Bytes) → are_bytes frame ≡ true → request_in frame ≡ Step waiter
      → (done_of shared.book shared.tickets shared.ranks frame out).answer ≡ Answer.Step (Waiting word team) → Names
  unfolding done_of request_done
  call_names frame out bytes asks answered = by (refusal_of shared.book shared.tickets shared.ranks frame out) refl answered
    where
      by : (refusal : Option ℕ) → refusal_of shared.book shared.tickets shared.ranks frame out ≡ refusal
          → (refused_or refusal shared.book shared.tickets shared.ranks (request_in frame)).answer ≡ Answer.Step (Waiting word team) → Names
      by (some number) is e = never cc
      by none is e =
          let passed = subst (Passes shared.tickets) asks (passes shared.book shared.tickets shared.ranks frame out bytes is) in
          let step : Answer.Step (step_of shared.book ticket waiter).0.answer ≡ Answer.Step (Waiting word team) =
          ap (λ request. (request_done shared.book shared.tickets shared.ranks request).answer) (sym asks) ∙ e in
          step_names passed.1 cc

pub waiting_names_the_holder : WaitingNamesTheHolder
unfolding holds_from
waiting_names_the_holder store calls bytes frame out frame_bytes waiter word team asks heard =
    let shared = (run store calls).end in
    let table = run_table store calls in
    let said = sym (answers_heard shared frame out table) ∙ heard in
    call_names shared (notes_on (heard_on store calls)) table (run_good store calls bytes) waiter word team frame out frame_bytes asks cc
