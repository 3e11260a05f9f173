-- Every step of an edit's ticket keeps the invariant of a run.
use mathlib.Core.Path.{◌≡◌, refl, sym, ap, subst, ◌∙◌}
use mathlib.Core.Bool.{true}
use mathlib.Core.List.{[], ◌∷◌, ◌++◌}
use mathlib.Core.Option.{some}
use Prim.Native.Nat.{ℕ, ◌+◌, ◌<◌}
use native.Mathlib.Omega.{arith}
use Rattle.tickets.specs.declared.Phase.{Phase}
use Rattle.tickets.specs.declared.Phase.TheVariants.{Claiming, Putting, GivingBack, Viewing, Viewed}
use Rattle.tickets.specs.Tickets.{Ticket, no_ticket, ticket_of, target_at, targets_in, claims}
use Rattle.tickets.specs.declared.StepAnswer.TheVariants.{Claimed, Waiting, Found, Put, Returned, Granted, Stale}
use Rattle.tickets.specs.Steps.{one_more_try, advanced}
use Rattle.tickets.specs.Targets.{AllMatch, PutInto}
use Rattle.tickets.specs.Invariant.{StepKept, one_claimed, claimed_last, waiting, found_other, stale_at_once, put_one, put_last, returned_one, returned_last, viewed_one, viewed_last, view_waiting, view_returned_one, view_returned_last}
use Rattle.tickets.proofs.TargetLists.{targets_advanced, match_at}
use Rattle.tickets.proofs.Keeping.{claiming_counts}
use Rattle.edits.specs.declared.Edit.{Edit}
use Rattle.plain.specs.Plain.{word_of}
use Rattle.plain.specs.Editing.{succeeds, perform}
use Rattle.calls.specs.Order.{granted, stale, decided, an_edit, Noted, Last, was_granted, was_stale, Notes, with_claimed, with_released, with_wait, with_step, with_found, with_decision, ended_by, hear_stale}
use Rattle.calls.specs.Linearizable.{PlainState, plain_from, Differed, Repeats}
use Rattle.calls.proofs.Ordered.{order_stays, order_grows, stored_law, play_granted, verdict_granted, granted_ordered, play_stale, verdict_stale, stale_ordered}
use Rattle.calls.proofs.Tied.{UpTo, up_to_more, HeardClaiming, HeardPutting, HeardGivingBack, HeardIn, Known, known_count, known_next}
use Rattle.calls.proofs.Turns.{Good, asking, Turn, Leaving, Kept, still, left_as, fit, spent, none_released, my_place, grown, stays_as, ends_as, advances, heard_claim, heard_last}

-- A step of a ticket of which this was heard.
module _ {start : PlainState} (edit : Edit) (heard : Noted) (turn : Turn start (asking (an_edit edit) heard.ranks heard)) where
  abbrev n : Notes
  n = turn.n

  abbrev good : Good start turn.shared n
  good = turn.good

  abbrev team : ℕ
  team = turn.team

  abbrev ticket : Ticket
  ticket = ticket_of turn.shared.tickets team

  abbrev plain : ℕ → ℕ
  plain = word_of (plain_from start n.order)

  abbrev known : Known start ticket (asking (an_edit edit) heard.ranks heard)
  known = turn.known

  abbrev edited : Noted
  edited = with_step (asking (an_edit edit) heard.ranks heard)

  -- It goes on with the same targets.
  edit_goes : {phase : Phase} {claimed done : ℕ} (after : Noted) → after.steps ≡ edited.steps
      → UpTo claimed after.claimed → UpTo done after.released → HeardIn start edit phase (advanced ticket phase claimed done) (asking (an_edit edit) heard.ranks after)
      → Known start (advanced ticket phase claimed done) (asking (an_edit edit) heard.ranks after)
  edit_goes {phase} {claimed} {done} after one_more taken let_go phase_heard = advances turn ticket refl refl after one_more taken let_go record {
    fine = known.rest.fine;
    targets = targets_advanced ticket phase claimed done ∙ known.rest.targets;
    phase = phase_heard;
  }

  -- What was heard in this phase.
  heard_in : (phase : Phase) → ticket.phase ≡ phase → HeardIn start edit phase ticket (asking (an_edit edit) heard.ranks heard)
  heard_in phase e = subst (λ phase. HeardIn start edit phase ticket (asking (an_edit edit) heard.ranks heard)) e known.rest.phase

  module _ (claiming : ticket.phase ≡ Claiming) where
    heard_claiming : HeardClaiming ticket (asking (an_edit edit) heard.ranks heard)
    heard_claiming = heard_in Claiming claiming

    -- Where the next word differs, the edit does not succeed.
    module _ (differs : plain (target_at ticket ticket.claimed).word ≡ (target_at ticket ticket.claimed).quoted → ⊥) where
      pub fails : succeeds (plain_from start n.order) edit ≡ true → ⊥
      fails succeeded =
          differs (match_at ticket plain
          (subst (λ targets. AllMatch targets plain) (sym known.rest.targets) ((stored_law n.order good.ordered edit known.rest.fine heard.ranks).quoted succeeded))
          ticket.claimed (claiming_counts ticket (fit turn) claiming))

      pub differed : Differed start edit edited record { verdict = stale; before = n.order } (target_at ticket ticket.claimed).word
      differed = let next = known_next known known.rest (claiming_counts ticket (fit turn) claiming) in record {
        named = ap (λ one. one.word) next;
        differs = λ same. differs (same ∙ sym (ap (λ one. one.quoted) next));
      }

    step_claims : ticket.claimed + 1 < ticket.n
        → Leaving turn plain (advanced ticket Claiming (ticket.claimed + 1) ticket.done) (Claimed (ticket.claimed + 1))
        → Kept turn
    step_claims more left =
        stays_as turn (with_claimed (ticket.claimed + 1) edited) left
        (heard_claim turn more) (my_place turn)
        (edit_goes (with_claimed (ticket.claimed + 1) edited) refl
        (up_to_more ticket.claimed heard.claimed known.claimed) known.released
        record { undecided = heard_claiming.undecided; swapped = omega (arith, heard_claiming.swapped) })
        refl

    step_waits : (holder : ℕ) → Leaving turn plain (advanced ticket Claiming ticket.claimed ticket.done) (Waiting (target_at ticket ticket.claimed).word holder)
        → Kept turn
    step_waits holder left =
        stays_as turn (with_wait edited) left refl (my_place turn)
        (edit_goes (with_wait edited) refl known.claimed known.released
        record { undecided = heard_claiming.undecided; swapped = omega (arith, heard_claiming.swapped) })
        refl

    -- The last claim: the ticket is decided as granted.
    step_claims_last : ticket.claimed + 1 ≡ ticket.n
        → AllMatch (targets_in ticket) plain
        → ((after : ℕ → ℕ) → PutInto (targets_in ticket) plain after → Leaving turn after (advanced ticket Putting (ticket.claimed + 1) 0) (Claimed (ticket.claimed + 1)))
        → Kept turn
    step_claims_last last matches left =
        let law = stored_law n.order good.ordered edit known.rest.fine heard.ranks in
        let succeeded = law.success (subst (λ targets. AllMatch targets plain) known.rest.targets matches) in
        let after = word_of (perform (plain_from start n.order) edit) in
        let decided_now : Noted = with_decision granted n.order (with_claimed (ticket.claimed + 1) edited) in
        left_as turn (n.order ++ (decided granted edit ∷ [])) (some decided_now) n.ended
        (subst (λ book. Leaving turn (word_of book) (advanced ticket Putting (ticket.claimed + 1) 0) (Claimed (ticket.claimed + 1)))
        (sym (play_granted n.order good.ordered edit known.rest.fine succeeded))
        (left after (subst (λ targets. PutInto targets plain after) (sym known.rest.targets) (law.put succeeded))))
        (heard_last turn last)
        (edit_goes decided_now refl
        (up_to_more ticket.claimed heard.claimed known.claimed) (none_released turn (ap claims claiming))
        record {
          decided = record {
            decision = record { verdict = granted; before = n.order };
            once = ap (λ decisions. record { verdict = granted; before = n.order } ∷ decisions) heard_claiming.undecided.0;
            is = refl;
            right = verdict_granted n.order good.ordered edit known.rest.fine succeeded;
          };
          not_found = heard_claiming.undecided.1;
          swapped = omega (arith, heard_claiming.swapped);
        })
        refl
        (grown turn (decided granted edit) refl (granted_ordered n.order good.ordered edit known.rest.fine succeeded)) good.ends good.tries

    -- Found: it is decided as stale.
    step_finds : (plain (target_at ticket ticket.claimed).word ≡ (target_at ticket ticket.claimed).quoted → ⊥)
        → Leaving turn plain (advanced ticket GivingBack ticket.claimed 0) (Found (target_at ticket ticket.claimed).word)
        → Kept turn
    step_finds differs left =
        let word = (target_at ticket ticket.claimed).word in
        let decided_now : Noted = with_decision stale n.order (with_found word edited) in
        let failed = fails differs in
        let names = differed differs in
        left_as turn (n.order ++ (decided stale edit ∷ [])) (some decided_now) n.ended
        (still turn (play_stale n.order good.ordered edit known.rest.fine failed) left)
        refl
        (edit_goes decided_now refl known.claimed (none_released turn (ap claims claiming))
        record {
          decided = record {
            decision = record { verdict = stale; before = n.order };
            once = ap (λ decisions. record { verdict = stale; before = n.order } ∷ decisions) heard_claiming.undecided.0;
            is = refl;
            right = verdict_stale n.order good.ordered edit known.rest.fine failed;
          };
          found = refl;
          differed = record { named = names.named; differs = names.differs };
        })
        refl
        (grown turn (decided stale edit) refl (stale_ordered n.order good.ordered edit known.rest.fine failed)) good.ends good.tries

    -- Stale with no Found: it is decided as stale, and gone.
    step_fails : ticket.claimed ≡ 0
        → (plain (target_at ticket ticket.claimed).word ≡ (target_at ticket ticket.claimed).quoted → ⊥)
        → Leaving turn plain no_ticket (Stale (target_at ticket 0).word (one_more_try ticket.tries))
        → Kept turn
    step_fails none_claimed differs left =
        let word = (target_at ticket 0).word in
        let last : Last = was_stale word (one_more_try ticket.tries) in
        let failed = fails differs in
        let names = differed differs in
        let same_word : (target_at ticket ticket.claimed).word ≡ word = ap (λ k. (target_at ticket k).word) none_claimed in
        ends_as turn (n.order ++ (decided stale edit ∷ [])) (ended_by (with_decision stale n.order edited) last)
        (still turn (play_stale n.order good.ordered edit known.rest.fine failed) left)
        (ap (λ found. hear_stale n team edited (an_edit edit) found last) heard_claiming.undecided.1)
        (order_grows n.order (decided stale edit) refl (stale_ordered n.order good.ordered edit known.rest.fine failed) tt)
        record {
          decision = record { verdict = stale; before = n.order };
          once = ap (λ decisions. record { verdict = stale; before = n.order } ∷ decisions) heard_claiming.undecided.0;
          right = verdict_stale n.order good.ordered edit known.rest.fine failed;
          fits = (
            refl,
            record {
              named = sym same_word ∙ names.named;
              differs = λ same. names.differs (ap (word_of (plain_from start n.order)) same_word ∙ same);
            },
            subst (λ found. Repeats found word heard.claimed) (sym heard_claiming.undecided.1) (known.claimed.many ∙ none_claimed),
          );
        }
        (spent turn, tt)

  module _ (putting : ticket.phase ≡ Putting) where
    heard_putting : HeardPutting start edit ticket (asking (an_edit edit) heard.ranks heard)
    heard_putting = heard_in Putting putting

    step_puts : Leaving turn plain (advanced ticket Putting ticket.claimed (ticket.done + 1)) (Put (ticket.done + 1))
        → Kept turn
    step_puts left =
        let d = heard_putting.decided in
        stays_as turn (with_released (ticket.done + 1) edited) left refl (my_place turn)
        (edit_goes (with_released (ticket.done + 1) edited) refl
        known.claimed (up_to_more ticket.done heard.released known.released)
        record {
          decided = record { decision = d.decision; once = d.once; is = d.is; right = d.right };
          not_found = heard_putting.not_found;
          swapped = omega (arith, heard_putting.swapped);
        })
        refl

    -- Granted.
    step_puts_last : ticket.done + 1 ≡ ticket.n
        → Leaving turn plain no_ticket (Granted (one_more_try ticket.tries))
        → Kept turn
    step_puts_last last left =
        let d = heard_putting.decided in
        let all = (fit turn).all_were_claimed putting in
        let count = known_count known in
        ends_as turn n.order (ended_by edited (was_granted (one_more_try ticket.tries))) left refl
        (order_stays good.ordered tt)
        record { decision = d.decision; once = d.once; right = d.right; fits = d.is }
        (spent turn, omega (arith, heard_putting.swapped))

  module _ (giving : ticket.phase ≡ GivingBack) where
    heard_giving : HeardGivingBack start edit ticket (asking (an_edit edit) heard.ranks heard)
    heard_giving = heard_in GivingBack giving

    step_returns : Leaving turn plain (advanced ticket GivingBack ticket.claimed (ticket.done + 1)) (Returned (ticket.done + 1))
        → Kept turn
    step_returns left =
        let d = heard_giving.decided in
        let names = heard_giving.differed in
        stays_as turn (with_released (ticket.done + 1) edited) left refl (my_place turn)
        (edit_goes (with_released (ticket.done + 1) edited) refl
        known.claimed (up_to_more ticket.done heard.released known.released)
        record {
          decided = record { decision = d.decision; once = d.once; is = d.is; right = d.right };
          found = heard_giving.found;
          differed = record { named = names.named; differs = names.differs };
        })
        refl

    -- Stale after Found.
    step_returns_last : Leaving turn plain no_ticket (Stale (target_at ticket ticket.claimed).word (one_more_try ticket.tries))
        → Kept turn
    step_returns_last left =
        let word = (target_at ticket ticket.claimed).word in
        let last : Last = was_stale word (one_more_try ticket.tries) in
        let d = heard_giving.decided in
        let names = heard_giving.differed in
        ends_as turn n.order (ended_by edited last) left
        (ap (λ found. hear_stale n team edited (an_edit edit) found last) heard_giving.found)
        (order_stays good.ordered tt)
        record {
          decision = d.decision;
          once = d.once;
          right = d.right;
          fits = (d.is, record { named = names.named; differs = names.differs }, subst (λ found. Repeats found word heard.claimed) (sym heard_giving.found) refl);
        }
        (spent turn, tt)

  pub edit_kept : StepKept turn.shared.book (ticket_of turn.shared.tickets) plain team ticket → Kept turn
  edit_kept (one_claimed claiming more left) = step_claims claiming more left
  edit_kept (claimed_last claiming last matches left) = step_claims_last claiming last matches left
  edit_kept (waiting claiming holder other left) = step_waits claiming _ left
  edit_kept (found_other claiming some_claimed differs left) = step_finds claiming differs left
  edit_kept (stale_at_once claiming none_claimed differs left) = step_fails claiming none_claimed differs left
  edit_kept (put_one putting more left) = step_puts putting left
  edit_kept (put_last putting last left) = step_puts_last putting last left
  edit_kept (returned_one giving more left) = step_returns giving left
  edit_kept (returned_last giving last left) = step_returns_last giving left
  edit_kept (viewed_one viewing more value plain_is left) = absurd (heard_in Viewing viewing)
  edit_kept (viewed_last viewing last value matches left) = absurd (heard_in Viewing viewing)
  edit_kept (view_waiting viewing holder other left) = absurd (heard_in Viewing viewing)
  edit_kept (view_returned_one viewed more left) = absurd (heard_in Viewed viewed)
  edit_kept (view_returned_last viewed last left) = absurd (heard_in Viewed viewed)
