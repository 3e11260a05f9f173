-- A view that notes a value: it is quoted for the next target, and nothing else of the ticket changes.
use Prim.Native.Nat.{ℕ, ◌^◌, ◌<◌}
use mathlib.Core.Path.{◌≡◌, refl, sym, ap, subst, subst₂, ◌∙◌}
use mathlib.Core.Bool.{true}
use mathlib.Core.Logic.{◌≢◌}
use native.Mathlib.Omega.{arith}
use lib.ListN.{length, length-set}
use lib.Seq.{get_or-set_same, get_or-set_other}
use Rattle.tickets.specs.Tickets.{Ticket}
use Rattle.tickets.specs.Tickets.{target, target_at, targets_in, is_view, claims, names_well_made}
use Rattle.tickets.specs.Steps.{noting}
use Rattle.tickets.specs.Targets.{Claimable}
use Rattle.tickets.specs.Invariant.{plain_value, FitTicket}
use Rattle.tickets.proofs.TargetLists.{length_targets, target_listed, ClaimableAt, claimable_at}
use Rattle.tickets.proofs.Names.{words_noting, names_noting, noted_either}
use Rattle.tickets.proofs.Changing.{HeldAlike}
use Rattle.tickets.proofs.Keeping.{claim_target, claims_counts}

-- What is asked of targets one by one, asked of the list.
at_claimable : (size : ℕ) (ticket : Ticket) → ClaimableAt size ticket → Claimable size (targets_in ticket)
at_claimable size ticket apt = record {
  some = omega (arith, apt.some, length_targets ticket);
  most = omega (arith, apt.most, length_targets ticket);
  inside = λ k below. subst (λ one. one.word < size) (sym (target_listed ticket k (stored k below))) (apt.inside k (stored k below));
  quoted = λ k below. subst (λ one. one.quoted < 2 ^ 63) (sym (target_listed ticket k (stored k below))) (apt.quoted k (stored k below));
  new = λ k below. subst (λ one. one.new < 2 ^ 63) (sym (target_listed ticket k (stored k below))) (apt.new k (stored k below));
  once = λ j k below also same. apt.once j k (stored j below) (stored k also) (ap (λ one. one.word) (sym (target_listed ticket j (stored j below))) ∙ same ∙ ap (λ one. one.word) (target_listed ticket k (stored k also)));
}
  where
    stored : (k : ℕ) → k < length (targets_in ticket) → k < ticket.n
    stored k below = omega (arith, length_targets ticket)

module _ (ticket : Ticket) (value : ℕ) where
  -- The other targets are as they were.
  noted_elsewhere : (k : ℕ) → k ≢ ticket.claimed → target_at (noting ticket value) k ≡ target_at ticket k
  noted_elsewhere k other = ap (λ quoted. target (target_at ticket k).word quoted (target_at ticket k).new) (get_or-set_other ticket.quoted ticket.claimed k value 0 other)

  -- Nothing held changes: the next target is not claimed yet.
  pub noted_held : HeldAlike ticket (noting ticket value)
  noted_held = record {
    held_before = λ word value_held holds. record {
      stands = holds.stands;
      at = holds.at;
      not_done = holds.not_done;
      claimed = holds.claimed;
      its_word = holds.its_word;
      its_value = ap (plain_value ticket.phase) (sym (noted_elsewhere holds.at (λ same. omega (arith, holds.claimed)))) ∙ holds.its_value;
    };
    held_after = λ word value_held holds. (
      plain_value ticket.phase (target_at (noting ticket value) holds.at),
      record {
        stands = holds.stands;
        at = holds.at;
        not_done = holds.not_done;
        claimed = holds.claimed;
        its_word = holds.its_word;
        its_value = refl;
      },
    );
  }

  module _ {size : ℕ} (fit : FitTicket size ticket) (claiming : claims ticket.phase ≡ true) (view : is_view ticket.phase ≡ true) where
    -- The value is quoted now.
    pub noted_quoted : (claim_target (noting ticket value)).quoted ≡ value
    noted_quoted = get_or-set_same ticket.quoted ticket.claimed value 0 (omega (arith, claims_counts ticket fit claiming, fit.room view))

    -- A value that is no mark leaves a fit ticket.
    pub noted_fit : value < 2 ^ 63 → FitTicket size (noting ticket value)
    noted_fit small = let apt = claimable_at size ticket fit.claimable in record {
      claimable = at_claimable size (noting ticket value) record { some = apt.some; most = apt.most; inside = apt.inside; quoted = λ k below. noted_either (λ (one : ℕ). one < 2 ^ 63) ticket.quoted ticket.claimed k value small (apt.quoted k below); new = apt.new; once = apt.once };
      counts = fit.counts;
      none_done = fit.none_done;
      all_were_claimed = fit.all_were_claimed;
      names = λ is_view_lem. subst₂ (λ names words. names_well_made names words ≡ true) (sym (names_noting ticket value)) (sym (words_noting ticket value)) (fit.names is_view_lem);
      few = fit.few;
      room = λ is_view_lem. omega (arith, fit.room is_view_lem, length-set ticket.quoted ticket.claimed value);
    }
