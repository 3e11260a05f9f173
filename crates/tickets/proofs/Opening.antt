-- The invariant holds at the start, and after a ticket is opened.
use mathlib.Core.Path.{sym, ap, ◌∙◌}
use mathlib.Core.Bool.{true≢false}
use mathlib.Core.Logic.{inl, inr}
use native.Mathlib.Omega.{arith}
use lib.ListN.{length}
use Rattle.tickets.specs.Tickets.{has_ticket, claims}
use Rattle.tickets.specs.Invariant.{FitTicket, HoldsAtStart, OpeningKeeps}
use Rattle.tickets.proofs.TargetLists.{claimable_at}
use Rattle.tickets.proofs.Keeping.{claims_well_made, same_held}

pub holds_at_start : HoldsAtStart
holds_at_start words tickets plain none same values = record {
  fit = λ team. inl (none team);
  held = λ team word value holds. absurd (true≢false (sym holds.stands ∙ ap has_ticket (none team)));
  free = λ word inside small. same word inside;
  owned = λ word inside large. absurd (omega (arith, large, same word inside, values word inside));
}

pub opening_keeps : OpeningKeeps
opening_keeps words tickets plain team opened i none new = same_held i team opened (inr fit) record {
  held_before = λ word value holds. absurd (omega (arith, holds.claimed, new.none_claimed));
  held_after = λ word value holds. absurd (true≢false (sym holds.stands ∙ none));
}
  where
    fit : FitTicket (length words) opened
    fit = record {
      claimable = new.claimable;
      counts = claims_well_made opened.phase opened.n opened.claimed opened.done new.opens
          (omega (arith, (claimable_at (length words) opened new.claimable).some, new.none_claimed));
      none_done = λ e. new.none_done;
      all_were_claimed = λ putting. absurd (true≢false (sym new.opens ∙ ap claims putting));
      names = new.names;
      few = new.few;
      room = new.room;
    }
