-- Every step counts one try more, and a finished ticket is gone.
use Prim.Native.Nat.{ℕ}
use mathlib.Core.Path.{refl, sym, subst}
use native.Mathlib.Omega.{arith}
use native.Mathlib.Decide.{dec_lt}
use borrow.Author.Tests.{lt-ltb, le-ltb}
use Rattle.tickets.specs.Tickets.{Ticket}
use Rattle.tickets.specs.Steps.{Stepped}
use Rattle.tickets.specs.Steps.{most_tries, one_more_try, settled}
use Rattle.tickets.specs.Invariant.{TriesTold, TriesCounted, TriesStop}
use Rattle.tickets.proofs.Outcomes.{Outcome, claims_one, claims_last, waits, differs_later, differs_first, puts_one, puts_last, returns_one, returns_last, notes_one, notes_last, view_waits, view_returns_one, view_returns_last, outcome}
use Rattle.tickets.proofs.Stepping.{found_by, step_settled_lem}

-- What a step tells, by the ticket and the answer that it leaves.
abbrev Told : Ticket → Stepped → Type 0
Told ticket step = TriesTold (one_more_try ticket.tries) step.answer step.ticket

told_by_lem : (ticket : Ticket) (found : ℕ) → Outcome ticket found → Told ticket (settled ticket found)
told_by_lem ticket found (claims_one claiming same more settles) = subst (Told ticket) (sym settles) (refl, refl)
told_by_lem ticket found (claims_last claiming same last settles) = subst (Told ticket) (sym settles) (refl, refl)
told_by_lem ticket found (waits claiming differs large settles) = subst (Told ticket) (sym settles) (refl, refl)
told_by_lem ticket found (differs_later claiming differs small some settles) = subst (Told ticket) (sym settles) (refl, refl)
told_by_lem ticket found (differs_first claiming differs small none settles) = subst (Told ticket) (sym settles) (refl, refl)
told_by_lem ticket found (puts_one putting more settles) = subst (Told ticket) (sym settles) (refl, refl)
told_by_lem ticket found (puts_last putting last settles) = subst (Told ticket) (sym settles) (refl, refl)
told_by_lem ticket found (returns_one giving more settles) = subst (Told ticket) (sym settles) (refl, refl)
told_by_lem ticket found (returns_last giving last settles) = subst (Told ticket) (sym settles) (refl, refl)
told_by_lem ticket found (notes_one viewing small more settles) = subst (Told ticket) (sym settles) (refl, refl)
told_by_lem ticket found (notes_last viewing small last settles) = subst (Told ticket) (sym settles) (refl, refl)
told_by_lem ticket found (view_waits viewing large settles) = subst (Told ticket) (sym settles) (refl, refl)
told_by_lem ticket found (view_returns_one viewed more settles) = subst (Told ticket) (sym settles) (refl, refl)
told_by_lem ticket found (view_returns_last viewed last settles) = subst (Told ticket) (sym settles) refl

pub tries_counted : TriesCounted
tries_counted words ticket team stands =
    let found = found_by words ticket team in
    subst (Told ticket) (sym (step_settled_lem words ticket team)) (told_by_lem ticket found (outcome ticket found stands))

pub tries_stop : TriesStop
tries_stop tries steps are = elim (dec_lt tries most_tries) [
  | yes below ↦ rw (lt-ltb tries most_tries below) (omega arith)
  | no stopped ↦ rw (le-ltb tries most_tries (omega arith)) (omega arith)
]
