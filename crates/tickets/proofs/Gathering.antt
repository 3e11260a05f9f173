-- The ticket that a slot says, step by step: what the code does to the slot is what the paper does to the ticket gathered from it.
use Prim.Native.Nat.{ℕ, ◌+◌, ◌≤◌, ◌<◌}
use mathlib.Core.Path.{◌≡◌, refl, sym, ap, ◌∙◌}
use mathlib.Core.Bool.{Bool, true, false, cond}
use mathlib.Core.List.{List}
use native.Mathlib.Omega.{arith}
use native.Mathlib.Decide.{ℕ_discrete}
use borrow.Author.Tests.{eq-eqb, ne_eqb, lt-ltb, le-ltb}
use lib.Dec.{eqb, ltb}
use Rattle.tickets.specs.declared.Target.{Target}
use Rattle.tickets.specs.declared.Phase.{Phase}
use Rattle.tickets.specs.declared.Phase.TheVariants.{Claiming, Putting, GivingBack}
use Rattle.tickets.specs.declared.Kind.{Kind}
use Rattle.tickets.specs.declared.Kind.TheVariants.{Edit, Stale, View}
use Rattle.tickets.specs.declared.StepAnswer.TheVariants as Answer
use Rattle.tickets.specs.declared.Ticket as Slot
use Rattle.tickets.specs.Tickets.{Ticket, no_ticket, target_at, has_ticket}
use Rattle.tickets.specs.Steps.{one_more_try, advanced, stepped, claimed, put, given_back}
use Rattle.tickets.specs.Table.{stands_in, claims_in, phase_by, done_with_one, tried_slot, standing, gathered, FinishedSlotsAreFree}

-- A slot whose targets are not all done says a standing ticket, and any other none.
pub gathered_stands : (targets : List Target) (slot : Slot.Ticket) → slot.done < slot.n → gathered targets slot ≡ standing targets slot
unfolding gathered
gathered_stands targets slot below = ap (λ b. cond b (standing targets slot) no_ticket) (lt-ltb slot.done slot.n below)

pub gathered_gone : FinishedSlotsAreFree
unfolding gathered
gathered_gone targets slot over = ap (λ b. cond b (standing targets slot) no_ticket) (le-ltb slot.done slot.n over)

-- So a slot says a ticket exactly where one stands in it.
has_phase : (kind : Kind) (claims : Bool) → has_ticket (phase_by kind claims) ≡ true
has_phase Edit true = refl
has_phase Edit false = refl
has_phase Stale claims = refl
has_phase View true = refl
has_phase View false = refl

pub gathered_has : (targets : List Target) (slot : Slot.Ticket) → has_ticket (gathered targets slot).phase ≡ stands_in slot
unfolding gathered
gathered_has targets slot = each (stands_in slot)
  where
    each : (stands : Bool) → has_ticket (cond stands (standing targets slot) no_ticket).phase ≡ stands
    each true = has_phase slot.kind (claims_in slot)
    each false = refl

-- After one more try the targets are as before, and the phase follows from the new counts.
pub gathered_tried : (targets : List Target) (slot : Slot.Ticket) (kind : Kind) (claimed done : ℕ) → done < slot.n → gathered targets (tried_slot slot kind claimed done) ≡ advanced (standing targets slot) (phase_by kind (claims_in (tried_slot slot kind claimed done))) claimed done
gathered_tried targets slot kind claimed done below = gathered_stands targets (tried_slot slot kind claimed done) below

-- The phase of an edit with nothing done: claiming, until all are claimed.
phase_of_edit : (slot : Slot.Ticket) (kind : Kind) (claimed done : ℕ) (claims : Bool) → kind ≡ Edit → done ≡ 0 → ltb claimed slot.n ≡ claims → phase_by kind (claims_in (tried_slot slot kind claimed done)) ≡ cond claims Claiming Putting
phase_of_edit slot kind claimed done claims edit none is =
    ap (λ k. phase_by k (cond (eqb done 0) (ltb claimed slot.n) false)) edit
    ∙ ap (λ b. cond (cond b (ltb claimed slot.n) false) Claiming Putting) (eq-eqb done 0 none)
    ∙ ap (λ b. cond b Claiming Putting) is

-- One more word claimed.
pub gathered_claimed : (targets : List Target) (slot : Slot.Ticket) → slot.kind ≡ Edit → slot.done ≡ 0 → slot.claimed < slot.n → gathered targets (tried_slot slot slot.kind (slot.claimed + 1) slot.done) ≡ (claimed (gathered targets slot)).ticket
gathered_claimed targets slot edit none more =
    gathered_tried targets slot slot.kind (slot.claimed + 1) slot.done (omega (arith, none, more))
    ∙ settles (ℕ_discrete (slot.claimed + 1) slot.n)
    ∙ sym (ap (λ t. (claimed t).ticket) (gathered_stands targets slot (omega (arith, none, more))))
  where
    now : Phase → ℕ → Ticket
    now phase done = advanced (standing targets slot) phase (slot.claimed + 1) done

    either : Bool → Ticket
    either all = cond all (now Putting 0) (now Claiming slot.done)

    settles : Dec (slot.claimed + 1 ≡ slot.n) → now (phase_by slot.kind (claims_in (tried_slot slot slot.kind (slot.claimed + 1) slot.done))) slot.done ≡ either (eqb (slot.claimed + 1) slot.n)
    settles (yes all) =
        ap (λ p. now p slot.done) (phase_of_edit slot slot.kind (slot.claimed + 1) slot.done false edit none (le-ltb (slot.claimed + 1) slot.n (omega (arith, all))))
        ∙ ap (now Putting) none
        ∙ sym (ap either (eq-eqb _ _ all))
    settles (no some) =
        ap (λ p. now p slot.done) (phase_of_edit slot slot.kind (slot.claimed + 1) slot.done true edit none (lt-ltb (slot.claimed + 1) slot.n (omega (arith, some, more))))
        ∙ sym (ap either (ne_eqb _ _ some))

-- One more target put: an edit that claims no more goes on putting.
pub gathered_put : (targets : List Target) (slot : Slot.Ticket) → slot.kind ≡ Edit → slot.done < slot.n → gathered targets (tried_slot slot slot.kind slot.claimed (slot.done + 1)) ≡ (put (gathered targets slot)).ticket
gathered_put targets slot edit below =
    settles (ℕ_discrete (slot.done + 1) slot.n)
    ∙ sym (ap (λ t. (put t).ticket) (gathered_stands targets slot below))
  where
    after : Slot.Ticket
    after = tried_slot slot slot.kind slot.claimed (slot.done + 1)

    now : Phase → Ticket
    now phase = advanced (standing targets slot) phase slot.claimed (slot.done + 1)

    either : Bool → Ticket
    either all = (cond all (stepped no_ticket (Answer.Granted (one_more_try slot.tries))) (stepped (now Putting) (Answer.Put (slot.done + 1)))).ticket

    phase_after : phase_by slot.kind (claims_in after) ≡ Putting
    phase_after =
        ap (λ k. phase_by k (claims_in after)) edit
        ∙ ap (λ b. cond (cond b (ltb slot.claimed slot.n) false) Claiming Putting) (ne_eqb (slot.done + 1) 0 (λ e. omega (arith, e)))

    settles : Dec (slot.done + 1 ≡ slot.n) → gathered targets after ≡ either (eqb (slot.done + 1) slot.n)
    settles (yes all) = gathered_gone targets after (omega (arith, all)) ∙ sym (ap either (eq-eqb _ _ all))
    settles (no some) =
        gathered_tried targets slot slot.kind slot.claimed (slot.done + 1) (omega (arith, some, below))
        ∙ ap now phase_after
        ∙ sym (ap either (ne_eqb _ _ some))

-- One more word given back by an edit found stale.
pub gathered_given : (targets : List Target) (slot : Slot.Ticket) → slot.kind ≡ Stale → slot.done < slot.claimed → slot.claimed ≤ slot.n → gathered targets (tried_slot slot slot.kind slot.claimed (done_with_one slot)) ≡ (given_back (gathered targets slot)).ticket
gathered_given targets slot stale below most =
    settles (ℕ_discrete (slot.done + 1) slot.claimed)
    ∙ sym (ap (λ t. (given_back t).ticket) (gathered_stands targets slot (omega (arith, below, most))))
  where
    after : ℕ → Slot.Ticket
    after done = tried_slot slot slot.kind slot.claimed done

    either : Bool → Ticket
    either all =
        (cond all
        (stepped no_ticket (Answer.Stale (target_at (standing targets slot) slot.claimed).word (one_more_try slot.tries)))
        (stepped (advanced (standing targets slot) GivingBack slot.claimed (slot.done + 1)) (Answer.Returned (slot.done + 1)))).ticket

    counted : Bool → ℕ
    counted all = cond all slot.n (slot.done + 1)

    settles : Dec (slot.done + 1 ≡ slot.claimed) → gathered targets (after (done_with_one slot)) ≡ either (eqb (slot.done + 1) slot.claimed)
    settles (yes all) =
        ap (λ b. gathered targets (after (counted b))) (eq-eqb _ _ all)
        ∙ gathered_gone targets (after slot.n) (omega arith)
        ∙ sym (ap either (eq-eqb _ _ all))
    settles (no some) =
        ap (λ b. gathered targets (after (counted b))) (ne_eqb _ _ some)
        ∙ gathered_tried targets slot slot.kind slot.claimed (slot.done + 1) (omega (arith, some, below, most))
        ∙ ap (λ k. advanced (standing targets slot) (phase_by k (claims_in (after (slot.done + 1)))) slot.claimed (slot.done + 1)) stale
        ∙ sym (ap either (ne_eqb _ _ some))
