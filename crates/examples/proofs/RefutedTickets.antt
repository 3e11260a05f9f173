-- Runs of wrong programs, for which demand 3 does not hold: a ticket is decided, ended, counted or kept as none may be.
use Prim.Native.Nat.{ℕ}
use native.Mathlib.Omega.{arith}
use mathlib.Core.Path.{◌≡◌, ap, ◌∙◌}
use mathlib.Core.Bool.{true≢false, false≢true}
use mathlib.Core.List.{List, [], ◌∷◌}
use mathlib.Core.Logic.{inl, inr}
use lib.ListN.{length, replicate}
use Rattle.tickets.specs.declared.Phase.TheVariants.{Claiming, Putting}
use Rattle.tickets.specs.declared.StepAnswer.TheVariants.{Claimed, Found, Granted, Stale}
use Rattle.tickets.specs.Tickets.{fresh_tickets, with_ticket}
use Rattle.frames.specs.declared.Answer.TheVariants as Answer
use Rattle.frames.specs.Request.{Open, Step, View}
use Rattle.calls.specs.Order.{Decision}
use Rattle.calls.specs.Linearizable.{Linearizable}
use Rattle.calls.proofs.ExampleCalls.{every_run, heard_as}
use Rattle.calls.proofs.RefusalOrder.{ten_targets}
use Rattle.examples.proofs.RefutedOrders.{running, fresh_book, edited, adding, miscounted, standing, verdict_number}

-- last_answers: a ticket that ends and was never decided;
never_decided : Linearizable (running fresh_book fresh_tickets (edited adding (Granted 1 ∷ []))) → ⊥
unfolding every_run
never_decided right = let made : ◌≡◌ {A = ℕ} 0 1 = ap length right.last_answers.0.once in omega arith

-- one that was decided twice;
decided_twice : Linearizable (running fresh_book fresh_tickets (edited adding (Claimed 5 ∷ Claimed 5 ∷ Granted 3 ∷ []))) → ⊥
unfolding every_run
decided_twice right = let made : ◌≡◌ {A = ℕ} 2 1 = ap length right.last_answers.0.once in omega arith

-- one that is stale and ends Granted;
abbrev latest_number : List Decision → ℕ
latest_number [] = 2
latest_number (latest ∷ earlier) = verdict_number latest.verdict

ends_granted : Linearizable (running fresh_book fresh_tickets (edited miscounted (Claimed 1 ∷ Found 1 ∷ Granted 3 ∷ []))) → ⊥
unfolding every_run
ends_granted right =
    let end = right.last_answers.0 in
    let number : ◌≡◌ {A = ℕ} 1 0 = ap latest_number end.once ∙ ap verdict_number end.fits in
    omega arith

-- one whose Stale names another word than the next to be claimed.
names_another_word : Linearizable (running fresh_book fresh_tickets (edited miscounted (Claimed 1 ∷ Found 64 ∷ Stale 64 3 ∷ []))) → ⊥
unfolding every_run
names_another_word right = let named : ◌≡◌ {A = ℕ} 64 1 = right.last_answers.0.fits.1.named in omega arith

-- decided_once: a ticket decided again while it stands.
decided_again : Linearizable (running fresh_book (standing adding Putting 5) (edited adding (Claimed 5 ∷ Claimed 5 ∷ []))) → ⊥
unfolding every_run
decided_again right = elim (right.decided_once 0) [
  | inl undecided ↦ let made : ◌≡◌ {A = ℕ} 2 0 = ap length undecided.0 in omega arith
  | inr decided ↦ let made : ◌≡◌ {A = ℕ} 2 1 = ap length decided.1 in omega arith
]

-- stays_whole: one that loses a word of the book.
loses_a_word : Linearizable (running (replicate 4095 0) fresh_tickets []) → ⊥
unfolding every_run
loses_a_word right = true≢false right.stays_whole

-- stays_well_made: one that leaves a ticket of ten targets.
ten_targets_lem : Linearizable (running fresh_book (with_ticket fresh_tickets 0 ten_targets) []) → ⊥
unfolding every_run
ten_targets_lem right = true≢false (right.stays_well_made 0)

-- tries_add_up: tries invented; and a ticket granted after two steps.
invents_tries : Linearizable (running fresh_book fresh_tickets (edited miscounted (Claimed 1 ∷ Found 1 ∷ Stale 1 9 ∷ []))) → ⊥
unfolding every_run
invents_tries right = let counted : ◌≡◌ {A = ℕ} 9 3 = right.tries_add_up.0.0 in omega arith

granted_in_two : Linearizable (running fresh_book fresh_tickets (edited adding (Claimed 5 ∷ Granted 2 ∷ []))) → ⊥
unfolding every_run
granted_in_two right = let counted : ◌≡◌ {A = ℕ} 2 10 = right.tries_add_up.0.1 in omega arith

-- in_turn: Standing over a ticket; and Granted to a view.
stands_twice : Linearizable (running fresh_book (standing adding Claiming 0) (heard_as (Open 0 adding) (Answer.Standing 5) ∷ edited adding [])) → ⊥
unfolding every_run
stands_twice right = let counted : ◌≡◌ {A = ℕ} 1 0 = right.in_turn in omega arith

grants_a_view : Linearizable (running fresh_book fresh_tickets
    (heard_as (View 0 1 (2 ∷ [])) (Answer.Standing 1) ∷ heard_as (Step 0) (Answer.Step (Claimed 1)) ∷ heard_as (Step 0) (Answer.Step (Granted 2)) ∷ [])) → ⊥
unfolding every_run
grants_a_view right = let counted : ◌≡◌ {A = ℕ} 1 0 = right.in_turn in omega arith

-- noted_stand: one that forgets the ticket it opened; and one that keeps a ticket after its last answer.
forgets_the_ticket : Linearizable (running fresh_book fresh_tickets (edited adding [])) → ⊥
unfolding every_run
forgets_the_ticket right = false≢true (right.noted_stand 0)

keeps_the_ticket : Linearizable (running fresh_book (standing adding Claiming 0) (edited adding (Stale 0 1 ∷ []))) → ⊥
unfolding every_run
keeps_the_ticket right = true≢false (right.noted_stand 0)
