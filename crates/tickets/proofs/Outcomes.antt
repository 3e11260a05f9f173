-- A standing ticket's step ends in one of fourteen ways: the tests of `settled`, as facts.
use Prim.Native.Nat.{ℕ, ◌+◌, ◌^◌, ◌≤◌, ◌<◌}
use mathlib.Core.Path.{◌≡◌, refl, ◌∙◌}
use mathlib.Core.Bool.{Bool, true, false, false≢true}
use mathlib.Core.Logic.{◌≢◌}
use lib.Dec.{eqb}
use borrow.Author.Tests.{eqb-true, eqb-false, leb-true, leb-false}
use Rattle.words.specs.Words.{is_held, holder_of}
use Rattle.tickets.specs.declared.Phase.{Phase}
use Rattle.tickets.specs.declared.Phase.TheVariants.{NoTicket, Claiming, Putting, GivingBack, Viewing, Viewed}
use Rattle.tickets.specs.Tickets.{Ticket}
use Rattle.tickets.specs.declared.StepAnswer.TheVariants.{Claimed, Waiting, Found, Put, Returned, Granted, Stale, Seen}
use Rattle.tickets.specs.Tickets.{no_ticket, target_at, has_ticket}
use Rattle.tickets.specs.Steps.{one_more_try, advanced, stepped, noting, values_seen, settled}
use Rattle.tickets.proofs.Settled.{settled_in_lem}

pub data Outcome (ticket : Ticket) (found : ℕ) : Type 0 where
  claims_one : ticket.phase ≡ Claiming
      → found ≡ (target_at ticket ticket.claimed).quoted
      → ticket.claimed + 1 ≢ ticket.n
      → settled ticket found ≡ stepped (advanced ticket Claiming (ticket.claimed + 1) ticket.done) (Claimed (ticket.claimed + 1))
      → Outcome ticket found
  claims_last : ticket.phase ≡ Claiming
      → found ≡ (target_at ticket ticket.claimed).quoted
      → ticket.claimed + 1 ≡ ticket.n
      → settled ticket found ≡ stepped (advanced ticket Putting (ticket.claimed + 1) 0) (Claimed (ticket.claimed + 1))
      → Outcome ticket found
  waits : ticket.phase ≡ Claiming
      → found ≢ (target_at ticket ticket.claimed).quoted
      → 2 ^ 63 ≤ found
      → settled ticket found ≡ stepped (advanced ticket Claiming ticket.claimed ticket.done) (Waiting (target_at ticket ticket.claimed).word (holder_of found))
      → Outcome ticket found
  differs_later : ticket.phase ≡ Claiming
      → found ≢ (target_at ticket ticket.claimed).quoted
      → found < 2 ^ 63
      → ticket.claimed ≢ 0
      → settled ticket found ≡ stepped (advanced ticket GivingBack ticket.claimed 0) (Found (target_at ticket ticket.claimed).word)
      → Outcome ticket found
  differs_first : ticket.phase ≡ Claiming
      → found ≢ (target_at ticket ticket.claimed).quoted
      → found < 2 ^ 63
      → ticket.claimed ≡ 0
      → settled ticket found ≡ stepped no_ticket (Stale (target_at ticket ticket.claimed).word (one_more_try ticket.tries))
      → Outcome ticket found
  puts_one : ticket.phase ≡ Putting
      → ticket.done + 1 ≢ ticket.n
      → settled ticket found ≡ stepped (advanced ticket Putting ticket.claimed (ticket.done + 1)) (Put (ticket.done + 1))
      → Outcome ticket found
  puts_last : ticket.phase ≡ Putting
      → ticket.done + 1 ≡ ticket.n
      → settled ticket found ≡ stepped no_ticket (Granted (one_more_try ticket.tries))
      → Outcome ticket found
  returns_one : ticket.phase ≡ GivingBack
      → ticket.done + 1 ≢ ticket.claimed
      → settled ticket found ≡ stepped (advanced ticket GivingBack ticket.claimed (ticket.done + 1)) (Returned (ticket.done + 1))
      → Outcome ticket found
  returns_last : ticket.phase ≡ GivingBack
      → ticket.done + 1 ≡ ticket.claimed
      → settled ticket found ≡ stepped no_ticket (Stale (target_at ticket ticket.claimed).word (one_more_try ticket.tries))
      → Outcome ticket found
  notes_one : ticket.phase ≡ Viewing
      → found < 2 ^ 63
      → ticket.claimed + 1 ≢ ticket.n
      → settled ticket found ≡ stepped (advanced (noting ticket found) Viewing (ticket.claimed + 1) ticket.done) (Claimed (ticket.claimed + 1))
      → Outcome ticket found
  notes_last : ticket.phase ≡ Viewing
      → found < 2 ^ 63
      → ticket.claimed + 1 ≡ ticket.n
      → settled ticket found ≡ stepped (advanced (noting ticket found) Viewed (ticket.claimed + 1) 0) (Claimed (ticket.claimed + 1))
      → Outcome ticket found
  view_waits : ticket.phase ≡ Viewing
      → 2 ^ 63 ≤ found
      → settled ticket found ≡ stepped (advanced ticket Viewing ticket.claimed ticket.done) (Waiting (target_at ticket ticket.claimed).word (holder_of found))
      → Outcome ticket found
  view_returns_one : ticket.phase ≡ Viewed
      → ticket.done + 1 ≢ ticket.claimed
      → settled ticket found ≡ stepped (advanced ticket Viewed ticket.claimed (ticket.done + 1)) (Returned (ticket.done + 1))
      → Outcome ticket found
  view_returns_last : ticket.phase ≡ Viewed
      → ticket.done + 1 ≡ ticket.claimed
      → settled ticket found ≡ stepped no_ticket (Seen (values_seen ticket))
      → Outcome ticket found

module _ (ticket : Ticket) (found : ℕ) where
  claiming_outcome : ticket.phase ≡ Claiming → (as_quoted last held none : Bool)
      → eqb found (target_at ticket ticket.claimed).quoted ≡ as_quoted
      → eqb (ticket.claimed + 1) ticket.n ≡ last
      → is_held found ≡ held
      → eqb ticket.claimed 0 ≡ none
      → Outcome ticket found
  claiming_outcome is true true held none q l h z = claims_last is (eqb-true _ _ q) (eqb-true _ _ l) (settled_in_lem ticket found Claiming is ∙ rw (q, l))
  claiming_outcome is true false held none q l h z = claims_one is (eqb-true _ _ q) (eqb-false _ _ l) (settled_in_lem ticket found Claiming is ∙ rw (q, l))
  claiming_outcome is false last true none q l h z = waits is (eqb-false _ _ q) (leb-true (2 ^ 63) found h) (settled_in_lem ticket found Claiming is ∙ rw (q, h))
  claiming_outcome is false last false true q l h z = differs_first is (eqb-false _ _ q) (leb-false (2 ^ 63) found h) (eqb-true _ _ z) (settled_in_lem ticket found Claiming is ∙ rw (q, h, z))
  claiming_outcome is false last false false q l h z = differs_later is (eqb-false _ _ q) (leb-false (2 ^ 63) found h) (eqb-false _ _ z) (settled_in_lem ticket found Claiming is ∙ rw (q, h, z))

  putting_outcome : ticket.phase ≡ Putting → (last : Bool) → eqb (ticket.done + 1) ticket.n ≡ last → Outcome ticket found
  putting_outcome is true l = puts_last is (eqb-true _ _ l) (settled_in_lem ticket found Putting is ∙ rw l)
  putting_outcome is false l = puts_one is (eqb-false _ _ l) (settled_in_lem ticket found Putting is ∙ rw l)

  giving_outcome : ticket.phase ≡ GivingBack → (last : Bool) → eqb (ticket.done + 1) ticket.claimed ≡ last → Outcome ticket found
  giving_outcome is true l = returns_last is (eqb-true _ _ l) (settled_in_lem ticket found GivingBack is ∙ rw l)
  giving_outcome is false l = returns_one is (eqb-false _ _ l) (settled_in_lem ticket found GivingBack is ∙ rw l)

  viewing_outcome : ticket.phase ≡ Viewing → (held last : Bool)
      → is_held found ≡ held
      → eqb (ticket.claimed + 1) ticket.n ≡ last
      → Outcome ticket found
  viewing_outcome is true last h l = view_waits is (leb-true (2 ^ 63) found h) (settled_in_lem ticket found Viewing is ∙ rw h)
  viewing_outcome is false true h l = notes_last is (leb-false (2 ^ 63) found h) (eqb-true _ _ l) (settled_in_lem ticket found Viewing is ∙ rw (h, l))
  viewing_outcome is false false h l = notes_one is (leb-false (2 ^ 63) found h) (eqb-false _ _ l) (settled_in_lem ticket found Viewing is ∙ rw (h, l))

  viewed_outcome : ticket.phase ≡ Viewed → (last : Bool) → eqb (ticket.done + 1) ticket.claimed ≡ last → Outcome ticket found
  viewed_outcome is true l = view_returns_last is (eqb-true _ _ l) (settled_in_lem ticket found Viewed is ∙ rw l)
  viewed_outcome is false l = view_returns_one is (eqb-false _ _ l) (settled_in_lem ticket found Viewed is ∙ rw l)

  outcome_in : (phase : Phase) → ticket.phase ≡ phase → has_ticket phase ≡ true → Outcome ticket found
  outcome_in NoTicket is stands = absurd (false≢true stands)
  outcome_in Claiming is stands = claiming_outcome is _ _ _ _ refl refl refl refl
  outcome_in Putting is stands = putting_outcome is _ refl
  outcome_in GivingBack is stands = giving_outcome is _ refl
  outcome_in Viewing is stands = viewing_outcome is _ _ refl refl
  outcome_in Viewed is stands = viewed_outcome is _ refl

  pub outcome : has_ticket ticket.phase ≡ true → Outcome ticket found
  outcome stands = outcome_in ticket.phase refl stands
