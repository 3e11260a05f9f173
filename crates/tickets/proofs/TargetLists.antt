-- A ticket's targets as a list are its targets one by one, and a step leaves them as they are.
use Prim.Native.Nat.{ℕ, zero, suc, ◌+◌, ◌-◌, ◌^◌, ◌≤◌, ◌<◌}
use mathlib.Core.Path.{◌≡◌, refl, sym, ap, subst, ◌∙◌}
use mathlib.Core.List.{List, [], ◌∷◌}
use native.Mathlib.Omega.{arith}
use native.Mathlib.Nat.{le_of_suc-le-suc, not-suc-le-zero}
use lib.ListN.{length}
use lib.Seq.{ext_get_or}
use Rattle.words.specs.Words.{most_targets}
use Rattle.tickets.specs.declared.Target.{Target}
use Rattle.tickets.specs.declared.Phase.{Phase}
use Rattle.tickets.specs.Tickets.{Ticket}
use Rattle.tickets.specs.Tickets.{target, target_at, targets_from, targets_in}
use Rattle.tickets.specs.Steps.{advanced}
use Rattle.tickets.specs.Targets.{target_in, Claimable, AllMatch, PutInto}

length_from : (first many : ℕ) (ticket : Ticket) → length (targets_from first many ticket) ≡ many
length_from first zero ticket = refl
length_from first (suc many) ticket = ap suc (length_from (first + 1) many ticket)

in_from : (first many k : ℕ) (ticket : Ticket) → k < many → target_in (targets_from first many ticket) k ≡ target_at ticket (first + k)
in_from first zero k ticket below = absurd (not-suc-le-zero below)
in_from first (suc many) zero ticket below = ap (target_at ticket) (omega arith)
in_from first (suc many) (suc k) ticket below = in_from (first + 1) many k ticket (le_of_suc-le-suc below) ∙ ap (target_at ticket) (omega arith)

-- The targets from k on, with the next of them in front; or none left.
pub all_targets : (ticket : Ticket) → targets_in ticket ≡ targets_from 0 (ticket.n - 0) ticket
all_targets ticket =
    let whole : ticket.n ≡ ticket.n - 0 = omega arith in
    ap (λ (m : ℕ). targets_from 0 m ticket) whole

pub next_target : (ticket : Ticket) (n k : ℕ) → k < n → targets_from k (n - k) ticket ≡ target_at ticket k ∷ targets_from (k + 1) (n - (k + 1)) ticket
next_target ticket n k inside =
    let one_more : n - k ≡ suc (n - (k + 1)) = omega arith in
    ap (λ (m : ℕ). targets_from k m ticket) one_more

pub no_target_left : (ticket : Ticket) (n k : ℕ) → n ≤ k → targets_from k (n - k) ticket ≡ []
no_target_left ticket n k none =
    let zero_left : n - k ≡ 0 = omega arith in
    ap (λ (m : ℕ). targets_from k m ticket) zero_left

pub length_targets : (ticket : Ticket) → length (targets_in ticket) ≡ ticket.n
length_targets ticket = length_from 0 ticket.n ticket

pub target_listed : (ticket : Ticket) (k : ℕ) → k < ticket.n → target_in (targets_in ticket) k ≡ target_at ticket k
target_listed ticket k below = in_from 0 ticket.n k ticket below ∙ ap (target_at ticket) (omega arith)

-- A ticket that keeps each target of a list has that list of targets.
pub targets_listed : (targets : List Target) (ticket : Ticket) → ticket.n ≡ length targets → ((k : ℕ) → k < length targets → target_at ticket k ≡ target_in targets k) → targets_in ticket ≡ targets
targets_listed targets ticket many each =
    ext_get_or (target 0 0 0) (targets_in ticket) targets (length_targets ticket ∙ many)
    (λ k below. let inside : k < ticket.n = omega (arith, length_targets ticket) in target_listed ticket k inside ∙ each k (omega arith))

-- A step leaves the targets.
pub targets_advanced : (ticket : Ticket) (phase : Phase) (claimed done : ℕ) → targets_in (advanced ticket phase claimed done) ≡ targets_in ticket
targets_advanced ticket phase claimed done =
    targets_listed (targets_in ticket) (advanced ticket phase claimed done) (sym (length_targets ticket))
    (λ k below. sym (target_listed ticket k (omega (arith, length_targets ticket))))

-- What is asked of a ticket's targets, target by target.
pub record ClaimableAt (size : ℕ) (ticket : Ticket) : Type 0 where
  pub some : 0 < ticket.n
  pub most : ticket.n ≤ most_targets
  pub inside : (k : ℕ) → k < ticket.n → (target_at ticket k).word < size
  pub quoted : (k : ℕ) → k < ticket.n → (target_at ticket k).quoted < 2 ^ 63
  pub new : (k : ℕ) → k < ticket.n → (target_at ticket k).new < 2 ^ 63
  pub once : (j k : ℕ) → j < ticket.n → k < ticket.n → (target_at ticket j).word ≡ (target_at ticket k).word → j ≡ k

pub claimable_at : (size : ℕ) (ticket : Ticket) → Claimable size (targets_in ticket) → ClaimableAt size ticket
claimable_at size ticket claimable = record {
  some = omega (arith, claimable.some, length_targets ticket);
  most = omega (arith, claimable.most, length_targets ticket);
  inside = λ k below. subst (λ one. one.word < size) (target_listed ticket k below) (claimable.inside k (listed k below));
  quoted = λ k below. subst (λ one. one.quoted < 2 ^ 63) (target_listed ticket k below) (claimable.quoted k (listed k below));
  new = λ k below. subst (λ one. one.new < 2 ^ 63) (target_listed ticket k below) (claimable.new k (listed k below));
  once = λ j k below also same. claimable.once j k (listed j below) (listed k also) (ap (λ one. one.word) (target_listed ticket j below) ∙ same ∙ sym (ap (λ one. one.word) (target_listed ticket k also)));
}
  where
    listed : (k : ℕ) → k < ticket.n → k < length (targets_in ticket)
    listed k below = omega (arith, length_targets ticket)

-- That all quoted values are the plain words, target by target, both ways.
pub match_at : (ticket : Ticket) (plain : ℕ → ℕ) → AllMatch (targets_in ticket) plain → (k : ℕ) → k < ticket.n → plain (target_at ticket k).word ≡ (target_at ticket k).quoted
match_at ticket plain all k below = subst (λ one. plain one.word ≡ one.quoted) (target_listed ticket k below) (all k (omega (arith, length_targets ticket)))

pub at_match : (ticket : Ticket) (plain : ℕ → ℕ) → ((k : ℕ) → k < ticket.n → plain (target_at ticket k).word ≡ (target_at ticket k).quoted) → AllMatch (targets_in ticket) plain
at_match ticket plain each k below =
    let inside : k < ticket.n = omega (arith, length_targets ticket) in
    subst (λ one. plain one.word ≡ one.quoted) (sym (target_listed ticket k inside)) (each k inside)

-- That exactly the new values are put in, target by target.
pub put_at : (ticket : Ticket) (before after : ℕ → ℕ) → PutInto (targets_in ticket) before after → (k : ℕ) → k < ticket.n → after (target_at ticket k).word ≡ (target_at ticket k).new
put_at ticket before after put k below = subst (λ one. after one.word ≡ one.new) (target_listed ticket k below) (put.there k (omega (arith, length_targets ticket)))
