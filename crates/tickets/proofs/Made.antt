-- What a well-made ticket says of its counts and targets, as facts on numbers; and the test of its targets, one after the other.
use Prim.Native.Nat.{ℕ, zero, suc, ◌+◌, ◌-◌, ◌^◌, ◌≤◌, ◌<◌}
use mathlib.Core.Path.{◌≡◌, refl, ap, subst, ◌∙◌}
use mathlib.Core.List.{List, [], ◌∷◌}
use mathlib.Core.Bool.{Bool, true, false, cond, false≢true}
use native.Mathlib.Omega.{arith}
use native.Mathlib.Nat.{le_trans}
use native.Mathlib.Decide.{ℕ_discrete}
use borrow.Author.Tests.{le-leb, lt-leb, leb-true, ltb-true, eqb-true}
use lib.Dec.{eqb, leb, ltb}
use Rattle.words.specs.Tests.{within}
use Rattle.words.specs.Words.{words_in_book, most_targets, most_named, is_value}
use Rattle.words.proofs.Tests.{split, join, next_test, failed_test, last_test}
use Rattle.tickets.specs.declared.Target.{Target}
use Rattle.tickets.specs.declared.Phase.{Phase}
use Rattle.tickets.specs.declared.Phase.TheVariants.{NoTicket, Claiming, Putting, GivingBack, Viewing, Viewed}
use Rattle.tickets.specs.Tickets.{Ticket}
use Rattle.tickets.specs.Tickets.{target_at, targets_from, targets_in, is_view, most_of, target_well_made, all_well_made, counts_well_made, view_well_made, well_made}
use Rattle.tickets.proofs.TargetLists.{next_target, no_target_left}

-- The targets' test, from target k on.
pub peel : (ticket : Ticket) (n k : ℕ) → k < n → all_well_made (targets_from k (n - k) ticket) ≡ cond (target_well_made (target_at ticket k)) (all_well_made (targets_from (k + 1) (n - (k + 1)) ticket)) false
unfolding all_well_made
peel ticket n k l = ap all_well_made (next_target ticket n k l)

pub none_left : (ticket : Ticket) (n k : ℕ) → n ≤ k → all_well_made (targets_from k (n - k) ticket) ≡ true
unfolding all_well_made
none_left ticket n k l = ap all_well_made (no_target_left ticket n k l)

-- The whole test, by its parts.
pub too_few_lem : (ticket : Ticket) → ticket.n < 1 → well_made ticket ≡ false
unfolding well_made
too_few_lem ticket l = failed_test _ _ (failed_test _ _ (lt-leb 1 ticket.n l))

pub too_many_lem : (ticket : Ticket) → 1 ≤ ticket.n → most_of ticket.phase < ticket.n → well_made ticket ≡ false
unfolding well_made
too_many_lem ticket least l = failed_test _ _ (next_test _ _ (le-leb 1 ticket.n least) ∙ failed_test _ _ (lt-leb ticket.n (most_of ticket.phase) l))

pub in_number : (most n : ℕ) → 1 ≤ n → n ≤ most → within 1 most n ≡ true
in_number most n least below = join (leb 1 n ∷ leb n most ∷ []) (le-leb 1 n least, (le-leb n most below, tt))

-- No ticket has more targets than there is room for.
pub most_of_lem : (phase : Phase) → most_of phase ≤ most_targets
most_of_lem phase = by (is_view phase)
  where
    by : (view : Bool) → cond view most_named most_targets ≤ most_targets
    by true = omega arith
    by false = omega arith

pub bad_target : (ticket : Ticket) → 1 ≤ ticket.n → ticket.n ≤ most_of ticket.phase → all_well_made (targets_in ticket) ≡ false → well_made ticket ≡ false
unfolding well_made
bad_target ticket least most bad = next_test _ _ (in_number (most_of ticket.phase) ticket.n least most) ∙ failed_test _ _ bad

pub bad_counts : (ticket : Ticket) → 1 ≤ ticket.n → ticket.n ≤ most_of ticket.phase → all_well_made (targets_in ticket) ≡ true → counts_well_made ticket.phase ticket.n ticket.claimed ticket.done ≡ false → well_made ticket ≡ false
unfolding well_made
bad_counts ticket least most good bad = next_test _ _ (in_number (most_of ticket.phase) ticket.n least most) ∙ next_test _ _ good ∙ failed_test _ _ bad

pub by_view : (ticket : Ticket) → 1 ≤ ticket.n → ticket.n ≤ most_of ticket.phase → all_well_made (targets_in ticket) ≡ true → counts_well_made ticket.phase ticket.n ticket.claimed ticket.done ≡ true → well_made ticket ≡ view_well_made ticket.phase ticket
unfolding well_made
by_view ticket least most good counts = next_test _ _ (in_number (most_of ticket.phase) ticket.n least most) ∙ next_test _ _ good ∙ next_test _ _ counts ∙ last_test _

-- What makes a ticket well made.
pub record WellMade (ticket : Ticket) : Type 0 where
  pub many : within 1 (most_of ticket.phase) ticket.n ≡ true
  pub targets : all_well_made (targets_in ticket) ≡ true
  pub counts : counts_well_made ticket.phase ticket.n ticket.claimed ticket.done ≡ true
  pub view : view_well_made ticket.phase ticket ≡ true

-- The four tests of a ticket.
abbrev tests_of : Ticket → List Bool
tests_of ticket =
    within 1 (most_of ticket.phase) ticket.n
    ∷ all_well_made (targets_in ticket)
    ∷ counts_well_made ticket.phase ticket.n ticket.claimed ticket.done
    ∷ view_well_made ticket.phase ticket
    ∷ []

pub well_made_parts : (ticket : Ticket) → well_made ticket ≡ true → WellMade ticket
unfolding well_made
well_made_parts ticket made =
    let (many, (targets, (counts, (view, u)))) = split (tests_of ticket) made in
    record { many = many; targets = targets; counts = counts; view = view }

pub parts_well_made : (ticket : Ticket) → WellMade ticket → well_made ticket ≡ true
unfolding well_made
parts_well_made ticket made = join (tests_of ticket) (made.many, (made.targets, (made.counts, (made.view, tt))))

-- Its targets and counts, as facts.
pub record TargetFits (target : Target) : Type 0 where
  pub inside : target.word < words_in_book
  pub quoted_value : target.quoted < 2 ^ 63
  pub new_value : target.new < 2 ^ 63

pub target_fits : (target : Target) → target_well_made target ≡ true → TargetFits target
target_fits target h =
    let (i, (q, (n, u))) = split (ltb target.word words_in_book ∷ is_value target.quoted ∷ is_value target.new ∷ []) h in
    record { inside = ltb-true _ _ i; quoted_value = ltb-true _ _ q; new_value = ltb-true _ _ n }

both : (a b : Bool) → cond a b false ≡ true → (a ≡ true) × (b ≡ true)
both true b e = (refl, e)
both false b e = absurd (false≢true e)

each_target : (ticket : Ticket) (from more : ℕ) → all_well_made (targets_from from more ticket) ≡ true → (k : ℕ) → from ≤ k → k < from + more → target_well_made (target_at ticket k) ≡ true
unfolding all_well_made
each_target ticket from zero h k least most = absurd (no_room from k least most)
  where
    no_room : (from k : ℕ) → from ≤ k → k < from + 0 → ⊥
    no_room from k least most = omega arith
each_target ticket from (suc more) h k least most =
    let (here, later) = both (target_well_made (target_at ticket from)) (all_well_made (targets_from (from + 1) more ticket)) h in
    elim (ℕ_discrete k from) [
      | yes e ↦ ap (λ (j : ℕ). target_well_made (target_at ticket j)) e ∙ here
      | no n ↦ each_target ticket (from + 1) more later k (omega arith) (omega arith)
    ]

pub record Made (ticket : Ticket) : Type 0 where
  pub least : 1 ≤ ticket.n
  pub most : ticket.n ≤ most_targets
  pub targets : (k : ℕ) → k < ticket.n → TargetFits (target_at ticket k)
  pub counts : counts_well_made ticket.phase ticket.n ticket.claimed ticket.done ≡ true

pub made : (ticket : Ticket) → well_made ticket ≡ true → Made ticket
made ticket h =
    let parts = well_made_parts ticket h in
    let (least, (most, u)) = split (leb 1 ticket.n ∷ leb ticket.n (most_of ticket.phase) ∷ []) parts.many in
    record {
      least = leb-true _ _ least;
      most = le_trans (leb-true _ _ most) (most_of_lem ticket.phase);
      targets = λ k l. target_fits (target_at ticket k) (each_target ticket 0 ticket.n parts.targets k (omega arith) (omega arith));
      counts = parts.counts;
    }

-- What the counts of a phase say.
abbrev pub CountsFit : Phase → ℕ → ℕ → ℕ → Type 0
CountsFit NoTicket n claimed done = ⊥
CountsFit Claiming n claimed done = claimed < n
CountsFit Putting n claimed done = done < n
CountsFit GivingBack n claimed done = (done < claimed) × (claimed < n)
CountsFit Viewing n claimed done = claimed < n
CountsFit Viewed n claimed done = (done < claimed) × (claimed ≡ n)

pub counts_fit : (phase : Phase) (n claimed done : ℕ) → counts_well_made phase n claimed done ≡ true → CountsFit phase n claimed done
counts_fit NoTicket n claimed done h = false≢true h
counts_fit Claiming n claimed done h = ltb-true _ _ h
counts_fit Putting n claimed done h = ltb-true _ _ h
counts_fit GivingBack n claimed done h =
    let (d, (c, u)) = split (ltb done claimed ∷ ltb claimed n ∷ []) h in
    (ltb-true _ _ d, ltb-true _ _ c)
counts_fit Viewing n claimed done h = ltb-true _ _ h
counts_fit Viewed n claimed done h =
    let (d, (c, u)) = split (ltb done claimed ∷ eqb claimed n ∷ []) h in
    (ltb-true _ _ d, eqb-true _ _ c)

-- A well-made ticket in a known phase.
pub counts_in : (ticket : Ticket) (phase : Phase) → ticket.phase ≡ phase → well_made ticket ≡ true → CountsFit phase ticket.n ticket.claimed ticket.done
counts_in ticket phase e h = subst (λ p. CountsFit p ticket.n ticket.claimed ticket.done) e (counts_fit ticket.phase ticket.n ticket.claimed ticket.done (made ticket h).counts)
