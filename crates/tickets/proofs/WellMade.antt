-- A fit ticket of a whole book is well made, and a step leaves a well-made ticket well made or gone.
use Prim.Native.Nat.{ℕ, suc, ◌+◌, ◌^◌, ◌≤◌, ◌<◌, suc-le-suc, zero-le}
use mathlib.Core.Path.{◌≡◌, refl, sym, ap, subst, ◌∙◌}
use mathlib.Core.List.{List, [], ◌∷◌, map}
use mathlib.Core.Bool.{Bool, true, false, cond, false≢true}
use mathlib.Core.Logic.{◌⊎◌, inl, inr}
use native.Mathlib.Omega.{arith}
use lib.Dec.{eqb, ltb}
use lib.ListN.{length}
use borrow.Author.Tests.{ltb-true, lt-ltb, eqb-true, eq-eqb}
use Rattle.words.specs.Tests.{within}
use Rattle.words.specs.Words.{words_in_book, most_targets, most_named, is_value}
use Rattle.words.proofs.Tests.{split, join}
use Rattle.tickets.specs.declared.Target.{Target}
use Rattle.tickets.specs.declared.Phase.{Phase}
use Rattle.tickets.specs.declared.Phase.TheVariants.{NoTicket, Claiming, Putting, GivingBack, Viewing, Viewed}
use Rattle.tickets.specs.Tickets.{Ticket}
use Rattle.tickets.specs.declared.StepAnswer.{StepAnswer}
use Rattle.tickets.specs.Tickets.{no_ticket, target_at, targets_in, words_in, named_in, has_ticket, is_view, most_of, target_well_made, all_well_made, counts_well_made, names_well_made, view_well_made, well_made}
use Rattle.tickets.specs.Steps.{advanced, stepped, noting, settled}
use Rattle.tickets.specs.Targets.{target_in, Claimable}
use Rattle.tickets.specs.Invariant.{FitWellMade, WellMadeKept}
use Rattle.tickets.proofs.Made.{WellMade, well_made_parts, parts_well_made, made, in_number}
use Rattle.tickets.proofs.TargetLists.{length_targets, target_listed, targets_advanced}
use Rattle.tickets.proofs.Names.{words_noting, names_noting, noted_either}
use Rattle.tickets.proofs.Keeping.{standing_fit}
use Rattle.tickets.proofs.Outcomes.{Outcome, claims_one, claims_last, waits, differs_later, differs_first, puts_one, puts_last, returns_one, returns_last, notes_one, notes_last, view_waits, view_returns_one, view_returns_last, outcome}
use Rattle.tickets.proofs.Stepping.{found_by, step_settled_lem}

-- Targets that are well made one by one are well made all.
pub each_well_made : (targets : List Target) → ((k : ℕ) → k < length targets → target_well_made (target_in targets k) ≡ true) → all_well_made targets ≡ true
unfolding all_well_made
each_well_made [] each = refl
each_well_made (target ∷ targets) each = rw (each 0 (suc-le-suc zero-le)) (each_well_made targets (λ k below. each (suc k) (suc-le-suc below)))

claimable_well_made : (targets : List Target) → Claimable words_in_book targets → all_well_made targets ≡ true
claimable_well_made targets claimable = each_well_made targets (λ k below.
    join (ltb (target_in targets k).word words_in_book ∷ is_value (target_in targets k).quoted ∷ is_value (target_in targets k).new ∷ [])
    (lt-ltb _ _ (claimable.inside k below), (lt-ltb _ (2 ^ 63) (claimable.quoted k below), (lt-ltb _ (2 ^ 63) (claimable.new k below), tt))))

pub fit_well_made : FitWellMade
fit_well_made ticket slot stands = let fit = standing_fit words_in_book ticket slot stands in parts_well_made ticket record {
  many = in_number (most_of ticket.phase) ticket.n (omega (arith, fit.claimable.some, length_targets ticket))
      (most_by (is_view ticket.phase) ticket.n fit.few (omega (arith, fit.claimable.most, length_targets ticket)));
  targets = claimable_well_made (targets_in ticket) fit.claimable;
  counts = fit.counts;
  view = only_views (is_view ticket.phase) (names_well_made (named_in ticket) (words_in ticket)) fit.names;
}
  where
    most_by : (view : Bool) (n : ℕ) → (view ≡ true → n ≤ most_named) → n ≤ most_targets → n ≤ cond view most_named most_targets
    most_by true n few most = few refl
    most_by false n few most = most

    only_views : (view test : Bool) → (view ≡ true → test ≡ true) → cond view test true ≡ true
    only_views true test holds = holds refl
    only_views false test holds = refl

-- A well-made ticket stands.
counts_stand : (phase : Phase) (n claimed done : ℕ) → counts_well_made phase n claimed done ≡ true → has_ticket phase ≡ true
counts_stand NoTicket n claimed done made = absurd (false≢true made)
counts_stand Claiming n claimed done made = refl
counts_stand Putting n claimed done made = refl
counts_stand GivingBack n claimed done made = refl
counts_stand Viewing n claimed done made = refl
counts_stand Viewed n claimed done made = refl

-- The test of a view's names, of a ticket with the same names and words.
same_view : (ticket other : Ticket) → is_view other.phase ≡ is_view ticket.phase → named_in other ≡ named_in ticket → words_in other ≡ words_in ticket → view_well_made other.phase other ≡ view_well_made ticket.phase ticket
same_view ticket other kind names words = λ i. cond (kind i) (names_well_made (names i) (words i)) true

-- A value noted leaves a ticket well made.
noted_well_made : (ticket : Ticket) (found : ℕ) → WellMade ticket → found < 2 ^ 63 → WellMade (noting ticket found)
noted_well_made ticket found parts small = record {
  many = parts.many;
  targets = each_well_made (targets_in (noting ticket found)) (λ k below.
      let inside : k < ticket.n = omega (arith, length_targets (noting ticket found)) in
      subst (λ one. target_well_made one ≡ true) (sym (target_listed (noting ticket found) k inside)) (one_fits k inside));
  counts = parts.counts;
  view = same_view ticket (noting ticket found) refl (names_noting ticket found) (words_noting ticket found) ∙ parts.view;
}
  where
    one_fits : (k : ℕ) → k < ticket.n → target_well_made (target_at (noting ticket found) k) ≡ true
    one_fits k inside =
        let fits = (made ticket (parts_well_made ticket parts)).targets k inside in
        let value = noted_either (λ (v : ℕ). v < 2 ^ 63) ticket.quoted ticket.claimed k found small fits.quoted_value in
        join (ltb (target_at (noting ticket found) k).word words_in_book ∷ is_value (target_at (noting ticket found) k).quoted ∷ is_value (target_at (noting ticket found) k).new ∷ [])
        (lt-ltb _ _ fits.inside, (lt-ltb _ (2 ^ 63) value, (lt-ltb _ (2 ^ 63) fits.new_value, tt)))

module _ (ticket : Ticket) (parts : WellMade ticket) where
  pub well_made_stands : has_ticket ticket.phase ≡ true
  well_made_stands = counts_stand ticket.phase ticket.n ticket.claimed ticket.done parts.counts

  counts_in : (phase : Phase) → ticket.phase ≡ phase → counts_well_made phase ticket.n ticket.claimed ticket.done ≡ true
  counts_in phase is = subst (λ phase. counts_well_made phase ticket.n ticket.claimed ticket.done ≡ true) is parts.counts

  -- It goes on with the same targets.
  goes_on_lem : (phase : Phase) (claimed done : ℕ) → is_view phase ≡ is_view ticket.phase → counts_well_made phase ticket.n claimed done ≡ true → well_made (advanced ticket phase claimed done) ≡ true
  goes_on_lem phase claimed done kind counts = let same = targets_advanced ticket phase claimed done in parts_well_made (advanced ticket phase claimed done) record {
    many = ap (λ view. within 1 (cond view most_named most_targets) ticket.n) kind ∙ parts.many;
    targets = ap all_well_made same ∙ parts.targets;
    counts = counts;
    view = same_view ticket (advanced ticket phase claimed done) kind (ap (map (λ target. target.new)) same) (ap (map (λ target. target.word)) same) ∙ parts.view;
  }

  gives_back : (claimed done : ℕ) → is_view ticket.phase ≡ false → done < claimed → claimed < ticket.n → well_made (advanced ticket GivingBack claimed done) ≡ true
  gives_back claimed done edit below inside = goes_on_lem GivingBack claimed done (sym edit) (join (ltb done claimed ∷ ltb claimed ticket.n ∷ []) (lt-ltb done claimed below, (lt-ltb claimed ticket.n inside, tt)))

  view_gives_back : (claimed done : ℕ) → is_view ticket.phase ≡ true → done < claimed → claimed ≡ ticket.n → well_made (advanced ticket Viewed claimed done) ≡ true
  view_gives_back claimed done view below all = goes_on_lem Viewed claimed done (sym view) (join (ltb done claimed ∷ eqb claimed ticket.n ∷ []) (lt-ltb done claimed below, (eq-eqb claimed ticket.n all, tt)))

-- What a step leaves, from its outcome.
module _ (ticket : Ticket) (parts : WellMade ticket) (found : ℕ) where
  abbrev Left : Type 0
  Left = (well_made (settled ticket found).ticket ≡ true) ⊎ ((settled ticket found).ticket ≡ no_ticket)

  on : {after : Ticket} {answer : StepAnswer} → settled ticket found ≡ stepped after answer → well_made after ≡ true → Left
  on settles stays = inl (ap (λ step. well_made step.ticket) settles ∙ stays)

  gone : {answer : StepAnswer} → settled ticket found ≡ stepped no_ticket answer → Left
  gone settles = inr (ap (λ step. step.ticket) settles)

  left_by_lem : Outcome ticket found → Left
  left_by_lem (claims_one claiming same more settles) =
      let below : ticket.claimed < ticket.n = ltb-true _ _ (counts_in ticket parts Claiming claiming) in
      on settles (goes_on_lem ticket parts Claiming (ticket.claimed + 1) ticket.done (ap is_view (sym claiming)) (lt-ltb (ticket.claimed + 1) ticket.n (omega arith)))
  left_by_lem (claims_last claiming same last settles) = on settles (goes_on_lem ticket parts Putting (ticket.claimed + 1) 0 (ap is_view (sym claiming)) (lt-ltb 0 ticket.n (omega arith)))
  left_by_lem (waits claiming differs large settles) = on settles (goes_on_lem ticket parts Claiming ticket.claimed ticket.done (ap is_view (sym claiming)) (counts_in ticket parts Claiming claiming))
  left_by_lem (differs_later claiming differs small some settles) = on settles (gives_back ticket parts ticket.claimed 0 (ap is_view claiming) (omega arith) (ltb-true _ _ (counts_in ticket parts Claiming claiming)))
  left_by_lem (differs_first claiming differs small none settles) = gone settles
  left_by_lem (puts_one putting more settles) =
      let below : ticket.done < ticket.n = ltb-true _ _ (counts_in ticket parts Putting putting) in
      on settles (goes_on_lem ticket parts Putting ticket.claimed (ticket.done + 1) (ap is_view (sym putting)) (lt-ltb (ticket.done + 1) ticket.n (omega arith)))
  left_by_lem (puts_last putting last settles) = gone settles
  left_by_lem (returns_one giving more settles) =
      let (below_test, (inside_test, u)) = split (ltb ticket.done ticket.claimed ∷ ltb ticket.claimed ticket.n ∷ []) (counts_in ticket parts GivingBack giving) in
      let below : ticket.done < ticket.claimed = ltb-true _ _ below_test in
      on settles (gives_back ticket parts ticket.claimed (ticket.done + 1) (ap is_view giving) (omega arith) (ltb-true _ _ inside_test))
  left_by_lem (returns_last giving last settles) = gone settles
  left_by_lem (notes_one viewing small more settles) =
      let below : ticket.claimed < ticket.n = ltb-true _ _ (counts_in ticket parts Viewing viewing) in
      on settles (goes_on_lem (noting ticket found) (noted_well_made ticket found parts small) Viewing (ticket.claimed + 1) ticket.done (ap is_view (sym viewing)) (lt-ltb (ticket.claimed + 1) ticket.n (omega arith)))
  left_by_lem (notes_last viewing small last settles) = on settles (view_gives_back (noting ticket found) (noted_well_made ticket found parts small) (ticket.claimed + 1) 0 (ap is_view viewing) (omega arith) last)
  left_by_lem (view_waits viewing large settles) = on settles (goes_on_lem ticket parts Viewing ticket.claimed ticket.done (ap is_view (sym viewing)) (counts_in ticket parts Viewing viewing))
  left_by_lem (view_returns_one viewed more settles) =
      let (below_test, (all_test, u)) = split (ltb ticket.done ticket.claimed ∷ eqb ticket.claimed ticket.n ∷ []) (counts_in ticket parts Viewed viewed) in
      let below : ticket.done < ticket.claimed = ltb-true _ _ below_test in
      on settles (view_gives_back ticket parts ticket.claimed (ticket.done + 1) (ap is_view viewed) (omega arith) (eqb-true _ _ all_test))
  left_by_lem (view_returns_last viewed last settles) = gone settles

pub well_made_kept : WellMadeKept
well_made_kept words ticket team made =
    let parts = well_made_parts ticket made in
    let found = found_by words ticket team in
    subst (λ step. (well_made step.ticket ≡ true) ⊎ (step.ticket ≡ no_ticket)) (sym (step_settled_lem words ticket team))
    (left_by_lem ticket parts found (outcome ticket found (well_made_stands ticket parts)))
