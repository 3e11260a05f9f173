-- A load of ranks keeps the invariant of a run; and they are accepted exactly when each of 0 to 31 occurs and no ticket stands.
use Rattle.std.specs.Prelude.{Ok}
use mathlib.Core.Path.{◌≡◌, refl, sym, ap, subst, ◌∙◌}
use mathlib.Core.Bool.{Bool, true, false, cond, true≢false}
use mathlib.Core.List.{[], ◌∷◌}
use mathlib.Core.Option.{Option, none, some}
use Prim.Native.Nat.{ℕ, zero, suc, ◌<◌}
use native.Mathlib.Omega.{arith}
use lib.Dec.{eqb}
use lib.ListN.{length}
use borrow.Author.Tests.{eq-eqb, eqb-true, not-false}
use Rattle.words.specs.Tests.{occurs}
use Rattle.words.specs.Words.{Words, words_in_book, team_count, passage_count}
use Rattle.words.proofs.Tests.{split, join}
use Rattle.legs.specs.Positions.{Ranks, all_occur_below, is_permutation, Accepted}
use Rattle.legs.proofs.Ranks.{each}
use Rattle.tickets.specs.Tickets.{Tickets, ticket_of, has_ticket, stands_below}
use Rattle.calls.specs.Outcomes.{Outcome}
use Rattle.calls.specs.Call.{book_length_wrong, ranks_wrong}
use Rattle.calls.specs.Outcomes.{number_of, ticket_stands}
use Rattle.calls.specs.Loading.{load_checks, load_refusal, loaded_by, load_of, EachOccurs, AcceptedExactly}
use Rattle.calls.specs.Run.{loading, Shared, under_ranks, heard_of, left_by}
use Rattle.calls.specs.Order.{Notes, note_ranks, hear_loaded, hear_call}
use Rattle.calls.specs.Linearizable.{PlainState}
use Rattle.calls.specs.Demand1.{TableFits}
use Rattle.calls.proofs.Refusing.{Given, first_given, none_applies}
use Rattle.calls.proofs.Tied.{Under}
use Rattle.calls.proofs.Turns.{Good}
use Rattle.calls.proofs.Shelving.{none_below, no_ticket_lem, none_noted, heard_alone}

-- A load that is not refused passes its three checks, and the number of a refusal is not 0.
load_passes : (words : Words) (tickets : Tickets) (loaded : Ranks) → load_refusal words tickets loaded ≡ none
    → (book_length_wrong words ≡ false) × (ranks_wrong loaded ≡ false) × (ticket_stands tickets ≡ false)
unfolding load_refusal load_checks
load_passes words tickets loaded is = let (one, (thirteen, (fourteen, u))) = none_applies (load_checks words tickets loaded) is in (one, thirteen, fourteen)

refused_number : (words : Words) (tickets : Tickets) (loaded : Ranks) → Given (λ number. eqb number 0 ≡ false) (load_refusal words tickets loaded)
unfolding load_refusal load_checks
refused_number words tickets loaded = first_given (λ number. eqb number 0 ≡ false) (load_checks words tickets loaded) (refl, (refl, (refl, tt)))

module _ {start : PlainState} (shared : Shared) (n : Notes) (table : TableFits shared.tickets) (good : Good start shared n) (loaded : Ranks) where
  -- What a load leaves and what is heard of it, by its refusal.
  abbrev LoadedWell : Option ℕ → Type 0
  LoadedWell refusal =
      let result = loaded_by refusal shared.ranks loaded in
      Good start (under_ranks shared result.1) (cond (eqb (number_of result.0) 0) (hear_loaded n loaded) n)

  -- Accepted, it finds no ticket noted, so that none was opened under other ranks.
  loads : ranks_wrong loaded ≡ false → ticket_stands shared.tickets ≡ false → LoadedWell none
  loads right none_stands = subst (Good start (under_ranks shared loaded)) (sym (heard_alone shared n good empty (note_ranks n loaded))) record {
    whole = good.whole;
    agree = good.agree;
    tied = good.tied;
    ranked = not-false _ right;
    heard_ranks = refl;
    under = λ team. subst (Under loaded) (sym (none_noted shared n good empty team)) tt;
    ordered = good.ordered;
    shelved = record { flags = good.shelved.flags; tied = good.shelved.tied; heard = good.shelved.heard };
    places = good.places;
    ends = good.ends;
    tries = good.tries;
    in_turn = good.in_turn;
  }
    where
      empty : (team : ℕ) → has_ticket (ticket_of shared.tickets team).phase ≡ false
      empty = no_ticket_lem shared.tickets table.teams none_stands

  -- Refused, it changes nothing.
  load_by_lem : (refusal : Option ℕ) → load_refusal shared.book shared.tickets loaded ≡ refusal → Given (λ number. eqb number 0 ≡ false) refusal → LoadedWell refusal
  load_by_lem none is number = let (whole, right, none_stands) = load_passes shared.book shared.tickets loaded is in loads right none_stands
  load_by_lem (some refusal) is number = rw number good

  pub loading_kept : Good start (left_by shared (loading loaded)) (hear_call n (loading loaded) (heard_of shared (loading loaded)))
  unfolding load_of
  loading_kept = load_by_lem (load_refusal shared.book shared.tickets loaded) refl (refused_number shared.book shared.tickets loaded)

-- Ranks are accepted exactly where each of 0 to 31 occurs and there are 32.
accepted_occur : (ranks : Ranks) → Accepted ranks → EachOccurs ranks
unfolding is_permutation
accepted_occur ranks accepted =
    let (many, (all, u)) = split (eqb (length ranks) passage_count ∷ all_occur_below passage_count ranks ∷ []) accepted in
    (eqb-true _ _ many, each passage_count ranks all)

all_below : (n : ℕ) (ranks : Ranks) → ((number : ℕ) → number < n → occurs number ranks ≡ true) → all_occur_below n ranks ≡ true
all_below zero ranks there = refl
all_below (suc n) ranks there = rw (there n (omega arith)) (all_below n ranks (λ number below. there number (omega arith)))

occur_accepted : (ranks : Ranks) → EachOccurs ranks → Accepted ranks
unfolding is_permutation
occur_accepted ranks (many, there) =
    join (eqb (length ranks) passage_count ∷ all_occur_below passage_count ranks ∷ []) (eq-eqb _ _ many, (all_below passage_count ranks there, tt))

-- Where no slot has a ticket, none stands.
none_stand : (n : ℕ) (tickets : Tickets) → ((team : ℕ) → team < n → has_ticket (ticket_of tickets team).phase ≡ false) → stands_below n tickets ≡ false
unfolding stands_below
none_stand zero tickets empty = refl
none_stand (suc n) tickets empty =
    ap (λ (b : Bool). cond b true (stands_below n tickets)) (empty n (omega arith)) ∙ none_stand n tickets (λ team below. empty team (omega arith))

module _ (words : Words) (tickets : Tickets) (ranks loaded : Ranks) where
  abbrev Passes : Type 0
  Passes = (length words ≡ words_in_book) × EachOccurs loaded × ((team : ℕ) → team < team_count → has_ticket (ticket_of tickets team).phase ≡ false)

  done_passes : (refusal : Option ℕ) → load_refusal words tickets loaded ≡ refusal → (loaded_by refusal ranks loaded).0 ≡ Ok tt → Passes
  done_passes none is e =
      let (whole, right, none_stands) = load_passes words tickets loaded is in
      (eqb-true _ _ (not-false _ whole), accepted_occur loaded (not-false _ right), none_below team_count tickets none_stands)
  done_passes (some number) is e = absurd (true≢false cc)

  passes_done : Passes → load_refusal words tickets loaded ≡ none
  unfolding load_refusal load_checks
  passes_done (whole, each, empty) = rw (eq-eqb _ _ whole, occur_accepted loaded each, none_stand team_count tickets empty) refl

pub accepted_exactly : AcceptedExactly
unfolding load_of
accepted_exactly words tickets ranks loaded =
    (done_passes words tickets ranks loaded (load_refusal words tickets loaded) refl, λ passes. ap (λ (refusal : Option ℕ). (loaded_by refusal ranks loaded).0) (passes_done words tickets ranks loaded passes))

-- So a load of accepted ranks over a whole book without tickets leaves them in force.
pub load_goes : (words : Words) (tickets : Tickets) (ranks loaded : Ranks) → length words ≡ words_in_book → Accepted loaded → ((team : ℕ) → team < team_count → has_ticket (ticket_of tickets team).phase ≡ false)
    → (load_of words tickets ranks loaded).1 ≡ loaded
unfolding load_of
load_goes words tickets ranks loaded whole accepted empty =
    ap (λ (refusal : Option ℕ). (loaded_by refusal ranks loaded).1) (passes_done words tickets ranks loaded (whole, accepted_occur loaded accepted, empty))
