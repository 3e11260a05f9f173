-- An order of events that is right on the plain book, event by event; and what one more event makes of it.
use mathlib.Core.Path.{◌≡◌, refl, sym, ap, subst, ◌∙◌}
use mathlib.Core.Bool.{true, false, cond}
use mathlib.Core.List.{List, [], ◌∷◌, ◌++◌, map}
use mathlib.Core.Logic.{◌≢◌}
use mathlib.Core.Option.{Option, none, some}
use lib.ListN.{length, set}
use Prim.Native.Nat.{ℕ, ◌+◌}
use native.Mathlib.Omega.{arith}
use Rattle.words.proofs.Tests.{is_false}
use Rattle.tickets.specs.declared.Target.{Target}
use Rattle.tickets.specs.Targets.{target_in}
use Rattle.edits.specs.declared.Edit.{Edit}
use Rattle.edits.specs.Edits.{listed_targets}
use Rattle.edits.specs.Ranges.{edit_allowed, edit_stations_in_range}
use Rattle.legs.specs.Positions.{Ranks}
use Rattle.edits.specs.Opened.{stored_targets}
use Rattle.edits.proofs.Stored.{some_listed_stored, some_stored_listed}
use Rattle.plain.specs.Plain.{Plain, word_of, legs_in_book, Sound}
use Rattle.plain.specs.Editing.{succeeds, perform, attempt, adds_in, strikes_in}
use Rattle.plain.specs.Laws.{SameTargets, EditLawFor}
use Rattle.plain.proofs.EditLaws.{edits_keep_rules, counts_add_up}
use Rattle.plain.proofs.AnyOrder.{law_in_any_order}
use Rattle.calls.specs.Order.{granted, stale, Event, decided, looked, seen, reserved, filled, came_back, finished, was_filled}
use Rattle.calls.specs.Linearizable.{PlainState, kept_or, deed_of, play_from, plain_from, verdict_of, granted_in, granted_of, is_back, until_back, since_back}
use Rattle.calls.proofs.Orders.{play_last, granted_last, RightAt, RightFrom, right_last, play_finished, granted_finished, right_finished, PlaceAt, place_grows, place_new, play_filled, right_filled, places_filled, IsKept, since_last, until_last, since_now, until_now, since_finished, until_finished, since_filled, until_filled, is_filling, shelves_last, filled_last, shelves_filled}

-- The plain book and its shelves after an order.
abbrev pub played : PlainState → List Event → PlainState
played start order = play_from start (map deed_of order)

-- The counts are those of the last coming back, or of a fresh book, with what was granted since.
abbrev pub Counted : PlainState → List Event → Type 0
Counted start order = legs_in_book (plain_from start order) + granted_of strikes_in (since_back order) ≡ legs_in_book (plain_from start (until_back order)) + granted_of adds_in (since_back order)

pub record Ordered (start : PlainState) (order : List Event) : Type 0 where
  pub sound : Sound (plain_from start order)
  pub right : RightFrom start order
  pub counts : Counted start order

-- An edit whose ticket was opened: refusals 10 and 11 do not apply, and its stations are station numbers.
pub record Fine (edit : Edit) : Type 0 where
  pub allowed : edit_allowed edit ≡ true
  pub stations : edit_stations_in_range edit ≡ true

-- The targets listed and the targets stored are the same.
same_targets : (ranks : Ranks) (edit : Edit) → SameTargets (listed_targets edit) (stored_targets ranks edit)
same_targets ranks edit = record {
  forth = λ k below. some_listed_stored ranks (λ (one : Target). one ≡ target_in (listed_targets edit) k) edit (k, below, refl);
  back = λ k below. some_stored_listed ranks (λ (one : Target). one ≡ target_in (stored_targets ranks edit) k) edit (k, below, refl);
}

-- A view's place, if it has one, is reserved in the order, and the plain book there is the one of its last claim.
abbrev pub PlaceKept : PlainState → ℕ → List Event → Option (List Event) → Type 0
PlaceKept start team order none = Unit {0}
PlaceKept start team order (some before) = PlaceAt team start order (length before) (plain_from start before)

-- An order goes on to another by what one team does: it is right, the other teams' places stay, and this is the team's own place now.
pub record GoesOn (start : PlainState) (team : ℕ) (before after : List Event) (place : Option (List Event)) : Type 0 where
  pub ordered : Ordered start after
  pub others : (other : ℕ) → other ≢ team → (k : ℕ) (there : Plain) → PlaceAt other start before k there → PlaceAt other start after k there
  pub own : PlaceKept start team after place
  pub kept : (shelf : ℕ) → (played start after).shelves shelf ≡ (played start before).shelves shelf
  pub fillings : (shelf : ℕ) → was_filled shelf after ≡ was_filled shelf before

-- It stays,
pub order_stays : {start : PlainState} {team : ℕ} {order : List Event} {place : Option (List Event)} → Ordered start order → PlaceKept start team order place → GoesOn start team order order place
order_stays ordered own = record { ordered = ordered; others = λ other differs k there stands. stands; own = own; kept = λ shelf. refl; fillings = λ shelf. refl }

-- or it grows; a place stays,
pub place_stays : (start : PlainState) (team : ℕ) (order : List Event) (event : Event) (place : Option (List Event)) → PlaceKept start team order place → PlaceKept start team (order ++ (event ∷ [])) place
place_stays start team order event none own = tt
place_stays start team order event (some before) own = place_grows team start order (length before) (plain_from start before) event own

pub order_grows : {start : PlainState} {team : ℕ} (order : List Event) (event : Event) → is_filling event ≡ false → {place : Option (List Event)} → Ordered start (order ++ (event ∷ [])) → PlaceKept start team (order ++ (event ∷ [])) place
    → GoesOn start team order (order ++ (event ∷ [])) place
order_grows {start} order event quiet ordered own = record {
  ordered = ordered;
  others = λ other differs k there stands. place_grows other start order k there event stands;
  own = own;
  kept = shelves_last start order event quiet;
  fillings = λ shelf. filled_last shelf order event quiet;
}

module _ {start : PlainState} (order : List Event) (so_far : Ordered start order) where
  -- Without the places only reserved.
  pub finished_ordered : Ordered start (finished order)
  finished_ordered = record {
    sound = subst Sound (sym (ap (λ state. state.book) (play_finished start order))) so_far.sound;
    right = right_finished start order so_far.right;
    counts =
        let until = ap (λ l. legs_in_book (plain_from start l)) (until_finished order) ∙ ap (λ state. legs_in_book state.book) (play_finished start (until_back order)) in
        let strikes = ap (granted_of strikes_in) (since_finished order) ∙ granted_finished strikes_in (since_back order) in
        let adds = ap (granted_of adds_in) (since_finished order) ∙ granted_finished adds_in (since_back order) in
        omega (arith, so_far.counts, ap (λ state. legs_in_book state.book) (play_finished start order), until, strikes, adds);
  }

  -- One more event that leaves the plain book and counts for nothing,
  event_ordered : (event : Event) → is_back event ≡ false → plain_from start (order ++ (event ∷ [])) ≡ plain_from start order → granted_in adds_in event ≡ 0 → granted_in strikes_in event ≡ 0 → RightAt event (played start order)
      → Ordered start (order ++ (event ∷ []))
  event_ordered event no_back stays no_adds no_strikes right = record {
    sound = subst Sound (sym stays) so_far.sound;
    right = right_last start order event so_far.right right;
    counts =
        let strikes = ap (granted_of strikes_in) (since_last event no_back order) ∙ granted_last strikes_in (since_back order) event in
        let adds = ap (granted_of adds_in) (since_last event no_back order) ∙ granted_last adds_in (since_back order) event in
        omega (arith, so_far.counts, ap legs_in_book stays, ap (λ l. legs_in_book (plain_from start l)) (until_last event no_back order), strikes, adds);
  }

  -- A shelf filled: the plain book stays,
  pub play_filling : (shelf : ℕ) → plain_from start (order ++ (filled shelf ∷ [])) ≡ plain_from start order
  play_filling shelf = ap (λ state. state.book) (play_last start order (filled shelf))

  pub filling_ordered : (shelf : ℕ) → Ordered start (order ++ (filled shelf ∷ []))
  filling_ordered shelf = event_ordered (filled shelf) refl (play_filling shelf) refl refl tt

  -- or come back to: it is what the shelf kept.
  module _ (shelf : ℕ) (kept : Plain) (is : (played start order).shelves shelf ≡ some kept) where
    pub play_back : plain_from start (order ++ (came_back shelf ∷ [])) ≡ kept
    play_back = ap (λ state. state.book) (play_last start order (came_back shelf)) ∙ ap (kept_or (plain_from start order)) is

    pub back_ordered : Sound kept → Ordered start (order ++ (came_back shelf ∷ []))
    unfolding granted_of
    back_ordered sound = record {
      sound = subst Sound (sym play_back) sound;
      right = right_last start order (came_back shelf) so_far.right (subst IsKept (sym is) tt);
      counts =
          let since = since_now (came_back shelf) refl order in
          omega (arith, ap (granted_of strikes_in) since, ap (granted_of adds_in) since, ap (λ l. legs_in_book (plain_from start l)) (until_now (came_back shelf) refl order));
    }

  -- as a look,
  pub play_look : (word value : ℕ) → plain_from start (order ++ (looked word value ∷ [])) ≡ plain_from start order
  play_look word value = ap (λ state. state.book) (play_last start order (looked word value))

  pub look_ordered : (word value : ℕ) → value ≡ word_of (plain_from start order) word → Ordered start (order ++ (looked word value ∷ []))
  look_ordered word value agrees = event_ordered (looked word value) refl (play_look word value) refl refl agrees

  -- and a place reserved.
  pub play_reserved : (team : ℕ) → plain_from start (order ++ (reserved team ∷ [])) ≡ plain_from start order
  play_reserved team = ap (λ state. state.book) (play_last start order (reserved team))

  pub order_reserved : (team : ℕ) → GoesOn start team order (order ++ (reserved team ∷ [])) (some order)
  order_reserved team = order_grows order (reserved team) refl (event_ordered (reserved team) refl (play_reserved team) refl refl tt) (place_new team start order)

  -- A place filled: it is the team's no more.
  module _ (team k : ℕ) (words values : List ℕ) (there : Plain) (place : PlaceAt team start order k there) where
    pub play_full : plain_from start (set order k (seen words values)) ≡ plain_from start order
    play_full = ap (λ state. state.book) (play_filled team words values start order k there place)

    pub order_filled : values ≡ map (word_of there) words → GoesOn start team order (set order k (seen words values)) none
    order_filled right = record {
      ordered = record {
        sound = subst Sound (sym play_full) so_far.sound;
        right = right_filled team words values start order k there place right so_far.right;
        counts = omega (
          arith,
          so_far.counts,
          ap legs_in_book play_full,
          ap (λ state. legs_in_book state.book) (until_filled team words values start order k there place),
          since_filled team words values strikes_in start order k there place,
          since_filled team words values adds_in start order k there place,
        );
      };
      others = λ other differs j here stands. places_filled team words values other differs start order k j there here place stands;
      own = tt;
      kept = λ shelf. ap (λ state. state.shelves shelf) (play_filled team words values start order k there place);
      fillings = λ shelf. shelves_filled team words values shelf start order k there place;
    }

  module _ (edit : Edit) (fine : Fine edit) where
    -- The law of the edit at its turn, for its targets as stored under any ranks.
    pub stored_law : (ranks : Ranks) → EditLawFor (stored_targets ranks edit) (plain_from start order) edit
    stored_law ranks = law_in_any_order (plain_from start order) so_far.sound edit fine.allowed fine.stations (stored_targets ranks edit) (same_targets ranks edit)

    -- An edit that succeeds,
    module _ (succeeded : succeeds (plain_from start order) edit ≡ true) where
      pub play_granted : plain_from start (order ++ (decided granted edit ∷ [])) ≡ perform (plain_from start order) edit
      unfolding attempt
      play_granted = ap (λ state. state.book) (play_last start order (decided granted edit)) ∙ ap (λ found. cond found (perform (plain_from start order) edit) (plain_from start order)) succeeded

      pub verdict_granted : granted ≡ verdict_of (plain_from start order) edit
      verdict_granted = sym (ap (λ found. cond found granted stale) succeeded)

      pub granted_ordered : Ordered start (order ++ (decided granted edit ∷ []))
      granted_ordered = record {
        sound = subst Sound (sym play_granted) (edits_keep_rules (plain_from start order) so_far.sound edit fine.allowed fine.stations succeeded);
        right = right_last start order (decided granted edit) so_far.right verdict_granted;
        counts = omega (
          arith,
          so_far.counts,
          ap legs_in_book play_granted,
          ap (λ l. legs_in_book (plain_from start l)) (until_last (decided granted edit) refl order),
          counts_add_up (plain_from start order) so_far.sound edit fine.allowed fine.stations succeeded,
          ap (granted_of strikes_in) (since_last (decided granted edit) refl order) ∙ granted_last strikes_in (since_back order) (decided granted edit),
          ap (granted_of adds_in) (since_last (decided granted edit) refl order) ∙ granted_last adds_in (since_back order) (decided granted edit),
        );
      }

    -- and one that does not.
    module _ (failed : succeeds (plain_from start order) edit ≡ true → ⊥) where
      pub play_stale : plain_from start (order ++ (decided stale edit ∷ [])) ≡ plain_from start order
      unfolding attempt
      play_stale = ap (λ state. state.book) (play_last start order (decided stale edit)) ∙ ap (λ found. cond found (perform (plain_from start order) edit) (plain_from start order)) (is_false _ failed)

      pub verdict_stale : stale ≡ verdict_of (plain_from start order) edit
      verdict_stale = sym (ap (λ found. cond found granted stale) (is_false _ failed))

      pub stale_ordered : Ordered start (order ++ (decided stale edit ∷ []))
      stale_ordered = event_ordered (decided stale edit) refl play_stale refl refl verdict_stale
