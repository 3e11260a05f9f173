-- The counts since a coming back; and without the fillings that none comes back to, an order makes the same plain book.
use mathlib.Core.Path.{◌≡◌, refl, sym, ap, ◌∙◌}
use mathlib.Core.Bool.{Bool, true, false, cond, true≢false}
use mathlib.Core.List.{List, [], ◌∷◌, ◌++◌, map}
use mathlib.Core.Option.{some}
use Prim.Native.Nat.{ℕ, ◌+◌}
use lib.Dec.{eqb}
use borrow.Author.Tests.{eq-eqb, eqb-true}
use Rattle.plain.specs.Plain.{Plain, legs_in_book}
use Rattle.plain.specs.Editing.{attempt, adds_in, strikes_in}
use Rattle.calls.specs.Order.{Event, decided, looked, seen, reserved, filled, came_back}
use Rattle.calls.specs.Linearizable.{PlainState, fresh_state, kept_or, deed_of, feed, play_from, play, granted_of, until_back, since_back, order_of, plain_after}
use Rattle.calls.specs.Returning.{CountsSinceComingBack, is_come_back_to, without_idle_fillings, FillingsHaveNoPlace}
use Rattle.calls.proofs.Orders.{since_after, until_after}
use Rattle.calls.proofs.Demand3.{append_both, demand3}

-- Two states have the same plain book, and the same on every shelf that is still come back to.
abbrev Alike : List Event → PlainState → PlainState → Type 0
Alike events one two = (one.book ≡ two.book) × ((shelf : ℕ) → is_come_back_to shelf events ≡ true → one.shelves shelf ≡ two.shelves shelf)

-- A shelf that is come back to now or later is one come back to.
back_later : (b : Bool) {later : Bool} → later ≡ true → cond b true later ≡ true
back_later true is = refl
back_later false is = is

idle_alike : (events : List Event) (one two : PlainState) → Alike events one two → (play_from one (map deed_of (without_idle_fillings events))).book ≡ (play_from two (map deed_of events)).book
unfolding play_from is_come_back_to without_idle_fillings
idle_alike [] one two same = same.0
idle_alike (decided verdict edit ∷ events) one two same =
    idle_alike events (feed one (deed_of (decided verdict edit))) (feed two (deed_of (decided verdict edit))) (ap (λ book. attempt book edit) same.0, same.1)
idle_alike (looked word value ∷ events) one two same = idle_alike events one two same
idle_alike (seen words values ∷ events) one two same = idle_alike events one two same
idle_alike (reserved team ∷ events) one two same = idle_alike events one two same
idle_alike (filled shelf ∷ events) one two same = by (is_come_back_to shelf events) refl (λ one two. idle_alike events one two)
  where
    by : (back : Bool) → is_come_back_to shelf events ≡ back
        → ((one two : PlainState) → Alike events one two → (play_from one (map deed_of (without_idle_fillings events))).book ≡ (play_from two (map deed_of events)).book)
        → (play_from one (map deed_of (cond back (filled shelf ∷ without_idle_fillings events) (without_idle_fillings events)))).book
        ≡ (play_from (feed two (deed_of (filled shelf))) (map deed_of events)).book
    by true is rest = rest (feed one (deed_of (filled shelf))) (feed two (deed_of (filled shelf)))
        (same.0, λ other later i. cond (eqb other shelf) (some (same.0 i)) (same.1 other later i))
    by false is rest = rest one (feed two (deed_of (filled shelf))) (same.0, λ other later. unkept other later (eqb other shelf) refl)
      where
        unkept : (other : ℕ) → is_come_back_to other events ≡ true → (mine : Bool) → eqb other shelf ≡ mine → one.shelves other ≡ cond mine (some two.book) (two.shelves other)
        unkept other later true here = absurd (true≢false (sym later ∙ ap (λ (s : ℕ). is_come_back_to s events) (eqb-true other shelf here) ∙ is))
        unkept other later false here = same.1 other later
idle_alike (came_back shelf ∷ events) one two same =
    idle_alike events (feed one (deed_of (came_back shelf))) (feed two (deed_of (came_back shelf)))
    ((λ i. kept_or (same.0 i) (same.1 shelf now i)), λ other later. same.1 other (back_later (eqb other shelf) later))
  where
    now : cond (eqb shelf shelf) true (is_come_back_to shelf events) ≡ true
    now = ap (λ b. cond b true (is_come_back_to shelf events)) (eq-eqb shelf shelf refl)

pub fillings_have_no_place : FillingsHaveNoPlace
fillings_have_no_place events = idle_alike events fresh_state fresh_state (refl, λ shelf later. refl)

pub counts_since_coming_back : CountsSinceComingBack
counts_since_coming_back store calls admitted before between after shelf is no_shelf_filled none_back =
    let right = demand3 store calls admitted in
    let events = order_of store calls in
    let until_then = before ++ (filled shelf ∷ between) in
    let parted : events ≡ until_then ++ (came_back shelf ∷ after) = is ∙ sym (append_both before (filled shelf ∷ between) (came_back shelf ∷ after)) in
    let since : since_back events ≡ after = ap since_back parted ∙ since_after after none_back shelf until_then in
    let until : until_back events ≡ before ++ (filled shelf ∷ (between ++ (came_back shelf ∷ []))) =
    ap until_back parted ∙ until_after after none_back shelf until_then ∙ append_both before (filled shelf ∷ between) (came_back shelf ∷ []) in
    ap (λ (later : List Event). legs_in_book (plain_after store calls) + granted_of strikes_in later) (sym since)
    ∙ right.counts_add_up
    ∙ ap (λ (kept : List Event). legs_in_book (play kept) + granted_of adds_in (since_back events)) until
    ∙ ap (λ (kept : Plain). legs_in_book kept + granted_of adds_in (since_back events)) (right.comes_back before between after shelf is no_shelf_filled)
    ∙ ap (λ (later : List Event). legs_in_book (play before) + granted_of adds_in later) since
