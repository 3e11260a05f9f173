-- Orders of events that grow at their end, and whose reserved places are filled: the plain book they make, their counts, and that every event is right at its turn.
use mathlib.Core.Path.{◌≡◌, refl, sym, ap, subst, ◌∙◌}
use mathlib.Core.List.{List, [], ◌∷◌, ◌++◌, map}
use mathlib.Core.Logic.{◌≢◌}
use mathlib.Core.Bool.{Bool, true, false, cond, false≢true}
use mathlib.Core.Option.{Option, none, some}
use Prim.Native.Nat.{ℕ, zero, suc, ◌+◌}
use native.Mathlib.Omega.{arith}
use lib.Dec.{eqb}
use lib.ListN.{length, set}
use Rattle.words.specs.Tests.{Every}
use Rattle.edits.specs.declared.Edit.{Edit}
use Rattle.plain.specs.Plain.{Plain, word_of}
use Rattle.calls.specs.Order.{Event, decided, looked, seen, reserved, filled, came_back, finished, was_filled}
use Rattle.calls.specs.Linearizable.{PlainState, deed_of, feed, play_from, verdict_of, granted_in, granted_of, is_back, has_back, until_back, since_back}

-- The plain book after an order and one more event.
pub play_last : (plain : PlainState) (events : List Event) (event : Event)
    → play_from plain (map deed_of (events ++ (event ∷ []))) ≡ feed (play_from plain (map deed_of events)) (deed_of event)
unfolding play_from
play_last plain [] event = refl
play_last plain (first ∷ events) event = play_last (feed plain (deed_of first)) events event

-- A count over the granted edits, likewise.
pub granted_last : (count : Edit → ℕ) (events : List Event) (event : Event) → granted_of count (events ++ (event ∷ [])) ≡ granted_of count events + granted_in count event
unfolding granted_of
granted_last count [] event = omega arith
granted_last count (first ∷ events) event = omega (arith, granted_last count events event)

-- What holds of every item of a list and of one more.
pub every_last : {A : Type 0} (P : A → Type 0) (items : List A) (item : A) → Every P items → P item → Every P (items ++ (item ∷ []))
every_last P [] item each one = (one, tt)
every_last P (first ∷ items) item each one = (each.0, every_last P items item each.1 one)

-- What is claimed of an event on the plain book before it: the verdict is what the plain book finds, a value is its word. Of a place only reserved, nothing.
abbrev pub IsKept : Option Plain → Type 0
IsKept none = ⊥
IsKept (some kept) = Unit {0}

abbrev pub RightAt : Event → PlainState → Type 0
RightAt (decided verdict edit) plain = verdict ≡ verdict_of plain.book edit
RightAt (looked word value) plain = value ≡ word_of plain.book word
RightAt (seen words values) plain = values ≡ map (word_of plain.book) words
RightAt (reserved team) plain = Unit {0}
RightAt (filled shelf) plain = Unit {0}
RightAt (came_back shelf) plain = IsKept (plain.shelves shelf)

-- Every event of an order is right at its turn.
abbrev pub RightFrom : PlainState → List Event → Type 0
RightFrom plain [] = Unit {0}
RightFrom plain (event ∷ events) = RightAt event plain × RightFrom (feed plain (deed_of event)) events

pub right_last : (plain : PlainState) (events : List Event) (event : Event)
    → RightFrom plain events → RightAt event (play_from plain (map deed_of events)) → RightFrom plain (events ++ (event ∷ []))
unfolding play_from
right_last plain [] event each one = (one, tt)
right_last plain (first ∷ events) event each one = (each.0, right_last (feed plain (deed_of first)) events event each.1 one)

pub right_at : (plain : PlainState) (before after : List Event) (event : Event)
    → RightFrom plain (before ++ (event ∷ after)) → RightAt event (play_from plain (map deed_of before))
unfolding play_from
right_at plain [] after event each = each.0
right_at plain (first ∷ before) after event each = right_at (feed plain (deed_of first)) before after event each.1

-- Without the places only reserved: the same plain book, the same counts, and every event right.
pub play_finished : (plain : PlainState) (events : List Event) → play_from plain (map deed_of (finished events)) ≡ play_from plain (map deed_of events)
unfolding play_from finished
play_finished plain [] = refl
play_finished plain (decided verdict edit ∷ events) = play_finished (feed plain (deed_of (decided verdict edit))) events
play_finished plain (looked word value ∷ events) = play_finished plain events
play_finished plain (seen words values ∷ events) = play_finished plain events
play_finished plain (reserved team ∷ events) = play_finished plain events
play_finished plain (filled shelf ∷ events) = play_finished (feed plain (deed_of (filled shelf))) events
play_finished plain (came_back shelf ∷ events) = play_finished (feed plain (deed_of (came_back shelf))) events

pub granted_finished : (count : Edit → ℕ) (events : List Event) → granted_of count (finished events) ≡ granted_of count events
unfolding granted_of finished
granted_finished count [] = refl
granted_finished count (decided verdict edit ∷ events) = ap (λ (more : ℕ). granted_in count (decided verdict edit) + more) (granted_finished count events)
granted_finished count (looked word value ∷ events) = ap (λ (more : ℕ). 0 + more) (granted_finished count events)
granted_finished count (seen words values ∷ events) = ap (λ (more : ℕ). 0 + more) (granted_finished count events)
granted_finished count (reserved team ∷ events) = omega (arith, granted_finished count events)
granted_finished count (filled shelf ∷ events) = ap (λ (more : ℕ). 0 + more) (granted_finished count events)
granted_finished count (came_back shelf ∷ events) = ap (λ (more : ℕ). 0 + more) (granted_finished count events)

pub right_finished : (plain : PlainState) (events : List Event) → RightFrom plain events → RightFrom plain (finished events)
unfolding finished
right_finished plain [] each = tt
right_finished plain (decided verdict edit ∷ events) each = (each.0, right_finished (feed plain (deed_of (decided verdict edit))) events each.1)
right_finished plain (looked word value ∷ events) each = (each.0, right_finished plain events each.1)
right_finished plain (seen words values ∷ events) each = (each.0, right_finished plain events each.1)
right_finished plain (reserved team ∷ events) each = right_finished plain events each.1
right_finished plain (filled shelf ∷ events) each = (each.0, right_finished (feed plain (deed_of (filled shelf))) events each.1)
right_finished plain (came_back shelf ∷ events) each = (each.0, right_finished (feed plain (deed_of (came_back shelf))) events each.1)

-- One of two, by a test.
same_either : {A : Type 0} (b : Bool) {x y u v : A} → x ≡ u → y ≡ v → cond b x y ≡ cond b u v
same_either true first second = first
same_either false first second = second

out_of : {A B : Type 0} (f : A → B) (b : Bool) (x y : A) → cond b (f x) (f y) ≡ f (cond b x y)
out_of f true x y = refl
out_of f false x y = refl

-- A coming back among some events and one more; and the order up to the last one, and since.
module _ (event : Event) (other : is_back event ≡ false) where
  pub back_last : (events : List Event) → has_back (events ++ (event ∷ [])) ≡ has_back events
  unfolding has_back
  back_last [] = ap (λ b. cond b true false) other
  back_last (first ∷ events) = ap (λ b. cond (is_back first) true b) (back_last events)

  pub since_last : (events : List Event) → since_back (events ++ (event ∷ [])) ≡ since_back events ++ (event ∷ [])
  unfolding since_back has_back
  since_last [] = ap (λ b. cond (cond b true false) [] (event ∷ [])) other
  since_last (first ∷ events) =
      let b = has_back (first ∷ events) in
      ap (λ b. cond b (since_back (events ++ (event ∷ []))) (first ∷ (events ++ (event ∷ [])))) (back_last (first ∷ events))
      ∙ same_either b (since_last events) refl
      ∙ out_of (λ l. l ++ (event ∷ [])) b (since_back events) (first ∷ events)

  pub until_last : (events : List Event) → until_back (events ++ (event ∷ [])) ≡ until_back events
  unfolding until_back has_back
  until_last [] = ap (λ b. cond (cond b true false) (event ∷ []) []) other
  until_last (first ∷ events) =
      ap (λ b. cond b (first ∷ until_back (events ++ (event ∷ []))) []) (back_last (first ∷ events))
      ∙ ap (λ later. cond (has_back (first ∷ events)) (first ∷ later) []) (until_last events)

module _ (event : Event) (back : is_back event ≡ true) where
  pub back_now : (events : List Event) → has_back (events ++ (event ∷ [])) ≡ true
  unfolding has_back
  back_now [] = ap (λ b. cond b true false) back
  back_now (first ∷ events) = ap (λ b. cond (is_back first) true b) (back_now events) ∙ out_of (λ b. true) (is_back first) true true

  pub since_now : (events : List Event) → since_back (events ++ (event ∷ [])) ≡ []
  unfolding since_back has_back
  since_now [] = ap (λ b. cond (cond b true false) [] (event ∷ [])) back
  since_now (first ∷ events) = ap (λ b. cond b (since_back (events ++ (event ∷ []))) (first ∷ (events ++ (event ∷ [])))) (back_now (first ∷ events)) ∙ since_now events

  pub until_now : (events : List Event) → until_back (events ++ (event ∷ [])) ≡ events ++ (event ∷ [])
  unfolding until_back has_back
  until_now [] = ap (λ b. cond (cond b true false) (event ∷ []) []) back
  until_now (first ∷ events) = ap (λ b. cond b (first ∷ until_back (events ++ (event ∷ []))) []) (back_now (first ∷ events)) ∙ ap (λ later. first ∷ later) (until_now events)

-- Where none is among them, all came since.
pub since_all : (events : List Event) → has_back events ≡ false → since_back events ≡ events
unfolding since_back
since_all [] none_back = refl
since_all (event ∷ events) none_back = ap (λ b. cond b (since_back events) (event ∷ events)) none_back

pub until_none : (events : List Event) → has_back events ≡ false → until_back events ≡ []
unfolding until_back
until_none [] none_back = refl
until_none (event ∷ events) none_back = ap (λ b. cond b (event ∷ until_back events) []) none_back

-- Behind the last coming back all came since.
back_there : (events after : List Event) (shelf : ℕ) → has_back (events ++ (came_back shelf ∷ after)) ≡ true
unfolding has_back
back_there [] after shelf = refl
back_there (first ∷ events) after shelf = ap (λ b. cond (is_back first) true b) (back_there events after shelf) ∙ out_of (λ b. true) (is_back first) true true

module _ (after : List Event) (none_back : has_back after ≡ false) (shelf : ℕ) where
  pub since_after : (events : List Event) → since_back (events ++ (came_back shelf ∷ after)) ≡ after
  unfolding since_back has_back
  since_after [] = since_all after none_back
  since_after (first ∷ events) =
      let later = events ++ (came_back shelf ∷ after) in
      ap (λ b. cond b (since_back later) (first ∷ later)) (back_there (first ∷ events) after shelf) ∙ since_after events

  pub until_after : (events : List Event) → until_back (events ++ (came_back shelf ∷ after)) ≡ events ++ (came_back shelf ∷ [])
  unfolding until_back has_back
  until_after [] = ap (λ later. came_back shelf ∷ later) (until_none after none_back)
  until_after (first ∷ events) =
      ap (λ b. cond b (first ∷ until_back (events ++ (came_back shelf ∷ after))) []) (back_there (first ∷ events) after shelf) ∙ ap (λ later. first ∷ later) (until_after events)

-- Without the places only reserved, likewise.
back_finished : (events : List Event) → has_back (finished events) ≡ has_back events
unfolding has_back finished
back_finished [] = refl
back_finished (decided verdict edit ∷ events) = back_finished events
back_finished (looked word value ∷ events) = back_finished events
back_finished (seen words values ∷ events) = back_finished events
back_finished (reserved team ∷ events) = back_finished events
back_finished (filled shelf ∷ events) = back_finished events
back_finished (came_back shelf ∷ events) = refl

since_kept : (event : Event) (events : List Event) → is_back event ≡ false → finished (event ∷ events) ≡ event ∷ finished events → since_back (finished events) ≡ finished (since_back events)
    → since_back (finished (event ∷ events)) ≡ finished (since_back (event ∷ events))
unfolding since_back has_back
since_kept event events other stays before =
    let b = has_back (event ∷ events) in
    ap since_back stays
    ∙ ap (λ later. cond (cond (is_back event) true later) (since_back (finished events)) (event ∷ finished events)) (back_finished events)
    ∙ same_either b before (sym stays)
    ∙ out_of finished b (since_back events) (event ∷ events)

pub since_finished : (events : List Event) → since_back (finished events) ≡ finished (since_back events)
unfolding since_back finished has_back
since_finished [] = refl
since_finished (decided verdict edit ∷ events) = since_kept (decided verdict edit) events refl refl (since_finished events)
since_finished (looked word value ∷ events) = since_kept (looked word value) events refl refl (since_finished events)
since_finished (seen words values ∷ events) = since_kept (seen words values) events refl refl (since_finished events)
since_finished (reserved team ∷ events) = since_finished events ∙ by (has_back events) refl
  where
    by : (b : Bool) → has_back events ≡ b → finished (since_back events) ≡ finished (cond b (since_back events) (reserved team ∷ events))
    by true is = refl
    by false is = ap finished (since_all events is)
since_finished (filled shelf ∷ events) = since_kept (filled shelf) events refl refl (since_finished events)
since_finished (came_back shelf ∷ events) = since_finished events

until_kept : (event : Event) (events : List Event) → finished (event ∷ events) ≡ event ∷ finished events → until_back (finished events) ≡ finished (until_back events)
    → ((later : List Event) → finished (event ∷ later) ≡ event ∷ finished later)
    → until_back (finished (event ∷ events)) ≡ finished (until_back (event ∷ events))
unfolding until_back has_back finished
until_kept event events stays before always =
    let b = has_back (event ∷ events) in
    ap until_back stays
    ∙ ap (λ later. cond (cond (is_back event) true later) (event ∷ until_back (finished events)) []) (back_finished events)
    ∙ same_either b (ap (λ later. event ∷ later) before ∙ sym (always (until_back events))) refl
    ∙ out_of finished b (event ∷ until_back events) []

pub until_finished : (events : List Event) → until_back (finished events) ≡ finished (until_back events)
unfolding until_back finished has_back
until_finished [] = refl
until_finished (decided verdict edit ∷ events) = until_kept (decided verdict edit) events refl (until_finished events) (λ later. refl)
until_finished (looked word value ∷ events) = until_kept (looked word value) events refl (until_finished events) (λ later. refl)
until_finished (seen words values ∷ events) = until_kept (seen words values) events refl (until_finished events) (λ later. refl)
until_finished (reserved team ∷ events) = until_finished events ∙ by (has_back events) refl
  where
    by : (b : Bool) → has_back events ≡ b → finished (until_back events) ≡ finished (cond b (reserved team ∷ until_back events) [])
    by true is = refl
    by false is = ap finished (until_none events is)
until_finished (filled shelf ∷ events) = until_kept (filled shelf) events refl (until_finished events) (λ later. refl)
until_finished (came_back shelf ∷ events) = ap (λ later. came_back shelf ∷ later) (until_finished events)

-- Which shelves were filled among some events, likewise, and with one more event.
pub filled_finished : (shelf : ℕ) (events : List Event) → was_filled shelf (finished events) ≡ was_filled shelf events
unfolding was_filled finished
filled_finished shelf [] = refl
filled_finished shelf (decided verdict edit ∷ events) = filled_finished shelf events
filled_finished shelf (looked word value ∷ events) = filled_finished shelf events
filled_finished shelf (seen words values ∷ events) = filled_finished shelf events
filled_finished shelf (reserved team ∷ events) = filled_finished shelf events
filled_finished shelf (filled other ∷ events) = ap (λ b. cond (eqb shelf other) true b) (filled_finished shelf events)
filled_finished shelf (came_back other ∷ events) = filled_finished shelf events

-- One more event that is no filling leaves what the shelves keep, and which were filled.
abbrev pub is_filling : Event → Bool
is_filling (decided verdict edit) = false
is_filling (looked word value) = false
is_filling (seen words values) = false
is_filling (reserved team) = false
is_filling (filled shelf) = true
is_filling (came_back shelf) = false

quiet_feed : (event : Event) → is_filling event ≡ false → (plain : PlainState) (shelf : ℕ) → (feed plain (deed_of event)).shelves shelf ≡ plain.shelves shelf
quiet_feed (decided verdict edit) quiet plain shelf = refl
quiet_feed (looked word value) quiet plain shelf = refl
quiet_feed (seen words values) quiet plain shelf = refl
quiet_feed (reserved team) quiet plain shelf = refl
quiet_feed (filled other) quiet plain shelf = absurd (false≢true (sym quiet))
quiet_feed (came_back other) quiet plain shelf = refl

pub shelves_last : (plain : PlainState) (events : List Event) (event : Event) → is_filling event ≡ false → (shelf : ℕ)
    → (play_from plain (map deed_of (events ++ (event ∷ [])))).shelves shelf ≡ (play_from plain (map deed_of events)).shelves shelf
shelves_last plain events event quiet shelf = ap (λ state. state.shelves shelf) (play_last plain events event) ∙ quiet_feed event quiet (play_from plain (map deed_of events)) shelf

filled_one : (shelf : ℕ) (event : Event) → is_filling event ≡ false → (events : List Event) → was_filled shelf (event ∷ events) ≡ was_filled shelf events
unfolding was_filled
filled_one shelf (decided verdict edit) quiet events = refl
filled_one shelf (looked word value) quiet events = refl
filled_one shelf (seen words values) quiet events = refl
filled_one shelf (reserved team) quiet events = refl
filled_one shelf (filled other) quiet events = absurd (false≢true (sym quiet))
filled_one shelf (came_back other) quiet events = refl

-- One more event: whether a shelf was filled is asked of it last.
pub filled_more : (shelf : ℕ) (events : List Event) (event : Event) → was_filled shelf (events ++ (event ∷ [])) ≡ cond (was_filled shelf events) true (was_filled shelf (event ∷ []))
unfolding was_filled
filled_more shelf [] event = refl
filled_more shelf (decided verdict edit ∷ events) event = filled_more shelf events event
filled_more shelf (looked word value ∷ events) event = filled_more shelf events event
filled_more shelf (seen words values ∷ events) event = filled_more shelf events event
filled_more shelf (reserved team ∷ events) event = filled_more shelf events event
filled_more shelf (filled other ∷ events) event = ap (λ b. cond (eqb shelf other) true b) (filled_more shelf events event) ∙ nested (eqb shelf other) (was_filled shelf events)
  where
    nested : (first second : Bool) → cond first true (cond second true (was_filled shelf (event ∷ []))) ≡ cond (cond first true second) true (was_filled shelf (event ∷ []))
    nested true second = refl
    nested false second = refl
filled_more shelf (came_back other ∷ events) event = filled_more shelf events event

pub filled_last : (shelf : ℕ) (events : List Event) (event : Event) → is_filling event ≡ false → was_filled shelf (events ++ (event ∷ [])) ≡ was_filled shelf events
unfolding was_filled
filled_last shelf events event quiet = filled_more shelf events event ∙ ap (λ b. cond (was_filled shelf events) true b) (filled_one shelf event quiet []) ∙ itself (was_filled shelf events)
  where
    itself : (b : Bool) → cond b true false ≡ b
    itself true = refl
    itself false = refl

-- Orders one after another.
pub play_both : (plain : PlainState) (before after : List Event) → play_from plain (map deed_of (before ++ after)) ≡ play_from (play_from plain (map deed_of before)) (map deed_of after)
unfolding play_from
play_both plain [] after = refl
play_both plain (event ∷ before) after = play_both (feed plain (deed_of event)) before after

-- Where a shelf is not filled, what it keeps stays.
pub unfilled : (plain : PlainState) (events : List Event) (shelf : ℕ) → was_filled shelf events ≡ false → (play_from plain (map deed_of events)).shelves shelf ≡ plain.shelves shelf
unfolding play_from was_filled
unfilled plain [] shelf no_shelf_filled = refl
unfilled plain (decided verdict edit ∷ events) shelf no_shelf_filled = unfilled (feed plain (deed_of (decided verdict edit))) events shelf no_shelf_filled
unfilled plain (looked word value ∷ events) shelf no_shelf_filled = unfilled plain events shelf no_shelf_filled
unfilled plain (seen words values ∷ events) shelf no_shelf_filled = unfilled plain events shelf no_shelf_filled
unfilled plain (reserved team ∷ events) shelf no_shelf_filled = unfilled plain events shelf no_shelf_filled
unfilled plain (filled other ∷ events) shelf no_shelf_filled =
    unfilled (feed plain (deed_of (filled other))) events shelf (later (eqb shelf other) no_shelf_filled) ∙ ap (λ b. cond b (some plain.book) (plain.shelves shelf)) (first (eqb shelf other) refl no_shelf_filled)
  where
    later : (b : Bool) → cond b true (was_filled shelf events) ≡ false → was_filled shelf events ≡ false
    later true e = absurd (false≢true (sym e))
    later false e = e

    first : (b : Bool) → eqb shelf other ≡ b → cond b true (was_filled shelf events) ≡ false → eqb shelf other ≡ false
    first true is e = absurd (false≢true (sym e))
    first false is e = is
unfilled plain (came_back other ∷ events) shelf no_shelf_filled = unfilled (feed plain (deed_of (came_back other))) events shelf no_shelf_filled

-- A team has reserved the place after so many events of an order, and the plain book there is this one.
abbrev pub PlaceAt : ℕ → PlainState → List Event → ℕ → Plain → Type 0
PlaceAt team plain [] k there = ⊥
PlaceAt team plain (event ∷ events) zero there = (event ≡ reserved team) × (plain.book ≡ there)
PlaceAt team plain (event ∷ events) (suc k) there = PlaceAt team (feed plain (deed_of event)) events k there

-- It stays when the order grows; and a place is reserved at the order's end.
pub place_grows : (team : ℕ) (plain : PlainState) (events : List Event) (k : ℕ) (there : Plain) (event : Event)
    → PlaceAt team plain events k there → PlaceAt team plain (events ++ (event ∷ [])) k there
place_grows team plain [] k there event place = absurd place
place_grows team plain (first ∷ events) zero there event place = place
place_grows team plain (first ∷ events) (suc k) there event place = place_grows team (feed plain (deed_of first)) events k there event place

pub place_new : (team : ℕ) (plain : PlainState) (events : List Event) → PlaceAt team plain (events ++ (reserved team ∷ [])) (length events) (play_from plain (map deed_of events)).book
unfolding play_from
place_new team plain [] = (refl, refl)
place_new team plain (first ∷ events) = place_new team (feed plain (deed_of first)) events

-- No place is two teams'.
abbrev team_at : Event → ℕ
team_at (decided verdict edit) = 0
team_at (looked word value) = 0
team_at (seen words values) = 0
team_at (reserved team) = team
team_at (filled shelf) = 0
team_at (came_back shelf) = 0

-- A place reserved is filled by what a view saw: the plain book and the counts stay, the event is right if the values are, and the other teams' places stay.
module _ (team : ℕ) (words values : List ℕ) where
  pub play_filled : (plain : PlainState) (events : List Event) (k : ℕ) (there : Plain) → PlaceAt team plain events k there
      → play_from plain (map deed_of (set events k (seen words values))) ≡ play_from plain (map deed_of events)
  unfolding play_from
  play_filled plain [] k there place = refl
  play_filled plain (event ∷ events) zero there place = ap (λ event. play_from (feed plain (deed_of event)) (map deed_of events)) (sym place.0)
  play_filled plain (event ∷ events) (suc k) there place = play_filled (feed plain (deed_of event)) events k there place

  pub granted_filled : (count : Edit → ℕ) (plain : PlainState) (events : List Event) (k : ℕ) (there : Plain) → PlaceAt team plain events k there
      → granted_of count (set events k (seen words values)) ≡ granted_of count events
  unfolding granted_of
  granted_filled count plain [] k there place = refl
  granted_filled count plain (event ∷ events) zero there place = ap (λ event. granted_in count event + granted_of count events) (sym place.0)
  granted_filled count plain (event ∷ events) (suc k) there place =
      ap (λ (more : ℕ). granted_in count event + more) (granted_filled count (feed plain (deed_of event)) events k there place)

  pub right_filled : (plain : PlainState) (events : List Event) (k : ℕ) (there : Plain) → PlaceAt team plain events k there
      → values ≡ map (word_of there) words → RightFrom plain events → RightFrom plain (set events k (seen words values))
  right_filled plain [] k there place right each = absurd place
  right_filled plain (event ∷ events) zero there place right each =
      (right ∙ ap (λ plain. map (word_of plain) words) (sym place.1), subst (λ event. RightFrom (feed plain (deed_of event)) events) place.0 each.1)
  right_filled plain (event ∷ events) (suc k) there place right each =
      (each.0, right_filled (feed plain (deed_of event)) events k there place right each.1)

  pub places_filled : (other : ℕ) → other ≢ team → (plain : PlainState) (events : List Event) (k j : ℕ) (there here : Plain)
      → PlaceAt team plain events k there → PlaceAt other plain events j here → PlaceAt other plain (set events k (seen words values)) j here
  places_filled other differs plain [] k j there here place stands = absurd stands
  places_filled other differs plain (event ∷ events) zero zero there here place stands = absurd (differs (ap team_at (sym stands.0 ∙ place.0)))
  places_filled other differs plain (event ∷ events) zero (suc j) there here place stands =
      subst (λ event. PlaceAt other (feed plain (deed_of event)) events j here) place.0 stands
  places_filled other differs plain (event ∷ events) (suc k) zero there here place stands = stands
  places_filled other differs plain (event ∷ events) (suc k) (suc j) there here place stands =
      places_filled other differs (feed plain (deed_of event)) events k j there here place stands

  back_filled : (plain : PlainState) (events : List Event) (k : ℕ) (there : Plain) → PlaceAt team plain events k there → has_back (set events k (seen words values)) ≡ has_back events
  unfolding has_back
  back_filled plain [] k there place = refl
  back_filled plain (event ∷ events) zero there place = ap (λ event. cond (is_back event) true (has_back events)) (sym place.0)
  back_filled plain (event ∷ events) (suc k) there place = ap (λ b. cond (is_back event) true b) (back_filled (feed plain (deed_of event)) events k there place)

  pub since_filled : (count : Edit → ℕ) (plain : PlainState) (events : List Event) (k : ℕ) (there : Plain) → PlaceAt team plain events k there
      → granted_of count (since_back (set events k (seen words values))) ≡ granted_of count (since_back events)
  unfolding since_back has_back granted_of
  since_filled count plain [] k there place = refl
  since_filled count plain (event ∷ events) zero there place =
      sym (out_of (granted_of count) (has_back events) (since_back events) (seen words values ∷ events))
      ∙ out_of (granted_of count) (has_back events) (since_back events) (reserved team ∷ events)
      ∙ ap (λ event. granted_of count (cond (cond (is_back event) true (has_back events)) (since_back events) (event ∷ events))) (sym place.0)
  since_filled count plain (event ∷ events) (suc k) there place =
      let later = set events k (seen words values) in
      ap (λ b. granted_of count (cond (cond (is_back event) true b) (since_back later) (event ∷ later))) (back_filled (feed plain (deed_of event)) events k there place)
      ∙ sym (out_of (granted_of count) (has_back (event ∷ events)) (since_back later) (event ∷ later))
      ∙ same_either (has_back (event ∷ events)) (since_filled count (feed plain (deed_of event)) events k there place) (granted_filled count plain (event ∷ events) (suc k) there place)
      ∙ out_of (granted_of count) (has_back (event ∷ events)) (since_back events) (event ∷ events)

  pub until_filled : (plain : PlainState) (events : List Event) (k : ℕ) (there : Plain) → PlaceAt team plain events k there
      → play_from plain (map deed_of (until_back (set events k (seen words values)))) ≡ play_from plain (map deed_of (until_back events))
  unfolding until_back has_back play_from
  until_filled plain [] k there place = refl
  until_filled plain (event ∷ events) zero there place =
      let played : List Event → PlainState = λ l. play_from plain (map deed_of l) in
      sym (out_of played (has_back events) (seen words values ∷ until_back events) [])
      ∙ out_of played (has_back events) (reserved team ∷ until_back events) []
      ∙ ap (λ event. played (cond (cond (is_back event) true (has_back events)) (event ∷ until_back events) [])) (sym place.0)
  until_filled plain (event ∷ events) (suc k) there place =
      let later = set events k (seen words values) in
      let played : List Event → PlainState = λ l. play_from plain (map deed_of l) in
      let b = has_back (event ∷ events) in
      ap (λ b. played (cond (cond (is_back event) true b) (event ∷ until_back later) [])) (back_filled (feed plain (deed_of event)) events k there place)
      ∙ sym (out_of played b (event ∷ until_back later) [])
      ∙ same_either b (until_filled (feed plain (deed_of event)) events k there place) refl
      ∙ out_of played b (event ∷ until_back events) []

  pub shelves_filled : (shelf : ℕ) (plain : PlainState) (events : List Event) (k : ℕ) (there : Plain) → PlaceAt team plain events k there
      → was_filled shelf (set events k (seen words values)) ≡ was_filled shelf events
  unfolding was_filled
  shelves_filled shelf plain [] k there place = refl
  shelves_filled shelf plain (event ∷ events) zero there place = ap (λ event. was_filled shelf (event ∷ events)) (sym place.0)
  shelves_filled shelf plain (decided verdict edit ∷ events) (suc k) there place = shelves_filled shelf (feed plain (deed_of (decided verdict edit))) events k there place
  shelves_filled shelf plain (looked word value ∷ events) (suc k) there place = shelves_filled shelf plain events k there place
  shelves_filled shelf plain (seen others shown ∷ events) (suc k) there place = shelves_filled shelf plain events k there place
  shelves_filled shelf plain (reserved other ∷ events) (suc k) there place = shelves_filled shelf plain events k there place
  shelves_filled shelf plain (filled other ∷ events) (suc k) there place = ap (λ b. cond (eqb shelf other) true b) (shelves_filled shelf (feed plain (deed_of (filled other))) events k there place)
  shelves_filled shelf plain (came_back other ∷ events) (suc k) there place = shelves_filled shelf (feed plain (deed_of (came_back other))) events k there place
