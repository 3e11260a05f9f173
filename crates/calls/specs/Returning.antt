-- Request 12: what shelves keep, what coming back to one returns to, the counts since, and that a filling has no place in the order.
use Rattle.std.specs.Prelude.{ℕ, ◌+◌, ◌<◌, ◌≡◌, List, [], ◌∷◌, ◌++◌, Bool, true, false, cond, ◌≢◌, eqb, length}
use Rattle.words.specs.Tests.{Every}
use Rattle.words.specs.Words.{Words, words_in_book, shelf_count, words_in_store}
use Rattle.plain.specs.Plain.{legs_in_book}
use Rattle.plain.specs.Editing.{adds_in, strikes_in}
use Rattle.calls.specs.Shelves.{shelf_of, with_shelf}
use Rattle.calls.specs.Run.{Call, framed, loading, filling, coming_back, the_store, Admitted, Shared, under_ranks, Heard, heard_of, left_by, run_from, run}
use Rattle.calls.specs.Order.{Event, decided, looked, seen, reserved, filled, came_back, was_filled}
use Rattle.calls.specs.Linearizable.{play, granted_of, has_back, order_of, plain_after}

-- Statement: a shelf keeps the book last put on it, "every word as kept"; "other shelves remain".
pub record KeepsApart (store book : Words) (shelf : ℕ) : Type 0 where
  pub mine : shelf_of (with_shelf store shelf book) shelf ≡ book
  pub others : (other : ℕ) → other < shelf_count → other ≢ shelf → shelf_of (with_shelf store shelf book) other ≡ shelf_of store other
  pub long : length (with_shelf store shelf book) ≡ words_in_store

abbrev pub ShelvesKeepApart : Type 0
ShelvesKeepApart =
    (store book : Words) (shelf : ℕ) → length store ≡ words_in_store → length book ≡ words_in_book → shelf < shelf_count → KeepsApart store book shelf

-- A call went: it returned no refusal's number.
abbrev pub Went : Shared → Call → Type 0
Went shared call = (heard_of shared call).returned ≡ 0

-- What was heard is no filling of this shelf that went.
abbrev pub NotFilled : ℕ → Heard → Type 0
NotFilled shelf one = one.call ≡ filling shelf the_store → one.returned ≢ 0

-- The state of the filling, with the ranks, the store and the filled shelves of now.
abbrev pub returned_to : (there here : Shared) → Shared
returned_to there here = record { book = there.book; tickets = there.tickets; ranks = here.ranks; store = here.store; filled = here.filled }

-- A call that comes back to no shelf.
abbrev pub ComesNotBack : Call → Type 0
ComesNotBack (framed frame out) = Unit {0}
ComesNotBack (loading ranks) = Unit {0}
ComesNotBack (filling shelf lent) = Unit {0}
ComesNotBack (coming_back shelf lent) = ⊥

-- Book and tickets are again those of the filling, and the ranks and the shelves stay as they are now. So all later calls, loads, fillings and comings back among them, are
-- answered as from the filling's state with these ranks and shelves, and leave the same; and as long as none comes back, they are answered as from the filling's own state "under
-- the ranks now in force".
pub record ReturnsTo (there here after : Shared) : Type 0 where
  pub state : after ≡ returned_to there here
  pub alike : (later : List Call) → run_from after later ≡ run_from (returned_to there here) later
  pub alike_there : (later : List Call) → Every ComesNotBack later → (run_from after later).heard ≡ (run_from (under_ranks there here.ranks) later).heard

-- Statement: "Coming back to a shelf restores every word as kept. Later calls behave as in a run that ended when the shelf was filled, under the ranks now in force; other shelves remain."
abbrev pub ComingBackReturns : Type 0
ComingBackReturns =
    (store : Words) (before between : List Call) (shelf : ℕ)
    → Every Admitted before → Every Admitted between
    → let until = (run store before).end in
    let there = left_by until (filling shelf the_store) in
    let since = run_from there between in
    let here = since.end in
    Went until (filling shelf the_store)
    → Every (NotFilled shelf) since.heard
    → Went here (coming_back shelf the_store)
    → ReturnsTo there here (left_by here (coming_back shelf the_store))

-- Statement: "From then on the counts sum to the kept book's sum plus the adds granted since, less the strikes granted since."
abbrev pub CountsSinceComingBack : Type 0
CountsSinceComingBack =
    (store : Words) (calls : List Call) → Every Admitted calls
    → (before between after : List Event) (shelf : ℕ)
    → order_of store calls ≡ before ++ (filled shelf ∷ (between ++ (came_back shelf ∷ after)))
    → was_filled shelf between ≡ false
    → has_back after ≡ false
    → legs_in_book (plain_after store calls) + granted_of strikes_in after ≡ legs_in_book (play before) + granted_of adds_in after

-- A shelf is come back to among some events.
unfoldable pub is_come_back_to : ℕ → List Event → Bool
is_come_back_to shelf [] = false
is_come_back_to shelf (decided verdict edit ∷ events) = is_come_back_to shelf events
is_come_back_to shelf (looked word value ∷ events) = is_come_back_to shelf events
is_come_back_to shelf (seen words values ∷ events) = is_come_back_to shelf events
is_come_back_to shelf (reserved team ∷ events) = is_come_back_to shelf events
is_come_back_to shelf (filled other ∷ events) = is_come_back_to shelf events
is_come_back_to shelf (came_back other ∷ events) = cond (eqb shelf other) true (is_come_back_to shelf events)

-- An order without the fillings of shelves that are never come back to afterwards.
unfoldable pub without_idle_fillings : List Event → List Event
without_idle_fillings [] = []
without_idle_fillings (decided verdict edit ∷ events) = decided verdict edit ∷ without_idle_fillings events
without_idle_fillings (looked word value ∷ events) = looked word value ∷ without_idle_fillings events
without_idle_fillings (seen words values ∷ events) = seen words values ∷ without_idle_fillings events
without_idle_fillings (reserved team ∷ events) = reserved team ∷ without_idle_fillings events
without_idle_fillings (filled shelf ∷ events) = cond (is_come_back_to shelf events) (filled shelf ∷ without_idle_fillings events) (without_idle_fillings events)
without_idle_fillings (came_back shelf ∷ events) = came_back shelf ∷ without_idle_fillings events

-- Statement: "Nothing else has a place in the order". A filling is noted in it only so that it is known what a later coming back makes of the plain book: without
-- the fillings that none comes back to, the plain book is the same.
abbrev pub FillingsHaveNoPlace : Type 0
FillingsHaveNoPlace = (events : List Event) → play (without_idle_fillings events) ≡ play events
