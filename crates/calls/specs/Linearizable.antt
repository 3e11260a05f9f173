-- Demand 3: one claim about every list of calls.
use Rattle.std.specs.Prelude.{ℕ, ◌+◌, ◌*◌, ◌<◌, min, ◌≡◌, List, [], ◌∷◌, ◌++◌, map, Bool, true, false, cond, ◌⊎◌, eqb, length}
use Rattle.std.proofs.Math.Option.{Option, none, some}
use Rattle.words.specs.Tests.{Every}
use Rattle.words.specs.Words.{Words, words_in_book, read_of, mark_of}
use Rattle.tickets.specs.Tickets.{ticket_of, has_ticket}
use Rattle.tickets.specs.Steps.{most_tries}
use Rattle.tickets.specs.Targets.{target_in}
use Rattle.edits.specs.declared.Edit.{Edit}
use Rattle.plain.specs.Plain.{Plain, fresh_plain, word_of, legs_in_book, Sound}
use Rattle.plain.specs.Editing.{succeeds, attempt, adds_in, strikes_in}
use Rattle.calls.specs.Order.{claim_order}
use Rattle.calls.specs.Call.{book_length_wrong, ranks_wrong, badly_made}
use Rattle.calls.specs.Shelves.{shelf_of, is_filled}
use Rattle.calls.specs.Run.{Call, Admitted, Heard, Run, run}
use Rattle.calls.specs.Order.{Verdict, granted, stale, Event, decided, looked, seen, reserved, filled, came_back, was_filled, Asked, an_edit, a_view, count_asked, Decision, Noted, Last, was_granted, was_stale, was_seen, Ended, Notes, no_notes, notes_from, order, order_from, ended_from, HeldFrom}

-- What the plain book is fed: an edit to try, a word to look at, words to see together, a shelf to be kept on or to come back to. Neither a verdict nor a
-- value that was heard.
pub data Deed : Type 0 where
  try : Edit → Deed
  look : (word : ℕ) → Deed
  see : (words : List ℕ) → Deed
  keep : (shelf : ℕ) → Deed
  come_back : (shelf : ℕ) → Deed

abbrev pub deed_of : Event → Deed
deed_of (decided verdict edit) = try edit
deed_of (looked word value) = look word
deed_of (seen words values) = see words
-- (A place that is only reserved is none: nothing is seen there.)
deed_of (reserved team) = see []
deed_of (filled shelf) = keep shelf
deed_of (came_back shelf) = come_back shelf

-- The plain book, and the plain book that each shelf keeps, if it was filled.
pub record PlainState : Type 0 where
  pub book : Plain
  pub shelves : ℕ → Option Plain

abbrev pub plain_state : Plain → (ℕ → Option Plain) → PlainState
plain_state book shelves = record { book = book; shelves = shelves }

-- A plain book, and no shelf filled.
abbrev pub start_of : Plain → PlainState
start_of plain = plain_state plain (λ shelf. none)

abbrev pub fresh_state : PlainState
fresh_state = start_of fresh_plain

abbrev pub with_kept : (ℕ → Option Plain) → ℕ → Plain → ℕ → Option Plain
with_kept shelves shelf book other = cond (eqb other shelf) (some book) (shelves other)

-- (To a shelf that was never filled it does not come back.)
abbrev pub kept_or : Plain → Option Plain → Plain
kept_or book none = book
kept_or book (some kept) = kept

-- The plain book finds for itself whether an edit succeeds; for a look and a view it stays; coming back makes it that of the filling.
abbrev pub feed : PlainState → Deed → PlainState
feed state (try edit) = plain_state (attempt state.book edit) state.shelves
feed state (look word) = state
feed state (see words) = state
feed state (keep shelf) = plain_state state.book (with_kept state.shelves shelf state.book)
feed state (come_back shelf) = plain_state (kept_or state.book (state.shelves shelf)) state.shelves

unfoldable pub play_from : PlainState → List Deed → PlainState
play_from state [] = state
play_from state (deed ∷ deeds) = play_from (feed state deed) deeds

-- The plain book when all events of an order are done on it, one after another, from a start; and from a fresh one.
abbrev pub plain_from : PlainState → List Event → Plain
plain_from start events = (play_from start (map deed_of events)).book

abbrev pub play : List Event → Plain
play events = plain_from fresh_state events

-- What the plain book finds of an edit.
abbrev pub verdict_of : Plain → Edit → Verdict
verdict_of plain edit = cond (succeeds plain edit) granted stale

-- A count over the edits of the tickets decided as granted.
abbrev pub granted_in : (Edit → ℕ) → Event → ℕ
granted_in count (decided granted edit) = count edit
granted_in count (decided stale edit) = 0
granted_in count (looked word value) = 0
granted_in count (seen words values) = 0
granted_in count (reserved team) = 0
granted_in count (filled shelf) = 0
granted_in count (came_back shelf) = 0

unfoldable pub granted_of : (Edit → ℕ) → List Event → ℕ
granted_of count [] = 0
granted_of count (event ∷ events) = granted_in count event + granted_of count events

-- Some event is a coming back.
abbrev pub is_back : Event → Bool
is_back (decided verdict edit) = false
is_back (looked word value) = false
is_back (seen words values) = false
is_back (reserved team) = false
is_back (filled shelf) = false
is_back (came_back shelf) = true

unfoldable pub has_back : List Event → Bool
has_back [] = false
has_back (event ∷ events) = cond (is_back event) true (has_back events)

-- An order up to its last coming back, that one included, and what came since; where there is none, nothing and all of it.
unfoldable pub until_back : List Event → List Event
until_back [] = []
until_back (event ∷ events) = cond (has_back (event ∷ events)) (event ∷ until_back events) []

unfoldable pub since_back : List Event → List Event
since_back [] = []
since_back (event ∷ events) = cond (has_back (event ∷ events)) (since_back events) (event ∷ events)

-- A decision is what the plain book finds at that turn.
abbrev pub DecisionRight : PlainState → Edit → Decision → Type 0
DecisionRight start edit decision = decision.verdict ≡ verdict_of (plain_from start decision.before) edit

-- A word that was named as the one that differed: that of the target after those claimed, by the ranks at its Standing, whose plain word at the decision is not the quoted value.
pub record Differed (start : PlainState) (edit : Edit) (ticket : Noted) (decision : Decision) (word : ℕ) : Type 0 where
  pub named : word ≡ (target_in (claim_order ticket.ranks (an_edit edit)) (length ticket.claimed)).word
  pub differs : word_of (plain_from start decision.before) word ≡ (target_in (claim_order ticket.ranks (an_edit edit)) (length ticket.claimed)).quoted → ⊥

-- Stale repeats the word that Found named; where no Found came, nothing was claimed.
abbrev pub Repeats : Option ℕ → ℕ → List ℕ → Type 0
Repeats none word claimed = length claimed ≡ 0
Repeats (some found) word claimed = word ≡ found

-- The last answer fits the edit's one decision: Granted if it was granted, Stale if stale, naming the word that differed.
abbrev pub LastFits : PlainState → Edit → Noted → Decision → Last → Type 0
LastFits start edit ticket decision (was_granted tries) = decision.verdict ≡ granted
LastFits start edit ticket decision (was_stale word tries) = (decision.verdict ≡ stale) × Differed start edit ticket decision word × Repeats ticket.found word ticket.claimed
LastFits start edit ticket decision (was_seen values) = ⊥

-- An edit's ticket that ended was decided exactly once, as the plain book finds, and its last answer fits that.
pub record EditEnded (start : PlainState) (edit : Edit) (end : Ended) : Type 0 where
  pub decision : Decision
  pub once : end.ticket.decisions ≡ decision ∷ []
  pub right : DecisionRight start edit decision
  pub fits : LastFits start edit end.ticket decision end.last

-- The values that a view showed are the plain book's words at its place, in the order named. A view is neither granted nor stale.
abbrev pub ViewShows : PlainState → List ℕ → List Event → Last → Type 0
ViewShows start words before (was_granted tries) = ⊥
ViewShows start words before (was_stale word tries) = ⊥
ViewShows start words before (was_seen values) = values ≡ map (word_of (plain_from start before)) words

-- A view that ended had its place at its last claim, and showed the words of that moment.
pub record ViewEnded (start : PlainState) (words : List ℕ) (end : Ended) : Type 0 where
  pub before : List Event
  pub placed : end.ticket.place ≡ some before
  pub shows : ViewShows start words before end.last

abbrev pub EndedAs : PlainState → Asked → Ended → Type 0
EndedAs start (an_edit edit) end = EditEnded start edit end
EndedAs start (a_view words) end = ViewEnded start words end

abbrev pub EndedRight : PlainState → Ended → Type 0
EndedRight start end = EndedAs start end.ticket.asked end

-- What Found named of an edit's ticket still standing, by its decision: nothing if granted, the word that differed if stale.
abbrev pub FoundFits : PlainState → Edit → Noted → Decision → Verdict → Option ℕ → Type 0
FoundFits start edit ticket decision granted found = found ≡ none
FoundFits start edit ticket decision stale none = ⊥
FoundFits start edit ticket decision stale (some word) = Differed start edit ticket decision word

-- A ticket is not decided, and no Found came.
abbrev pub Undecided : Noted → Type 0
Undecided ticket = (ticket.decisions ≡ []) × (ticket.found ≡ none)

-- An edit's ticket still standing is not decided yet; or it was decided once, as the plain book finds. A view is never decided.
abbrev pub DecidedAtMostOnce : PlainState → Asked → Noted → Type 0
DecidedAtMostOnce start (an_edit edit) ticket =
    Undecided ticket
    ⊎ ((decision : Decision) × (ticket.decisions ≡ decision ∷ []) × DecisionRight start edit decision × FoundFits start edit ticket decision decision.verdict ticket.found)
DecidedAtMostOnce start (a_view words) ticket = Undecided ticket

abbrev pub StandingRight : PlainState → Option Noted → Type 0
StandingRight start none = Unit {0}
StandingRight start (some ticket) = DecidedAtMostOnce start ticket.asked ticket

-- A ticket stands where one is noted, and nowhere else.
abbrev pub StandsAsNoted : Bool → Option Noted → Type 0
StandsAsNoted stands none = stands ≡ false
StandsAsNoted stands (some ticket) = stands ≡ true

-- A last answer tells these tries; a view's tells none.
abbrev pub TellsTries : Last → ℕ → Type 0
TellsTries (was_granted tries) steps = tries ≡ steps
TellsTries (was_stale word tries) steps = tries ≡ steps
TellsTries (was_seen values) steps = Unit {0}

-- "A granted ticket has tries of 2n plus its waits": so many steps were answered. So it is of a view.
abbrev pub StepsOf : Last → Noted → Type 0
StepsOf (was_granted tries) ticket = ticket.steps ≡ 2 * count_asked ticket.asked + ticket.waits
StepsOf (was_stale word tries) ticket = Unit {0}
StepsOf (was_seen values) ticket = ticket.steps ≡ 2 * count_asked ticket.asked + ticket.waits

-- A last answer's tries are the steps answered since Standing, that one included, up to the stop.
abbrev pub TriesRight : Ended → Type 0
TriesRight end = TellsTries end.last (min end.ticket.steps most_tries) × StepsOf end.last end.ticket

-- Of a list of calls: what was heard, the order, the plain book it makes, and the book's words that the calls left.
abbrev pub heard_on : Words → List Call → List Heard
heard_on store calls = (run store calls).heard

abbrev pub order_of : Words → List Call → List Event
order_of store calls = order (heard_on store calls)

abbrev pub plain_after : Words → List Call → Plain
plain_after store calls = play (order_of store calls)

abbrev pub book_after : Words → List Call → Words
book_after store calls = (run store calls).end.book

-- Of a run from a start, what was heard since the first notes and what it left: the order of what was heard is one of whole edits, looks and views, and of comings back,
-- done one after another on the plain book of the start.
pub record LinearizableFrom (start : PlainState) (first : Notes) (result : Run) : Type 0 where
  -- "Exactly the granted tickets succeed there, and exactly the stale ones come out stale."
  pub granted_succeed : (before after : List Event) (verdict : Verdict) (edit : Edit)
      → order_from first result.heard ≡ before ++ (decided verdict edit ∷ after)
      → verdict ≡ verdict_of (plain_from start before) edit
  -- "Every value looked at is the plain book's word at that look's turn."
  pub looks_agree : (before after : List Event) (word value : ℕ)
      → order_from first result.heard ≡ before ++ (looked word value ∷ after)
      → value ≡ word_of (plain_from start before) word
  -- (Request 1) "A finished view takes its place at its last claim and shows the plain book's words of that moment."
  pub views_agree : (before after : List Event) (words values : List ℕ)
      → order_from first result.heard ≡ before ++ (seen words values ∷ after)
      → values ≡ map (word_of (plain_from start before)) words
  -- "Every word of the shared book that no ticket holds equals the same word of the plain book when all of them are done."
  pub words_agree : (word : ℕ)
      → word < words_in_book
      → ((team : ℕ) → ¬ HeldFrom first result.heard team word)
      → read_of result.end.book word ≡ word_of (plain_from start (order_from first result.heard)) word
  -- "Demand 3 adds: a decided ticket's last answer, once it has come, is Granted if the edit succeeds on the plain book and Stale if not"; a view's is the values. Beyond that, no
  -- ticket is decided twice or ends undecided (`once`), and Stale names the word that differed (`fits`).
  pub last_answers : Every (EndedRight start) (ended_from first result.heard)
  -- (Beyond the papers) A ticket still standing is decided at most once, and Found named the word that differed; a view never is.
  pub decided_once : (team : ℕ) → StandingRight start ((notes_from first result.heard).tickets team)
  -- Coming back makes the plain book that of the shelf's last filling, and there was one. (The first is a law of `play` and the second one of `order`, for the reader: they
  -- hold of whatever was heard. What binds the program are `words_agree` after a coming back, `shelves_agree`, `filled_heard`, and `in_turn`.)
  pub comes_back : (before between after : List Event) (shelf : ℕ)
      → order_from first result.heard ≡ before ++ (filled shelf ∷ (between ++ (came_back shelf ∷ after)))
      → was_filled shelf between ≡ false
      → plain_from start (before ++ (filled shelf ∷ (between ++ (came_back shelf ∷ [])))) ≡ plain_from start before
  pub backs_filled : (before after : List Event) (shelf : ℕ) → order_from first result.heard ≡ before ++ (came_back shelf ∷ after) → was_filled shelf before ≡ true
  -- A shelf keeps in the store the words of the plain book of its last filling, and is known as filled.
  pub shelves_agree : (before after : List Event) (shelf word : ℕ)
      → order_from first result.heard ≡ before ++ (filled shelf ∷ after)
      → was_filled shelf after ≡ false
      → word < words_in_book
      → read_of (shelf_of result.end.store shelf) word ≡ word_of (plain_from start before) word
  pub filled_heard : (shelf : ℕ) → is_filled result.end.filled shelf ≡ was_filled shelf (order_from first result.heard)
  -- "The counts of all passages in the plain book, each the length of its list, sum to granted adds less granted strikes among the decided tickets"; after a coming back
  -- "the counts sum to the kept book's sum plus the adds granted since, less the strikes granted since".
  pub counts_add_up :
      legs_in_book (plain_from start (order_from first result.heard)) + granted_of strikes_in (since_back (order_from first result.heard))
      ≡ legs_in_book (plain_from start (until_back (order_from first result.heard))) + granted_of adds_in (since_back (order_from first result.heard))
  -- A word that a ticket holds is its team's mark, so that no word too many is taken for held.
  -- (This field and those that follow go beyond the papers, but for request 8's.)
  pub held_marked : (team word : ℕ) → HeldFrom first result.heard team word → read_of result.end.book word ≡ mark_of team
  -- The plain book keeps its rules: all in range, from other than to, no number twice.
  pub plain_sound : Sound (plain_from start (order_from first result.heard))
  -- The book stays whole and every team's ticket well made, so that refusals 1 and 7 never come.
  pub stays_whole : book_length_wrong result.end.book ≡ false
  pub stays_well_made : (team : ℕ) → badly_made (ticket_of result.end.tickets team) ≡ false
  -- (Request 8) The ranks in force are those of the last load that went, and before one those of the first notes: "a refused load keeps the old ranks, and nothing else writes them".
  -- Each of 0 to 31 occurs, so that 13 never comes to a frame.
  pub ranks_heard : result.end.ranks ≡ (notes_from first result.heard).ranks
  pub stays_ranked : ranks_wrong result.end.ranks ≡ false
  -- A last answer's tries are the steps answered; a granted ticket's are 2n plus its waits.
  pub tries_add_up : Every TriesRight (ended_from first result.heard)
  -- Every frame was answered by an answer that fits it, no Standing came over a ticket and no step's answer without one, and no load, filling or coming back went over a ticket.
  pub in_turn : (notes_from first result.heard).out_of_turn ≡ 0
  -- A ticket stands in the table exactly where one is noted: where none stands, every ticket has had its last answer.
  pub noted_stand : (team : ℕ) → StandsAsNoted (has_ticket (ticket_of result.end.tickets team).phase) ((notes_from first result.heard).tickets team)

-- From a fresh book.
abbrev pub Linearizable : Run → Type 0
Linearizable result = LinearizableFrom fresh_state no_notes result

-- Statement: "It is a single claim about the list, not one for each call."
abbrev pub Demand3 : Type 0
Demand3 = (store : Words) (calls : List Call) → Every Admitted calls → Linearizable (run store calls)
