-- The invariant of a run, and what a step of a team's ticket, of an edit or of a view, makes of it.
use mathlib.Core.Path.{◌≡◌, refl, sym, ap, subst, ◌∙◌}
use mathlib.Core.Bool.{Bool, true, false, cond}
use mathlib.Core.List.{List, [], ◌∷◌, ◌++◌, map}
use mathlib.Core.Logic.{◌≢◌}
use mathlib.Core.Option.{Option, none, some}
use Prim.Native.Nat.{ℕ, ◌+◌, ◌<◌, min}
use native.Mathlib.Omega.{arith}
use native.Mathlib.Decide.{ℕ_discrete}
use lib.ListN.{length}
use borrow.Author.Tests.{eq-eqb, ne_eqb}
use Rattle.words.specs.Tests.{Every}
use Rattle.words.specs.Words.{Words, words_in_book, shelf_count, words_in_store, team_count, read_of}
use Rattle.legs.specs.Positions.{Ranks, Accepted}
use Rattle.tickets.specs.declared.Phase.{Phase}
use Rattle.tickets.specs.Tickets.{Ticket, no_ticket, ticket_of, with_ticket, words_in, claims}
use Rattle.tickets.specs.declared.StepAnswer.{StepAnswer}
use Rattle.tickets.specs.Steps.{Stepped, most_tries, one_more_try, advanced, step_of}
use Rattle.tickets.specs.Invariant.{with_slot, FitTicket, Invariant, Leaves}
use Rattle.tickets.proofs.TargetLists.{targets_advanced}
use Rattle.tickets.proofs.Slots.{table_slots}
use Rattle.tickets.proofs.Keeping.{standing_fit}
use Rattle.tickets.proofs.Stepping.{length_kept}
use Rattle.tickets.proofs.Tries.{tries_stop}
use Rattle.frames.specs.Request.{Step}
use Rattle.frames.specs.declared.Answer.TheVariants as Answer
use Rattle.plain.specs.Plain.{Plain, word_of, Sound}
use Rattle.calls.specs.Shelves.{shelf_of, is_filled}
use Rattle.calls.specs.Run.{Shared, onward}
use Rattle.calls.specs.Order.{Event, was_filled, Asked, count_asked, Noted, Ended, Notes, notes, retold, note_ticket, with_claimed, with_step, hear_all_claimed, hear_claimed, hear_step_answer, hear_step, hear_request}
use Rattle.calls.specs.Linearizable.{PlainState, plain_from, EndedRight, TriesRight}
use Rattle.calls.specs.Demand1.{TableFits}
use Rattle.calls.proofs.Orders.{every_last, is_filling}
use Rattle.calls.proofs.Ordered.{played, Ordered, PlaceKept, GoesOn, order_stays, place_stays, order_grows}
use Rattle.calls.proofs.Tied.{UpTo, KnownAs, Known, Tied, Under, known_stands, known_count}

-- The place of a team's ticket, if it is a view that has one.
abbrev pub place_in : Option Noted → Option (List Event)
place_in none = none
place_in (some noted) = noted.place

-- What is known of a shelf by what the plain side keeps of it: not filled; or filled, in the store, with the words of a sound plain book.
pub record ShelfKept (store : Words) (shelf : ℕ) (kept : Plain) : Type 0 where
  pub long : length store ≡ words_in_store
  pub inside : shelf < shelf_count
  pub sound : Sound kept
  pub words : (word : ℕ) → word < words_in_book → read_of (shelf_of store shelf) word ≡ word_of kept word

abbrev pub ShelfTied : Words → Bool → ℕ → Option Plain → Type 0
ShelfTied store filled shelf none = filled ≡ false
ShelfTied store filled shelf (some kept) = (filled ≡ true) × ShelfKept store shelf kept

-- Of all shelves, by an order.
pub record Shelved (start : PlainState) (shared : Shared) (order : List Event) : Type 0 where
  pub flags : length shared.filled ≡ shelf_count
  pub tied : (shelf : ℕ) → ShelfTied shared.store (is_filled shared.filled shelf) shelf ((played start order).shelves shelf)
  pub heard : (shelf : ℕ) → is_filled shared.filled shelf ≡ was_filled shelf order

-- At all times: the book is whole; words, tickets and the plain book of the order agree; what was heard is tied to the tickets; the ranks in force are
-- accepted and known, and every ticket noted was opened under them; the order is right; the places reserved in it are those of views; and the tickets that
-- ended are as they should be.
pub record Good (start : PlainState) (shared : Shared) (n : Notes) : Type 0 where
  pub whole : length shared.book ≡ words_in_book
  pub agree : Invariant shared.book (ticket_of shared.tickets) (word_of (plain_from start n.order))
  pub tied : (team : ℕ) → Tied start (ticket_of shared.tickets team) (n.tickets team)
  pub ranked : Accepted shared.ranks
  pub heard_ranks : shared.ranks ≡ n.ranks
  pub under : (team : ℕ) → Under n.ranks (n.tickets team)
  pub ordered : Ordered start n.order
  pub shelved : Shelved start shared n.order
  pub places : (team : ℕ) → PlaceKept start team n.order (place_in (n.tickets team))
  pub ends : Every (EndedRight start) n.ended
  pub tries : Every TriesRight n.ended
  pub in_turn : n.out_of_turn ≡ 0

-- What was heard of a ticket that was opened for this, under these ranks.
abbrev pub asking : Asked → Ranks → Noted → Noted
asking asked ranks t = record {
  asked = asked;
  ranks = ranks;
  claimed = t.claimed;
  released = t.released;
  steps = t.steps;
  waits = t.waits;
  found = t.found;
  decisions = t.decisions;
  place = t.place;
}

-- One team's ticket is another, and another is noted.
module _ {start : PlainState} (shared : Shared) (n : Notes) (table : TableFits shared.tickets) (good : Good start shared n) (team : ℕ) (inside : team < team_count) where
  slots : (ticket : Ticket) → ticket_of (with_ticket shared.tickets team ticket) ≡ with_slot (ticket_of shared.tickets) team ticket
  slots ticket = table_slots shared.tickets team ticket (omega (arith, table.teams))

  retied : (ticket : Ticket) (note : Option Noted) → Tied start ticket note
      → (other : ℕ) → Tied start (with_slot (ticket_of shared.tickets) team ticket other) (retold n.tickets team note other)
  retied ticket note mine other = elim (ℕ_discrete other team) [
    | yes same ↦ rw (eq-eqb other team same) mine
    | no differs ↦ rw (ne_eqb other team differs) (good.tied other)
  ]

  still_under : (note : Option Noted) → Under n.ranks note → (other : ℕ) → Under n.ranks (retold n.tickets team note other)
  still_under note mine other = elim (ℕ_discrete other team) [
    | yes same ↦ rw (eq-eqb other team same) mine
    | no differs ↦ rw (ne_eqb other team differs) (good.under other)
  ]

  replaced : (order : List Event) (note : Option Noted) → GoesOn start team n.order order (place_in note) → (other : ℕ) → PlaceKept start other order (place_in (retold n.tickets team note other))
  replaced order note goes other = elim (ℕ_discrete other team) [
    | yes same ↦ rw (eq-eqb other team same) (subst (λ team. PlaceKept start team order (place_in note)) (sym same) goes.own)
    | no differs ↦ rw (ne_eqb other team differs) (stays differs (place_in (n.tickets other)) (good.places other))
  ]
    where
      stays : other ≢ team → (place : Option (List Event)) → PlaceKept start other n.order place → PlaceKept start other order place
      stays differs none kept = tt
      stays differs (some before) kept = goes.others other differs (length before) (plain_from start before) kept

  pub goes_on_lem : (book : Words) (ticket : Ticket) (order : List Event) (note : Option Noted) (ended : List Ended)
      → length book ≡ words_in_book
      → Invariant book (with_slot (ticket_of shared.tickets) team ticket) (word_of (plain_from start order))
      → Tied start ticket note → Under n.ranks note → GoesOn start team n.order order (place_in note) → Every (EndedRight start) ended → Every TriesRight ended
      → Good start (onward shared book (with_ticket shared.tickets team ticket)) (notes order (retold n.tickets team note) ended n.ranks n.out_of_turn)
  goes_on_lem book ticket order note ended whole agree mine its_ranks goes ends tries = record {
    whole = whole;
    agree = subst (λ tickets. Invariant book tickets (word_of (plain_from start order))) (sym (slots ticket)) agree;
    tied = λ other. subst (λ tickets. Tied start (tickets other) (retold n.tickets team note other)) (sym (slots ticket)) (retied ticket note mine other);
    ranked = good.ranked;
    heard_ranks = good.heard_ranks;
    under = still_under note its_ranks;
    ordered = goes.ordered;
    shelved = record {
      flags = good.shelved.flags;
      tied = λ shelf. subst (ShelfTied shared.store (is_filled shared.filled shelf) shelf) (sym (goes.kept shelf)) (good.shelved.tied shelf);
      heard = λ shelf. good.shelved.heard shelf ∙ sym (goes.fillings shelf);
    };
    places = replaced order note goes;
    ends = ends;
    tries = tries;
    in_turn = good.in_turn;
  }

-- A step of a team with a ticket, of which this was heard.
pub record Turn (start : PlainState) (noted : Noted) : Type 0 where
  pub shared : Shared
  pub n : Notes
  pub table : TableFits shared.tickets
  pub good : Good start shared n
  pub team : ℕ
  pub inside : team < team_count
  pub is : n.tickets team ≡ some noted
  pub known : Known start (ticket_of shared.tickets team) noted

-- For an edit and a view alike:
module _ {start : PlainState} {noted : Noted} (turn : Turn start noted) where
  abbrev shared : Shared
  shared = turn.shared

  abbrev n : Notes
  n = turn.n

  abbrev good : Good start shared n
  good = turn.good

  abbrev team : ℕ
  team = turn.team

  abbrev ticket : Ticket
  ticket = ticket_of shared.tickets team

  abbrev plain : ℕ → ℕ
  plain = word_of (plain_from start n.order)

  abbrev known : Known start ticket noted
  known = turn.known

  -- The step leaves a ticket and an answer, and the book that it leaves.
  abbrev pub Left : Stepped → Type 0
  Left step = Good start (onward shared (step_of shared.book ticket team).1 (with_ticket shared.tickets team step.ticket)) (hear_request n (Step team) (Answer.Step step.answer))

  -- What the law of the step gives, and what is to be shown.
  abbrev pub Leaving : (ℕ → ℕ) → Ticket → StepAnswer → Type 0
  Leaving after left answer = Leaves shared.book (ticket_of shared.tickets) team after left answer

  abbrev pub Kept : Type 0
  Kept = Left (step_of shared.book ticket team).0

  abbrev now : Noted
  now = with_step noted

  -- It was opened under the ranks in force.
  my_ranks : noted.ranks ≡ n.ranks
  my_ranks = subst (Under n.ranks) turn.is (good.under team)

  -- Where the plain book stays, so does what the law of the step gives.
  pub still : {after : Ticket} {answer : StepAnswer} {book : Plain} → book ≡ plain_from start n.order → Leaving plain after answer → Leaving (word_of book) after answer
  still {after} {answer} same left = subst (λ book. Leaving (word_of book) after answer) (sym same) left

  -- What is known of the book, the ticket, the order and what was heard is known after the step.
  pub left_as : {after : Ticket} {answer : StepAnswer} (order : List Event) (note : Option Noted) (ended : List Ended)
      → Leaving (word_of (plain_from start order)) after answer
      → hear_step_answer n team now answer ≡ notes order (retold n.tickets team note) ended n.ranks n.out_of_turn
      → Tied start after note → Under noted.ranks note → GoesOn start team n.order order (place_in note) → Every (EndedRight start) ended → Every TriesRight ended
      → Kept
  left_as {after} {answer} order note ended left heard mine its_ranks goes ends tries =
      subst Left (sym left.is)
      (subst (Good start (onward shared (step_of shared.book ticket team).1 (with_ticket shared.tickets team after)))
      (sym (ap (λ note. hear_step n team note answer) turn.is ∙ heard))
      (goes_on_lem shared n turn.table good team turn.inside (step_of shared.book ticket team).1 after order note ended (length_kept shared.book ticket team ∙ good.whole) left.keeps mine (subst (λ ranks. Under ranks note) my_ranks its_ranks) goes ends tries))

  -- The ticket is fit.
  pub fit : FitTicket (length shared.book) ticket
  fit = standing_fit (length shared.book) ticket (good.agree.fit team) (known_stands known)

  -- One try more.
  pub spent : one_more_try ticket.tries ≡ min now.steps most_tries
  spent = tries_stop ticket.tries noted.steps known.spent

  -- Nothing is released while it claims.
  pub none_released : claims ticket.phase ≡ true → UpTo 0 noted.released
  none_released claiming = subst (λ many. UpTo many noted.released) (fit.none_done claiming) known.released

  -- Its place, in the order as it is and with one more event.
  pub my_place : PlaceKept start team n.order noted.place
  my_place = subst (λ note. PlaceKept start team n.order (place_in note)) turn.is (good.places team)

  pub grown : (event : Event) → is_filling event ≡ false → Ordered start (n.order ++ (event ∷ [])) → GoesOn start team n.order (n.order ++ (event ∷ [])) noted.place
  grown event quiet ordered = order_grows n.order event quiet ordered (place_stays start team n.order event noted.place my_place)

  -- The order stays, and the ticket goes on;
  pub stays_as : {after : Ticket} {answer : StepAnswer} (next : Noted) → Leaving plain after answer → hear_step_answer n team now answer ≡ note_ticket n team next
      → PlaceKept start team n.order next.place → Known start after next → next.ranks ≡ noted.ranks → Kept
  stays_as next left heard mine next_Known same_ranks =
      left_as n.order (some next) n.ended left heard next_Known same_ranks (order_stays good.ordered mine) good.ends good.tries

  -- or it is gone.
  pub ends_as : {answer : StepAnswer} (order : List Event) (end : Ended) → Leaving (word_of (plain_from start order)) no_ticket answer
      → hear_step_answer n team now answer ≡ notes order (retold n.tickets team none) (n.ended ++ (end ∷ [])) n.ranks n.out_of_turn
      → GoesOn start team n.order order none → EndedRight start end → TriesRight end → Kept
  ends_as order end left heard onward right tries =
      left_as order none (n.ended ++ (end ∷ [])) left heard refl tt onward
      (every_last (EndedRight start) n.ended end good.ends right) (every_last TriesRight n.ended end good.tries tries)

  -- The ticket goes on with the same words and one try more, and what was heard of it with one step more.
  pub advances : (base : Ticket) → words_in base ≡ words_in ticket → base.tries ≡ ticket.tries → {phase : Phase} {claimed done : ℕ} (after : Noted) → after.steps ≡ now.steps
      → UpTo claimed after.claimed → UpTo done after.released → KnownAs start noted.asked (advanced base phase claimed done) (asking noted.asked noted.ranks after)
      → Known start (advanced base phase claimed done) (asking noted.asked noted.ranks after)
  advances base same_words same_tries {phase} {claimed} {done} after one_more taken let_go rest = record {
    words = ap (map (λ one. one.word)) (targets_advanced base phase claimed done) ∙ same_words ∙ known.words;
    spent = ap one_more_try same_tries ∙ spent ∙ ap (λ steps. min steps most_tries) (sym one_more);
    claimed = taken;
    released = let_go;
    rest = rest;
  }

  -- What is heard of a claim: it is the last, or not.
  pub heard_claim : ticket.claimed + 1 < ticket.n → hear_claimed n team now (ticket.claimed + 1) ≡ note_ticket n team (with_claimed (ticket.claimed + 1) now)
  heard_claim more =
      let count = known_count known in
      ap (λ last. cond last (hear_all_claimed n team (with_claimed (ticket.claimed + 1) now) noted.asked) (note_ticket n team (with_claimed (ticket.claimed + 1) now)))
      (ne_eqb (ticket.claimed + 1) (count_asked noted.asked) (λ same. omega arith))

  pub heard_last : ticket.claimed + 1 ≡ ticket.n → hear_claimed n team now (ticket.claimed + 1) ≡ hear_all_claimed n team (with_claimed (ticket.claimed + 1) now) noted.asked
  heard_last last =
      ap (λ last. cond last (hear_all_claimed n team (with_claimed (ticket.claimed + 1) now) noted.asked) (note_ticket n team (with_claimed (ticket.claimed + 1) now)))
      (eq-eqb (ticket.claimed + 1) (count_asked noted.asked) (last ∙ known_count known))
