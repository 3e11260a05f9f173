-- Demand 3: one claim about every list of calls.
use mathlib.Core.Path.{◌≡◌, refl, sym, ap, subst, ◌∙◌}
use mathlib.Core.Bool.{Bool, true, false, cond, not, false≢true}
use mathlib.Core.List.{List, [], ◌∷◌, ◌++◌, map}
use mathlib.Core.Option.{Option, none, some}
use mathlib.Core.Logic.{inl, inr}
use Prim.Native.Nat.{ℕ, zero, suc, ◌<◌}
use native.Mathlib.Omega.{arith}
use lib.ListN.{length, length-replicate, get_or-replicate}
use borrow.Author.Tests.{eq-eqb}
use Rattle.words.specs.Tests.{all_hold, Every}
use Rattle.words.specs.Words.{Words, words_in_book, read_of, mark_of}
use Rattle.legs.proofs.Ranks.{fixed_ranks_are_permutation}
use Rattle.tickets.specs.declared.Phase.{Phase}
use Rattle.tickets.specs.declared.Phase.TheVariants.{NoTicket, Claiming, Putting, GivingBack, Viewing, Viewed}
use Rattle.tickets.specs.Tickets.{Ticket, ticket_of, has_ticket, stands_below}
use Rattle.tickets.specs.Invariant.{Holds, FitSlot}
use Rattle.tickets.proofs.Keeping.{standing_fit}
use Rattle.tickets.proofs.Looking.{unheld_plain}
use Rattle.tickets.proofs.WellMade.{fit_well_made}
use Rattle.edits.specs.declared.Edit.{Edit}
use Rattle.frames.specs.Numbers.{Bytes, are_bytes}
use Rattle.plain.specs.Plain.{Plain, fresh_plain, word_of, Sound}
use Rattle.plain.proofs.EditLaws.{fresh_is_sound}
use Rattle.calls.specs.Call.{badly_made, done_of, call_of}
use Rattle.calls.specs.Shelves.{shelf_of, none_filled, is_filled}
use Rattle.calls.specs.Run.{Call, framed, loading, filling, coming_back, Admitted, Shared, fresh, heard_of, left_by, answer_heard, run_from, run}
use Rattle.calls.specs.Order.{stale, Event, decided, looked, seen, filled, came_back, was_filled, Asked, an_edit, a_view, Noted, Notes, first_notes, no_notes, hear_answer, notes_from, notes_on, holds_from, holds_word}
use Rattle.calls.specs.Linearizable.{PlainState, start_of, fresh_state, kept_or, deed_of, feed, play_from, plain_from, granted_of, since_back, until_back, FoundFits, DecidedAtMostOnce, StandingRight, heard_on, Demand3}
use Rattle.calls.specs.Demand1.{TableFits}
use Rattle.calls.specs.Demand3From.{Begins, Demand3From}
use Rattle.calls.specs.Linearizable.{StandsAsNoted}
use Rattle.calls.proofs.Tables.{tables_stay}
use Rattle.calls.proofs.Hearing.{answers_heard}
use Rattle.calls.proofs.Orders.{IsKept, RightFrom, right_at, play_last, play_finished, play_both, unfilled, filled_finished}
use Rattle.calls.proofs.Ordered.{played, Ordered, finished_ordered}
use Rattle.calls.proofs.Freshness.{fresh_words, fresh_table}
use Rattle.calls.proofs.Tied.{HeardIn, KnownAs, Tied, known_stands, holds_heard, heard_holds}
use Rattle.calls.proofs.Turns.{ShelfTied, Good}
use Rattle.calls.proofs.Kept.{call_kept}
use Rattle.calls.proofs.Shelving.{phase_none, no_ticket_lem, agrees_alone, filling_kept, coming_back_kept}
use Rattle.calls.proofs.Loading.{loading_kept}

-- At the start.
begins_ordered : (plain : Plain) → Sound plain → Ordered (start_of plain) []
unfolding play_from granted_of since_back until_back
begins_ordered plain sound = record { sound = sound; right = tt; counts = refl }

-- No shelf is filled.
fresh_flags : (shelf : ℕ) → is_filled none_filled shelf ≡ false
fresh_flags zero = refl
fresh_flags (suc zero) = refl
fresh_flags (suc (suc zero)) = refl
fresh_flags (suc (suc (suc shelf))) = refl

pub begins_good : (shared : Shared) (plain : Plain) → Begins shared plain → Good (start_of plain) shared (first_notes shared.ranks)
unfolding play_from was_filled
begins_good shared plain begins = record {
  whole = begins.whole;
  agree = agrees_alone shared.book (ticket_of shared.tickets) plain empty begins.whole begins.sound begins.words;
  tied = λ team. phase_none (ticket_of shared.tickets team).phase (empty team);
  ranked = begins.ranked;
  heard_ranks = refl;
  under = λ team. tt;
  ordered = begins_ordered plain begins.sound;
  shelved = record { flags = ap length begins.no_shelf_filled; tied = flags; heard = flags };
  places = λ team. tt;
  ends = tt;
  tries = tt;
  in_turn = refl;
}
  where
    empty : (team : ℕ) → has_ticket (ticket_of shared.tickets team).phase ≡ false
    empty = no_ticket_lem shared.tickets begins.fits.teams begins.none_stands

    flags : (shelf : ℕ) → is_filled shared.filled shelf ≡ false
    flags shelf = ap (λ filled. is_filled filled shelf) begins.no_shelf_filled ∙ fresh_flags shelf

-- A fresh book is a start.
pub fresh_begins : (store : Words) → Begins (fresh store) fresh_plain
unfolding stands_below
fresh_begins store = record {
  whole = length-replicate {A = ℕ} words_in_book 0;
  fits = fresh_table;
  none_stands = refl;
  sound = fresh_is_sound;
  words = λ word inside. get_or-replicate {A = ℕ} words_in_book word 0 0 inside ∙ sym (fresh_words word);
  ranked = fixed_ranks_are_permutation;
  no_shelf_filled = refl;
}

pub fresh_good : (store : Words) → Good fresh_state (fresh store) no_notes
fresh_good store = begins_good (fresh store) fresh_plain (fresh_begins store)

-- What a team holds, by its ticket and by what was heard.
module _ {start : PlainState} (shared : Shared) (n : Notes) (good : Good start shared n) (team word : ℕ) where
  pub to_heard : (value : ℕ) → Holds (ticket_of shared.tickets team) word value → holds_word (n.tickets team) word ≡ true
  to_heard value holds = by_note (n.tickets team) (good.tied team)
    where
      by_note : (note : Option Noted) → Tied start (ticket_of shared.tickets team) note → holds_word note word ≡ true
      by_note none absent = absurd (false≢true (sym (ap has_ticket absent) ∙ holds.stands))
      by_note (some noted) known = holds_heard known (standing_fit (length shared.book) (ticket_of shared.tickets team) (good.agree.fit team) holds.stands) word value holds

  from_heard : holds_word (n.tickets team) word ≡ true → (value : ℕ) × Holds (ticket_of shared.tickets team) word value
  from_heard held = by_note (n.tickets team) (good.tied team) held
    where
      by_note : (note : Option Noted) → Tied start (ticket_of shared.tickets team) note → holds_word note word ≡ true → (value : ℕ) × Holds (ticket_of shared.tickets team) word value
      by_note none absent held = absurd (false≢true held)
      by_note (some noted) known held = heard_holds known (standing_fit (length shared.book) (ticket_of shared.tickets team) (good.agree.fit team) (known_stands known)) word held

  held_mark : holds_word (n.tickets team) word ≡ true → read_of shared.book word ≡ mark_of team
  held_mark held = let (value, holds) = from_heard held in (good.agree.held team word value holds).marked

unheld_agrees : {start : PlainState} (shared : Shared) (n : Notes) → Good start shared n → (word : ℕ) → word < words_in_book
    → ((team : ℕ) → holds_word (n.tickets team) word ≡ true → ⊥) → read_of shared.book word ≡ word_of (plain_from start n.order) word
unheld_agrees {start} shared n good word inside unheld =
    unheld_plain shared.book (ticket_of shared.tickets) (word_of (plain_from start n.order)) word good.agree (omega (arith, good.whole))
    (λ holder. unheld holder.team (to_heard shared n good holder.team word holder.value holder.holds))

-- A slot of the invariant is not badly made.
well_made_lem : (ticket : Ticket) → FitSlot words_in_book ticket → badly_made ticket ≡ false
unfolding all_hold
well_made_lem ticket slot = if_stands (has_ticket ticket.phase) refl
  where
    if_stands : (stands : Bool) → has_ticket ticket.phase ≡ stands → badly_made ticket ≡ false
    if_stands true e = rw (e, fit_well_made ticket slot e) refl
    if_stands false e = rw e refl

-- An edit's ticket is undecided while claiming, and decided once after that; a view never is.
phase_decided : (start : PlainState) (edit : Edit) (phase : Phase) (ticket : Ticket) (noted : Noted) → HeardIn start edit phase ticket noted → DecidedAtMostOnce start (an_edit edit) noted
phase_decided start edit NoTicket ticket noted heard = absurd heard
phase_decided start edit Claiming ticket noted heard = inl heard.undecided
phase_decided start edit Putting ticket noted heard =
    let decided = heard.decided in
    let decision = decided.decision in
    inr (decision, decided.once, decided.right, subst (λ verdict. FoundFits start edit noted decision verdict noted.found) (sym decided.is) heard.not_found)
phase_decided start edit GivingBack ticket noted heard =
    let decided = heard.decided in
    let decision = decided.decision in
    let fits = subst (FoundFits start edit noted decision stale) (sym heard.found) heard.differed in
    inr (decision, decided.once, decided.right, subst (λ verdict. FoundFits start edit noted decision verdict noted.found) (sym decided.is) fits)
phase_decided start edit Viewing ticket noted heard = absurd heard
phase_decided start edit Viewed ticket noted heard = absurd heard

decided_as : (start : PlainState) (asked : Asked) (ticket : Ticket) (noted : Noted) → KnownAs start asked ticket noted → DecidedAtMostOnce start asked noted
decided_as start (an_edit edit) ticket noted known = phase_decided start edit ticket.phase ticket noted known.phase
decided_as start (a_view words) ticket noted known = known.undecided

standing_right : (start : PlainState) (ticket : Ticket) (note : Option Noted) → Tied start ticket note → StandingRight start note
standing_right start ticket none absent = tt
standing_right start ticket (some noted) known = decided_as start noted.asked ticket noted known.rest

stands_as_noted : (start : PlainState) (ticket : Ticket) (note : Option Noted) → Tied start ticket note → StandsAsNoted (has_ticket ticket.phase) note
stands_as_noted start ticket none absent = ap has_ticket absent
stands_as_noted start ticket (some noted) known = known_stands known

-- The book and tickets that a call leaves are those of what it does.
left_kept : {start : PlainState} (shared : Shared) (n : Notes) → TableFits shared.tickets → Good start shared n → (frame out : Bytes) → are_bytes frame ≡ true
    → Good start (left_by shared (framed frame out)) (hear_answer n frame (some (done_of shared.book shared.tickets shared.ranks frame out).answer))
unfolding call_of
left_kept shared n table good frame out bytes = call_kept shared n table good frame out bytes

-- Every call of a list keeps the invariant.
pub calls_keep : {start : PlainState} (calls : List Call) → Every Admitted calls → (shared : Shared) (n : Notes) → TableFits shared.tickets → Good start shared n
    → Good start (run_from shared calls).end (notes_from n (run_from shared calls).heard)
unfolding run_from notes_from
calls_keep [] bytes shared n table good = good
calls_keep (loading ranks ∷ calls) bytes shared n table good =
    calls_keep calls bytes.1 (left_by shared (loading ranks)) _ table (loading_kept shared n table good ranks)
calls_keep (filling shelf lent ∷ calls) bytes shared n table good =
    calls_keep calls bytes.1 (left_by shared (filling shelf lent)) _ table (filling_kept shared n table good shelf lent bytes.0)
calls_keep (coming_back shelf lent ∷ calls) bytes shared n table good =
    calls_keep calls bytes.1 (left_by shared (coming_back shelf lent)) _ table (coming_back_kept shared n table good shelf lent bytes.0)
calls_keep {start} (framed frame out ∷ calls) bytes shared n table good =
    calls_keep calls bytes.1 (left_by shared (framed frame out)) _ (tables_stay shared.book shared.tickets shared.ranks frame out table) one_kept
  where
    one_kept : Good start (left_by shared (framed frame out)) (hear_answer n frame (answer_heard (heard_of shared (framed frame out))))
    one_kept = subst (λ answer. Good start (left_by shared (framed frame out)) (hear_answer n frame answer)) (sym (answers_heard shared frame out table))
        (left_kept shared n table good frame out bytes.0)

-- The table stays one as the code has it.
pub tables_run : (calls : List Call) (shared : Shared) → TableFits shared.tickets → TableFits (run_from shared calls).end.tickets
unfolding run_from
tables_run [] shared table = table
tables_run (loading ranks ∷ calls) shared table = tables_run calls (left_by shared (loading ranks)) table
tables_run (filling shelf lent ∷ calls) shared table = tables_run calls (left_by shared (filling shelf lent)) table
tables_run (coming_back shelf lent ∷ calls) shared table = tables_run calls (left_by shared (coming_back shelf lent)) table
tables_run (framed frame out ∷ calls) shared table = tables_run calls (left_by shared (framed frame out)) (tables_stay shared.book shared.tickets shared.ranks frame out table)

pub run_table : (store : Words) (calls : List Call) → TableFits (run store calls).end.tickets
run_table store calls = tables_run calls (fresh store) fresh_table

pub good_from : (shared : Shared) (plain : Plain) → Begins shared plain → (calls : List Call) → Every Admitted calls
    → Good (start_of plain) (run_from shared calls).end (notes_from (first_notes shared.ranks) (run_from shared calls).heard)
good_from shared plain begins calls bytes = calls_keep calls bytes shared (first_notes shared.ranks) begins.fits (begins_good shared plain begins)

pub run_good : (store : Words) (calls : List Call) → Every Admitted calls → Good fresh_state (run store calls).end (notes_on (heard_on store calls))
run_good store calls bytes = good_from (fresh store) fresh_plain (fresh_begins store) calls bytes

pub append_both : (xs ys zs : List Event) → (xs ++ ys) ++ zs ≡ xs ++ (ys ++ zs)
append_both [] ys zs = refl
append_both (x ∷ xs) ys zs = ap (λ l. x ∷ l) (append_both xs ys zs)

-- A shelf that is come back to was filled,
was_filled_lem : (plain : Plain) (events : List Event) (shelf : ℕ) → IsKept ((play_from (start_of plain) (map deed_of events)).shelves shelf) → was_filled shelf events ≡ true
was_filled_lem plain events shelf kept = by (was_filled shelf events) refl
  where
    by : (b : Bool) → was_filled shelf events ≡ b → was_filled shelf events ≡ true
    by true is = is
    by false is = absurd (subst IsKept (unfilled (start_of plain) events shelf is) kept)

-- and keeps the plain book of its last filling.
kept_since : (start : PlainState) (before after : List Event) (shelf : ℕ) → was_filled shelf after ≡ false → (play_from start (map deed_of (before ++ (filled shelf ∷ after)))).shelves shelf ≡ some (plain_from start before)
unfolding play_from
kept_since start before after shelf no_shelf_filled =
    ap (λ state. state.shelves shelf) (play_both start before (filled shelf ∷ after))
    ∙ unfilled (feed (play_from start (map deed_of before)) (deed_of (filled shelf))) after shelf no_shelf_filled
    ∙ ap (λ b. cond b (some (plain_from start before)) ((play_from start (map deed_of before)).shelves shelf)) (eq-eqb shelf shelf refl)

returned : (start : PlainState) (before between : List Event) (shelf : ℕ) → was_filled shelf between ≡ false → plain_from start (before ++ (filled shelf ∷ (between ++ (came_back shelf ∷ [])))) ≡ plain_from start before
returned start before between shelf no_shelf_filled =
    ap (λ l. plain_from start l) (sym (append_both before (filled shelf ∷ between) (came_back shelf ∷ [])))
    ∙ ap (λ state. state.book) (play_last start (before ++ (filled shelf ∷ between)) (came_back shelf))
    ∙ ap (kept_or (plain_from start (before ++ (filled shelf ∷ between)))) (kept_since start before between shelf no_shelf_filled)

shelf_agrees : (store : Words) (flag : Bool) (shelf : ℕ) (kept : Option Plain) (plain : Plain) → kept ≡ some plain → ShelfTied store flag shelf kept
    → (word : ℕ) → word < words_in_book → read_of (shelf_of store shelf) word ≡ word_of plain word
shelf_agrees store flag shelf kept plain is tied word inside = (subst (ShelfTied store flag shelf) is tied).1.words word inside

pub demand3_from : Demand3From
unfolding holds_from
demand3_from begin plain begins calls bytes =
    let good = good_from begin plain begins calls bytes in
    let start = start_of plain in
    let shared = (run_from begin calls).end in
    let n = notes_from (first_notes begin.ranks) (run_from begin calls).heard in
    -- the order without the places only reserved
    let ordered = finished_ordered n.order good.ordered in
    record {
      granted_succeed = λ before after verdict edit is. right_at start before after (decided verdict edit) (subst (RightFrom start) is ordered.right);
      looks_agree = λ before after word value is. right_at start before after (looked word value) (subst (RightFrom start) is ordered.right);
      views_agree = λ before after words values is. right_at start before after (seen words values) (subst (RightFrom start) is ordered.right);
      words_agree = λ word inside unheld. unheld_agrees shared n good word inside unheld ∙ ap (λ state. word_of state.book word) (sym (play_finished start n.order));
      last_answers = good.ends;
      decided_once = λ team. standing_right start (ticket_of shared.tickets team) (n.tickets team) (good.tied team);
      comes_back = λ before between after shelf is no_shelf_filled. returned start before between shelf no_shelf_filled;
      backs_filled = λ before after shelf is. was_filled_lem plain before shelf (right_at start before after (came_back shelf) (subst (RightFrom start) is ordered.right));
      shelves_agree = λ before after shelf word is no_shelf_filled inside.
          shelf_agrees shared.store (is_filled shared.filled shelf) shelf ((played start n.order).shelves shelf) (plain_from start before)
          (ap (λ state. state.shelves shelf) (sym (play_finished start n.order)) ∙ ap (λ l. (play_from start (map deed_of l)).shelves shelf) is ∙ kept_since start before after shelf no_shelf_filled)
          (good.shelved.tied shelf) word inside;
      filled_heard = λ shelf. good.shelved.heard shelf ∙ sym (filled_finished shelf n.order);
      counts_add_up = ordered.counts;
      held_marked = λ team word held. held_mark shared n good team word held;
      plain_sound = ordered.sound;
      stays_whole = ap not (eq-eqb _ _ good.whole);
      stays_well_made = λ team. well_made_lem (ticket_of shared.tickets team) (subst (λ size. FitSlot size (ticket_of shared.tickets team)) good.whole (good.agree.fit team));
      ranks_heard = good.heard_ranks;
      stays_ranked = ap not good.ranked;
      tries_add_up = good.tries;
      in_turn = good.in_turn;
      noted_stand = λ team. stands_as_noted start (ticket_of shared.tickets team) (n.tickets team) (good.tied team);
    }

pub demand3 : Demand3
demand3 store calls bytes = demand3_from (fresh store) fresh_plain (fresh_begins store) calls bytes
