-- A shelf that is filled or come back to keeps the invariant of a run.
use mathlib.Core.Path.{◌≡◌, refl, sym, ap, subst, ◌∙◌}
use mathlib.Core.Bool.{Bool, true, false, cond, not, true≢false}
use mathlib.Core.List.{[], ◌∷◌, ◌++◌}
use mathlib.Core.Logic.{◌≢◌}
use mathlib.Core.Option.{Option, none, some}
use Prim.Native.Nat.{ℕ, zero, suc, ◌+◌, ◌-◌, ◌<◌}
use native.Mathlib.Omega.{arith}
use native.Mathlib.Nat.{le_of_suc-le-suc}
use native.Mathlib.Decide.{ℕ_discrete, dec_lt}
use lib.Dec.{eqb, ltb}
use lib.ListN.{length, get_or, set, take, drop, length-append, length-drop, length-set, get_or-eq_default}
use lib.Seq.{length-take-le, get_or-append-add, get_or-take, get_or-drop, get_or-set_same, get_or-set_other}
use borrow.Author.Tests.{eq-eqb, ne_eqb, eqb-true, ltb-true, not-false}
use Rattle.words.specs.declared.LegLayout.TheVariants.{FourWords}
use Rattle.words.specs.Words.{Words, words_in_book, shelf_count, words_in_store, team_count, read_of}
use Rattle.words.specs.Tests.{some_holds}
use Rattle.tickets.specs.declared.Phase.{Phase}
use Rattle.tickets.specs.declared.Phase.TheVariants.{NoTicket, Claiming, Putting, GivingBack, Viewing, Viewed}
use Rattle.tickets.specs.Tickets.{Ticket, Tickets, no_ticket, ticket_of, has_ticket, stands_below}
use Rattle.tickets.specs.Invariant.{Invariant}
use Rattle.tickets.proofs.Opening.{holds_at_start}
use Rattle.tickets.proofs.Looking.{unheld_plain}
use Rattle.plain.specs.Plain.{Plain, word_of, Sound}
use Rattle.plain.proofs.Values.{words_are_values}
use Rattle.calls.specs.Call.{book_length_wrong}
use Rattle.calls.specs.Outcomes.{number_of, ticket_stands}
use Rattle.calls.specs.Shelves.{shelf_at, shelf_of, with_shelf, is_filled, store_length_wrong, shelf_unknown, never_filled, shelf_refusal, fill_refusal, back_refusal, filled_by, fill_of, back_by, back_of}
use Rattle.calls.specs.Run.{Lent, the_store, another, LentRight, filling, coming_back, Shared, onward, lent_by, store_after, heard_of, left_by}
use Rattle.calls.specs.Order.{filled, came_back, was_filled, Noted, Notes, note_event, note_out_of_turn, noted_below, hear_alone, hear_filled, hear_back, hear_call}
use Rattle.calls.specs.Linearizable.{PlainState, with_kept, plain_from}
use Rattle.calls.specs.Demand1.{TableFits}
use Rattle.calls.proofs.Orders.{play_last, shelves_last, filled_last, filled_more}
use Rattle.calls.proofs.Ordered.{played, place_stays, play_filling, filling_ordered, play_back, back_ordered}
use Rattle.calls.proofs.Tied.{Tied, known_stands}
use Rattle.calls.proofs.Turns.{place_in, ShelfKept, ShelfTied, Good}

-- Where no ticket stands, no slot has one.
pub none_below : (n : ℕ) (tickets : Tickets) → stands_below n tickets ≡ false → (team : ℕ) → team < n → has_ticket (ticket_of tickets team).phase ≡ false
unfolding stands_below
none_below zero tickets none_stands team inside = absurd (omega arith)
none_below (suc n) tickets none_stands team inside = by (has_ticket (ticket_of tickets n).phase) refl none_stands (λ e below. none_below n tickets e team below)
  where
    by : (last : Bool) → has_ticket (ticket_of tickets n).phase ≡ last → cond last true (stands_below n tickets) ≡ false
        → (stands_below n tickets ≡ false → team < n → has_ticket (ticket_of tickets team).phase ≡ false)
        → has_ticket (ticket_of tickets team).phase ≡ false
    by true is e rest = absurd (true≢false e)
    by false is e rest = elim (ℕ_discrete team n) [
      | yes same ↦ ap (λ (t : ℕ). has_ticket (ticket_of tickets t).phase) same ∙ is
      | no other ↦ rest e (omega arith)
    ]

pub phase_none : (phase : Phase) → has_ticket phase ≡ false → phase ≡ NoTicket
phase_none NoTicket e = refl
phase_none Claiming e = absurd (true≢false e)
phase_none Putting e = absurd (true≢false e)
phase_none GivingBack e = absurd (true≢false e)
phase_none Viewing e = absurd (true≢false e)
phase_none Viewed e = absurd (true≢false e)

module _ (tickets : Tickets) (teams : length tickets.slots ≡ team_count) (none_stands : ticket_stands tickets ≡ false) where
  pub no_ticket_lem : (team : ℕ) → has_ticket (ticket_of tickets team).phase ≡ false
  no_ticket_lem team = elim (dec_lt team team_count) [
    | yes inside ↦ none_below team_count tickets none_stands team inside
    | no outside ↦ ap (λ slot. has_ticket slot.phase) (get_or-eq_default tickets.slots no_ticket {n = team} (omega arith))
  ]

-- So none is noted.
module _ {start : PlainState} (shared : Shared) (n : Notes) (good : Good start shared n) (empty : (team : ℕ) → has_ticket (ticket_of shared.tickets team).phase ≡ false) where
  pub none_noted : (team : ℕ) → n.tickets team ≡ none
  none_noted team = by (n.tickets team) refl (good.tied team)
    where
      by : (note : Option Noted) → n.tickets team ≡ note → Tied start (ticket_of shared.tickets team) note → n.tickets team ≡ none
      by none is tied = is
      by (some noted) is tied = absurd (true≢false (sym (known_stands tied) ∙ empty team))

  noted_none : (k : ℕ) → noted_below k n.tickets ≡ false
  unfolding noted_below
  noted_none zero = refl
  noted_none (suc k) = ap (λ note. elim note [ none ↦ noted_below k n.tickets | some ticket ↦ true ]) (none_noted k) ∙ noted_none k

  -- A call that goes only while no ticket stands is heard in turn.
  pub heard_alone : (after : Notes) → hear_alone n after ≡ after
  heard_alone after = ap (λ b. cond b (note_out_of_turn n) after) (noted_none team_count)

  -- Every word of the book is the plain one.
  pub all_plain : (word : ℕ) → word < words_in_book → read_of shared.book word ≡ word_of (plain_from start n.order) word
  all_plain word inside =
      unheld_plain shared.book (ticket_of shared.tickets) (word_of (plain_from start n.order)) word good.agree (omega (arith, good.whole))
      (λ holder. true≢false (sym holder.holds.stands ∙ empty holder.team))

get_d_append_left : (xs ys : Words) (i : ℕ) → i < length xs → get_or (xs ++ ys) i 0 ≡ get_or xs i 0
get_d_append_left [] ys i inside = absurd (omega arith)
get_d_append_left (x ∷ xs) ys zero inside = refl
get_d_append_left (x ∷ xs) ys (suc i) inside = get_d_append_left xs ys i (le_of_suc-le-suc inside)

-- The words of a store, shelf by shelf.
pub read_shelf : (store : Words) (shelf word : ℕ) → word < words_in_book → read_of (shelf_of store shelf) word ≡ read_of store (shelf_at shelf + word)
read_shelf store shelf word inside = get_or-take words_in_book (drop (shelf_at shelf) store) word 0 inside ∙ get_or-drop (shelf_at shelf) store word 0

pub length_shelf : (store : Words) (shelf : ℕ) → length store ≡ words_in_store → shelf < shelf_count → length (shelf_of store shelf) ≡ words_in_book
length_shelf store shelf long inside = length-take-le words_in_book (drop (shelf_at shelf) store) (omega (arith, length-drop (shelf_at shelf) store))

module _ (store book : Words) (shelf : ℕ) (long : length store ≡ words_in_store) (whole : length book ≡ words_in_book) (inside : shelf < shelf_count) where
  front : length (take (shelf_at shelf) store) ≡ shelf_at shelf
  front = length-take-le (shelf_at shelf) store (omega arith)

  rest : length (drop words_in_book (drop (shelf_at shelf) store)) ≡ words_in_store - shelf_at shelf - words_in_book
  rest = omega (arith, length-drop words_in_book (drop (shelf_at shelf) store), length-drop (shelf_at shelf) store)

  pub length_with : length (with_shelf store shelf book) ≡ words_in_store
  length_with = omega (
    arith,
    length-append (take (shelf_at shelf) store) (book ++ drop words_in_book (drop (shelf_at shelf) store)),
    length-append book (drop words_in_book (drop (shelf_at shelf) store)),
    front,
    rest,
  )

  -- The shelf that was filled, and another one.
  pub read_mine : (word : ℕ) → word < words_in_book → read_of (with_shelf store shelf book) (shelf_at shelf + word) ≡ read_of book word
  read_mine word below =
      ap (λ (at : ℕ). read_of (with_shelf store shelf book) (at + word)) (sym front)
      ∙ get_or-append-add (take (shelf_at shelf) store) (book ++ drop words_in_book (drop (shelf_at shelf) store)) word 0
      ∙ get_d_append_left book (drop words_in_book (drop (shelf_at shelf) store)) word (omega arith)

  pub read_other : (other word : ℕ) → other < shelf_count → other ≢ shelf → word < words_in_book → read_of (with_shelf store shelf book) (shelf_at other + word) ≡ read_of store (shelf_at other + word)
  read_other other word known differs below = elim (dec_lt other shelf) [
    | yes before ↦
        get_d_append_left (take (shelf_at shelf) store) (book ++ drop words_in_book (drop (shelf_at shelf) store)) (shelf_at other + word) (omega (arith, front))
        ∙ get_or-take (shelf_at shelf) store (shelf_at other + word) 0 (omega arith)
    | no behind ↦
        let beyond = shelf_at other + word - shelf_at shelf - words_in_book in
        let split : shelf_at other + word ≡ length (take (shelf_at shelf) store) + (length book + beyond) = omega (arith, front) in
        ap (read_of (with_shelf store shelf book)) split
        ∙ get_or-append-add (take (shelf_at shelf) store) (book ++ drop words_in_book (drop (shelf_at shelf) store)) (length book + beyond) 0
        ∙ get_or-append-add book (drop words_in_book (drop (shelf_at shelf) store)) beyond 0
        ∙ get_or-drop words_in_book (drop (shelf_at shelf) store) beyond 0
        ∙ get_or-drop (shelf_at shelf) store (words_in_book + beyond) 0
        ∙ ap (read_of store) (omega arith)
  ]

-- Where no ticket stands, a whole book with the words of a sound plain book agrees with it.
pub agrees_alone : (book : Words) (tickets : ℕ → Ticket) (plain : Plain) → ((team : ℕ) → has_ticket (tickets team).phase ≡ false) → length book ≡ words_in_book → Sound plain
    → ((word : ℕ) → word < words_in_book → read_of book word ≡ word_of plain word) → Invariant book tickets (word_of plain)
agrees_alone book tickets plain empty whole sound words =
    holds_at_start book tickets (word_of plain) (λ team. phase_none (tickets team).phase (empty team))
    (λ word inside. words word (below word inside)) (λ word inside. words_are_values FourWords plain sound word (below word inside))
  where
    below : (word : ℕ) → word < length book → word < words_in_book
    below word inside = omega (arith, inside, whole)

-- Filling, by its four checks.
module _ {start : PlainState} (shared : Shared) (n : Notes) (table : TableFits shared.tickets) (good : Good start shared n) (shelf : ℕ) where
  -- What a filling leaves and what is heard of it, by its refusal.
  abbrev FilledWell : Lent → Option ℕ → Type 0
  FilledWell lent refusal =
      let result = filled_by refusal shared.book (lent_by shared lent) shared.filled shelf in
      Good start record { book = shared.book; tickets = shared.tickets; ranks = shared.ranks; store = store_after shared lent result.1; filled = result.2 }
      (cond (eqb (number_of result.0) 0) (hear_filled n shelf) n)

  fills : store_length_wrong shared.store ≡ false → ticket_stands shared.tickets ≡ false → shelf_unknown shelf ≡ false → FilledWell the_store none
  unfolding was_filled
  fills right_store none_stands known_shelf =
      subst (Good start after) (sym (heard_alone shared n good empty (cond (ltb shelf shelf_count) (note_event n (filled shelf)) (note_out_of_turn n)) ∙ ap (λ b. cond b (note_event n (filled shelf)) (note_out_of_turn n)) (not-false (ltb shelf shelf_count) known_shelf))) record {
        whole = good.whole;
        agree = subst (λ book. Invariant shared.book (ticket_of shared.tickets) (word_of book)) (sym (play_filling n.order good.ordered shelf)) good.agree;
        tied = good.tied;
        ranked = good.ranked;
        heard_ranks = good.heard_ranks;
        under = good.under;
        ordered = filling_ordered n.order good.ordered shelf;
        shelved = record {
          flags = length-set shared.filled shelf true ∙ good.shelved.flags;
          tied = tied;
          heard = heard;
        };
        places = λ team. place_stays start team n.order (filled shelf) (place_in (n.tickets team)) (good.places team);
        ends = good.ends;
        tries = good.tries;
        in_turn = good.in_turn;
      }
    where
      empty : (team : ℕ) → has_ticket (ticket_of shared.tickets team).phase ≡ false
      empty = no_ticket_lem shared.tickets table.teams none_stands

      long : length shared.store ≡ words_in_store
      long = eqb-true _ _ (not-false _ right_store)

      inside : shelf < shelf_count
      inside = ltb-true shelf shelf_count (not-false _ known_shelf)

      store : Words
      store = with_shelf shared.store shelf shared.book

      after : Shared
      after = record { book = shared.book; tickets = shared.tickets; ranks = shared.ranks; store = store; filled = set shared.filled shelf true }

      mine : ShelfKept store shelf (plain_from start n.order)
      mine = record {
        long = length_with shared.store shared.book shelf long good.whole inside;
        inside = inside;
        sound = good.ordered.sound;
        words = λ word below. read_shelf store shelf word below ∙ read_mine shared.store shared.book shelf long good.whole inside word below ∙ all_plain shared n good empty word below;
      }

      flag_same : is_filled (set shared.filled shelf true) shelf ≡ true
      flag_same = get_or-set_same shared.filled shelf true false (omega (arith, inside, good.shelved.flags))

      flag_other : (other : ℕ) → other ≢ shelf → is_filled (set shared.filled shelf true) other ≡ is_filled shared.filled other
      flag_other other differs = get_or-set_other shared.filled shelf other true false differs

      others : (other : ℕ) → other ≢ shelf → (kept : Option Plain) → ShelfTied shared.store (is_filled shared.filled other) other kept
          → ShelfTied store (is_filled (set shared.filled shelf true) other) other kept
      others other differs none was = flag_other other differs ∙ was
      others other differs (some kept) (flag, was) = (
        flag_other other differs ∙ flag,
        record {
          long = length_with shared.store shared.book shelf long good.whole inside;
          inside = was.inside;
          sound = was.sound;
          words = λ word below.
              read_shelf store other word below
              ∙ read_other shared.store shared.book shelf long good.whole inside other word was.inside differs below
              ∙ sym (read_shelf shared.store other word below)
              ∙ was.words word below;
        },
      )

      shelves_now : (other : ℕ) → (played start (n.order ++ (filled shelf ∷ []))).shelves other ≡ with_kept (played start n.order).shelves shelf (plain_from start n.order) other
      shelves_now other = ap (λ state. state.shelves other) (play_last start n.order (filled shelf))

      tied : (other : ℕ) → ShelfTied store (is_filled (set shared.filled shelf true) other) other ((played start (n.order ++ (filled shelf ∷ []))).shelves other)
      tied other = elim (ℕ_discrete other shelf) [
        | yes same ↦
            let now = shelves_now other ∙ ap (λ b. cond b (some (plain_from start n.order)) ((played start n.order).shelves other)) (eq-eqb other shelf same) in
            subst (ShelfTied store (is_filled (set shared.filled shelf true) other) other) (sym now)
            (ap (is_filled (set shared.filled shelf true)) same ∙ flag_same, subst (λ (s : ℕ). ShelfKept store s (plain_from start n.order)) (sym same) mine)
        | no differs ↦
            let now = shelves_now other ∙ ap (λ b. cond b (some (plain_from start n.order)) ((played start n.order).shelves other)) (ne_eqb other shelf differs) in
            subst (ShelfTied store (is_filled (set shared.filled shelf true) other) other) (sym now)
            (others other differs ((played start n.order).shelves other) (good.shelved.tied other))
      ]

      itself : (b : Bool) → cond b true false ≡ b
      itself true = refl
      itself false = refl

      both : (b : Bool) → true ≡ cond b true true
      both true = refl
      both false = refl

      filled_now : (other : ℕ) → was_filled other (n.order ++ (filled shelf ∷ [])) ≡ cond (was_filled other n.order) true (cond (eqb other shelf) true false)
      filled_now other = filled_more other n.order (filled shelf)

      heard : (other : ℕ) → is_filled (set shared.filled shelf true) other ≡ was_filled other (n.order ++ (filled shelf ∷ []))
      heard other = elim (ℕ_discrete other shelf) [
        | yes same ↦
            ap (is_filled (set shared.filled shelf true)) same ∙ flag_same ∙ both (was_filled other n.order)
            ∙ ap (λ b. cond (was_filled other n.order) true (cond b true false)) (sym (eq-eqb other shelf same)) ∙ sym (filled_now other)
        | no differs ↦
            flag_other other differs ∙ good.shelved.heard other ∙ sym (itself (was_filled other n.order))
            ∙ ap (λ b. cond (was_filled other n.order) true (cond b true false)) (sym (ne_eqb other shelf differs)) ∙ sym (filled_now other)
      ]

  -- Refused, it changes nothing.
  fill_refused : (lent : Lent) (refusal : ℕ) → eqb refusal 0 ≡ false → FilledWell lent (some refusal)
  fill_refused the_store refusal Some-number = rw Some-number good
  fill_refused (another store) refusal Some-number = rw Some-number good

  fill_by : (lent : Lent) (book store stands unknown : Bool)
      → (store ≡ false → lent ≡ the_store) → (lent ≡ the_store → store_length_wrong shared.store ≡ store)
      → ticket_stands shared.tickets ≡ stands → shelf_unknown shelf ≡ unknown → FilledWell lent (shelf_refusal book store stands unknown)
  fill_by lent true store stands unknown one right none_stands known = fill_refused lent 1 refl
  fill_by lent false true stands unknown one right none_stands known = fill_refused lent 19 refl
  fill_by lent false false true unknown one right none_stands known = fill_refused lent 14 refl
  fill_by lent false false false true one right none_stands known = fill_refused lent 20 refl
  fill_by lent false false false false one right none_stands known =
      subst (λ lent. FilledWell lent none) (sym (one refl)) (fills (right (one refl)) none_stands known)

  -- A call that lends another store is one that 19 refuses.
  only_one : (lent : Lent) → LentRight lent → store_length_wrong (lent_by shared lent) ≡ false → lent ≡ the_store
  only_one the_store right e = refl
  only_one (another store) right e = absurd (true≢false (sym right ∙ e))

  pub filling_kept : (lent : Lent) → LentRight lent → Good start (left_by shared (filling shelf lent)) (hear_call n (filling shelf lent) (heard_of shared (filling shelf lent)))
  unfolding fill_of fill_refusal
  filling_kept lent right =
      fill_by lent (book_length_wrong shared.book) (store_length_wrong (lent_by shared lent)) (ticket_stands shared.tickets) (shelf_unknown shelf)
      (only_one lent right) (λ same. ap (λ lent. store_length_wrong (lent_by shared lent)) (sym same)) refl refl

  -- What a coming back leaves and what is heard of it, by its refusal.
  abbrev CameBackWell : Lent → Option ℕ → Type 0
  CameBackWell lent refusal =
      let result = back_by refusal shared.book (lent_by shared lent) shelf in
      Good start (onward shared result.1 shared.tickets) (cond (eqb (number_of result.0) 0) (hear_back n shelf) n)

  module _ (none_stands : ticket_stands shared.tickets ≡ false) (flag : is_filled shared.filled shelf ≡ true) where
    empty : (team : ℕ) → has_ticket (ticket_of shared.tickets team).phase ≡ false
    empty = no_ticket_lem shared.tickets table.teams none_stands

    comes : (kept : Plain) → (played start n.order).shelves shelf ≡ some kept → ShelfKept shared.store shelf kept → CameBackWell the_store none
    comes kept is was =
        subst (Good start after) (sym (heard_alone shared n good empty (cond (was_filled shelf n.order) (note_event n (came_back shelf)) (note_out_of_turn n)) ∙ ap (λ b. cond b (note_event n (came_back shelf)) (note_out_of_turn n)) (sym (good.shelved.heard shelf) ∙ flag))) record {
          whole = whole;
          agree = subst (λ book. Invariant (shelf_of shared.store shelf) (ticket_of shared.tickets) (word_of book)) (sym (play_back n.order good.ordered shelf kept is)) agree;
          tied = good.tied;
          ranked = good.ranked;
          heard_ranks = good.heard_ranks;
          under = good.under;
          ordered = back_ordered n.order good.ordered shelf kept is was.sound;
          shelved = record {
            flags = good.shelved.flags;
            tied = λ other. subst (ShelfTied shared.store (is_filled shared.filled other) other) (sym (shelves_last start n.order (came_back shelf) refl other)) (good.shelved.tied other);
            heard = λ other. good.shelved.heard other ∙ sym (filled_last other n.order (came_back shelf) refl);
          };
          places = λ team. place_stays start team n.order (came_back shelf) (place_in (n.tickets team)) (good.places team);
          ends = good.ends;
          tries = good.tries;
          in_turn = good.in_turn;
        }
      where
        after : Shared
        after = onward shared (shelf_of shared.store shelf) shared.tickets

        whole : length (shelf_of shared.store shelf) ≡ words_in_book
        whole = length_shelf shared.store shelf was.long was.inside

        agree : Invariant (shelf_of shared.store shelf) (ticket_of shared.tickets) (word_of kept)
        agree = agrees_alone (shelf_of shared.store shelf) (ticket_of shared.tickets) kept empty whole was.sound was.words

    comes_back : CameBackWell the_store none
    comes_back = by ((played start n.order).shelves shelf) refl (good.shelved.tied shelf)
      where
        by : (kept : Option Plain) → (played start n.order).shelves shelf ≡ kept → ShelfTied shared.store (is_filled shared.filled shelf) shelf kept → CameBackWell the_store none
        by none is tied = absurd (true≢false (sym flag ∙ tied))
        by (some kept) is (flagged, was) = comes kept is was

  back_refused : (lent : Lent) (refusal : ℕ) → eqb refusal 0 ≡ false → CameBackWell lent (some refusal)
  back_refused lent refusal Some-number = rw Some-number good

  -- A shelf that passes was filled.
  passes_filled : (unknown flag : Bool) → some_holds (unknown ∷ not flag ∷ []) ≡ false → flag ≡ true
  unfolding some_holds
  passes_filled true flag e = absurd (true≢false e)
  passes_filled false true e = refl
  passes_filled false false e = absurd (true≢false e)

  back_by_lem : (lent : Lent) (book store stands never : Bool)
      → (store ≡ false → lent ≡ the_store)
      → ticket_stands shared.tickets ≡ stands → never_filled shared.filled shelf ≡ never → CameBackWell lent (shelf_refusal book store stands never)
  back_by_lem lent true store stands never one none_stands known = back_refused lent 1 refl
  back_by_lem lent false true stands never one none_stands known = back_refused lent 19 refl
  back_by_lem lent false false true never one none_stands known = back_refused lent 14 refl
  back_by_lem lent false false false true one none_stands known = back_refused lent 20 refl
  back_by_lem lent false false false false one none_stands known =
      subst (λ lent. CameBackWell lent none) (sym (one refl)) (comes_back none_stands (passes_filled (shelf_unknown shelf) (is_filled shared.filled shelf) known))

  pub coming_back_kept : (lent : Lent) → LentRight lent → Good start (left_by shared (coming_back shelf lent)) (hear_call n (coming_back shelf lent) (heard_of shared (coming_back shelf lent)))
  unfolding back_of back_refusal
  coming_back_kept lent right =
      back_by_lem lent (book_length_wrong shared.book) (store_length_wrong (lent_by shared lent)) (ticket_stands shared.tickets) (never_filled shared.filled shelf) (only_one lent right) refl refl
