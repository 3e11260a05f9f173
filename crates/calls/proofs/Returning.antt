-- Coming back to a shelf returns to the state in which it was filled.
use mathlib.Core.Path.{◌≡◌, refl, sym, ap, subst, ◌∙◌}
use mathlib.Core.Bool.{Bool, true, false, not, true≢false, false≢true}
use mathlib.Core.List.{List, [], ◌∷◌}
use mathlib.Core.Logic.{◌≢◌, ◌⊎◌, inl, inr}
use mathlib.Core.Option.{Option, none, some}
use Prim.Native.Nat.{ℕ, ◌<◌}
use native.Mathlib.Omega.{arith}
use native.Mathlib.Decide.{ℕ_discrete}
use lib.Dec.{eqb}
use lib.ListN.{length, get_or-replicate}
use lib.Seq.{ext_get_or, get_or-set_same, get_or-set_other}
use borrow.Author.Tests.{eqb-true, ltb-true, not-false}
use Rattle.words.specs.Tests.{Every}
use Rattle.words.proofs.Tests.{split}
use Rattle.words.specs.Words.{Words, words_in_book, shelf_count, words_in_store, team_count, read_of}
use Rattle.tickets.specs.declared.Phase.{Phase}
use Rattle.tickets.specs.declared.Phase.TheVariants.{NoTicket, Claiming, Putting, GivingBack, Viewing, Viewed}
use Rattle.tickets.specs.Tickets.{Ticket, Tickets, no_ticket, fresh_tickets, ticket_of, with_ticket, has_ticket, counts_well_made, well_made}
use Rattle.tickets.specs.Steps.{step_of}
use Rattle.tickets.specs.Invariant.{FitSlot}
use Rattle.tickets.proofs.WellMade.{fit_well_made, well_made_kept}
use Rattle.edits.specs.Opened.{opened_ticket}
use Rattle.edits.specs.Views.{opened_view}
use Rattle.frames.specs.Numbers.{Bytes, are_bytes}
use Rattle.frames.specs.Request.{Request, Open, Step, Look, View}
use Rattle.frames.specs.Requests.{request_in}
use Rattle.calls.specs.Call.{refusal_of, request_done, refused_or, done_of, call_of, book_length_wrong}
use Rattle.calls.specs.Outcomes.{outcome_of, number_of, ticket_stands}
use Rattle.calls.specs.Loading.{load_of}
use Rattle.calls.specs.Shelves.{shelf_of, with_shelf, Filled, store_length_wrong, shelf_unknown, never_filled, shelf_refusal, fill_refusal, back_refusal, filled_by, fill_of, back_by, back_of}
use Rattle.calls.specs.Run.{Call, framed, loading, filling, coming_back, the_store, another, Lent, LentRight, Admitted, Shared, fresh, under_ranks, heard_of, left_by, lent_by, store_after, run_from, run}
use Rattle.calls.specs.Order.{Notes, no_notes, hear_call, notes_from}
use Rattle.calls.specs.Linearizable.{PlainState, fresh_state}
use Rattle.calls.specs.Demand1.{TableFits}
use Rattle.calls.specs.Returning.{ShelvesKeepApart, Went, NotFilled, returned_to, ComesNotBack, ComingBackReturns}
use Rattle.calls.proofs.Freshness.{fresh_table}
use Rattle.calls.proofs.Turns.{Good}
use Rattle.calls.proofs.Shelving.{no_ticket_lem, read_shelf, length_shelf, length_with, read_mine, read_other}
use Rattle.calls.proofs.Passing.{Passes, passes}
use Rattle.calls.proofs.Demand3.{fresh_good, calls_keep, tables_run}

-- A well-made ticket stands.
made_stands : (ticket : Ticket) → well_made ticket ≡ true → has_ticket ticket.phase ≡ true
unfolding well_made
made_stands ticket made = by ticket.phase refl
  where
    by : (phase : Phase) → ticket.phase ≡ phase → has_ticket ticket.phase ≡ true
    by NoTicket is =
        let (many, (targets, (counts, u))) = split _ made in
        absurd (false≢true (ap (λ phase. counts_well_made phase ticket.n ticket.claimed ticket.done) (sym is) ∙ counts))
    by Claiming is = ap has_ticket is
    by Putting is = ap has_ticket is
    by GivingBack is = ap has_ticket is
    by Viewing is = ap has_ticket is
    by Viewed is = ap has_ticket is

-- A slot without a ticket is as fresh.
abbrev pub Emptied : Tickets → Type 0
Emptied tickets = (team : ℕ) → team < team_count → has_ticket (ticket_of tickets team).phase ≡ false → ticket_of tickets team ≡ no_ticket

emptied_with : (tickets : Tickets) (team : ℕ) (ticket : Ticket) → length tickets.slots ≡ team_count → Emptied tickets → (has_ticket ticket.phase ≡ true) ⊎ (ticket ≡ no_ticket) → Emptied (with_ticket tickets team ticket)
emptied_with tickets team ticket teams empty mine other inside none_stands = elim (ℕ_discrete other team) [
  | yes same ↦
      let here : ticket_of (with_ticket tickets team ticket) other ≡ ticket =
      ap (ticket_of (with_ticket tickets team ticket)) same ∙ get_or-set_same tickets.slots team ticket no_ticket (omega (arith, inside, teams, same)) in
      here ∙ elim mine [
        | inl stands ↦ absurd (true≢false (sym stands ∙ ap (λ slot. has_ticket slot.phase) (sym here) ∙ none_stands))
        | inr gone ↦ gone
      ]
  | no differs ↦
      let there : ticket_of (with_ticket tickets team ticket) other ≡ ticket_of tickets other = get_or-set_other tickets.slots team other ticket no_ticket differs in
      there ∙ empty other inside (ap (λ slot. has_ticket slot.phase) (sym there) ∙ none_stands)
]

module _ {start : PlainState} (shared : Shared) (n : Notes) (table : TableFits shared.tickets) (good : Good start shared n) (empty : Emptied shared.tickets) where
  request_empties : (request : Request) → Passes shared.tickets request → Emptied (request_done shared.book shared.tickets shared.ranks request).tickets
  unfolding request_done opened_ticket opened_view
  request_empties (Open team edit) passed = emptied_with shared.tickets team (opened_ticket shared.ranks edit) table.teams empty (inl refl)
  request_empties (Step team) (inside, stands) =
      let ticket = ticket_of shared.tickets team in
      let made = fit_well_made ticket (subst (λ size. FitSlot size ticket) good.whole (good.agree.fit team)) stands in
      emptied_with shared.tickets team (step_of shared.book ticket team).0.ticket table.teams empty
      (elim (well_made_kept shared.book ticket team made) [
        | inl still ↦ inl (made_stands (step_of shared.book ticket team).0.ticket still)
        | inr gone ↦ inr gone
      ])
  request_empties (Look word) passed = empty
  request_empties (View team many words) passed = emptied_with shared.tickets team (opened_view shared.ranks words) table.teams empty (inl refl)

  refused_empties : (request : Request) (refusal : Option ℕ) → (refusal ≡ none → Passes shared.tickets request) → Emptied (refused_or refusal shared.book shared.tickets shared.ranks request).tickets
  refused_empties request none passed = request_empties request (passed refl)
  refused_empties request (some number) passed = empty

  call_empties : (frame out : Bytes) → are_bytes frame ≡ true → Emptied (call_of shared.book shared.tickets shared.ranks frame out).0.tickets
  unfolding call_of done_of
  call_empties frame out bytes = refused_empties (request_in frame) (refusal_of shared.book shared.tickets shared.ranks frame out) (passes shared.book shared.tickets shared.ranks frame out bytes)

-- What a store keeps on its shelves.
pub shelves_keep_apart : ShelvesKeepApart
shelves_keep_apart store book shelf long whole inside = record {
  mine = ext_get_or 0 (shelf_of (with_shelf store shelf book) shelf) book (length_now shelf inside ∙ sym whole)
      (λ word below. let here : word < words_in_book = omega (arith, below, length_now shelf inside) in
      read_shelf (with_shelf store shelf book) shelf word here ∙ read_mine store book shelf long whole inside word here);
  others = λ other known differs. ext_get_or 0 (shelf_of (with_shelf store shelf book) other) (shelf_of store other) (length_now other known ∙ sym (length_shelf store other long known))
      (λ word below. let here : word < words_in_book = omega (arith, below, length_now other known) in
      read_shelf (with_shelf store shelf book) other word here
      ∙ read_other store book shelf long whole inside other word known differs here
      ∙ sym (read_shelf store other word here));
  long = length_with store book shelf long whole inside;
}
  where
    length_now : (other : ℕ) → other < shelf_count → length (shelf_of (with_shelf store shelf book) other) ≡ words_in_book
    length_now other known = length_shelf (with_shelf store shelf book) other (length_with store book shelf long whole inside) known

-- What holds at all times, and of a shelf since it was filled: it keeps this book.
pub record Between (start : PlainState) (shared : Shared) (n : Notes) : Type 0 where
  pub table : TableFits shared.tickets
  pub good : Good start shared n
  pub empty : Emptied shared.tickets

abbrev Keeps : ℕ → Words → Shared → Type 0
Keeps shelf book shared = (length shared.store ≡ words_in_store) × ((word : ℕ) → word < words_in_book → read_of (shelf_of shared.store shelf) word ≡ read_of book word)

between_call : {start : PlainState} (call : Call) → Admitted call → (shared : Shared) (n : Notes) → Between start shared n → Between start (left_by shared call) (hear_call n call (heard_of shared call))
unfolding run_from notes_from
between_call {start} call admitted shared n at = record {
  table = tables_run (call ∷ []) shared at.table;
  good = good_by call admitted;
  empty = by call admitted;
}
  where
    good_by : (call : Call) → Admitted call → Good start (left_by shared call) (hear_call n call (heard_of shared call))
    good_by (framed frame out) bytes = calls_keep (framed frame out ∷ []) (bytes, tt) shared n at.table at.good
    good_by (loading ranks) right = calls_keep (loading ranks ∷ []) (right, tt) shared n at.table at.good
    good_by (filling shelf lent) right = calls_keep (filling shelf lent ∷ []) (right, tt) shared n at.table at.good
    good_by (coming_back shelf lent) right = calls_keep (coming_back shelf lent ∷ []) (right, tt) shared n at.table at.good

    by : (call : Call) → Admitted call → Emptied (left_by shared call).tickets
    by (framed frame out) bytes = call_empties shared n at.table at.good at.empty frame out bytes
    by (loading ranks) right = at.empty
    by (filling shelf lent) right = at.empty
    by (coming_back shelf lent) right = at.empty

-- What a filling answers is what its checks say.
fill_answers : (refusal : Option ℕ) (words store : Words) (filled : Filled) (shelf : ℕ) → number_of (filled_by refusal words store filled shelf).0 ≡ number_of (outcome_of refusal)
fill_answers none words store filled shelf = refl
fill_answers (some number) words store filled shelf = refl

-- A filling of another shelf, or one that did not go, leaves what a shelf keeps.
module _ (shared : Shared) (whole : length shared.book ≡ words_in_book) (shelf : ℕ) (inside : shelf < shelf_count) (book : Words) (keeps : Keeps shelf book shared) (other : ℕ) where
  abbrev Left : Lent → Option ℕ → Type 0
  Left lent refusal = Keeps shelf book record {
    book = shared.book;
    tickets = shared.tickets;
    ranks = shared.ranks;
    store = store_after shared lent (filled_by refusal shared.book (lent_by shared lent) shared.filled other).1;
    filled = (filled_by refusal shared.book (lent_by shared lent) shared.filled other).2;
  }

  left_by_lem : (lent : Lent) → LentRight lent → (book_wrong store stands unknown : Bool) → store_length_wrong (lent_by shared lent) ≡ store → shelf_unknown other ≡ unknown
      → (filling other lent ≡ filling shelf the_store → number_of (outcome_of (shelf_refusal book_wrong store stands unknown)) ≢ 0)
      → Left lent (shelf_refusal book_wrong store stands unknown)
  left_by_lem the_store right true store stands unknown is known not_mine = keeps
  left_by_lem the_store right false true stands unknown is known not_mine = keeps
  left_by_lem the_store right false false true unknown is known not_mine = keeps
  left_by_lem the_store right false false false true is known not_mine = keeps
  left_by_lem the_store right false false false false is known not_mine =
      let other_inside = ltb-true other shelf_count (not-false _ known) in
      let differs : shelf ≢ other = λ same. not_mine (ap (λ (s : ℕ). filling s the_store) (sym same)) refl in (
        length_with shared.store shared.book other keeps.0 whole other_inside,
        λ word below.
            read_shelf (with_shelf shared.store other shared.book) shelf word below
            ∙ read_other shared.store shared.book other keeps.0 whole other_inside shelf word inside differs below
            ∙ sym (read_shelf shared.store shelf word below)
            ∙ keeps.1 word below,
      )
  left_by_lem (another store) right true wrong stands unknown is known not_mine = keeps
  left_by_lem (another store) right false true stands unknown is known not_mine = keeps
  left_by_lem (another store) right false false stands unknown is known not_mine = absurd (true≢false (sym right ∙ is))

  fill_keeps : (lent : Lent) → LentRight lent → NotFilled shelf (heard_of shared (filling other lent)) → Keeps shelf book (left_by shared (filling other lent))
  unfolding fill_of fill_refusal
  fill_keeps lent right not_mine = left_by_lem lent right (book_length_wrong shared.book) (store_length_wrong (lent_by shared lent)) (ticket_stands shared.tickets) (shelf_unknown other) refl refl not_mine'
    where
      not_mine' : filling other lent ≡ filling shelf the_store
          → number_of (outcome_of (shelf_refusal (book_length_wrong shared.book) (store_length_wrong (lent_by shared lent)) (ticket_stands shared.tickets) (shelf_unknown other))) ≢ 0
      not_mine' same went = not_mine same (fill_answers (fill_refusal shared.book shared.tickets (lent_by shared lent) other) shared.book (lent_by shared lent) shared.filled other ∙ went)

keeps_run : {start : PlainState} (shelf : ℕ) → shelf < shelf_count → (book : Words) (calls : List Call) → Every Admitted calls → (shared : Shared) (n : Notes) → Between start shared n → Every (NotFilled shelf) (run_from shared calls).heard
    → Keeps shelf book shared → Keeps shelf book (run_from shared calls).end
unfolding run_from
keeps_run shelf inside book [] admitted shared n at no_shelf_filled keeps = keeps
keeps_run shelf inside book (call ∷ calls) admitted shared n at no_shelf_filled keeps =
    keeps_run shelf inside book calls admitted.1 (left_by shared call) (hear_call n call (heard_of shared call)) (between_call call admitted.0 shared n at) no_shelf_filled.1 (by call admitted.0 no_shelf_filled.0)
  where
    by : (call : Call) → Admitted call → NotFilled shelf (heard_of shared call) → Keeps shelf book (left_by shared call)
    by (framed frame out) bytes not_filled = keeps
    by (loading ranks) right not_filled = keeps
    by (filling other lent) right not_filled = fill_keeps shared at.good.whole shelf inside book keeps other lent right not_filled
    by (coming_back other lent) right not_filled = keeps

same_call_lem : (shared : Shared) (call : Call) → (heard_of shared call).call ≡ call
same_call_lem shared (framed frame out) = refl
same_call_lem shared (loading ranks) = refl
same_call_lem shared (filling shelf lent) = refl
same_call_lem shared (coming_back shelf lent) = refl

between_run : {start : PlainState} (calls : List Call) → Every Admitted calls → (shared : Shared) (n : Notes) → Between start shared n → Between start (run_from shared calls).end (notes_from n (run_from shared calls).heard)
unfolding run_from notes_from
between_run [] admitted shared n at = at
between_run {start} (call ∷ calls) admitted shared n at =
    between_run calls admitted.1 (left_by shared call) (hear_call n (heard_of shared call).call (heard_of shared call))
    (subst (λ same. Between start (left_by shared call) (hear_call n same (heard_of shared call))) (sym (same_call_lem shared call)) (between_call call admitted.0 shared n at))

-- Two tables in which no ticket stands are the same.
same_tables : (one two : Tickets) → length one.slots ≡ team_count → length two.slots ≡ team_count → Emptied one → Emptied two
    → ((team : ℕ) → has_ticket (ticket_of one team).phase ≡ false) → ((team : ℕ) → has_ticket (ticket_of two team).phase ≡ false) → one ≡ two
same_tables one two first second empty_one empty_two none_one none_two i = record {
  slots = ext_get_or no_ticket one.slots two.slots (first ∙ sym second)
      (λ team inside. empty_one team (omega (arith, inside, first)) (none_one team) ∙ sym (empty_two team (omega (arith, inside, first)) (none_two team))) i;
}

-- A filling leaves the store as long as it was.
module _ (shared : Shared) (shelf : ℕ) (long : length shared.store ≡ words_in_store) where
  store_long : (lent : Lent) → length (left_by shared (filling shelf lent)).store ≡ words_in_store
  unfolding fill_of fill_refusal
  store_long (another store) = long
  store_long the_store = by (book_length_wrong shared.book) (store_length_wrong shared.store) (ticket_stands shared.tickets) (shelf_unknown shelf) refl refl
    where
      by : (book store stands unknown : Bool) → book_length_wrong shared.book ≡ book → shelf_unknown shelf ≡ unknown
          → length (filled_by (shelf_refusal book store stands unknown) shared.book shared.store shared.filled shelf).1 ≡ words_in_store
      by true store stands unknown is known = long
      by false true stands unknown is known = long
      by false false true unknown is known = long
      by false false false true is known = long
      by false false false false is known =
          length_with shared.store shared.book shelf long (eqb-true _ _ (not-false _ is)) (ltb-true shelf shelf_count (not-false _ known))

-- Where none comes back, calls are answered alike by books, tickets and ranks alone, whatever two stores keep.
calls_alike : (calls : List Call) → Every ComesNotBack calls → (one two : Shared) → one.book ≡ two.book → one.tickets ≡ two.tickets → one.ranks ≡ two.ranks
    → length one.store ≡ words_in_store → length two.store ≡ words_in_store → (run_from one calls).heard ≡ (run_from two calls).heard
unfolding run_from fill_of fill_refusal
calls_alike [] stays one two books tables same_ranks long_one long_two = refl
calls_alike (framed frame out ∷ calls) stays one two books tables same_ranks long_one long_two =
    let call = framed frame out in
    (λ i. record {
      call = call;
      returned = (call_of (books i) (tables i) (same_ranks i) frame out).0.written;
      output = (call_of (books i) (tables i) (same_ranks i) frame out).2;
    } ∷ (run_from (left_by one call) calls).heard)
    ∙ ap (λ rest. heard_of two call ∷ rest)
    (calls_alike calls stays.1 (left_by one call) (left_by two call) (λ i. (call_of (books i) (tables i) (same_ranks i) frame out).1) (λ i. (call_of (books i) (tables i) (same_ranks i) frame out).0.tickets) same_ranks long_one long_two)
calls_alike (loading ranks ∷ calls) stays one two books tables same_ranks long_one long_two =
    let call = loading ranks in
    (λ i. record { call = call; returned = number_of (load_of (books i) (tables i) (same_ranks i) ranks).0; output = [] } ∷ (run_from (left_by one call) calls).heard)
    ∙ ap (λ rest. heard_of two call ∷ rest)
    (calls_alike calls stays.1 (left_by one call) (left_by two call) books tables (λ i. (load_of (books i) (tables i) (same_ranks i) ranks).1) long_one long_two)
calls_alike (coming_back shelf lent ∷ calls) stays one two books tables same_ranks long_one long_two = absurd stays.0
calls_alike (filling shelf lent ∷ calls) stays one two books tables same_ranks long_one long_two =
    let call = filling shelf lent in
    (λ i. record { call = call; returned = same_number i; output = [] } ∷ (run_from (left_by one call) calls).heard)
    ∙ ap (λ rest. heard_of two call ∷ rest)
    (calls_alike calls stays.1 (left_by one call) (left_by two call) books tables same_ranks (store_long one shelf long_one lent) (store_long two shelf long_two lent))
  where
    stores : (lent : Lent) → store_length_wrong (lent_by one lent) ≡ store_length_wrong (lent_by two lent)
    stores the_store = ap (λ (k : ℕ). not (eqb k words_in_store)) (long_one ∙ sym long_two)
    stores (another store) = refl

    refusals : shelf_refusal (book_length_wrong one.book) (store_length_wrong (lent_by one lent)) (ticket_stands one.tickets) (shelf_unknown shelf)
        ≡ shelf_refusal (book_length_wrong two.book) (store_length_wrong (lent_by two lent)) (ticket_stands two.tickets) (shelf_unknown shelf)
    refusals i = shelf_refusal (book_length_wrong (books i)) (stores lent i) (ticket_stands (tables i)) (shelf_unknown shelf)

    same_number : (heard_of one (filling shelf lent)).returned ≡ (heard_of two (filling shelf lent)).returned
    same_number =
        fill_answers (fill_refusal one.book one.tickets (lent_by one lent) shelf) one.book (lent_by one lent) one.filled shelf
        ∙ ap (λ refusal. number_of (outcome_of refusal)) refusals
        ∙ sym (fill_answers (fill_refusal two.book two.tickets (lent_by two lent) shelf) two.book (lent_by two lent) two.filled shelf)

-- Filling and coming back, by their checks.
module _ (shared : Shared) (shelf : ℕ) where
  fill_went : Went shared (filling shelf the_store) → (store_length_wrong shared.store ≡ false) × (ticket_stands shared.tickets ≡ false) × (shelf_unknown shelf ≡ false)
      × ((left_by shared (filling shelf the_store)).store ≡ with_shelf shared.store shelf shared.book)
  unfolding fill_of fill_refusal
  fill_went went = by (book_length_wrong shared.book) (store_length_wrong shared.store) (ticket_stands shared.tickets) (shelf_unknown shelf) refl refl refl went
    where
      by : (book store stands unknown : Bool) → store_length_wrong shared.store ≡ store → ticket_stands shared.tickets ≡ stands → shelf_unknown shelf ≡ unknown
          → number_of (filled_by (shelf_refusal book store stands unknown) shared.book shared.store shared.filled shelf).0 ≡ 0
          → (store_length_wrong shared.store ≡ false) × (ticket_stands shared.tickets ≡ false) × (shelf_unknown shelf ≡ false)
          × ((filled_by (shelf_refusal book store stands unknown) shared.book shared.store shared.filled shelf).1 ≡ with_shelf shared.store shelf shared.book)
      by true store stands unknown s t u e = absurd (omega (arith, e))
      by false true stands unknown s t u e = absurd (omega (arith, e))
      by false false true unknown s t u e = absurd (omega (arith, e))
      by false false false true s t u e = absurd (omega (arith, e))
      by false false false false s t u e = (s, t, u, refl)

  back_went : Went shared (coming_back shelf the_store) → (ticket_stands shared.tickets ≡ false) × ((left_by shared (coming_back shelf the_store)).book ≡ shelf_of shared.store shelf)
  unfolding back_of back_refusal
  back_went went = by (book_length_wrong shared.book) (store_length_wrong shared.store) (ticket_stands shared.tickets) (never_filled shared.filled shelf) refl went
    where
      by : (book store stands never : Bool) → ticket_stands shared.tickets ≡ stands
          → number_of (back_by (shelf_refusal book store stands never) shared.book shared.store shelf).0 ≡ 0
          → (ticket_stands shared.tickets ≡ false) × ((back_by (shelf_refusal book store stands never) shared.book shared.store shelf).1 ≡ shelf_of shared.store shelf)
      by true store stands never t e = absurd (omega (arith, e))
      by false true stands never t e = absurd (omega (arith, e))
      by false false true never t e = absurd (omega (arith, e))
      by false false false true t e = absurd (omega (arith, e))
      by false false false false t e = (t, refl)

fresh_empty : Emptied fresh_tickets
fresh_empty team inside none_stands = get_or-replicate {A = Ticket} team_count team no_ticket no_ticket inside

pub coming_back_returns : ComingBackReturns
coming_back_returns store before between shelf first second filled_there no_shelf_filled back_here =
    let start : Between fresh_state (fresh store) no_notes = record { table = fresh_table; good = fresh_good store; empty = fresh_empty } in
    let until = (run store before).end in
    let at_until = between_run before first (fresh store) no_notes start in
    let call = filling shelf the_store in
    let there = left_by until call in
    let at_there = between_call call tt until (notes_from no_notes (run store before).heard) at_until in
    let here = (run_from there between).end in
    let at_here = between_run between second there (hear_call (notes_from no_notes (run store before).heard) call (heard_of until call)) at_there in
    let after = left_by here (coming_back shelf the_store) in
    let (right_store, none_there, known, Store-is) = fill_went until shelf filled_there in
    let (none_here, book_is) = back_went here shelf back_here in
    let long : length until.store ≡ words_in_store = eqb-true _ _ (not-false _ right_store) in
    let inside : shelf < shelf_count = ltb-true shelf shelf_count (not-false _ known) in
    let kept = shelves_keep_apart until.store until.book shelf long at_until.good.whole inside in
    let keeps_there : Keeps shelf until.book there =
    (ap length Store-is ∙ kept.long, λ word below. ap (λ (store : Words). read_of (shelf_of store shelf) word) Store-is ∙ ap (λ (book : Words). read_of book word) kept.mine) in
    let Keeps-here = keeps_run shelf inside until.book between second there (hear_call (notes_from no_notes (run store before).heard) call (heard_of until call)) at_there no_shelf_filled keeps_there in
    let whole_shelf = length_shelf here.store shelf Keeps-here.0 inside in
    let same_book : after.book ≡ there.book =
    book_is ∙ ext_get_or 0 (shelf_of here.store shelf) until.book (whole_shelf ∙ sym at_until.good.whole) (λ word below. Keeps-here.1 word (omega (arith, below, whole_shelf))) in
    let same_tickets : here.tickets ≡ there.tickets =
    same_tables here.tickets there.tickets at_here.table.teams at_there.table.teams at_here.empty at_there.empty
    (no_ticket_lem here.tickets at_here.table.teams none_here) (no_ticket_lem there.tickets at_there.table.teams none_there) in
    let same_state : after ≡ returned_to there here = λ i. record { book = same_book i; tickets = same_tickets i; ranks = here.ranks; store = here.store; filled = here.filled } in
    record {
      state = same_state;
      alike = λ later. ap (λ shared. run_from shared later) same_state;
      alike_there = λ later stays. calls_alike later stays after (under_ranks there here.ranks) same_book same_tickets refl Keeps-here.0 keeps_there.0;
    }
