-- Shelves: filled, come back to, filled again; other shelves remain; the counts since; the checks in their order; and runs of wrong programs.
use Prim.Native.Nat.{ℕ}
use native.Mathlib.Omega.{arith}
use mathlib.Core.Path.{◌≡◌, refl}
use mathlib.Core.Bool.{true, false, false≢true}
use mathlib.Core.List.{List, [], ◌∷◌, ◌++◌, map}
use mathlib.Core.Option.{none, some}
use lib.ListN.{get_or, take, replicate}
use Rattle.words.specs.Words.{Words, words_in_book, words_in_store}
use Rattle.legs.specs.Positions.{fixed_ranks}
use Rattle.tickets.specs.Tickets.{Tickets, fresh_tickets, with_ticket, stands_below}
use Rattle.tickets.specs.declared.StepAnswer.{StepAnswer}
use Rattle.tickets.specs.declared.StepAnswer.TheVariants.{Claimed, Put, Granted}
use Rattle.edits.specs.declared.Edit.{Edit}
use Rattle.edits.specs.declared.Edit.TheVariants.{Add}
use Rattle.edits.specs.Opened.{opened_ticket}
use Rattle.frames.specs.Request.{Open, Step, Look}
use Rattle.frames.specs.declared.Answer.TheVariants as Answer
use Rattle.plain.specs.Plain.{legs_in_book}
use Rattle.plain.specs.Editing.{adds_in}
use Rattle.calls.specs.Shelves.{Filled, none_filled, fill_refusal, back_refusal, fill_of, back_of}
use Rattle.calls.specs.Run.{Call, filling, coming_back, the_store, another, fresh, Heard, Run, run}
use Rattle.calls.specs.Order.{Event, granted, decided, looked, filled, came_back, notes_on}
use Rattle.calls.specs.Linearizable.{Linearizable, play, heard_on, order_of, plain_after, book_after, granted_of, until_back, since_back}
use Rattle.calls.specs.Returning.{is_come_back_to, without_idle_fillings}
use Rattle.calls.specs.Bench.{stations, that_measure, first_leg}
use Rattle.calls.proofs.ExampleCalls.{every_run, calls, steps, heard_as, leg}

unfoldable every_shelf : Unit {0}
unfolding every_run stands_below fill_refusal back_refusal fill_of back_of is_come_back_to without_idle_fillings
every_shelf = tt

abbrev store : Words
store = replicate words_in_store 7

abbrev first : Edit
first = first_leg 1 0 that_measure

abbrev second : Edit
second = Add (record { passage = 0; leg = 2; newest = 1; count = 1; stations = stations; measure = that_measure })

-- The numbers that were returned, at some places of a list of calls.
abbrev returned_at : List Call → List ℕ → List ℕ
returned_at list places = map (λ (k : ℕ). get_or (map (λ one. one.returned) (heard_on store list)) k 99) places

-- Leg 1 is added and kept on shelf 1; leg 2 is added and kept on shelf 0; coming back to shelf 1, leg 2 can be added once more.
abbrev list : List Call
list =
    coming_back 1 the_store ∷ calls (Open 0 first ∷ []) ++ (filling 1 the_store ∷ calls (steps 10 0))
    ++ (filling 1 the_store ∷ filling 3 the_store ∷ filling 1 (another []) ∷ calls (Open 0 second ∷ steps 12 0))
    ++ (filling 0 the_store ∷ coming_back 2 the_store ∷ coming_back 1 the_store ∷ calls (Look 0 ∷ Open 5 second ∷ steps 12 5))
    ++ (coming_back 0 the_store ∷ calls (Look 0 ∷ []))

fill_numbers : returned_at list (0 ∷ 2 ∷ 13 ∷ 14 ∷ 15 ∷ 29 ∷ 30 ∷ 31 ∷ 46 ∷ []) ≡ 20 ∷ 14 ∷ 0 ∷ 20 ∷ 19 ∷ 0 ∷ 20 ∷ 0 ∷ 0 ∷ []
unfolding every_shelf
fill_numbers = refl

abbrev events : List Event
events =
    decided granted first ∷ filled 1 ∷ decided granted second ∷ filled 0 ∷ came_back 1 ∷ looked 0 1 ∷ decided granted second ∷ came_back 0 ∷ looked 0 2 ∷ []

shelf_order : order_of store list ≡ events
unfolding every_shelf
shelf_order = refl

in_turn : (notes_on (heard_on store list)).out_of_turn ≡ 0
unfolding every_shelf
in_turn = refl

-- After coming back to shelf 1, and at the end.
back_plain : play (take 5 events) ≡ (leg 1 that_measure ∷ []) ∷ replicate 31 []
unfolding every_shelf
back_plain = refl

end_plain : plain_after store list ≡ (leg 2 that_measure ∷ leg 1 that_measure ∷ []) ∷ replicate 31 []
unfolding every_shelf
end_plain = refl

-- The counts: up to the last coming back one leg was kept, and since then one was added.
counts : legs_in_book (play (until_back (take 7 events))) ∷ granted_of adds_in (since_back (take 7 events)) ∷ legs_in_book (play (take 7 events)) ∷ [] ≡ 1 ∷ 1 ∷ 2 ∷ []
unfolding every_shelf
counts = refl

book_words : take 2 (book_after store list) ≡ 2 ∷ 2 ∷ []
unfolding every_shelf
book_words = refl

flags : (run store list).end.filled ≡ true ∷ true ∷ false ∷ []
unfolding every_shelf
flags = refl

-- Filled again, a shelf keeps the later book; it can be come back to twice.
abbrev again : List Call
again =
    filling 2 the_store ∷ calls (Open 0 first ∷ steps 10 0) ++ (filling 2 the_store ∷ calls (Open 0 second ∷ steps 12 0))
    ++ (coming_back 2 the_store ∷ calls (Look 0 ∷ [])) ++ (coming_back 2 the_store ∷ calls (Look 0 ∷ []))

again_order : order_of store again
    ≡ filled 2 ∷ decided granted first ∷ filled 2 ∷ decided granted second ∷ came_back 2 ∷ looked 0 1 ∷ came_back 2 ∷ looked 0 1 ∷ []
unfolding every_shelf
again_order = refl

again_plain : plain_after store again ≡ (leg 1 that_measure ∷ []) ∷ replicate 31 []
unfolding every_shelf
again_plain = refl

again_words : take 2 (book_after store again) ≡ 1 ∷ 1 ∷ []
unfolding every_shelf
again_words = refl

-- The fillings that none comes back to afterwards: that of shelf 0, and the second of shelf 2.
abbrev idle : List Event
idle = filled 0 ∷ decided granted first ∷ filled 2 ∷ came_back 2 ∷ filled 2 ∷ filled 1 ∷ decided granted second ∷ came_back 1 ∷ []

idle_left_out : without_idle_fillings idle ≡ decided granted first ∷ filled 2 ∷ came_back 2 ∷ filled 1 ∷ decided granted second ∷ came_back 1 ∷ []
unfolding every_shelf
idle_left_out = refl

-- The checks of both calls in their order, two and more applying at once: a book and a store of another length, a ticket of the last team, and a shelf above 2 or never filled.
abbrev zeros : Words
zeros = replicate words_in_book 0

abbrev standing : Tickets
standing = with_ticket fresh_tickets 15 (opened_ticket fixed_ranks first)

abbrev only_first : Filled
only_first = true ∷ false ∷ false ∷ []

fill_refusals : fill_refusal [] standing [] 3 ∷ fill_refusal zeros standing [] 3 ∷ fill_refusal zeros standing store 3 ∷ fill_refusal zeros fresh_tickets store 3 ∷ fill_refusal zeros fresh_tickets store 2 ∷ []
    ≡ some 1 ∷ some 19 ∷ some 14 ∷ some 20 ∷ none ∷ []
unfolding every_shelf
fill_refusals = refl

back_refusals :
    back_refusal [] standing [] only_first 1
    ∷ back_refusal zeros standing [] only_first 1
    ∷ back_refusal zeros standing store only_first 1
    ∷ back_refusal zeros fresh_tickets store only_first 1
    ∷ back_refusal zeros fresh_tickets store only_first 3
    ∷ back_refusal zeros fresh_tickets store only_first 0
    ∷ []
    ≡ some 1 ∷ some 19 ∷ some 14 ∷ some 20 ∷ some 20 ∷ none ∷ []
unfolding every_shelf
back_refusals = refl

-- A refused call changes nothing, and has no place: a shelf above 2, one that was never filled, and another store.
abbrev refused : List Call
refused = filling 3 the_store ∷ coming_back 0 the_store ∷ coming_back 3 the_store ∷ filling 0 (another zeros) ∷ coming_back 0 (another []) ∷ []

refused_numbers : returned_at refused (0 ∷ 1 ∷ 2 ∷ 3 ∷ 4 ∷ []) ≡ 20 ∷ 20 ∷ 20 ∷ 19 ∷ 19 ∷ []
unfolding every_shelf
refused_numbers = refl

refused_end : (run store refused).end ≡ fresh store
unfolding every_shelf
refused_end = refl

refused_order : order_of store refused ≡ []
unfolding every_shelf
refused_order = refl

-- A filling and a coming back that went, heard.
abbrev fill_heard : Heard
fill_heard = record { call = filling 0 the_store; returned = 0; output = [] }

abbrev back_heard : Heard
back_heard = record { call = coming_back 0 the_store; returned = 0; output = [] }

-- Runs of wrong programs, for which demand 3 does not hold: shelf 0 of a fresh book is filled, and this store and these flags are left.
abbrev left : Words → Filled → Run
left kept flags = record {
  end = record { book = replicate words_in_book 0; tickets = fresh_tickets; ranks = fixed_ranks; store = kept; filled = flags };
  heard = fill_heard ∷ [];
}

-- One that keeps nothing.
keeps_nothing : Linearizable (left store (true ∷ false ∷ false ∷ [])) → ⊥
unfolding every_shelf
keeps_nothing right = let shown : ◌≡◌ {A = ℕ} 7 0 = right.shelves_agree [] [] 0 0 refl refl (omega arith) in omega arith

-- One that forgets that it was filled.
forgets_filling : Linearizable (left (replicate words_in_store 0) none_filled) → ⊥
unfolding every_shelf
forgets_filling right = false≢true (right.filled_heard 0)

-- One that comes back to a shelf that was never filled. (Such a coming back is not written into the order, so that it is out of turn.)
back_unfilled : Linearizable (record { end = fresh store; heard = back_heard ∷ [] }) → ⊥
unfolding every_shelf
back_unfilled right = let counted : ◌≡◌ {A = ℕ} 1 0 = right.in_turn in omega arith

-- One that fills a shelf of a fresh book and comes back to another book.
back_elsewhere : Linearizable (record { end = record { book = 7 ∷ replicate 4095 0; tickets = fresh_tickets; ranks = fixed_ranks; store = replicate words_in_store 0; filled = only_first }; heard = fill_heard ∷ back_heard ∷ [] }) → ⊥
unfolding every_shelf
back_elsewhere right = let shown : ◌≡◌ {A = ℕ} 7 0 = right.words_agree 0 (omega arith) (λ team held. false≢true held) in omega arith

-- One that comes back to the fresh book of the filling, and grants an add behind a leg that was added in between: the counts sum to none, and one add was granted since.
abbrev step_heard : StepAnswer → Heard
step_heard answer = heard_as (Step 0) (Answer.Step answer)

abbrev claims : List Heard
claims = step_heard (Claimed 1) ∷ step_heard (Claimed 2) ∷ step_heard (Claimed 3) ∷ step_heard (Claimed 4) ∷ step_heard (Claimed 5) ∷ []

abbrev puts : List Heard
puts = step_heard (Put 1) ∷ step_heard (Put 2) ∷ step_heard (Put 3) ∷ step_heard (Put 4) ∷ step_heard (Granted 10) ∷ []

keeps_adds : Linearizable (record {
  end = fresh store;
  heard = fill_heard ∷ heard_as (Open 0 first) (Answer.Standing 5) ∷ claims ++ puts ++ (back_heard ∷ heard_as (Open 0 second) (Answer.Standing 6) ∷ claims ++ (step_heard (Claimed 6) ∷ []));
}) → ⊥
unfolding every_shelf
keeps_adds right = let counted : ◌≡◌ {A = ℕ} 0 1 = right.counts_add_up in omega arith
