-- Request 12, "States from before an expedition": shelves of a lent store, filled and come back to by calls without a frame.
use Rattle.std.specs.Prelude.{ℕ, ◌*◌, List, [], ◌∷◌, ◌++◌, Bool, true, false, not, eqb, ltb, length, get_or, set, take, drop}
use Rattle.std.proofs.Math.Option.{Option, none, some}
use Rattle.words.specs.Tests.{some_holds}
use Rattle.words.specs.Words.{Words, words_in_book, shelf_count, words_in_store}
use Rattle.tickets.specs.Tickets.{Tickets}
use Rattle.calls.specs.Outcomes.{Outcome}
use Rattle.calls.specs.Call.{check, first_of, book_length_wrong}
use Rattle.calls.specs.Outcomes.{outcome_of, ticket_stands}

-- A shelf keeps a book: the words of the store from here on.
abbrev pub shelf_at : ℕ → ℕ
shelf_at shelf = words_in_book * shelf

abbrev pub shelf_of : Words → ℕ → Words
shelf_of store shelf = take words_in_book (drop (shelf_at shelf) store)

-- The store with a book on one shelf: "other shelves remain".
abbrev pub with_shelf : Words → ℕ → Words → Words
with_shelf store shelf book = take (shelf_at shelf) store ++ (book ++ drop words_in_book (drop (shelf_at shelf) store))

-- Which shelves are filled; at first none.
abbrev pub Filled : Type 0
Filled = List Bool

abbrev pub none_filled : Filled
none_filled = false ∷ false ∷ false ∷ []

abbrev pub is_filled : Filled → ℕ → Bool
is_filled filled shelf = get_or filled shelf false

-- 19. Store of another length.
abbrev pub store_length_wrong : Words → Bool
store_length_wrong store = not (eqb (length store) words_in_store)

-- 20. Shelf above 2, or come back to but never filled.
abbrev pub shelf_unknown : ℕ → Bool
shelf_unknown shelf = not (ltb shelf shelf_count)

abbrev pub never_filled : Filled → ℕ → Bool
never_filled filled shelf = some_holds (shelf_unknown shelf ∷ not (is_filled filled shelf) ∷ [])

-- The checks of both calls, in order: 1; "19, store of another length, after 1 and before 14; 20 .. after 14".
abbrev pub shelf_refusal : (book_wrong store_wrong stands shelf_wrong : Bool) → Option ℕ
shelf_refusal book_wrong store_wrong stands shelf_wrong = first_of (check 1 book_wrong ∷ check 19 store_wrong ∷ check 14 stands ∷ check 20 shelf_wrong ∷ [])

unfoldable pub fill_refusal : Words → Tickets → Words → ℕ → Option ℕ
fill_refusal words tickets store shelf = shelf_refusal (book_length_wrong words) (store_length_wrong store) (ticket_stands tickets) (shelf_unknown shelf)

unfoldable pub back_refusal : Words → Tickets → Words → Filled → ℕ → Option ℕ
back_refusal words tickets store filled shelf = shelf_refusal (book_length_wrong words) (store_length_wrong store) (ticket_stands tickets) (never_filled filled shelf)

-- Filling: what it returns, the store and which shelves are filled. "Filling one again replaces what it kept." It writes no word of the book. A refused
-- call changes nothing and returns its number.
abbrev pub filled_by : Option ℕ → Words → Words → Filled → ℕ → Outcome × Words × Filled
filled_by none words store filled shelf = (outcome_of none, with_shelf store shelf words, set filled shelf true)
filled_by (some refusal) words store filled shelf = (outcome_of (some refusal), store, filled)

unfoldable pub fill_of : Words → Tickets → Words → Filled → ℕ → Outcome × Words × Filled
fill_of words tickets store filled shelf = filled_by (fill_refusal words tickets store shelf) words store filled shelf

-- Coming back: what it returns, and the book: "every word as kept". It writes neither the store nor which shelves are filled.
abbrev pub back_by : Option ℕ → Words → Words → ℕ → Outcome × Words
back_by none words store shelf = (outcome_of none, shelf_of store shelf)
back_by (some refusal) words store shelf = (outcome_of (some refusal), words)

unfoldable pub back_of : Words → Tickets → Words → Filled → ℕ → Outcome × Words
back_of words tickets store filled shelf = back_by (back_refusal words tickets store filled shelf) words store shelf
