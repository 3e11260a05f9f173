-- Request 10: "An old book is carried over into a second lent one when no ticket stands".
use Rattle.std.specs.Prelude.{ℕ, zero, suc, ◌+◌, ◌≡◌, List, [], ◌∷◌, Bool, true, false, cond, not, ◌↔◌, ◌⊎◌, ◌≢◌, ltb, length, Ok, Err}
use Rattle.std.proofs.Math.Option.{Option, none, some}
use Rattle.words.specs.Tests.{some_holds}
use Rattle.words.specs.declared.LegLayout.{LegLayout}
use Rattle.words.specs.declared.LegLayout.TheVariants.{ThreeWords, FourWords}
use Rattle.words.specs.Words.{Words, words_in_book, last_leg}
use Rattle.tickets.specs.Tickets.{Tickets}
use Rattle.legs.specs.Positions.{Ranks, Accepted}
use Rattle.plain.specs.Plain.{Plain, NumberedLeg, word_in, SoundIn, Sound}
use Rattle.calls.specs.Outcomes.{Outcome}
use Rattle.calls.specs.Call.{Check, check, first_of, book_length_wrong}
use Rattle.calls.specs.Outcomes.{outcome_of, ticket_stands}
use Rattle.calls.specs.Shelves.{none_filled}
use Rattle.calls.specs.Run.{Shared}
use Rattle.calls.specs.Demand1.{TableFits}
use Rattle.calls.specs.Demand3From.{Begins}
use Rattle.soundness.specs.Checking.{is_sound_in}
use Rattle.soundness.specs.InWords.{plain_in}
use Rattle.soundness.specs.Soundness.{WordsOf, OfSomePlainBook}

-- 1. "1 covers both."
abbrev pub either_length_wrong : Words → Words → Bool
either_length_wrong old second = some_holds (book_length_wrong old ∷ book_length_wrong second ∷ [])

-- A list has a leg above 1,008.
abbrev pub above_in : List NumberedLeg → Bool
above_in [] = false
above_in (leg ∷ older) = cond (ltb last_leg leg.number) true (above_in older)

-- 16. "A leg above 1,008 is in use": it is in a list of the book.
unfoldable pub leg_above : Plain → Bool
leg_above [] = false
leg_above (legs ∷ others) = cond (above_in legs) true (leg_above others)

-- "Checks: 15, the old book isn't sound in its own layout, after 14; 16, a leg above 1,008 is in use, after 15."
unfoldable pub carry_checks : Words → Words → Tickets → List Check
carry_checks old second tickets =
    check 1 (either_length_wrong old second)
    ∷ check 14 (ticket_stands tickets)
    ∷ check 15 (not (is_sound_in ThreeWords old))
    ∷ check 16 (leg_above (plain_in ThreeWords old))
    ∷ []

unfoldable pub carry_refusal : Words → Words → Tickets → Option ℕ
carry_refusal old second tickets = first_of (carry_checks old second tickets)

-- So many words by a function, from one on.
unfoldable pub words_from : (ℕ → ℕ) → ℕ → ℕ → Words
words_from word at zero = []
words_from word at (suc n) = word at ∷ words_from word (at + 1) n

-- The words of a plain book in a layout, as a book.
unfoldable pub laid_out : LegLayout → Plain → Words
laid_out layout plain = words_from (word_in layout plain) 0 words_in_book

-- "After it the second is the four-word layout of the same lists."
unfoldable pub carried : Words → Words
carried old = laid_out FourWords (plain_in ThreeWords old)

-- What a carry-over returns, and the second book after it; "a refusal leaves both". It writes neither the old book nor a ticket.
abbrev pub carried_by : Option ℕ → Words → Words → Outcome × Words
carried_by none old second = (outcome_of none, carried old)
carried_by (some refusal) old second = (outcome_of (some refusal), second)

unfoldable pub carry_of : Words → Words → Tickets → Outcome × Words
carry_of old second tickets = carried_by (carry_refusal old second tickets) old second

-- Statement: whichever plain book the old words are of, with no leg above 1,008, what is carried over is its four-word layout, and it keeps the rules of that layout.
abbrev pub CarriesTheLists : Type 0
CarriesTheLists =
    (old : Words) (plain : Plain) → SoundIn ThreeWords plain → WordsOf ThreeWords old plain → leg_above plain ≡ false
    → Sound plain × (length (carried old) ≡ words_in_book) × WordsOf FourWords (carried old) plain

-- Statement: so a plain book laid out in three words is carried over as it is laid out in four.
abbrev pub CarriesLaidOutBooks : Type 0
CarriesLaidOutBooks = (plain : Plain) → SoundIn ThreeWords plain → carried (laid_out ThreeWords plain) ≡ laid_out FourWords plain

-- Both books have 4,096 words.
abbrev pub BothWhole : Words → Words → Type 0
BothWhole old second = (length old ≡ words_in_book) × (length second ≡ words_in_book)

-- Both have, and no ticket stands.
abbrev pub Ready : Words → Words → Tickets → Type 0
Ready old second tickets = BothWhole old second × (ticket_stands tickets ≡ false)

-- The old words are those of a plain book that has a leg above 1,008, or has none, by the test.
abbrev pub OfBookWith : Bool → Words → Type 0
OfBookWith above old = (plain : Plain) × SoundIn ThreeWords plain × WordsOf ThreeWords old plain × (leg_above plain ≡ above)

-- What a carry-over answers, each answer exactly when it is due; a refused one leaves the second book.
pub record CarryAnswered (old second : Words) (tickets : Tickets) : Type 0 where
  pub wrong_length : ((carry_of old second tickets).0 ≡ Err 1) ↔ ((length old ≢ words_in_book) ⊎ (length second ≢ words_in_book))
  pub a_ticket_stands : ((carry_of old second tickets).0 ≡ Err 14) ↔ (BothWhole old second × (ticket_stands tickets ≡ true))
  pub unsound : ((carry_of old second tickets).0 ≡ Err 15) ↔ (Ready old second tickets × ¬ OfSomePlainBook ThreeWords old)
  pub a_leg_above : ((carry_of old second tickets).0 ≡ Err 16) ↔ (Ready old second tickets × OfBookWith true old)
  pub done : ((carry_of old second tickets).0 ≡ Ok tt) ↔ (Ready old second tickets × OfBookWith false old)
  pub kept : (refusal : ℕ) → (carry_of old second tickets).0 ≡ Err refusal → (carry_of old second tickets).1 ≡ second
  pub written : (carry_of old second tickets).0 ≡ Ok tt → (carry_of old second tickets).1 ≡ carried old

-- Statement: so it is of any words and any tickets.
abbrev pub CarryAnswers : Type 0
CarryAnswers = (old second : Words) (tickets : Tickets) → CarryAnswered old second tickets

-- What a carry-over that goes leaves: the second book has 4,096 words, and they are the four-word layout of lists that the old book has in three words, and that keep the rules of both.
pub record ListsCarried (old after : Words) : Type 0 where
  pub lists : Plain
  pub there : SoundIn ThreeWords lists
  pub old_words : WordsOf ThreeWords old lists
  pub here : Sound lists
  pub whole : length after ≡ words_in_book
  pub words : WordsOf FourWords after lists

-- Statement: "after it the second is the four-word layout of the same lists".
abbrev pub DoneCarriesTheLists : Type 0
DoneCarriesTheLists = (old second : Words) (tickets : Tickets) → (carry_of old second tickets).0 ≡ Ok tt → ListsCarried old (carry_of old second tickets).1

-- What the calls share that go on from a book, with no shelf filled: one that was filled before keeps the old layout.
abbrev pub going_on : (book : Words) (tickets : Tickets) (ranks : Ranks) (store : Words) → Shared
going_on book tickets ranks store = record { book = book; tickets = tickets; ranks = ranks; store = store; filled = none_filled }

-- Statement: where a carry-over is done, a run may begin from the second book, with the plain book of the old words: with any table as the code has it in which no ticket stands, any
-- accepted ranks and any store. So demand 3 holds from there (`Demand3From`).
abbrev pub CarriedBooksGoOn : Type 0
CarriedBooksGoOn =
    (old second : Words) (tickets : Tickets) → (carry_of old second tickets).0 ≡ Ok tt
    → (table : Tickets) → TableFits table → ticket_stands table ≡ false
    → (ranks : Ranks) → Accepted ranks
    → (store : Words) → Begins (going_on (carry_of old second tickets).1 table ranks store) (plain_in ThreeWords old)
