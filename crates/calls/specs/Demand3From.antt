-- Demand 3 from any sound start, as a carried book is one: a fresh book is the first of them.
use Rattle.std.specs.Prelude.{ℕ, ◌<◌, ◌≡◌, List, false, length}
use Rattle.words.specs.Tests.{Every}
use Rattle.words.specs.Words.{words_in_book, read_of}
use Rattle.legs.specs.Positions.{Accepted}
use Rattle.plain.specs.Plain.{Plain, word_of, Sound}
use Rattle.calls.specs.Outcomes.{ticket_stands}
use Rattle.calls.specs.Shelves.{none_filled}
use Rattle.calls.specs.Run.{Call, Admitted, Shared, run_from}
use Rattle.calls.specs.Order.{first_notes}
use Rattle.calls.specs.Linearizable.{start_of, LinearizableFrom}
use Rattle.calls.specs.Demand1.{TableFits}

-- A run may begin here, with this plain book: a whole book whose words are those of a sound plain book, a table as the code has it in which no ticket stands, accepted ranks,
-- and no shelf filled, whatever the store holds.
pub record Begins (shared : Shared) (plain : Plain) : Type 0 where
  pub whole : length shared.book ≡ words_in_book
  pub fits : TableFits shared.tickets
  pub none_stands : ticket_stands shared.tickets ≡ false
  pub sound : Sound plain
  pub words : (word : ℕ) → word < words_in_book → read_of shared.book word ≡ word_of plain word
  pub ranked : Accepted shared.ranks
  pub no_shelf_filled : shared.filled ≡ none_filled

-- Statement: from wherever a run may begin, the claim holds of every list of calls, for a bystander who knows the ranks of the start. The counts add up from the start's legs: before
-- a coming back `counts_add_up` says that the legs and the granted strikes are as many as the legs of the start and the granted adds.
abbrev pub Demand3From : Type 0
Demand3From =
    (shared : Shared) (plain : Plain) → Begins shared plain
    → (calls : List Call) → Every Admitted calls
    → LinearizableFrom (start_of plain) (first_notes shared.ranks) (run_from shared calls)
