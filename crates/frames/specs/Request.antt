-- What a frame asks for.
use Rattle.std.specs.Prelude.{ℕ, List}
use Rattle.edits.specs.declared.Edit.{Edit}

-- An edit or a step of a team, a look at a word, or a view of a team: the n that it says, and the words that it names.
pub data Request : Type 0 where
  Open : (team : ℕ) → Edit → Request
  Step : (team : ℕ) → Request
  Look : (word : ℕ) → Request
  View : (team n : ℕ) → (words : List ℕ) → Request
