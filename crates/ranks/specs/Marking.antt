-- The marks that one pass over some ranks sets.
use Rattle.std.specs.Prelude.{ℕ, ◌<◌, ◌≡◌, Bool, false, List, get_or}
use Rattle.words.specs.Tests.{occurs}
use Rattle.words.specs.Words.{passage_count}
use Rattle.legs.specs.Positions.{Ranks}

-- Of each number 0 to 31 the mark says whether it is among the ranks.
abbrev pub MarksOf : List Bool → Ranks → Type 0
MarksOf found ranks = (number : ℕ) → number < passage_count → get_or found number false ≡ occurs number ranks
