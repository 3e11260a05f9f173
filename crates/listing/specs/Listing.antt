-- How the list of a station is written: words put one after another, each part where the one before it ended.
use Rattle.std.specs.Prelude.{ℕ, ◌+◌, List, [], map, cond, eqb, length, get_or, drop}
use Rattle.std.proofs.lemmas.List.Edits.{sets}
use Rattle.words.specs.Words.{Words}
use Rattle.meeting.specs.Meeting.{Pair, pair}
use Rattle.stations.specs.Counting.{present_from}

-- The pairs in which a passage is the lower one.
abbrev pub pairs_with : List ℕ → ℕ → List Pair
pairs_with counts lower = cond (eqb (get_or counts lower 0) 0) [] (map (pair lower) (present_from (lower + 1) (drop (lower + 1) counts)))

-- Words put at a place of the output, and the place behind them.
abbrev pub wrote : Words → ℕ → Words → ℕ × Words
wrote out at words = (at + length words, sets out at words)
