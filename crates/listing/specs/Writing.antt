-- What is put in an output, from its place on.
use Rattle.std.specs.Prelude.{◌≡◌, ◌+◌, ◌≤◌, length}
use Rattle.words.specs.Words.{Words}
use Rattle.listing.specs.declared.Output.{Output}
use Rattle.listing.specs.Listing.{wrote}

-- There is room for words,
abbrev pub HasRoom : Output → Words → Type 0
HasRoom out words = out.at + length words ≤ length out.words.now

-- and they are put: the place is the one behind them, and the output is the one that was lent.
abbrev pub HasWritten : Output → Words → Output → Type 0
HasWritten before words after = ((after.at, after.words.now) ≡ wrote before.words.now before.at words) × (after.words.ghost_name ≡ before.words.ghost_name)
