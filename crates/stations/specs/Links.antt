-- The numbers along the links of a book.
use Rattle.std.specs.Prelude.{ℕ, zero, suc, ◌≤◌}
use Rattle.words.specs.Words.{Words, last_leg, link_word, read_of}

-- A number is a leg's.
abbrev pub IsLeg : ℕ → Type 0
IsLeg number = (1 ≤ number) × (number ≤ last_leg)

-- The leg so many links behind a leg.
abbrev pub leg_after : Words → ℕ → ℕ → ℕ
leg_after words leg zero = leg
leg_after words leg (suc k) = leg_after words (read_of words (link_word leg)) k
