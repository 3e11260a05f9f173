-- The plain book that stands in a book's words: the legs along the links of each passage.
use Rattle.std.specs.Prelude.{ℕ, zero, suc, List, [], ◌∷◌}
use Rattle.words.specs.declared.LegLayout.{LegLayout}
use Rattle.words.specs.Words.{Words, passage_count, newest_word, count_word, link_word_in, place_word_in, measure_word_in, read_of}
use Rattle.legs.specs.Reading.{stations_in, measure_in}
use Rattle.plain.specs.Plain.{Plain, NumberedLeg}

-- The leg that stands in the words of a number.
abbrev pub leg_at : LegLayout → Words → ℕ → NumberedLeg
leg_at layout words leg = record {
  number = leg;
  stations = stations_in (read_of words (place_word_in layout leg));
  measure = measure_in (read_of words (measure_word_in layout leg));
}

-- So many legs along the links, from one on.
abbrev pub legs_along : LegLayout → Words → ℕ → ℕ → List NumberedLeg
legs_along layout words zero leg = []
legs_along layout words (suc n) leg = leg_at layout words leg ∷ legs_along layout words n (read_of words (link_word_in layout leg))

-- The list of a passage: as many legs as its count says, from its newest on.
abbrev pub list_in : LegLayout → Words → ℕ → List NumberedLeg
list_in layout words p = legs_along layout words (read_of words (count_word p)) (read_of words (newest_word p))

-- The lists of so many passages, from one on.
unfoldable pub lists_from : (ℕ → List NumberedLeg) → ℕ → ℕ → Plain
lists_from lists p zero = []
lists_from lists p (suc n) = lists p ∷ lists_from lists (suc p) n

-- The lists of all passages.
unfoldable pub plain_in : LegLayout → Words → Plain
plain_in layout words = lists_from (list_in layout words) 0 passage_count
