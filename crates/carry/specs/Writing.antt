-- How the second book is written: every word from the old one, the fourth of each leg 0, and then the newer words, by the links.
use Rattle.std.specs.Prelude.{ℕ, zero, suc, ◌+◌, ◌-◌, ◌/◌, ◌%◌, ◌≤◌, cond, eqb, ltb, set}
use Rattle.words.specs.declared.LegLayout.TheVariants.{ThreeWords, FourWords}
use Rattle.words.specs.Words.{Words, last_leg, first_leg_word, leg_words, link_word_in, newer_word, read_of}

-- Which of its leg's words a word of the new layout is, counted from 0.
abbrev pub index_in_leg : ℕ → ℕ
index_in_leg word = (word - first_leg_word) % leg_words FourWords

-- The leg whose word it is.
abbrev pub leg_of_word : ℕ → ℕ
leg_of_word word = (word - first_leg_word) / leg_words FourWords + 1

-- A word of the second book from the old one: a passage's as it was, a leg's moved, its fourth 0.
abbrev pub moved_word : Words → ℕ → ℕ
moved_word old word =
    cond (ltb word first_leg_word) (read_of old word)
    (cond (eqb (index_in_leg word) (leg_words ThreeWords)) 0
    (read_of old (link_word_in ThreeWords (leg_of_word word) + index_in_leg word)))

-- The leg that a leg links to gets it as its newer one.
abbrev pub with_newer : Words → ℕ → ℕ → Words
with_newer words older leg = cond (eqb older 0) words (set words (newer_word older) leg)

-- So it is done for legs 1 to n, by the old book's links.
unfoldable pub newers_set : Words → ℕ → Words → Words
newers_set old zero words = words
newers_set old (suc n) words = with_newer (newers_set old n words) (read_of old (link_word_in ThreeWords (suc n))) (suc n)

-- No link of the legs that the new layout has names another leg than one of these.
abbrev pub LinksFit : Words → Type 0
LinksFit old = (leg : ℕ) → 1 ≤ leg → leg ≤ last_leg → read_of old (link_word_in ThreeWords leg) ≤ last_leg
