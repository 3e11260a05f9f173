-- "Words of the book": the limits, values and marks, the layout, the read and the conditional swap.
use Rattle.std.specs.Prelude.{ℕ, ◌+◌, ◌*◌, ◌-◌, ◌^◌, List, Bool, cond, get_or, set, eqb, ltb, leb}
use Rattle.words.specs.declared.LegLayout.{LegLayout}
use Rattle.words.specs.declared.LegLayout.TheVariants.{ThreeWords, FourWords}

-- A book's words, lent by the caller.
abbrev pub Words : Type 0
Words = List ℕ

-- A book is 4,096 words.
abbrev pub words_in_book : ℕ
words_in_book = 4096

-- A value is below 2^63.
abbrev pub is_value : ℕ → Bool
is_value x = ltb x (2 ^ 63)

-- A word of 2^63 or more is held.
abbrev pub is_held : ℕ → Bool
is_held x = leb (2 ^ 63) x

-- A word of 2^63 + t is held by team t: its mark (in the source document, the descriptor's address with its control bit).
abbrev pub mark_of : ℕ → ℕ
mark_of team = 2 ^ 63 + team

-- Three shelves, 0 to 2, in a store of 12,288 words.
abbrev pub shelf_count : ℕ
shelf_count = 3

abbrev pub words_in_store : ℕ
words_in_store = shelf_count * words_in_book

-- Teams 0 to 15.
abbrev pub team_count : ℕ
team_count = 16

-- The number that is no team's.
abbrev pub nobody : ℕ
nobody = 65535

-- Who holds a word, by what stands in it: "the team is the mark less 2^63 if that is below 16, else 65,535".
abbrev pub holder_of : ℕ → ℕ
holder_of word = cond (is_held word) (cond (ltb (word - 2 ^ 63) team_count) (word - 2 ^ 63) nobody) nobody

-- An edit's ticket has up to nine targets.
abbrev pub most_targets : ℕ
most_targets = 9

-- A view's ticket has up to six, as many as it names words.
abbrev pub most_named : ℕ
most_named = 6

-- Passages 0 to 31.
abbrev pub passage_count : ℕ
passage_count = 32

-- Passage p has word 2p, its newest leg,
abbrev pub newest_word : ℕ → ℕ
newest_word passage = 2 * passage

-- and word 2p + 1, its count of legs.
abbrev pub count_word : ℕ → ℕ
count_word passage = newest_word passage + 1

-- The legs' words start at 64, behind those of the passages.
abbrev pub first_leg_word : ℕ
first_leg_word = newest_word passage_count

-- A leg has three words, and a fourth since chains run both ways (request 10).
abbrev pub leg_words : LegLayout → ℕ
leg_words ThreeWords = 3
leg_words FourWords = 4

-- As many legs as the book has room for: 1 to 1,344, with four words each 1 to 1,008. Leg number 0 means none.
abbrev pub last_leg_in : LegLayout → ℕ
last_leg_in ThreeWords = 1344
last_leg_in FourWords = 1008

-- Leg r starts at word 64 + 3(r − 1), or "at word 64 + 4(r − 1)": link, place, measure. The link is the next older leg of the passage.
abbrev pub link_word_in : LegLayout → ℕ → ℕ
link_word_in layout leg = first_leg_word + leg_words layout * (leg - 1)

abbrev pub place_word_in : LegLayout → ℕ → ℕ
place_word_in layout leg = link_word_in layout leg + 1

abbrev pub measure_word_in : LegLayout → ℕ → ℕ
measure_word_in layout leg = link_word_in layout leg + 2

-- The layout in force has four words a leg; in the other one are books that are carried over.
abbrev pub last_leg : ℕ
last_leg = last_leg_in FourWords

abbrev pub link_word : ℕ → ℕ
link_word leg = link_word_in FourWords leg

abbrev pub place_word : ℕ → ℕ
place_word leg = place_word_in FourWords leg

abbrev pub measure_word : ℕ → ℕ
measure_word leg = measure_word_in FourWords leg

-- "A fourth word, the next newer leg, 0 for the newest."
abbrev pub newer_word : ℕ → ℕ
newer_word leg = link_word leg + 3

-- The read (source document 000, Figure 8): one word.
abbrev pub read_of : Words → ℕ → ℕ
read_of words at = get_or words at 0

-- What a conditional swap comes to: the word that it found, who holds that word, and the words that it leaves. (Request 3: "The conditional swap now reports the holder".)
pub record Swap : Type 0 where
  pub found : ℕ
  pub holder : ℕ
  pub words : Words

-- The conditional swap, also called compare-and-swap (Figure 1): the word found is reported, with its holder, and becomes `desired` exactly where it is `expected`.
abbrev pub swap_of : Words → ℕ → ℕ → ℕ → Swap
swap_of words at expected desired = record {
  found = read_of words at;
  holder = holder_of (read_of words at);
  words = cond (eqb (read_of words at) expected) (set words at desired) words;
}

-- What the claiming swap of a view expects: whatever value it finds. A mark is none: 0 is expected then, which no mark is.
abbrev pub any_value : ℕ → ℕ
any_value found = cond (is_held found) 0 found
