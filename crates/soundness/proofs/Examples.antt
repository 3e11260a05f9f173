-- The check computed on a small book, whole as the layout has it, and on that book with one word or two wrong.
use Rattle.std.specs.Prelude.{Result, Ok, Err, Bool}
use Prim.Native.Nat.{ℕ, ◌+◌, ◌≤◌}
use mathlib.Core.Path.{◌≡◌, refl, ◌∙◌}
use mathlib.Core.List.{List, [], ◌∷◌, ◌++◌}
use mathlib.Core.Bool.{true, false}
use mathlib.Core.Option.{none, some}
use native.Mathlib.Omega.{arith}
use lib.ListN.{length, replicate, set}
use Rattle.words.specs.Tests.{all_hold}
use Rattle.words.specs.declared.LegLayout.TheVariants.{ThreeWords, FourWords}
use Rattle.words.specs.Words.{Words, words_in_book, passage_count, last_leg, newest_word, count_word, link_word, place_word, measure_word, newer_word, mark_of}
use Rattle.legs.specs.Legs.{place_in_range, measure_in_range}
use Rattle.legs.specs.Reading.{is_place, is_measure, reading_of}
use Rattle.soundness.specs.Checking.{may_follow, walk, walk_passage, walk_below, used_or_zero, rest_zero, ones_up_to, is_sound_in}
use Rattle.frames.specs.Refusals.{refusal_in}
use Rattle.soundness.specs.Answering.{scratch_bytes, check_of}
use Rattle.soundness.proofs.Walking.{rest_off, sound_off, sound_by}
use Rattle.soundness.proofs.Answering.{says_yes, says_no}
use Rattle.soundness.proofs.Zeros.{zeros_after}

-- Every definition that the check comes to, opened at once.
unfoldable everything : Unit {0}
unfolding all_hold place_in_range measure_in_range is_place is_measure reading_of may_follow walk walk_passage walk_below used_or_zero rest_zero is_sound_in check_of
everything = tt

-- A book of zeros after its first words, in the layout in force, to which the answer is yes.
yes_after : (first : Words) (m : ℕ) (used : List ℕ) (k n : ℕ) → k + n ≡ last_leg → length (first ++ replicate m 0) ≡ words_in_book → length first ≤ link_word (k + 1)
    → walk_below FourWords (first ++ replicate m 0) passage_count ≡ some used → rest_zero FourWords (first ++ replicate m 0) used k ≡ true
    → check_of (first ++ replicate m 0) scratch_bytes ≡ Ok true
yes_after first m used k n legs whole h walked computed = says_yes _ scratch_bytes whole (omega arith) (zeros_after FourWords first m used k n legs h walked computed)

-- The measure of every leg here: 5,000 mm, 90.00°, −1.50°.
abbrev usual : ℕ
usual = 76022100792200

-- Legs 3 and 1 in passage 0, leg 2 in passage 5: the words up to those of leg 3. (Leg 1 is that of the whole case of document 01.)
abbrev front : Words
front =
    3 ∷ 2 ∷ replicate 8 0 ++ (2 ∷ 1 ∷ replicate 52 0
    ++ (0 ∷ 8388673 ∷ usual ∷ 3 ∷ 0 ∷ 12583046 ∷ usual ∷ 0 ∷ 1 ∷ 12583041 ∷ usual ∷ 0 ∷ []))

abbrev small : Words
small = front ++ replicate 4020 0

-- The book with one word changed.
abbrev wrong : ℕ → ℕ → Words
wrong word value = set small word value

abbrev checked : Words → Result Bool ℕ
checked words = check_of words scratch_bytes

-- The walks, in order: leg 3, leg 1, leg 2.
small_walked : walk_below FourWords small passage_count ≡ some (2 ∷ 1 ∷ 3 ∷ [])
unfolding everything
small_walked = refl

small_rest : rest_zero FourWords small (2 ∷ 1 ∷ 3 ∷ []) 3 ≡ true
unfolding everything
small_rest = refl

small_yes : checked small ≡ Ok true
small_yes = yes_after front 4020 (2 ∷ 1 ∷ 3 ∷ []) 3 1005 refl refl (omega arith) small_walked small_rest

-- The book that the whole case of document 01 leaves: leg 1 alone, in passage 0.
abbrev alone : Words
alone = 1 ∷ 1 ∷ replicate 63 0 ++ (8388673 ∷ usual ∷ [])

alone_walked : walk_below FourWords (alone ++ replicate 4029 0) passage_count ≡ some (1 ∷ [])
unfolding everything
alone_walked = refl

alone_rest : rest_zero FourWords (alone ++ replicate 4029 0) (1 ∷ []) 1 ≡ true
unfolding everything
alone_rest = refl

whole_case_yes : checked (alone ++ replicate 4029 0) ≡ Ok true
whole_case_yes = yes_after alone 4029 (1 ∷ []) 1 1007 refl refl (omega arith) alone_walked alone_rest

-- A walk that breaks off is a no, and so is an unused leg that isn't zero.
walk_no : (words : Words) → length words ≡ words_in_book → walk_below FourWords words passage_count ≡ none → checked words ≡ Ok false
walk_no words whole broken = says_no words scratch_bytes whole (omega arith) (sound_off FourWords words broken)

rest_no : (words : Words) (used : List ℕ) (n : ℕ) → length words ≡ words_in_book → n ≤ last_leg → walk_below FourWords words passage_count ≡ some used → rest_zero FourWords words used n ≡ false → checked words ≡ Ok false
rest_no words used n whole most walked other = says_no words scratch_bytes whole (omega arith) (sound_by FourWords words used walked ∙ rest_off FourWords words used n last_leg most other)

-- A shaft alone in its book, with a measure of its own: straight down, 5,000 mm, and the same with compass 500.
abbrev shaft_front : ℕ → Words
shaft_front measure = 1 ∷ 1 ∷ replicate 63 0 ++ (8388673 ∷ measure ∷ [])

shaft_walked : walk_below FourWords (shaft_front 5000 ++ replicate 4029 0) passage_count ≡ some (1 ∷ [])
unfolding everything
shaft_walked = refl

shaft_rest : rest_zero FourWords (shaft_front 5000 ++ replicate 4029 0) (1 ∷ []) 1 ≡ true
unfolding everything
shaft_rest = refl

shaft_yes : checked (shaft_front 5000 ++ replicate 4029 0) ≡ Ok true
shaft_yes = yes_after (shaft_front 5000) 4029 (1 ∷ []) 1 1007 refl refl (omega arith) shaft_walked shaft_rest

compass_walked : walk_below FourWords (shaft_front 65541000 ++ replicate 4029 0) passage_count ≡ none
unfolding everything
compass_walked = refl

compass_no : checked (shaft_front 65541000 ++ replicate 4029 0) ≡ Ok false
compass_no = walk_no (shaft_front 65541000 ++ replicate 4029 0) refl compass_walked

-- Such a shaft in an old book is no leg there either.
old_compass_walked : walk_below ThreeWords (shaft_front 65541000 ++ replicate 4029 0) passage_count ≡ none
unfolding everything
old_compass_walked = refl

-- A newer word that is wrong: of the newest leg, of the oldest, and of an unused leg.
newest_has_newer : walk_below FourWords (wrong (newer_word 3) 1) passage_count ≡ none
unfolding everything
newest_has_newer = refl

oldest_without_newer : walk_below FourWords (wrong (newer_word 1) 0) passage_count ≡ none
unfolding everything
oldest_without_newer = refl

newer_no : checked (wrong (newer_word 1) 0) ≡ Ok false
newer_no = walk_no (wrong (newer_word 1) 0) refl oldest_without_newer

unused_newer : rest_zero FourWords (wrong (newer_word 4) 3) (2 ∷ 1 ∷ 3 ∷ []) 4 ≡ false
unfolding everything
unused_newer = refl

-- The same lists in an old book, in which a leg has no newer word.
abbrev old_front : Words
old_front =
    3 ∷ 2 ∷ replicate 8 0 ++ (2 ∷ 1 ∷ replicate 52 0
    ++ (0 ∷ 8388673 ∷ usual ∷ 0 ∷ 12583046 ∷ usual ∷ 1 ∷ 12583041 ∷ usual ∷ []))

old_walked : walk_below ThreeWords (old_front ++ replicate 4023 0) passage_count ≡ some (2 ∷ 1 ∷ 3 ∷ [])
unfolding everything
old_walked = refl

old_rest : rest_zero ThreeWords (old_front ++ replicate 4023 0) (2 ∷ 1 ∷ 3 ∷ []) 3 ≡ true
unfolding everything
old_rest = refl

old_sound : is_sound_in ThreeWords (old_front ++ replicate 4023 0) ≡ true
old_sound = zeros_after ThreeWords old_front 4023 (2 ∷ 1 ∷ 3 ∷ []) 3 1341 refl (omega arith) old_walked old_rest

-- Read in the other layout, either book is unsound.
old_in_four_words : walk_below FourWords (old_front ++ replicate 4023 0) passage_count ≡ none
unfolding everything
old_in_four_words = refl

small_in_three_words : walk_below ThreeWords small passage_count ≡ none
unfolding everything
small_in_three_words = refl

-- Leg 3 comes after itself: twice in one passage.
twice : walk_below FourWords (wrong (link_word 3) 3) passage_count ≡ none
unfolding everything
twice = refl

-- Leg 1 is the newest of passage 5 as well: in two passages.
in_two_passages : walk_below FourWords (wrong (newest_word 5) 1) passage_count ≡ none
unfolding everything
in_two_passages = refl

two_passages_no : checked (wrong (newest_word 5) 1) ≡ Ok false
two_passages_no = walk_no (wrong (newest_word 5) 1) refl in_two_passages

-- Leg 1's place names passage 5, though passage 0 has it.
in_another_passage : walk_below FourWords (wrong (place_word 1) 8388678) passage_count ≡ none
unfolding everything
in_another_passage = refl

-- A count that is one too small, one too large, and one above 1,008.
count_small : walk_below FourWords (wrong (count_word 0) 1) passage_count ≡ none
unfolding everything
count_small = refl

count_large : walk_below FourWords (wrong (count_word 0) 3) passage_count ≡ none
unfolding everything
count_large = refl

count_above : walk_below FourWords (wrong (count_word 0) 1009) passage_count ≡ none
unfolding everything
count_above = refl

-- A mark: as an empty passage's newest leg, as a link, and in an unused leg.
mark_newest : walk_below FourWords (wrong (newest_word 7) (mark_of 3)) passage_count ≡ none
unfolding everything
mark_newest = refl

mark_link : walk_below FourWords (wrong (link_word 1) (mark_of 0)) passage_count ≡ none
unfolding everything
mark_link = refl

mark_no : checked (wrong (link_word 1) (mark_of 0)) ≡ Ok false
mark_no = walk_no (wrong (link_word 1) (mark_of 0)) refl mark_link

mark_unused : rest_zero FourWords (wrong (link_word 4) (mark_of 0)) (2 ∷ 1 ∷ 3 ∷ []) 4 ≡ false
unfolding everything
mark_unused = refl

-- An unused leg that isn't zero.
unused_walked : walk_below FourWords (wrong (measure_word 4) usual) passage_count ≡ some (2 ∷ 1 ∷ 3 ∷ [])
unfolding everything
unused_walked = refl

unused_measure : rest_zero FourWords (wrong (measure_word 4) usual) (2 ∷ 1 ∷ 3 ∷ []) 4 ≡ false
unfolding everything
unused_measure = refl

unused_no : checked (wrong (measure_word 4) usual) ≡ Ok false
unused_no = rest_no (wrong (measure_word 4) usual) (2 ∷ 1 ∷ 3 ∷ []) 4 refl (omega arith) unused_walked unused_measure

-- A leg that goes from a station to the same.
no_leg_lem : walk_below FourWords (wrong (place_word 2) 12583110) passage_count ≡ none
unfolding everything
no_leg_lem = refl

-- The refusals, in checking order, and their numbers.
refused_book : check_of (0 ∷ small) 0 ≡ Err 1
unfolding everything
refused_book = refl

refused_scratch : check_of small 125 ≡ Err 12
unfolding everything
refused_scratch = refl

numbers : (refusal_in {A = Bool} (Err 1) ≡ some 1) × (refusal_in {A = Bool} (Err 12) ≡ some 12)
numbers = (refl, refl)

-- "A bit for each leg": the ones of legs 2, 1 and 3 are three; a leg that came twice is one.
three_ones : ones_up_to (2 ∷ 1 ∷ 3 ∷ []) 8 ≡ 3
unfolding ones_up_to
three_ones = refl

one_twice : ones_up_to (5 ∷ 5 ∷ []) 8 ≡ 1
unfolding ones_up_to
one_twice = refl
