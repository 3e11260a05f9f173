-- The words of every plain book follow the layout.
use Prim.Native.Nat.{ℕ, ◌+◌, ◌-◌, ◌/◌, ◌%◌, ◌≤◌, ◌<◌}
use mathlib.Core.Path.{◌≡◌, refl}
use native.Mathlib.Omega.{arith}
use borrow.Author.Tests.{lt-ltb, le-ltb}
use Rattle.words.specs.declared.LegLayout.{LegLayout}
use Rattle.words.specs.declared.LegLayout.TheVariants.{ThreeWords, FourWords}
use Rattle.words.specs.Words.{leg_words, first_leg_word, newest_word, count_word, link_word_in, newer_word}
use Rattle.plain.specs.Plain.{Plain, list_of, find, passage_word, leg_word, word_in}
use Rattle.plain.specs.Laws.{WordsFollowLayout, NewerWordsFollow}

-- A passage's word, and a leg's, by the quotient and the remainder.
pub of_passage : (layout : LegLayout) (plain : Plain) (w p which : ℕ) → w < first_leg_word → w / 2 ≡ p → w % 2 ≡ which → word_in layout plain w ≡ passage_word which (list_of plain p)
unfolding word_in
of_passage layout plain w p which l d r = rw (lt-ltb w first_leg_word l, d, r) refl

of_leg : (layout : LegLayout) (plain : Plain) (w r which : ℕ) → first_leg_word ≤ w → (w - first_leg_word) / leg_words layout + 1 ≡ r → (w - first_leg_word) % leg_words layout ≡ which → word_in layout plain w ≡ leg_word which (find plain r)
unfolding word_in
of_leg layout plain w r which l d m = rw (le-ltb w first_leg_word l, d, m) refl

-- The first three words of a leg, counted from 0.
pub leg_word_lem : (layout : LegLayout) (plain : Plain) (r which : ℕ) → 1 ≤ r → which < 3 → word_in layout plain (link_word_in layout r + which) ≡ leg_word which (find plain r)
leg_word_lem ThreeWords plain r which l few = of_leg ThreeWords plain (link_word_in ThreeWords r + which) r which (omega arith) (omega arith) (omega arith)
leg_word_lem FourWords plain r which l few = of_leg FourWords plain (link_word_in FourWords r + which) r which (omega arith) (omega arith) (omega arith)

first_word : (layout : LegLayout) (plain : Plain) (r : ℕ) → 1 ≤ r → word_in layout plain (link_word_in layout r) ≡ leg_word 0 (find plain r)
first_word ThreeWords plain r l = of_leg ThreeWords plain (link_word_in ThreeWords r) r 0 (omega arith) (omega arith) (omega arith)
first_word FourWords plain r l = of_leg FourWords plain (link_word_in FourWords r) r 0 (omega arith) (omega arith) (omega arith)

pub words_follow_layout : WordsFollowLayout
words_follow_layout layout plain = record {
  newest = λ p l. of_passage layout plain (newest_word p) p 0 (omega arith) (omega arith) (omega arith);
  count = λ p l. of_passage layout plain (count_word p) p 1 (omega arith) (omega arith) (omega arith);
  link = λ r l. first_word layout plain r l;
  place = λ r l. leg_word_lem layout plain r 1 l (omega arith);
  measure = λ r l. leg_word_lem layout plain r 2 l (omega arith);
}

pub newer_words_follow : NewerWordsFollow
newer_words_follow plain r l = of_leg FourWords plain (newer_word r) r 3 (omega arith) (omega arith) (omega arith)
