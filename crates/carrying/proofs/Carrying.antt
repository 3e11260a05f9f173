-- What is carried over is the four-word layout of the same lists.
use Prim.Native.Nat.{ℕ, zero, suc, ◌+◌, ◌<◌}
use mathlib.Core.Path.{◌≡◌, refl, ap, ◌∙◌}
use mathlib.Core.List.{List, [], ◌∷◌}
use mathlib.Core.Bool.{Bool, true, false, cond, true≢false}
use native.Mathlib.Omega.{arith}
use lib.Dec.{ltb}
use lib.ListN.{length, get_or}
use borrow.Author.Tests.{ltb-false}
use Rattle.words.specs.declared.LegLayout.{LegLayout}
use Rattle.words.specs.declared.LegLayout.TheVariants.{ThreeWords, FourWords}
use Rattle.words.specs.Words.{Words, words_in_book, last_leg, read_of}
use Rattle.plain.specs.Plain.{Plain, NumberedLeg, list_of, word_in, SoundIn, Sound}
use Rattle.plain.proofs.OneList.{Every}
use Rattle.plain.proofs.Slots.{InRangeIn}
use Rattle.plain.proofs.Lists.{fair_of, sound_of}
use Rattle.soundness.specs.Soundness.{WordsOf}
use Rattle.carrying.specs.Carrying.{above_in, leg_above, words_from, laid_out, carried, CarriesTheLists, CarriesLaidOutBooks}
use Rattle.soundness.proofs.Telling.{words_tell_lists}

-- Words by a function.
pub length_from : (word : ℕ → ℕ) (at n : ℕ) → length (words_from word at n) ≡ n
unfolding words_from
length_from word at zero = refl
length_from word at (suc n) = ap suc (length_from word (at + 1) n)

read_from : (word : ℕ → ℕ) (at n k : ℕ) → k < n → get_or (words_from word at n) k 0 ≡ word (at + k)
unfolding words_from
read_from word at zero k h = absurd (omega arith)
read_from word at (suc n) zero h = let here : at ≡ at + 0 = omega arith in ap word here
read_from word at (suc n) (suc k) h = let here : at + 1 + k ≡ at + suc k = omega arith in read_from word (at + 1) n k (omega arith) ∙ ap word here

pub read_whole : (word : ℕ → ℕ) (k : ℕ) → k < words_in_book → get_or (words_from word 0 words_in_book) k 0 ≡ word k
read_whole word k inside = let here : 0 + k ≡ k = omega arith in read_from word 0 words_in_book k inside ∙ ap word here

-- A plain book laid out has its words.
pub length_laid_out : (layout : LegLayout) (plain : Plain) → length (laid_out layout plain) ≡ words_in_book
unfolding laid_out
length_laid_out layout plain = length_from (word_in layout plain) 0 words_in_book

pub laid_out_words : (layout : LegLayout) (plain : Plain) → WordsOf layout (laid_out layout plain) plain
unfolding laid_out
laid_out_words layout plain word inside = read_whole (word_in layout plain) word inside

-- What is carried over, by whichever plain book the old words are of.
pub carried_is : (old : Words) (plain : Plain) → SoundIn ThreeWords plain → WordsOf ThreeWords old plain → carried old ≡ laid_out FourWords plain
unfolding carried
carried_is old plain sound agree = ap (laid_out FourWords) (words_tell_lists ThreeWords old plain sound agree)

pub carries_laid_out_books : CarriesLaidOutBooks
carries_laid_out_books plain sound = carried_is (laid_out ThreeWords plain) plain sound (laid_out_words ThreeWords plain)

-- No leg above 1,008: each is in range in the layout of four words too.
lower : (l : List NumberedLeg) → above_in l ≡ false → Every (InRangeIn ThreeWords) l → Every (InRangeIn FourWords) l
lower [] e fits = tt
lower (a ∷ l) e fits = by (ltb last_leg a.number) refl e (λ same. lower l same fits.1)
  where
    by : (b : Bool) → ltb last_leg a.number ≡ b → cond b true (above_in l) ≡ false → (above_in l ≡ false → Every (InRangeIn FourWords) l) → Every (InRangeIn FourWords) (a ∷ l)
    by true t same others = absurd (true≢false same)
    by false t same others = (
      record { number = fits.0.number; most = ltb-false last_leg a.number t; place = fits.0.place; measure = fits.0.measure; as_taken = fits.0.as_taken },
      others same,
    )

none_above : (plain : Plain) → leg_above plain ≡ false → (p : ℕ) → above_in (list_of plain p) ≡ false
unfolding leg_above
none_above [] e p = refl
none_above (l ∷ plain) e p = by (above_in l) refl e (none_above plain) p
  where
    by : (b : Bool) → above_in l ≡ b → cond b true (leg_above plain) ≡ false → (leg_above plain ≡ false → (p : ℕ) → above_in (list_of plain p) ≡ false) → (p : ℕ) → above_in (list_of (l ∷ plain) p) ≡ false
    by true t same others p = absurd (true≢false same)
    by false t same others zero = t
    by false t same others (suc p) = others same p

-- So a book that keeps the rules of the old layout keeps those of the one in force.
pub sound_carried : (plain : Plain) → SoundIn ThreeWords plain → leg_above plain ≡ false → Sound plain
sound_carried plain sound low =
    let fair = fair_of ThreeWords plain sound in
    sound_of FourWords plain sound.passages (record { once = fair.once; range = λ p. lower (list_of plain p) (none_above plain low p) (fair.range p) })

pub carries_the_lists : CarriesTheLists
carries_the_lists old plain sound agree low =
    let is = carried_is old plain sound agree in (
      sound_carried plain sound low,
      ap length is ∙ length_laid_out FourWords plain,
      λ word inside. ap (λ (words : Words). read_of words word) is ∙ laid_out_words FourWords plain word inside,
    )
