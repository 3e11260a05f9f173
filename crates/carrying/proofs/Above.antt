-- A leg above 1,008 in an old book: of a sound one, a place there that is not 0 tells it.
use Prim.Native.Nat.{ℕ, zero, suc, ◌≤◌, ◌<◌}
use mathlib.Core.Path.{◌≡◌, refl, sym, ap, ◌∙◌}
use mathlib.Core.List.{List, [], ◌∷◌}
use mathlib.Core.Bool.{Bool, true, false, cond}
use mathlib.Core.Logic.{◌≢◌}
use native.Mathlib.Omega.{arith}
use native.Mathlib.Nat.{not-suc-le-zero}
use native.Mathlib.Decide.{ℕ_discrete, dec_lt}
use lib.Dec.{ltb}
use borrow.Author.Tests.{lt-ltb, le-ltb}
use Rattle.words.specs.declared.LegLayout.TheVariants.{ThreeWords}
use Rattle.words.specs.Words.{Words, passage_count, last_leg, last_leg_in, place_word_in, read_of}
use Rattle.plain.specs.Plain.{Plain, NumberedLeg, list_of, times_in, word_in, SoundIn}
use Rattle.plain.proofs.Sums.{sum_below, sum_zero, sum_some}
use Rattle.plain.proofs.OneList.{Every, times_here, times_there}
use Rattle.plain.proofs.Slots.{times_at, InRangeIn}
use Rattle.plain.proofs.OneHome.{zero_unused}
use Rattle.plain.proofs.Lists.{list_beyond, leg_words_lem, fair_of}
use Rattle.plain.proofs.LaidOut.{words_follow_layout}
use Rattle.plain.proofs.ReadOut.{absent_legs_read_as_none}
use Rattle.soundness.specs.Checking.{is_sound_in}
use Rattle.soundness.specs.InWords.{plain_in}
use Rattle.soundness.proofs.Soundness.{sound_exactly}
use Rattle.soundness.proofs.Telling.{words_tell_lists}
use Rattle.carrying.specs.Carrying.{above_in, leg_above}

-- A list with such a leg, and one with none.
some_above : (r : ℕ) → last_leg < r → (l : List NumberedLeg) → 0 < times_in r l → above_in l ≡ true
some_above r high [] there = absurd (not-suc-le-zero there)
some_above r high (a ∷ l) there = elim (ℕ_discrete r a.number) [
  | yes same ↦ ap (λ b. cond b true (above_in l)) (lt-ltb last_leg a.number (omega arith))
  | no apart ↦ by (ltb last_leg a.number) (some_above r high l (rw (times_there r a l apart) at there))
]
  where
    by : (b : Bool) → above_in l ≡ true → cond b true (above_in l) ≡ true
    by true e = refl
    by false e = e

no_above : (l : List NumberedLeg) → Every (InRangeIn ThreeWords) l → ((r : ℕ) → last_leg < r → r ≤ last_leg_in ThreeWords → times_in r l ≡ 0) → above_in l ≡ false
no_above [] fits none = refl
no_above (a ∷ l) fits none = elim (dec_lt last_leg a.number) [
  | yes high ↦ absurd (omega (arith, none a.number high fits.0.most, times_here a.number a l refl))
  | no low ↦
      ap (λ b. cond b true (above_in l)) (le-ltb last_leg a.number (omega arith))
      ∙ no_above l fits.1 (λ r high most. sym (times_there r a l (λ same. omega (arith, high, same))) ∙ none r high most)
]

-- The same of all lists of a book.
book_above : (plain : Plain) (p : ℕ) → above_in (list_of plain p) ≡ true → leg_above plain ≡ true
unfolding leg_above
book_above [] p e = e
book_above (l ∷ plain) zero e = ap (λ b. cond b true (leg_above plain)) e
book_above (l ∷ plain) (suc p) e = by (above_in l) (book_above plain p e)
  where
    by : (b : Bool) → leg_above plain ≡ true → cond b true (leg_above plain) ≡ true
    by true later = refl
    by false later = later

book_low : (plain : Plain) → ((p : ℕ) → above_in (list_of plain p) ≡ false) → leg_above plain ≡ false
unfolding leg_above
book_low [] low = refl
book_low (l ∷ plain) low = ap (λ b. cond b true (leg_above plain)) (low 0) ∙ book_low plain (λ p. low (suc p))

module _ (plain : Plain) (keeps : SoundIn ThreeWords plain) where
  -- A place that is not 0, of a leg above 1,008.
  placed_above : (r : ℕ) → last_leg < r → word_in ThreeWords plain (place_word_in ThreeWords r) ≢ 0 → leg_above plain ≡ true
  placed_above r high some = elim (dec_lt 0 (sum_below (times_at r) (list_of plain) passage_count)) [
    | yes there ↦ let (p, p_fits, inside) = sum_some (times_at r) (list_of plain) passage_count there in book_above plain p (some_above r high (list_of plain p) inside)
    | no nowhere ↦
        let none : sum_below (times_at r) (list_of plain) passage_count ≡ 0 = omega arith in
        absurd (some (absent_legs_read_as_none ThreeWords plain r (omega arith) (sum_zero (times_at r) (list_of plain) passage_count none)).place)
  ]

  -- None there.
  none_placed : ((r : ℕ) → last_leg < r → r ≤ last_leg_in ThreeWords → word_in ThreeWords plain (place_word_in ThreeWords r) ≡ 0) → leg_above plain ≡ false
  none_placed zeros = book_low plain (λ p. elim (dec_lt p passage_count) [
    | yes inside ↦ no_above (list_of plain p) ((fair_of ThreeWords plain keeps).range p) (λ r high most. sum_zero (times_at r) (list_of plain) passage_count (unused r high most) p inside)
    | no outside ↦ ap above_in (list_beyond plain p (omega (arith, keeps.passages, outside)))
  ])
    where
      unused : (r : ℕ) → last_leg < r → r ≤ last_leg_in ThreeWords → sum_below (times_at r) (list_of plain) passage_count ≡ 0
      unused r high most =
          zero_unused (list_of plain) r
          (sym (leg_words_lem plain (fair_of ThreeWords plain keeps).once r).place ∙ sym ((words_follow_layout ThreeWords plain).place r (omega arith)) ∙ zeros r high most)

-- The same of an old book that is sound in its own layout, read in its words.
module _ (old : Words) (sound : is_sound_in ThreeWords old ≡ true) where
  pub place_above : (r : ℕ) → last_leg < r → r ≤ last_leg_in ThreeWords → read_of old (place_word_in ThreeWords r) ≢ 0 → leg_above (plain_in ThreeWords old) ≡ true
  place_above r high most some =
      let (plain, keeps, agree) = (sound_exactly ThreeWords old).0 sound in
      ap leg_above (words_tell_lists ThreeWords old plain keeps agree) ∙ placed_above plain keeps r high (λ e. some (agree (place_word_in ThreeWords r) (omega arith) ∙ e))

  pub no_place_above : ((r : ℕ) → last_leg < r → r ≤ last_leg_in ThreeWords → read_of old (place_word_in ThreeWords r) ≡ 0) → leg_above (plain_in ThreeWords old) ≡ false
  no_place_above zeros =
      let (plain, keeps, agree) = (sound_exactly ThreeWords old).0 sound in
      ap leg_above (words_tell_lists ThreeWords old plain keeps agree) ∙ none_placed plain keeps (λ r high most. sym (agree (place_word_in ThreeWords r) (omega arith)) ∙ zeros r high most)
