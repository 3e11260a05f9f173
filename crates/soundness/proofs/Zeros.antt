-- A book of zeros after its first words, in either layout: of its legs, only the first few need be computed.
use Prim.Native.Nat.{ℕ, zero, suc, ◌+◌, ◌-◌, ◌≤◌}
use mathlib.Core.Path.{◌≡◌, refl, ap, subst, ◌∙◌}
use mathlib.Core.List.{List, ◌++◌}
use mathlib.Core.Bool.{Bool, true, false}
use mathlib.Core.Option.{some}
use native.Mathlib.Omega.{arith}
use native.Mathlib.Nat.{le_trans}
use lib.ListN.{length, get_or, replicate}
use lib.Seq.{get_or-append-add}
use borrow.Author.Tests.{eq-eqb}
use Rattle.words.specs.Tests.{occurs}
use Rattle.words.specs.declared.LegLayout.{LegLayout}
use Rattle.words.specs.declared.LegLayout.TheVariants.{ThreeWords, FourWords}
use Rattle.words.specs.Words.{Words, passage_count, last_leg_in, link_word_in, place_word_in, measure_word_in, newer_word, read_of}
use Rattle.words.proofs.Tests.{join}
use Rattle.soundness.specs.Checking.{fourth_is, walk_below, used_or_zero, rest_zero, is_sound_in}
use Rattle.soundness.proofs.Walking.{rest_next, used_leg, unused_leg, sound_by}

zeros_at : (m k : ℕ) → ◌≡◌ {A = ℕ} (get_or (replicate m 0) k 0) 0
zeros_at zero k = refl
zeros_at (suc m) zero = refl
zeros_at (suc m) (suc k) = zeros_at m k

-- A later leg stands behind.
later_leg : (layout : LegLayout) (k n : ℕ) → link_word_in layout (k + 1) ≤ link_word_in layout (k + n + 1)
later_leg ThreeWords k n = omega arith
later_leg FourWords k n = omega arith

module _ (first : Words) (m : ℕ) where
  read_zero : (word : ℕ) → length first ≤ word → read_of (first ++ replicate m 0) word ≡ 0
  read_zero word h =
      let apart : word ≡ length first + (word - length first) = omega arith in
      ap (read_of (first ++ replicate m 0)) apart ∙ get_or-append-add first (replicate m 0) (word - length first) 0 ∙ zeros_at m (word - length first)

  fourth_zero : (layout : LegLayout) (leg : ℕ) → length first ≤ link_word_in layout leg → fourth_is layout (first ++ replicate m 0) 0 leg ≡ true
  fourth_zero ThreeWords leg h = refl
  fourth_zero FourWords leg h = eq-eqb _ _ (read_zero (newer_word leg) (omega arith))

module _ (layout : LegLayout) (first : Words) (m : ℕ) (used : List ℕ) where
  zero_there : (leg : ℕ) → length first ≤ link_word_in layout leg → used_or_zero layout (first ++ replicate m 0) used leg ≡ true
  zero_there leg h = by_use (occurs leg used) refl
    where
      by_use : (b : Bool) → occurs leg used ≡ b → used_or_zero layout (first ++ replicate m 0) used leg ≡ true
      by_use true e = used_leg layout _ used leg e
      by_use false e = unused_leg layout _ used leg e ∙ join _ (
        eq-eqb _ _ (read_zero first m (link_word_in layout leg) h),
        (eq-eqb _ _ (read_zero first m (place_word_in layout leg) (omega arith)), (eq-eqb _ _ (read_zero first m (measure_word_in layout leg) (omega arith)), (fourth_zero first m layout leg h, tt))),
      )

  rest_there : (k n : ℕ) → length first ≤ link_word_in layout (k + 1) → rest_zero layout (first ++ replicate m 0) used k ≡ true → rest_zero layout (first ++ replicate m 0) used (k + n) ≡ true
  rest_there k zero h e = let same : k + 0 ≡ k = omega arith in rw same e
  rest_there k (suc n) h e =
      let next : k + suc n ≡ k + n + 1 = omega arith in
      rw next (rest_next layout _ used (k + n) (rest_there k n h e) ∙ zero_there (k + n + 1) (le_trans h (later_leg layout k n)))

  pub zeros_after : (k n : ℕ) → k + n ≡ last_leg_in layout → length first ≤ link_word_in layout (k + 1)
      → walk_below layout (first ++ replicate m 0) passage_count ≡ some used → rest_zero layout (first ++ replicate m 0) used k ≡ true
      → is_sound_in layout (first ++ replicate m 0) ≡ true
  zeros_after k n legs h walked computed =
      sound_by layout _ used walked ∙ subst (λ (all : ℕ). rest_zero layout (first ++ replicate m 0) used all ≡ true) legs (rest_there k n h computed)
