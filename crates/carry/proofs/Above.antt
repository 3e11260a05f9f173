-- The places of the legs that the new layout does not have, asked one after another.
use Prim.Native.Nat.{ℕ, zero, suc, ◌+◌, ◌<◌}
use mathlib.Core.Path.{◌≡◌, sym, ap, ◌∙◌}
use mathlib.Core.Bool.{Bool, true, not}
use native.Mathlib.Omega.{arith}
use native.Mathlib.Decide.{ℕ_discrete}
use lib.Dec.{eqb}
use borrow.Author.Tests.{eq-eqb, ne_eqb}
use Rattle.std.specs.List.{list_any, range_with_len}
use Rattle.words.specs.declared.LegLayout.TheVariants.{ThreeWords}
use Rattle.words.specs.Words.{Words, last_leg, last_leg_in, place_word_in, read_of}
use Rattle.soundness.specs.Checking.{is_sound_in}
use Rattle.soundness.specs.InWords.{plain_in}
use Rattle.carrying.specs.Carrying.{leg_above}
use Rattle.carrying.proofs.Above.{place_above, no_place_above}

abbrev pub has_place : Words → ℕ → Bool
has_place old leg = not (eqb (read_of old (place_word_in ThreeWords leg)) 0)

-- In a sound book one of them is not 0 exactly where such a leg is in use.
module _ (old : Words) (passes : is_sound_in ThreeWords old ≡ true) where
  pub any_place : (n leg : ℕ) → last_leg < leg → leg + n ≡ last_leg_in ThreeWords + 1 → ((r : ℕ) → last_leg < r → r < leg → read_of old (place_word_in ThreeWords r) ≡ 0)
      → list_any (has_place old) (range_with_len leg n) ≡ leg_above (plain_in ThreeWords old)
  any_place zero leg high end so_far = sym (no_place_above old passes (λ r above most. so_far r above (omega (arith, end, most))))
  any_place (suc n) leg high end so_far = elim (ℕ_discrete (read_of old (place_word_in ThreeWords leg)) 0) [
    | yes none ↦ rw (eq-eqb _ 0 none) (any_place n (leg + 1) (omega arith) (omega (arith, end)) (λ r above below. elim (ℕ_discrete r leg) [
      | yes same ↦ ap (λ (s : ℕ). read_of old (place_word_in ThreeWords s)) same ∙ none
      | no apart ↦ so_far r above (omega arith)
    ]))
    | no some ↦ rw (ne_eqb _ 0 some) (sym (place_above old passes leg high (omega (arith, end)) some))
  ]
