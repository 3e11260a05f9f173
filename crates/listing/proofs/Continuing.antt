-- Words that are written one after another: what is left of them, written from here on, gives what the whole gives.
use Prim.Native.Nat.{ℕ, suc, ◌+◌, ◌≤◌}
use mathlib.Core.Path.{◌≡◌, refl, sym, ap, ◌∙◌}
use mathlib.Core.List.{[], ◌∷◌, ◌++◌}
use native.Mathlib.Omega.{arith}
use lib.ListN.{length, set, length-append}
use lib.Seq.{sets, length-sets}
use Rattle.words.specs.Words.{Words}
use Rattle.listing.specs.Listing.{wrote}

sets_append : (a b out : Words) (at : ℕ) → sets (sets out at a) (at + length a) b ≡ sets out at (a ++ b)
sets_append [] b out at = let here : at + 0 ≡ at = omega arith in ap (λ (n : ℕ). sets out n b) here
sets_append (word ∷ a) b out at =
    let here : at + suc (length a) ≡ suc at + length a = omega arith in
    ap (λ (n : ℕ). sets (sets (set out at word) (suc at) a) n b) here ∙ sets_append a b (set out at word) (suc at)

-- The words `left`, at a place of an output, are what is left of `whole` at its place of the first output.
pub record Continues (out : Words) (at : ℕ) (left out₀ : Words) (at₀ : ℕ) (whole : Words) : Type 0 where
  pub same : wrote out at left ≡ wrote out₀ at₀ whole
  pub long : length out ≡ length out₀
  pub room : at₀ + length whole ≤ length out₀

pub begins : (out : Words) (at : ℕ) (whole : Words) → at + length whole ≤ length out → Continues out at whole out at whole
begins out at whole room = record { same = refl; long = refl; room = room }

module _ (out : Words) (at : ℕ) (left out₀ : Words) (at₀ : ℕ) (whole : Words) (so_far : Continues out at left out₀ at₀ whole) where
  -- There is room for what is left, and so for the next words.
  pub left_room : at + length left ≤ length out
  left_room = omega (arith, ap (λ (told : ℕ × Words). told.0) so_far.same, so_far.long, so_far.room)

  pub next_room : (a b : Words) → left ≡ a ++ b → at + length a ≤ length out
  next_room a b parted = omega (arith, left_room, ap length parted, length-append a b)

  -- The next words are written.
  pub goes_on_lem : (a b : Words) → left ≡ a ++ b → (r : ℕ) (later : Words) → (r, later) ≡ wrote out at a → Continues later r b out₀ at₀ whole
  goes_on_lem a b parted r later next =
      let place : r ≡ at + length a = ap (λ (told : ℕ × Words). told.0) next in
      let words : later ≡ sets out at a = ap (λ (told : ℕ × Words). told.1) next in
      let further : at + length a + length b ≡ at + length (a ++ b) = omega (arith, length-append a b) in
      record {
        same = (λ i. wrote (words i) (place i) b) ∙ (λ i. (further i, sets_append a b out at i)) ∙ ap (wrote out at) (sym parted) ∙ so_far.same;
        long = ap length words ∙ length-sets out at a ∙ so_far.long;
        room = so_far.room;
      }

  -- Nothing is left.
  pub all_written_lem : left ≡ [] → (at, out) ≡ wrote out₀ at₀ whole
  all_written_lem none = let here : at ≡ at + 0 = omega arith in (λ i. (here i, out)) ∙ ap (wrote out at) (sym none) ∙ so_far.same

-- Nothing written, and two words.
pub none_wrote : (out : Words) (at : ℕ) → (at, out) ≡ wrote out at []
none_wrote out at = let here : at ≡ at + 0 = omega arith in λ i. (here i, out)

pub two_wrote : (out : Words) (at first second : ℕ) → (at + 2, set (set out at first) (at + 1) second) ≡ wrote out at (first ∷ second ∷ [])
two_wrote out at first second = let here : at + 1 ≡ suc at = omega arith in λ i. (at + 2, set (set out at first) (here i) second)
