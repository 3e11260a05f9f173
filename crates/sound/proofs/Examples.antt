-- The bits of a scratch, computed: leg 9 has the lowest bit of the second byte, and a bit set twice is one.
use Prim.Native.Nat.{ℕ}
use mathlib.Core.Path.{◌≡◌, refl}
use mathlib.Core.List.{List, [], ◌∷◌, map}
use lib.ListN.{replicate}
use Rattle.sound.specs.Bits.{bit_of, with_bit, ones_of}

abbrev nine : List ℕ
nine = with_bit (replicate 3 0) 9

nine_set : nine ≡ 0 ∷ 1 ∷ 0 ∷ []
nine_set = refl

neighbours_clear : map (bit_of nine) (8 ∷ 9 ∷ 10 ∷ 1 ∷ 17 ∷ []) ≡ 0 ∷ 1 ∷ 0 ∷ 0 ∷ 0 ∷ []
neighbours_clear = refl

set_twice : ones_of (with_bit nine 9) ≡ 1
unfolding lib.Count.ones
set_twice = refl

set_both : ones_of (with_bit nine 16) ≡ 2
unfolding lib.Count.ones
set_both = refl
