-- Examples computed: the ends of the ranges are read back, and what is no leg's words reads as none. Examples 1 to 4, 8 and 9 of the scope.
use Prim.Native.Nat.{ℕ}
use mathlib.Core.Path.{◌≡◌, refl}
use mathlib.Core.List.{[], ◌∷◌, map}
use mathlib.Core.Bool.{true, false}
use lib.IntN.{ℤ, pos, negsuc}
use lib.ListN.{drop}
use Rattle.words.specs.Tests.{all_hold}
use Rattle.words.specs.declared.LegLayout.TheVariants.{ThreeWords, FourWords}
use Rattle.words.specs.Words.{link_word_in, measure_word_in, newer_word}
use Rattle.legs.specs.declared.Leg.{Leg}
use Rattle.std.specs.Prelude.{None, Some}
use Rattle.legs.specs.Legs.{clino_offset, place_of, measure_of, place_in_range, measure_in_range}
use Rattle.legs.specs.Reading.{Reading, is_place, is_measure, reading_of}
use Rattle.legs.specs.Positions.{Ranks, fixed_ranks, position_by, position_of, is_permutation}
use Rattle.legs.specs.Minutes.{hundredths_of, signed_by, compass_angle_in_range, clino_angle_in_range, rounded}

abbrev leg : ℕ → ℕ → ℕ → ℕ → ℕ → ℤ → Leg
leg passage from to distance compass clino = record {
  passage = passage;
  stations = record { from = from; to = to };
  measure = record { distance = distance; compass = compass; clino = clino };
}

-- The leg of the whole case: 1 to 2, 5,000 mm, 90.00°, −1.50°.
abbrev that_leg : Leg
that_leg = leg 0 1 2 5000 9000 (negsuc 149)

example_1 : measure_of that_leg.measure ≡ 76022100792200
example_1 = refl

example_2 : place_of 0 that_leg.stations ≡ 8388673
example_2 = refl

-- Minutes in hundredths: a third or two thirds of one are rounded, half a degree down is said, and up and down zero are one.
minutes : map (λ (angle : ℕ × ℕ). hundredths_of angle.0 angle.1) ((0, 1) ∷ (0, 2) ∷ (0, 30) ∷ (0, 59) ∷ (1, 30) ∷ (90, 0) ∷ (359, 59) ∷ []) ≡ 2 ∷ 3 ∷ 50 ∷ 98 ∷ 150 ∷ 9000 ∷ 35998 ∷ []
unfolding hundredths_of
minutes = refl

-- 45° 1', down 0° 1': both angles are rounded up.
both_rounded :
    rounded (record { distance = 5000; compass_degrees = 45; compass_minutes = 1; sign = 1; clino_degrees = 0; clino_minutes = 1 })
    ≡ record { distance = 5000; compass = 4502; clino = negsuc 1 }
unfolding hundredths_of
both_rounded = refl

half_down : signed_by 1 (hundredths_of 0 30) ≡ negsuc 49
unfolding hundredths_of
half_down = refl

zero_down : signed_by 1 (hundredths_of 0 0) ≡ signed_by 0 (hundredths_of 0 0)
unfolding hundredths_of
zero_down = refl

-- Angles at the ends of their ranges, zero up and down, and one past each end: minute 60, degree 360, sign 2, degree 91, and 90 degrees 1 minute. 10 degrees 60 minutes would come to 1,100.
compass_ends : map (λ (angle : ℕ × ℕ). compass_angle_in_range angle.0 angle.1) ((0, 0) ∷ (359, 59) ∷ (10, 60) ∷ (360, 0) ∷ []) ≡ true ∷ true ∷ false ∷ false ∷ []
unfolding all_hold
compass_ends = refl

clino_ends : map (λ (angle : ℕ × ℕ × ℕ). clino_angle_in_range angle.0 angle.1 angle.2) ((0, 0, 0) ∷ (1, 0, 0) ∷ (0, 90, 0) ∷ (1, 90, 0) ∷ (1, 89, 59) ∷ (0, 10, 60) ∷ (2, 10, 0) ∷ (0, 91, 0) ∷ (0, 90, 1) ∷ []) ≡ true ∷ true ∷ true ∷ true ∷ true ∷ false ∷ false ∷ false ∷ false ∷ []
unfolding all_hold
clino_ends = refl

-- Leg 1,008 ends at word 4,095.
example_3 : newer_word 1008 ≡ 4095
example_3 = refl

-- So did leg 1,344 when a leg had three words; leg 1 starts at word 64 in both layouts, and leg 2 where leg 1 ends.
last_old_leg : measure_word_in ThreeWords 1344 ≡ 4095
last_old_leg = refl

first_legs : map (λ layout. link_word_in layout 1) (ThreeWords ∷ FourWords ∷ []) ≡ 64 ∷ 64 ∷ []
first_legs = refl

second_legs : map (λ layout. link_word_in layout 2) (ThreeWords ∷ FourWords ∷ []) ≡ 67 ∷ 68 ∷ []
second_legs = refl

-- Clino −9,000 adds 0.
example_4 : clino_offset (negsuc 8999) ≡ 0
example_4 = refl

-- Word 50 has position 0, word 0 has 6.
example_8 : position_of 50 ≡ 0
unfolding position_by
example_8 = refl

example_9 : position_of 0 ≡ 6
unfolding position_by
example_9 = refl

-- The ranks turned round: passage 0 has rank 31, passage 31 rank 0. Words 0 and 1 then stand last of the passages' words, words 62 and 63 first, and a leg's word at its own
-- number as before.
abbrev pub turned : Ranks
turned =
    31 ∷ 30 ∷ 29 ∷ 28 ∷ 27 ∷ 26 ∷ 25 ∷ 24 ∷ 23 ∷ 22 ∷ 21 ∷ 20 ∷ 19 ∷ 18 ∷ 17 ∷ 16 ∷ 15 ∷ 14 ∷ 13 ∷ 12 ∷ 11 ∷ 10 ∷ 9 ∷ 8 ∷ 7 ∷ 6 ∷ 5 ∷ 4 ∷ 3 ∷ 2 ∷ 1 ∷ 0 ∷ []

turned_positions : map (position_by turned) (0 ∷ 1 ∷ 62 ∷ 63 ∷ 64 ∷ []) ≡ 62 ∷ 63 ∷ 0 ∷ 1 ∷ 64 ∷ []
unfolding position_by
turned_positions = refl

-- They are accepted; no ranks, 31 of them, 33 of them, and 32 with one twice are not.
accepted_or_not : map is_permutation (turned ∷ [] ∷ drop 1 turned ∷ (0 ∷ turned) ∷ (31 ∷ drop 1 fixed_ranks) ∷ []) ≡ true ∷ false ∷ false ∷ false ∷ false ∷ []
unfolding is_permutation all_hold
accepted_or_not = refl

-- The same two words, read.
that_leg_read : reading_of 8388673 76022100792200 ≡ Some that_leg
unfolding reading_of is_place is_measure place_in_range measure_in_range all_hold
that_leg_read = refl

abbrev read_back : Leg → Reading
read_back leg = reading_of (place_of leg.passage leg.stations) (measure_of leg.measure)

-- The last of every range: a plumb leg, whose compass is taken as 0.
largest : read_back (leg 31 65535 65534 100000 35999 (pos 9000)) ≡ Some (leg 31 65535 65534 100000 0 (pos 9000))
unfolding reading_of is_place is_measure place_in_range measure_in_range all_hold
largest = refl

smallest : read_back (leg 0 0 1 1 0 (negsuc 8999)) ≡ Some (leg 0 0 1 1 0 (negsuc 8999))
unfolding reading_of is_place is_measure place_in_range measure_in_range all_hold
smallest = refl

-- The words of an unused leg.
zeros : reading_of 0 0 ≡ None
unfolding reading_of is_place is_measure place_in_range measure_in_range all_hold
zeros = refl

from_is_to : read_back (leg 0 7 7 5000 9000 (negsuc 149)) ≡ None
unfolding reading_of is_place is_measure place_in_range measure_in_range all_hold
from_is_to = refl

passage_32 : read_back (leg 32 1 2 5000 9000 (negsuc 149)) ≡ None
unfolding reading_of is_place is_measure place_in_range measure_in_range all_hold
passage_32 = refl

clino_9001 : read_back (leg 0 1 2 5000 9000 (pos 9001)) ≡ None
unfolding reading_of is_place is_measure place_in_range measure_in_range all_hold
clino_9001 = refl

-- One shaft, written twice: "two members wrote 0 and 18,000".
one_shaft : measure_of (leg 0 1 2 5000 18000 (negsuc 8999)).measure ≡ measure_of (leg 0 1 2 5000 0 (negsuc 8999)).measure
one_shaft = refl

-- The word of that shaft with its compass kept, as a book from before may have it: 5,000 + 2^17 × 18,000.
compass_kept : reading_of 8388673 2359301000 ≡ None
unfolding reading_of is_place is_measure place_in_range measure_in_range all_hold
compass_kept = refl

-- One hundredth less steep, the compass counts.
nearly_plumb : read_back (leg 0 1 2 5000 18000 (pos 8999)) ≡ Some (leg 0 1 2 5000 18000 (pos 8999))
unfolding reading_of is_place is_measure place_in_range measure_in_range all_hold
nearly_plumb = refl
