-- The list of a station computed on a small book.
use Rattle.std.specs.Prelude.{Ok, Err}
use Prim.Native.Nat.{ℕ}
use mathlib.Core.Path.{◌≡◌, refl}
use mathlib.Core.List.{[], ◌∷◌, ◌++◌}
use mathlib.Core.Bool.{true, false}
use mathlib.Core.Logic.{inl, inr}
use native.Mathlib.Omega.{arith}
use lib.ListN.{replicate}
use Rattle.words.specs.Tests.{all_hold, some_holds}
use Rattle.words.specs.declared.LegLayout.TheVariants.{FourWords}
use Rattle.words.specs.Words.{Words}
use Rattle.plain.specs.Plain.{NumberedLeg}
use Rattle.soundness.specs.InWords.{leg_at, lists_from, plain_in}
use Rattle.meeting.specs.Meeting.{meets, those_meeting, legs_at, passages_from, pairs_of, pair, listed_words, pair_words, station_words, station_list}
use Rattle.meeting.specs.Statements.{writing, ListedBefore, times_paired}

-- Every definition that the list comes to, opened at once.
unfoldable everything : Unit {0}
unfolding all_hold some_holds lists_from plain_in those_meeting legs_at passages_from pairs_of listed_words pair_words station_words
everything = tt

-- The measure of every leg here: 5,000 mm, 90.00°, −1.50°.
abbrev usual : ℕ
usual = 76022100792200

-- Legs 3 (2 to 3) and 1 (1 to 2) in passage 0, leg 2 (2 to 3) in passage 5.
abbrev pub front : Words
front =
    3 ∷ 2 ∷ replicate 8 0 ++ (2 ∷ 1 ∷ replicate 52 0
    ++ (0 ∷ 8388673 ∷ usual ∷ 3 ∷ 0 ∷ 12583046 ∷ usual ∷ 0 ∷ 1 ∷ 12583041 ∷ usual ∷ 0 ∷ []))

abbrev pub small : Words
small = front ++ replicate 4020 0

abbrev leg : ℕ → NumberedLeg
leg number = leg_at FourWords small number

-- A leg meets both of its stations, and no other.
meets_both : meets 1 (leg 1) ∷ meets 2 (leg 1) ∷ meets 3 (leg 1) ∷ [] ≡ true ∷ true ∷ false ∷ []
unfolding everything
meets_both = refl

-- Station 2: all three, newest first in passage 0, then passage 5; one pair.
pub at_2 : station_list small 2 ≡ 3 ∷ 3 ∷ 5000 ∷ 1 ∷ 5000 ∷ 2 ∷ 5000 ∷ 1 ∷ 0 ∷ 5 ∷ []
unfolding everything
at_2 = refl

-- Station 3: the newest of passage 0, then passage 5; station 1: one leg, no pair; station 9: none.
at_3 : station_list small 3 ≡ 2 ∷ 3 ∷ 5000 ∷ 2 ∷ 5000 ∷ 1 ∷ 0 ∷ 5 ∷ []
unfolding everything
at_3 = refl

at_1 : station_list small 1 ≡ 1 ∷ 1 ∷ 5000 ∷ 0 ∷ []
unfolding everything
at_1 = refl

at_9 : station_list small 9 ≡ 0 ∷ 0 ∷ []
unfolding everything
at_9 = refl

-- Leg 3 is newer than leg 1 in its passage, and leg 1 is of a lower passage than leg 2.
newer_before_lem : ListedBefore (plain_in FourWords small) (leg 3) (leg 1)
unfolding everything
newer_before_lem = inr (0, record { newer = []; between = []; older = []; parted = refl })

lower_before : ListedBefore (plain_in FourWords small) (leg 1) (leg 2)
unfolding everything
lower_before = inl (0, 5, omega arith, record { newer = leg 3 ∷ []; older = []; parted = refl }, record { newer = []; older = []; parted = refl })

-- Pairs of four passages rise; each is there once, lower number first, and none with itself.
four_pairs : pairs_of (1 ∷ 4 ∷ 5 ∷ 31 ∷ []) ≡ pair 1 4 ∷ pair 1 5 ∷ pair 1 31 ∷ pair 4 5 ∷ pair 4 31 ∷ pair 5 31 ∷ []
unfolding everything
four_pairs = refl

abbrev times : ℕ → ℕ → ℕ
times lower higher = times_paired lower higher (pairs_of (1 ∷ 4 ∷ 5 ∷ 31 ∷ []))

pairs_counted : times 4 31 ∷ times 31 4 ∷ times 5 5 ∷ times 4 6 ∷ [] ≡ 1 ∷ 0 ∷ 0 ∷ 0 ∷ []
unfolding everything
pairs_counted = refl

-- Exactly long enough, one too short, and longer: words after these stay.
just_enough : writing (7 ∷ 7 ∷ []) (0 ∷ 0 ∷ []) ≡ (Ok 2, 0 ∷ 0 ∷ [])
just_enough = refl

too_short : writing (7 ∷ []) (0 ∷ 0 ∷ []) ≡ (Err 21, 7 ∷ [])
too_short = refl

words_stay : writing (7 ∷ 7 ∷ 7 ∷ []) (0 ∷ 0 ∷ []) ≡ (Ok 2, 0 ∷ 0 ∷ 7 ∷ [])
words_stay = refl
