-- Examples computed on a small plain book: each edit where it succeeds, each edit stale for each of its conditions, and some words.
use Prim.Native.Nat.{ℕ}
use mathlib.Core.Path.{◌≡◌, refl}
use mathlib.Core.List.{List, [], ◌∷◌, map}
use mathlib.Core.Bool.{Bool, true, false}
use lib.IntN.{ℤ, pos, negsuc}
use lib.ListN.{replicate}
use Rattle.words.specs.Tests.{all_hold}
use Rattle.words.specs.declared.LegLayout.TheVariants.{ThreeWords}
use Rattle.legs.specs.declared.Stations.{Stations}
use Rattle.legs.specs.declared.Measure.{Measure}
use Rattle.edits.specs.declared.Edit.{Edit}
use Rattle.edits.specs.declared.Edit.TheVariants.{Add, Correct, Strike, Move}
use Rattle.plain.specs.Plain.{Plain, NumberedLeg, fresh_plain, find_below, word_in, word_of, legs_below, legs_in_book}
use Rattle.plain.specs.Editing.{succeeds, perform, attempt}

abbrev from_to : ℕ → ℕ → Stations
from_to from to = record { from = from; to = to }

abbrev measured : ℕ → ℕ → ℤ → Measure
measured distance compass clino = record { distance = distance; compass = compass; clino = clino }

abbrev numbered : ℕ → Stations → Measure → NumberedLeg
numbered number stations measure = record { number = number; stations = stations; measure = measure }

-- The stations and the measure of leg 2; the measure of the other legs: 5,000 mm, 90.00°, −1.50°; and another one.
abbrev of_two : Stations
of_two = from_to 2 3

abbrev level : Measure
level = measured 4000 100 (pos 0)

abbrev usual : Measure
usual = measured 5000 9000 (negsuc 149)

abbrev other : Measure
other = measured 5001 9000 (negsuc 149)

abbrev leg1 : NumberedLeg
leg1 = numbered 1 (from_to 1 2) usual

abbrev leg2 : NumberedLeg
leg2 = numbered 2 of_two level

abbrev leg3 : NumberedLeg
leg3 = numbered 3 (from_to 3 4) usual

abbrev leg4 : NumberedLeg
leg4 = numbered 4 (from_to 2 7) usual

-- The plain book with lists for passages 0 and 1, all others empty.
abbrev book_of : List NumberedLeg → List NumberedLeg → Plain
book_of first second = first ∷ second ∷ replicate 30 []

-- Legs 3, 2 and 1 in passage 0, leg 4 in passage 1.
abbrev small : Plain
small = book_of (leg3 ∷ leg2 ∷ leg1 ∷ []) (leg4 ∷ [])

-- Edits of this book. Add to passage 0: r, h, c.
abbrev addition : ℕ → ℕ → ℕ → Edit
addition leg newest count = Add (record { passage = 0; leg = leg; newest = newest; count = count; stations = from_to 4 5; measure = usual })

-- Correct: p, r, the stations and the old measure.
abbrev correction : ℕ → ℕ → Stations → Measure → Edit
correction passage leg stations old = Correct (record { passage = passage; leg = leg; stations = stations; old = old; new = other })

-- Strike leg 2 of passage 0: f, s, c, the stations and the measure.
abbrev striking : ℕ → ℕ → ℕ → Stations → Measure → Edit
striking newer older count stations measure =
    Strike (record { passage = 0; newer = newer; leg = 2; older = older; count = count; stations = stations; measure = measure })

-- Move leg 2 from passage 0 to passage 1: f, s, c, h, d and the stations.
abbrev moving : ℕ → ℕ → ℕ → ℕ → ℕ → Stations → Edit
moving newer older count newest into stations =
    Move (record { passage = 0; into = 1; newer = newer; leg = 2; older = older; count = count; into_newest = newest; into_count = into; stations = stations })

-- Whether an edit succeeds on the book, and the book after it.
abbrev outcome : Edit → Bool × Plain
outcome edit = (succeeds small edit, attempt small edit)

-- Stale: the lists stay.
abbrev stale : Bool × Plain
stale = (false, small)

-- The book is reached from the fresh one by adds.
abbrev adding : ℕ → NumberedLeg → ℕ → ℕ → Edit
adding passage leg newest count =
    Add (record { passage = passage; leg = leg.number; newest = newest; count = count; stations = leg.stations; measure = leg.measure })

reached : attempt (attempt (attempt (attempt fresh_plain (adding 0 leg1 0 0)) (adding 1 leg4 0 0)) (adding 0 leg2 1 1)) (adding 0 leg3 2 2) ≡ small
unfolding succeeds perform attempt find_below all_hold
reached = refl

-- Add: r goes in front.
add_succeeds : outcome (addition 5 3 3) ≡ (true, book_of (numbered 5 (from_to 4 5) usual ∷ leg3 ∷ leg2 ∷ leg1 ∷ []) (leg4 ∷ []))
unfolding succeeds perform attempt find_below all_hold
add_succeeds = refl

-- A wrong newest leg, a wrong count, a number in use: in the passage, and in another.
add_stale : map outcome (addition 5 2 3 ∷ addition 5 3 2 ∷ addition 2 3 3 ∷ addition 4 3 3 ∷ []) ≡ replicate 4 stale
unfolding succeeds perform attempt find_below all_hold
add_stale = refl

-- Correct: leg 2 takes the new measure.
correct_succeeds : outcome (correction 0 2 of_two level) ≡ (true, book_of (leg3 ∷ numbered 2 of_two other ∷ leg1 ∷ []) (leg4 ∷ []))
unfolding succeeds perform attempt find_below all_hold
correct_succeeds = refl

-- Not in p: in another passage, and nowhere. Wrong stations: from, to. A wrong measure: distance, compass, clino.
correct_stale :
    map outcome (
    correction 1 2 of_two level
    ∷ correction 0 9 of_two level
    ∷ correction 0 2 (from_to 1 3) level
    ∷ correction 0 2 (from_to 2 4) level
    ∷ correction 0 2 of_two (measured 4001 100 (pos 0))
    ∷ correction 0 2 of_two (measured 4000 101 (pos 0))
    ∷ correction 0 2 of_two (measured 4000 100 (negsuc 0))
    ∷ []
    ) ≡ replicate 7 stale
unfolding succeeds perform attempt find_below all_hold
correct_stale = refl

-- One shaft, straight down: "Two members wrote 0 and 18,000" for its compass.
abbrev shaft : ℕ → Measure
shaft compass = measured 7000 compass (negsuc 8999)

abbrev shaft_book : Measure → Plain
shaft_book measure = book_of (numbered 1 (from_to 1 2) measure ∷ []) []

-- However its compass is sent, the shaft is added with compass 0;
shafts_added :
    map (λ (compass : ℕ). attempt fresh_plain (adding 0 (numbered 1 (from_to 1 2) (shaft compass)) 0 0)) (0 ∷ 18000 ∷ 35999 ∷ [])
    ≡ replicate 3 (shaft_book (shaft 0))
unfolding succeeds perform attempt find_below all_hold
shafts_added = refl

-- however it is quoted, a correction succeeds, and a new measure that is plumb is kept with compass 0.
shaft_corrected :
    map
    (λ (compass : ℕ). attempt (shaft_book (shaft 0)) (Correct (record { passage = 0; leg = 1; stations = from_to 1 2; old = shaft compass; new = measured 7100 compass (pos 9000) })))
    (0 ∷ 18000 ∷ 35999 ∷ [])
    ≡ replicate 3 (shaft_book (measured 7100 0 (pos 9000)))
unfolding succeeds perform attempt find_below all_hold
shaft_corrected = refl

-- So does a strike.
shaft_struck :
    attempt (shaft_book (shaft 0)) (Strike (record { passage = 0; newer = 0; leg = 1; older = 0; count = 1; stations = from_to 1 2; measure = shaft 18000 }))
    ≡ fresh_plain
unfolding succeeds perform attempt find_below all_hold
shaft_struck = refl

-- One hundredth less steep, the compass counts: the correction is stale.
nearly_plumb_stale :
    succeeds (shaft_book (measured 7000 0 (negsuc 8998))) (Correct (record { passage = 0; leg = 1; stations = from_to 1 2; old = measured 7000 18000 (negsuc 8998); new = other }))
    ≡ false
unfolding succeeds perform attempt find_below all_hold
nearly_plumb_stale = refl

-- Strike: leg 2 goes, from between 3 and 1.
strike_succeeds : outcome (striking 3 1 3 of_two level) ≡ (true, book_of (leg3 ∷ leg1 ∷ []) (leg4 ∷ []))
unfolding succeeds perform attempt find_below all_hold
strike_succeeds = refl

-- A wrong count, wrong stations, a wrong measure, a wrong newer leg, a wrong older leg.
strike_stale :
    map outcome (
    striking 3 1 2 of_two level
    ∷ striking 3 1 3 (from_to 2 4) level
    ∷ striking 3 1 3 of_two usual
    ∷ striking 0 1 3 of_two level
    ∷ striking 3 0 3 of_two level
    ∷ []
    ) ≡ replicate 5 stale
unfolding succeeds perform attempt find_below all_hold
strike_stale = refl

-- The newest leg has no newer one, the oldest no older one: each is named 0.
strike_ends :
    map (succeeds small) (
    Strike (record { passage = 0; newer = 0; leg = 3; older = 2; count = 3; stations = from_to 3 4; measure = usual })
    ∷ Strike (record { passage = 0; newer = 2; leg = 1; older = 0; count = 3; stations = from_to 1 2; measure = usual })
    ∷ Strike (record { passage = 1; newer = 0; leg = 4; older = 0; count = 1; stations = from_to 2 7; measure = usual })
    ∷ []
    ) ≡ replicate 3 true
unfolding succeeds find_below all_hold
strike_ends = refl

-- Move: leg 2 goes to the front of passage 1 with its measure.
move_succeeds : outcome (moving 3 1 3 4 1 of_two) ≡ (true, book_of (leg3 ∷ leg1 ∷ []) (leg2 ∷ leg4 ∷ []))
unfolding succeeds perform attempt find_below all_hold
move_succeeds = refl

-- Wrong stations, a wrong newer leg, a wrong older leg, a wrong count, a wrong newest leg of q, a wrong count of q.
move_stale :
    map outcome (
    moving 3 1 3 4 1 (from_to 2 4)
    ∷ moving 0 1 3 4 1 of_two
    ∷ moving 3 0 3 4 1 of_two
    ∷ moving 3 1 2 4 1 of_two
    ∷ moving 3 1 3 0 1 of_two
    ∷ moving 3 1 3 4 0 of_two
    ∷ []
    ) ≡ replicate 6 stale
unfolding succeeds perform attempt find_below all_hold
move_stale = refl

-- Words: newest leg and count of passages 0, 1 and 31; links of 3, 2 and 1; the legs just newer than these.
passage_words : map (word_of small) (0 ∷ 1 ∷ 2 ∷ 3 ∷ 62 ∷ 63 ∷ []) ≡ 3 ∷ 3 ∷ 4 ∷ 1 ∷ 0 ∷ 0 ∷ []
unfolding word_in find_below
passage_words = refl

links : map (word_of small) (72 ∷ 68 ∷ 64 ∷ []) ≡ 2 ∷ 1 ∷ 0 ∷ []
unfolding word_in find_below
links = refl

newer_legs : map (word_of small) (75 ∷ 71 ∷ 67 ∷ []) ≡ 0 ∷ 3 ∷ 2 ∷ []
unfolding word_in find_below
newer_legs = refl

-- Leg 1 is that of the whole case: its place and its measure.
figures : map (word_of small) (65 ∷ 66 ∷ []) ≡ 8388673 ∷ 76022100792200 ∷ []
unfolding word_in find_below
figures = refl

-- Leg 5 and leg 1,008 are unused.
unused : map (word_of small) (80 ∷ 81 ∷ 82 ∷ 83 ∷ 4092 ∷ 4093 ∷ 4094 ∷ 4095 ∷ []) ≡ replicate 8 0
unfolding word_in find_below
unused = refl

-- Leg 2 struck: the link of 3 and the newer word of 1 pass it by, the count falls, and its words are zeros.
struck : map (word_of (perform small (striking 3 1 3 of_two level))) (0 ∷ 1 ∷ 72 ∷ 67 ∷ 68 ∷ 69 ∷ 70 ∷ 71 ∷ []) ≡ 3 ∷ 2 ∷ 1 ∷ 3 ∷ 0 ∷ 0 ∷ 0 ∷ 0 ∷ []
unfolding perform word_in find_below
struck = refl

-- Leg 2 moved to the front of passage 1: it has none newer, and leg 4 has it.
moved : map (word_of (perform small (moving 3 1 3 4 1 of_two))) (2 ∷ 72 ∷ 67 ∷ 68 ∷ 71 ∷ 79 ∷ []) ≡ 2 ∷ 1 ∷ 3 ∷ 4 ∷ 0 ∷ 2 ∷ []
unfolding perform word_in find_below
moved = refl

-- The same book in three words a leg: links of 3, 2 and 1, and the words of leg 1.
three_words : map (word_in ThreeWords small) (70 ∷ 67 ∷ 64 ∷ 65 ∷ 66 ∷ []) ≡ 2 ∷ 1 ∷ 0 ∷ 8388673 ∷ 76022100792200 ∷ []
unfolding word_in find_below
three_words = refl

-- Counts, summed over the passages.
legs_in_small : legs_in_book small ≡ 4
unfolding legs_below
legs_in_small = refl
