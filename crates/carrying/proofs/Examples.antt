-- Carry-overs computed: a small old book, the refusals in their order, and books of leg 1,008 and of leg 1,009.
use Rattle.std.specs.Prelude.{Ok, Err}
use Prim.Native.Nat.{ℕ, zero, suc, ◌+◌, ◌≤◌, ◌<◌}
use mathlib.Core.Path.{◌≡◌, refl, ap, ◌∙◌}
use mathlib.Core.List.{[], ◌∷◌, ◌++◌, map}
use mathlib.Core.Bool.{Bool, true, false, cond}
use mathlib.Core.Option.{some}
use native.Mathlib.Omega.{arith}
use lib.Dec.{eqb}
use lib.IntN.{negsuc}
use lib.ListN.{replicate, set}
use Rattle.words.specs.Tests.{all_hold, some_holds}
use Rattle.words.specs.declared.LegLayout.TheVariants.{ThreeWords, FourWords}
use Rattle.words.specs.Words.{Words, passage_count, newest_word}
use Rattle.legs.specs.Legs.{place_in_range, measure_in_range}
use Rattle.legs.specs.Reading.{is_place, is_measure, reading_of}
use Rattle.legs.specs.Positions.{fixed_ranks, position_by}
use Rattle.tickets.specs.Tickets.{Tickets, fresh_tickets, with_ticket, stands_below}
use Rattle.edits.specs.Views.{opened_view}
use Rattle.edits.specs.Opened.{insert_by, ordered_by}
use Rattle.plain.specs.Plain.{Plain, find_below, list_of, all_in_range, times_below, word_in, word_of, SoundIn}
use Rattle.calls.specs.Outcomes.{ticket_stands}
use Rattle.soundness.specs.Checking.{may_follow, walk, walk_passage, walk_below, used_or_zero, rest_zero, is_sound_in}
use Rattle.soundness.specs.InWords.{lists_from, plain_in}
use Rattle.carrying.specs.Carrying.{leg_above, carry_checks, carry_refusal, laid_out, carry_of}
use Rattle.carrying.proofs.Carrying.{length_laid_out, laid_out_words, carries_laid_out_books}
use Rattle.carrying.proofs.Answers.{carry_answers}

-- Every definition that the tests of a carry-over come to, opened at once.
unfoldable pub everything : Unit {0}
unfolding all_hold some_holds place_in_range measure_in_range is_place is_measure reading_of may_follow walk walk_passage walk_below used_or_zero rest_zero is_sound_in stands_below opened_view ordered_by insert_by position_by lists_from plain_in leg_above carry_checks carry_refusal find_below word_in
everything = tt

-- The measure of every leg here: 5,000 mm, 90.00°, −1.50°.
abbrev usual : ℕ
usual = 76022100792200

-- An old book with legs 3 and 1 in passage 0 and leg 2 in passage 5.
abbrev old : Words
old =
    (3 ∷ 2 ∷ replicate 8 0 ++ (2 ∷ 1 ∷ replicate 52 0
    ++ (0 ∷ 8388673 ∷ usual ∷ 0 ∷ 12583046 ∷ usual ∷ 1 ∷ 12583041 ∷ usual ∷ [])))
    ++ replicate 4023 0

-- Its passages' words stay; each leg stands four words from the last, and leg 1 names leg 3 as its newer one.
carried_passages : map (word_of (plain_in ThreeWords old)) (0 ∷ 1 ∷ 2 ∷ 10 ∷ 11 ∷ []) ≡ 3 ∷ 2 ∷ 0 ∷ 2 ∷ 1 ∷ []
unfolding everything
carried_passages = refl

carried_legs :
    map (word_of (plain_in ThreeWords old)) (64 ∷ 65 ∷ 66 ∷ 67 ∷ 68 ∷ 69 ∷ 70 ∷ 71 ∷ 72 ∷ 73 ∷ 74 ∷ 75 ∷ 76 ∷ [])
    ≡ 0 ∷ 8388673 ∷ usual ∷ 3 ∷ 0 ∷ 12583046 ∷ usual ∷ 0 ∷ 1 ∷ 12583041 ∷ usual ∷ 0 ∷ 0 ∷ []
unfolding everything
carried_legs = refl

-- A ticket of the last team, an old book in which leg 1 is in two passages, and a second book.
abbrev standing : Tickets
standing = with_ticket fresh_tickets 15 (opened_view fixed_ranks (7 ∷ []))

abbrev unsound : Words
unsound = set old (newest_word 5) 1

abbrev pub second : Words
second = replicate 4096 9

-- 1, of the old book and of the second, before 14; 14 before 15; 15.
refusals :
    carry_refusal [] second standing
    ∷ carry_refusal unsound [] standing
    ∷ carry_refusal unsound (0 ∷ second) standing
    ∷ carry_refusal unsound second standing
    ∷ carry_refusal unsound second fresh_tickets
    ∷ []
    ≡ map some (1 ∷ 1 ∷ 1 ∷ 14 ∷ 15 ∷ [])
unfolding everything
refusals = refl

-- 15 before 16: leg 1,009 is in the list of passage 5, and its words are zeros.
abbrev unsound_above : Words
unsound_above = set old (newest_word 5) 1009

a_leg_above : leg_above (plain_in ThreeWords unsound_above) ≡ true
unfolding everything
a_leg_above = refl

unsound_first : carry_refusal unsound_above second fresh_tickets ≡ some 15
unfolding everything
unsound_first = refl

pub none_stands : ticket_stands fresh_tickets ≡ false
unfolding everything
none_stands = refl

-- A book of one leg, in passage 0.
abbrev pub alone : ℕ → Plain
alone number = (record { number = number; stations = record { from = 1; to = 2 }; measure = record { distance = 5000; compass = 9000; clino = negsuc 149 } } ∷ []) ∷ replicate 31 []

no_list : (n passage : ℕ) → list_of (replicate n []) passage ≡ []
no_list zero passage = refl
no_list (suc n) zero = refl
no_list (suc n) (suc passage) = no_list n passage

-- It keeps the rules, if its leg is in range.
pub alone_sound : (number : ℕ) → all_in_range ThreeWords 0 (list_of (alone number) 0) ≡ true → SoundIn ThreeWords (alone number)
unfolding times_below
alone_sound number fits = record { passages = refl; each_in_range = each_in_range; none_twice = none_twice }
  where
    each_in_range : (passage : ℕ) → passage < passage_count → all_in_range ThreeWords passage (list_of (alone number) passage) ≡ true
    each_in_range zero below = fits
    each_in_range (suc passage) below = ap (all_in_range ThreeWords (suc passage)) (no_list 31 passage)

    none_twice : (r : ℕ) → times_below passage_count (alone number) r ≤ 1
    none_twice r = omega (arith, at_most (eqb r number))
      where
        at_most : (same : Bool) → cond same 1 0 + 0 ≤ 1
        at_most true = omega arith
        at_most false = omega arith

-- Leg 1,008 is carried over: the second book is that of leg 1,008 in four words.
last_leg_fits : all_in_range ThreeWords 0 (list_of (alone 1008) 0) ≡ true
unfolding everything
last_leg_fits = refl

last_leg_low : leg_above (alone 1008) ≡ false
unfolding everything
last_leg_low = refl

last_leg_done : (carry_of (laid_out ThreeWords (alone 1008)) second fresh_tickets).0 ≡ Ok tt
last_leg_done =
    (carry_answers (laid_out ThreeWords (alone 1008)) second fresh_tickets).done.1
    (((length_laid_out ThreeWords (alone 1008), refl), none_stands), (alone 1008, alone_sound 1008 last_leg_fits, laid_out_words ThreeWords (alone 1008), last_leg_low))

last_leg_carried : (carry_of (laid_out ThreeWords (alone 1008)) second fresh_tickets).1 ≡ laid_out FourWords (alone 1008)
last_leg_carried =
    (carry_answers (laid_out ThreeWords (alone 1008)) second fresh_tickets).written last_leg_done
    ∙ carries_laid_out_books (alone 1008) (alone_sound 1008 last_leg_fits)

-- Leg 1,009 is refused by 16, and the second book stays.
next_leg_fits : all_in_range ThreeWords 0 (list_of (alone 1009) 0) ≡ true
unfolding everything
next_leg_fits = refl

next_leg_high : leg_above (alone 1009) ≡ true
unfolding everything
next_leg_high = refl

next_leg_refused : (carry_of (laid_out ThreeWords (alone 1009)) second fresh_tickets).0 ≡ Err 16
next_leg_refused =
    (carry_answers (laid_out ThreeWords (alone 1009)) second fresh_tickets).a_leg_above.1
    (((length_laid_out ThreeWords (alone 1009), refl), none_stands), (alone 1009, alone_sound 1009 next_leg_fits, laid_out_words ThreeWords (alone 1009), next_leg_high))

second_stays : (carry_of (laid_out ThreeWords (alone 1009)) second fresh_tickets).1 ≡ second
second_stays = (carry_answers (laid_out ThreeWords (alone 1009)) second fresh_tickets).kept 16 next_leg_refused
