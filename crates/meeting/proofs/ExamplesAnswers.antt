-- What the call answers over the small book, and over books that are refused.
use Rattle.std.specs.Prelude.{Ok, Err}
use mathlib.Core.Path.{◌≡◌, refl, ap, ◌∙◌}
use mathlib.Core.List.{[], ◌∷◌}
use mathlib.Core.Bool.{true}
use mathlib.Core.Option.{none, some}
use native.Mathlib.Omega.{arith}
use lib.ListN.{replicate, set}
use Rattle.words.specs.Tests.{all_hold}
use Rattle.words.specs.declared.LegLayout.TheVariants.{FourWords}
use Rattle.words.specs.Words.{passage_count, mark_of}
use Rattle.legs.specs.Legs.{place_in_range, measure_in_range}
use Rattle.legs.specs.Reading.{is_place, is_measure, reading_of}
use Rattle.soundness.specs.Checking.{may_follow, walk, walk_passage, walk_below, used_or_zero, rest_zero, is_sound}
use Rattle.soundness.proofs.Walking.{sound_off}
use Rattle.soundness.proofs.Zeros.{zeros_after}
use Rattle.meeting.specs.Meeting.{meeting_of}
use Rattle.meeting.specs.Statements.{writing, longest_list}
use Rattle.meeting.proofs.Examples.{front, small, at_2}
use Rattle.meeting.proofs.Telling.{refused_1, refused_15, sound_written}

-- Every definition that the check comes to, opened at once.
unfoldable the_check : Unit {0}
unfolding all_hold place_in_range measure_in_range is_place is_measure reading_of may_follow walk walk_passage walk_below used_or_zero rest_zero
the_check = tt

-- The small book is sound, so its list is written where there is room, and refused by 21 where a word is missing.
small_walked : walk_below FourWords small passage_count ≡ some (2 ∷ 1 ∷ 3 ∷ [])
unfolding the_check
small_walked = refl

small_rest : rest_zero FourWords small (2 ∷ 1 ∷ 3 ∷ []) 3 ≡ true
unfolding the_check
small_rest = refl

small_sound : is_sound small ≡ true
small_sound = zeros_after FourWords front 4020 (2 ∷ 1 ∷ 3 ∷ []) 3 1005 refl (omega arith) small_walked small_rest

written_at_2 : meeting_of small 2 (replicate 12 7) ≡ (Ok 10, 3 ∷ 3 ∷ 5000 ∷ 1 ∷ 5000 ∷ 2 ∷ 5000 ∷ 1 ∷ 0 ∷ 5 ∷ 7 ∷ 7 ∷ [])
written_at_2 = sound_written small 2 (replicate 12 7) refl small_sound ∙ ap (writing (replicate 12 7)) at_2

refused_at_2 : meeting_of small 2 (replicate 9 7) ≡ (Err 21, replicate 9 7)
refused_at_2 = sound_written small 2 (replicate 9 7) refl small_sound ∙ ap (writing (replicate 9 7)) at_2

-- A book of another length gives 1, and one with a mark 15, both with no output at all.
no_book : meeting_of (0 ∷ small) 2 [] ≡ (Err 1, [])
no_book = refused_1 (0 ∷ small) 2 [] (λ e. omega (arith, e))

marked_walked : walk_below FourWords (set small 0 (mark_of 3)) passage_count ≡ none
unfolding the_check
marked_walked = refl

marked : meeting_of (set small 0 (mark_of 3)) 2 [] ≡ (Err 15, [])
marked = refused_15 (set small 0 (mark_of 3)) 2 [] refl (sound_off FourWords (set small 0 (mark_of 3)) marked_walked)

longest : longest_list ≡ 3010
longest = refl
