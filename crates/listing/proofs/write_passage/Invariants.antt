use mathlib.Core.Path.{◌≡◌}
use Rattle.words.specs.declared.LegLayout.TheVariants.{FourWords}
use Rattle.soundness.specs.InWords.{list_in}
use Rattle.meeting.specs.Meeting.{those_meeting, listed_words}
use Rattle.stations.specs.Chains.{legs_left}
use Rattle.listing.proofs.Continuing.{Continues}
use Rattle.listing.proofs.write_passage.Given as goal

abbrev pub invariant-loop-leg : goal.invariant-loop-leg
invariant-loop-leg l =
    Continues l.out.words.now l.out.at (listed_words (those_meeting l.station (legs_left l.leg-iterator))) l.initial.out.words.now l.initial.out.at (listed_words (those_meeting l.station (list_in FourWords l.book.words.now l.passage)))
    × (l.out.words.ghost_name ≡ l.initial.out.words.ghost_name)
