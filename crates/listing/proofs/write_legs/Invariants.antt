use mathlib.Core.Path.{◌≡◌}
use Prim.Native.Nat.{◌-◌}
use Rattle.words.specs.declared.LegLayout.TheVariants.{FourWords}
use Rattle.words.specs.Words.{passage_count}
use Rattle.soundness.specs.InWords.{list_in, lists_from, plain_in}
use Rattle.meeting.specs.Meeting.{legs_at, listed_words}
use Rattle.listing.proofs.Continuing.{Continues}
use Rattle.listing.proofs.write_legs.Given as goal

abbrev pub invariant-loop-passage : goal.invariant-loop-passage
invariant-loop-passage l =
    Continues l.out.words.now l.out.at (listed_words (legs_at l.station (lists_from (list_in FourWords l.book.words.now) l.passage (passage_count - l.passage)))) l.initial.out.words.now l.initial.out.at (listed_words (legs_at l.station (plain_in FourWords l.book.words.now)))
    × (l.out.words.ghost_name ≡ l.initial.out.words.ghost_name)
