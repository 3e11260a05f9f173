use mathlib.Core.Path.{◌≡◌}
use lib.ListN.{length}
use Rattle.words.specs.declared.LegLayout.TheVariants.{FourWords}
use Rattle.words.specs.Words.{passage_count}
use Rattle.words.proofs.Copying.{SameUpTo}
use Rattle.soundness.specs.InWords.{plain_in}
use Rattle.stations.specs.Counting.{counts_at}
use Rattle.stations.proofs.counts_at.Given as goal

abbrev pub invariant-loop-passage : goal.invariant-loop-passage
invariant-loop-passage l = (length l.count-items ≡ passage_count) × SameUpTo l.passage l.count-items (counts_at l.station (plain_in FourWords l.book.words.now))
