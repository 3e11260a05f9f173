use mathlib.Core.Path.{◌≡◌}
use lib.ListN.{drop}
use Rattle.meeting.specs.Meeting.{pairs_of, pair_words}
use Rattle.stations.specs.Counting.{present_from}
use Rattle.listing.proofs.Continuing.{Continues}
use Rattle.listing.proofs.write_pairs.Given as goal

abbrev pub invariant-loop-lower : goal.invariant-loop-lower
invariant-loop-lower l =
    Continues l.out.words.now l.out.at (pair_words (pairs_of (present_from l.lower (drop l.lower l.counts)))) l.initial.out.words.now l.initial.out.at (pair_words (pairs_of (present_from 0 l.counts)))
    × (l.out.words.ghost_name ≡ l.initial.out.words.ghost_name)
