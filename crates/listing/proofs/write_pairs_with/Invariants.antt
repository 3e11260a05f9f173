use mathlib.Core.Path.{◌≡◌}
use Prim.Native.Nat.{◌+◌}
use mathlib.Core.List.{map}
use lib.ListN.{drop}
use Rattle.meeting.specs.Meeting.{pair, pair_words}
use Rattle.stations.specs.Counting.{present_from}
use Rattle.listing.proofs.Continuing.{Continues}
use Rattle.listing.proofs.write_pairs_with.Given as goal

abbrev pub invariant-loop-higher : goal.invariant-loop-higher
invariant-loop-higher l =
    Continues l.out.words.now l.out.at (pair_words (map (pair l.lower) (present_from l.higher (drop l.higher l.counts)))) l.initial.out.words.now l.initial.out.at (pair_words (map (pair l.lower) (present_from (l.lower + 1) (drop (l.lower + 1) l.counts))))
    × (l.out.words.ghost_name ≡ l.initial.out.words.ghost_name)
