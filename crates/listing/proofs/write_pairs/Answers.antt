-- `listing::write_pairs` meets its contract: the passages that are left, written from here on, give what the whole gives.
use mathlib.Core.Path.{refl, ◌∙◌}
use Prim.Native.Nat.{◌+◌}
use native.Mathlib.Omega.{arith}
use lib.ListN.{drop}
use Rattle.meeting.specs.Meeting.{pairs_of, pair_words}
use Rattle.stations.specs.Counting.{present_from}
use Rattle.listing.specs.Listing.{pairs_with}
use Rattle.listing.proofs.Continuing.{begins, next_room, goes_on_lem, all_written_lem}
use Rattle.listing.proofs.Pairing.{lower_next, no_pairs_behind}
use Rattle.listing.proofs.write_pairs.Goals as goal

pub loop-lower-init : goal.loop-lower-init
loop-lower-init c =
    let args = c.args in
    (begins args.out.now.words.now args.out.now.at (pair_words (pairs_of (present_from 0 args.counts))) c.requires, refl)

pub write_pairs_with-requires : goal.write_pairs_with-requires
write_pairs_with-requires c =
    let loop = c.loop-lower in
    let counts = c.args.counts in
    let here = pair_words (pairs_with counts loop.lower) in
    let later = pair_words (pairs_of (present_from (loop.lower + 1) (drop (loop.lower + 1) counts))) in
    (c.loop-lower-test.true, next_room _ _ _ _ _ _ loop.invariant.0 here later (lower_next counts loop.lower (omega (arith, c.loop-lower-test.true))))

pub loop-lower-preserved : goal.loop-lower-preserved
loop-lower-preserved c =
    let loop = c.loop-lower in
    let counts = c.args.counts in
    let here = pair_words (pairs_with counts loop.lower) in
    let later = pair_words (pairs_of (present_from (loop.lower + 1) (drop (loop.lower + 1) counts))) in
    (goes_on_lem _ _ _ _ _ _ loop.invariant.0 here later (lower_next counts loop.lower (omega (arith, c.loop-lower-test.true))) _ _ c.write_pairs_with.ensures.0, c.write_pairs_with.ensures.1 ∙ loop.invariant.1)

pub returns : goal.returns
returns c =
    let loop = c.loop-lower in
    let args = c.args in
    (all_written_lem _ _ _ _ _ _ loop.invariant.0 (no_pairs_behind loop.lower args.counts (omega (arith, c.loop-lower-test.false))), loop.invariant.1)
