-- `listing::write_legs` meets its contract: the passages that are left, written from here on, give what the whole gives.
use mathlib.Core.Path.{refl, subst, ◌∙◌}
use Prim.Native.Nat.{◌+◌, ◌-◌}
use native.Mathlib.Omega.{arith}
use Rattle.words.specs.declared.LegLayout.TheVariants.{FourWords}
use Rattle.words.specs.Words.{Words, passage_count}
use Rattle.plain.specs.Plain.{Plain}
use Rattle.soundness.specs.InWords.{list_in, lists_from, plain_in}
use Rattle.meeting.specs.Meeting.{those_meeting, legs_at, listed_words}
use Rattle.listing.proofs.Continuing.{Continues, begins, next_room, goes_on_lem, all_written_lem}
use Rattle.listing.proofs.Legs.{passages_next, no_passages_left, plain_lists}
use Rattle.listing.proofs.write_legs.Goals as goal

pub loop-passage-init : goal.loop-passage-init
loop-passage-init c =
    let args = c.args in
    let book = args.book.words.now in
    let listed : Plain → Words = λ lists. listed_words (legs_at args.station lists) in (
      subst (λ (lists : Plain). Continues args.out.now.words.now args.out.now.at (listed lists) args.out.now.words.now args.out.now.at (listed (plain_in FourWords book))) (plain_lists book)
          (begins args.out.now.words.now args.out.now.at (listed (plain_in FourWords book)) c.requires),
      refl,
    )

pub write_passage-requires : goal.write_passage-requires
write_passage-requires c =
    let loop = c.loop-passage in
    let args = c.args in
    let book = args.book.words.now in
    let here = listed_words (those_meeting args.station (list_in FourWords book loop.passage)) in
    let later = listed_words (legs_at args.station (lists_from (list_in FourWords book) (loop.passage + 1) (passage_count - (loop.passage + 1)))) in
    (c.loop-passage-test.true, next_room _ _ _ _ _ _ loop.invariant.0 here later (passages_next book args.station loop.passage c.loop-passage-test.true))

pub loop-passage-preserved : goal.loop-passage-preserved
loop-passage-preserved c =
    let loop = c.loop-passage in
    let args = c.args in
    let book = args.book.words.now in
    let here = listed_words (those_meeting args.station (list_in FourWords book loop.passage)) in
    let later = listed_words (legs_at args.station (lists_from (list_in FourWords book) (loop.passage + 1) (passage_count - (loop.passage + 1)))) in
    (goes_on_lem _ _ _ _ _ _ loop.invariant.0 here later (passages_next book args.station loop.passage c.loop-passage-test.true) _ _ c.write_passage.ensures.0, c.write_passage.ensures.1 ∙ loop.invariant.1)

pub returns : goal.returns
returns c =
    let loop = c.loop-passage in
    let args = c.args in
    (all_written_lem _ _ _ _ _ _ loop.invariant.0 (no_passages_left args.book.words.now args.station loop.passage (omega (arith, c.loop-passage-test.false))), loop.invariant.1)
