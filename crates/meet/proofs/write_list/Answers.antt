-- `meet::write_list` meets its contract: the four parts of the list, one after another.
use mathlib.Core.Path.{refl, ◌∙◌}
use borrow.Author.Rules.{rules}
use mathlib.Core.List.{[], ◌∷◌}
use Rattle.words.specs.declared.LegLayout.TheVariants.{FourWords}
use Rattle.soundness.specs.InWords.{plain_in}
use Rattle.meeting.specs.Meeting.{legs_at, listed_words}
use Rattle.listing.proofs.Continuing.{left_room, next_room}
use Rattle.meet.proofs.Whole.{legs_next, pairs_number_next, pairs_next, list_written}
use Rattle.meet.proofs.write_list.Goals as goal

pub write_legs-requires : goal.write_legs-requires
write_legs-requires c =
    let args = c.args in
    let plain = plain_in FourWords args.book.words.now in
    let so_far = legs_next args.station plain args.counts args.size c.requires.0 c.requires.1 args.out.now c.requires.2 _ _ c.put.ensures.0 in
    next_room _ _ _ _ _ _ so_far (listed_words (legs_at args.station plain)) _ refl

pub put-requires-2 : goal.put-requires-2
put-requires-2 c =
    let args = c.args in
    let plain = plain_in FourWords args.book.words.now in
    let so_far = pairs_number_next args.station plain args.counts args.size c.requires.0 c.requires.1 args.out.now c.requires.2 _ _ c.put.ensures.0 _ _ c.write_legs.ensures.0 in
    next_room _ _ _ _ _ _ so_far (args.size.pairs ∷ []) _ refl

pub write_pairs-requires : goal.write_pairs-requires
write_pairs-requires c =
    let args = c.args in
    let plain = plain_in FourWords args.book.words.now in
    left_room _ _ _ _ _ _ (pairs_next args.station plain args.counts args.size c.requires.0 c.requires.1 args.out.now c.requires.2 _ _ c.put.ensures.0 _ _ c.write_legs.ensures.0 _ _ c.put-2.ensures.0)

pub returns : goal.returns
returns c =
    let args = c.args in
    let plain = plain_in FourWords args.book.words.now in
    let done = list_written args.station plain args.counts args.size c.requires.0 c.requires.1 args.out.now c.requires.2 _ _ c.put.ensures.0 _ _ c.write_legs.ensures.0 _ _ c.put-2.ensures.0 _ _ c.write_pairs.ensures.0 in
    let same = c.write_pairs.ensures.1 ∙ c.put-2.ensures.1 ∙ c.write_legs.ensures.1 ∙ c.put.ensures.1 in
    (done.0, search (rules, done.1, same))
