-- `listing::write_leg` meets its contract: the two words of a leg that is there, and none of another.
use mathlib.Core.Path.{◌≡◌, refl, sym, ap, subst, ◌∙◌}
use Prim.Native.Nat.{◌+◌, ◌≤◌}
use mathlib.Core.List.{[], ◌∷◌}
use lib.ListN.{length}
use Rattle.words.specs.Words.{Words}
use Rattle.meeting.specs.Meeting.{those_meeting, listed_words}
use Rattle.stations.specs.Chains.{leg_of}
use Rattle.listing.specs.Listing.{wrote}
use Rattle.listing.proofs.Continuing.{none_wrote}
use Rattle.listing.proofs.Legs.{listed_there, listed_elsewhere}
use Rattle.listing.proofs.write_leg.Goals as goal
use Rattle.listing.proofs.write_leg.Goals.{After-distance_in-distance}

told : (c : After-distance_in-distance) → (c.from-number.result ∷ c.distance_in-distance.result ∷ []) ≡ listed_words (those_meeting c.args.station (leg_of c.args.leg ∷ []))
told c =
    (λ i. c.from-number.ensures i ∷ c.distance_in-distance.ensures i ∷ [])
    ∙ sym (listed_there c.args.station (leg_of c.args.leg) (sym c.is_at.ensures ∙ c.if-is_at.true))

pub put_two-requires : goal.put_two-requires
put_two-requires c =
    subst (λ (words : Words). c.args.out.now.at + length words ≤ length c.args.out.now.words.now) (sym (told (goal.at.put_two-requires c).After-distance_in-distance)) c.requires

pub returns-then-is_at : goal.returns-then-is_at
returns-then-is_at c = (c.put_two.ensures.0 ∙ ap (wrote c.args.out.now.words.now c.args.out.now.at) (told (goal.at.returns-then-is_at c).After-distance_in-distance), c.put_two.ensures.1)

pub returns-else-is_at : goal.returns-else-is_at
returns-else-is_at c =
    let out = c.args.out.now in
    (none_wrote out.words.now out.at ∙ ap (wrote out.words.now out.at) (sym (listed_elsewhere c.args.station (leg_of c.args.leg) (sym c.is_at.ensures ∙ c.if-is_at.false))), refl)
