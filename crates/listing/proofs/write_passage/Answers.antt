-- `listing::write_passage` meets its contract: the legs that are left, written from here on, give what the whole gives.
use mathlib.Core.Path.{◌≡◌, refl, sym, subst, ◌∙◌}
use mathlib.Core.List.{List, [], ◌∷◌}
use Rattle.words.specs.declared.LegLayout.TheVariants.{FourWords}
use Rattle.words.specs.Words.{Words}
use Rattle.plain.specs.Plain.{NumberedLeg}
use Rattle.soundness.specs.InWords.{list_in}
use Rattle.meeting.specs.Meeting.{those_meeting, listed_words}
use Rattle.stations.specs.Chains.{leg_of, legs_left}
use Rattle.listing.proofs.Continuing.{Continues, begins, next_room, goes_on_lem, all_written_lem}
use Rattle.listing.proofs.Legs.{listed_next, nothing_listed}
use Rattle.listing.proofs.write_passage.Goals as goal

pub loop-leg-init : goal.loop-leg-init
loop-leg-init c =
    let args = c.args in
    let all : legs_left c.into_iter-leg-iterator.result ≡ list_in FourWords args.book.words.now args.passage = cc in
    let listed : List NumberedLeg → Words = λ l. listed_words (those_meeting args.station l) in (
      subst (λ l. Continues args.out.now.words.now args.out.now.at (listed l) args.out.now.words.now args.out.now.at (listed (list_in FourWords args.book.words.now args.passage))) (sym all)
          (begins args.out.now.words.now args.out.now.at (listed (list_in FourWords args.book.words.now args.passage)) c.requires.1),
      refl,
    )

pub write_leg-requires : goal.write_leg-requires
write_leg-requires c =
    let listed : List NumberedLeg → Words = λ l. listed_words (those_meeting c.args.station l) in
    next_room _ _ _ _ _ _ c.loop-leg.invariant.0 (listed (leg_of c.in-Some.leg ∷ [])) (listed (legs_left c.next.new.self))
    (listed_next c.args.station _ (leg_of c.in-Some.leg) (legs_left c.next.new.self) c.in-Some.ensures.steps)

pub loop-leg-preserved : goal.loop-leg-preserved
loop-leg-preserved c =
    let listed : List NumberedLeg → Words = λ l. listed_words (those_meeting c.args.station l) in (
      goes_on_lem _ _ _ _ _ _ c.loop-leg.invariant.0 (listed (leg_of c.in-Some.leg ∷ [])) (listed (legs_left c.next.new.self))
          (listed_next c.args.station _ (leg_of c.in-Some.leg) (legs_left c.next.new.self) c.in-Some.ensures.steps) _ _ c.write_leg.ensures.0,
      c.write_leg.ensures.1 ∙ c.loop-leg.invariant.1,
    )

pub returns : goal.returns
returns c = (all_written_lem _ _ _ _ _ _ c.loop-leg.invariant.0 (nothing_listed c.args.station _ c.in-None.ensures.steps.0), c.loop-leg.invariant.1)
