-- `stations::count_of` meets its contract: it counts those of the chain that pass the test.
use mathlib.Core.Path.{sym, ap, subst, ◌∙◌}
use mathlib.Core.List.{List}
use Prim.Native.Nat.{◌≤◌}
use native.Mathlib.Omega.{arith}
use lib.ListN.{length}
use Rattle.std.proofs.Common.{rules, tests, inl}
use Rattle.std.proofs.lemmas.Iterator.Consumers.{YieldsList-from_first, YieldsList-from_filter, count_from_yields_List}
use Rattle.words.specs.declared.LegLayout.TheVariants.{FourWords}
use Rattle.words.specs.Words.{last_leg}
use Rattle.plain.specs.Plain.{NumberedLeg}
use Rattle.soundness.specs.InWords.{list_in}
use Rattle.meeting.specs.Meeting.{meets}
use Rattle.stations.specs.Chains.{leg_of, legs_left}
use Rattle.stations.proofs.Walking.{list_few, those_passing}
use Rattle.stations.proofs.count_of.Goals as goal

pub returns : goal.returns
returns c =
    let legs = list_in FourWords c.args.book.words.now c.args.passage in
    count_from_yields_List c.filter.result c.count.result c.count.ensures.ran
    (YieldsList-from_filter _ (meets c.args.station) (YieldsList-from_first leg_of legs_left legs (ap legs_left c.filter.ensures.source ∙ c.legs_of.ensures)) c.filter.ensures.closure (λ x r q k. search (rules, tests)))
    ∙ ap length (sym (those_passing c.args.station legs))

pub count-requires-clause-fits : goal.count-requires-clause-fits
count-requires-clause-fits c =
    let words = c.args.book.words.now in
    let few : length (legs_left c.filter.result.iter) ≤ last_leg =
    subst (λ (l : List NumberedLeg). length l ≤ last_leg) (sym (ap legs_left c.filter.ensures.source ∙ c.legs_of.ensures)) (list_few words c.args.book.sound c.args.passage c.requires) in
    inl (omega arith)
