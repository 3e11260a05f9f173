-- `stations::WrittenLeg::is_at` meets its contract, by the station that the leg runs from.
use mathlib.Core.Path.{sym, ◌∙◌}
use lib.Dec.{eqb}
use borrow.Author.Tests.{eq-eqb}
use Rattle.stations.specs.Chains.{leg_of}
use Rattle.stations.proofs.Walking.{from_there, from_elsewhere}
use Rattle.stations.proofs.book.WrittenLeg.is_at.Goals as goal

pub returns-then-from_in-from : goal.returns-then-from_in-from
returns-then-from_in-from c =
    let told = sym c.from_in.ensures ∙ c.if-from_in-from.true ∙ c.from.ensures in
    eq-eqb c.from_in.result c.from.result c.if-from_in-from.true ∙ sym (from_there c.args.station (leg_of c.args.self) told)

pub returns-else-from_in-from : goal.returns-else-from_in-from
returns-else-from_in-from c =
    (λ i. eqb (c.to_in.ensures i) (c.from-else-from_in-from.ensures i))
    ∙ sym (from_elsewhere c.args.station (leg_of c.args.self) (λ same. c.if-from_in-from.false (c.from_in.ensures ∙ same ∙ sym c.from.ensures)))
