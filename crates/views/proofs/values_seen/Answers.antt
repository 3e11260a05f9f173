-- `views::values_seen` meets its contract: the value of each name is stored in turn.
use native.Mathlib.Omega.{arith}
use Prim.Native.Nat.{◌<◌}
use Rattle.std.proofs.lemmas.List.{length-take-le}
use Rattle.tickets.specs.Table.{targets_of}
use Rattle.views.proofs.Seeing.{shown_read, shown_none, shown_next, values_seen_by}
use Rattle.views.proofs.values_seen.Goals as goal

pub loop-k-init : goal.loop-k-init
loop-k-init c = shown_none _

pub loop-k-preserved : goal.loop-k-preserved
loop-k-preserved c =
    let loop = c.loop-k in
    let targets = c.args.targets.now in
    let many = length-take-le c.args.n targets (omega (arith, c.requires, c.told-targets)) in
    let below : loop.k < c.args.n = omega (arith, c.loop-k-test.true, many) in
    shown_next loop.values (targets_of targets c.args.n) loop.k c.value_noted.result loop.invariant (omega (arith, below, c.requires))
    (shown_read targets c.args.n loop.k below (omega (arith, c.requires)) (omega (arith, c.requires, c.told-targets)) c.value_noted.result c.value_noted.ensures)

pub returns : goal.returns
returns c =
    let targets = c.args.targets.now in
    let many = length-take-le c.args.n targets (omega (arith, c.requires, c.told-targets)) in
    values_seen_by c.loop-k.values (targets_of targets c.args.n) c.loop-k.k c.loop-k.invariant (omega (arith, c.loop-k-test.false, many))
