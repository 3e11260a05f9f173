-- `quick::put_told` meets its contract: two stores of four bytes, of which the last two stay where six are told.
use native.Mathlib.Omega.{arith}
use lib.Dec.{eqb}
use Rattle.quick.proofs.Telling.{told_by_lem}
use Rattle.quick.proofs.put_told.Goals as goal

pub returns : goal.returns
returns c =
    let long = c.chosen-2 in
    let fields = c.chosen-fields in
    let head = c.chosen-head in
    let inner = c.chosen in
    let many = c.chosen-many in
    let kept = c.read16-kept in
    let args = c.args in
    told_by_lem args.out.now c.put32.new.out c.put32-2.new.out args.at (eqb args.after.done args.after.n) args.claims args.after
    kept.result many.result inner.result head.result fields.result long.result
    (omega (arith, c.requires.inside, c.requires.room)) (λ k. omega (arith, c.slice_known-1.given k)) (omega (arith, many.type_inv))
    kept.ensures.0 many.ensures inner.ensures head.ensures fields.ensures c.put32.ensures c.put32-2.ensures long.ensures
