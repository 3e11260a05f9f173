-- `stations::counts_at` meets its contract: the counts so far are those of the passages.
use mathlib.Core.Path.{sym, ap, ◌∙◌}
use Prim.Native.Nat.{ℕ}
use native.Mathlib.Omega.{arith}
use lib.ListN.{get_or, set, length-set}
use lib.Seq.{ext_get_or}
use Rattle.words.specs.declared.LegLayout.TheVariants.{FourWords}
use Rattle.words.proofs.Copying.{same_more}
use Rattle.soundness.specs.InWords.{plain_in}
use Rattle.stations.specs.Counting.{counts_at}
use Rattle.stations.proofs.Walking.{length_plain}
use Rattle.stations.proofs.Counting.{length_counts, count_told}
use Rattle.stations.proofs.counts_at.Goals as goal

pub loop-passage-init : goal.loop-passage-init
loop-passage-init c = (omega arith, λ i below. absurd (omega arith))

pub loop-passage-preserved : goal.loop-passage-preserved
loop-passage-preserved c =
    let loop = c.loop-passage in
    let args = c.args in
    let book = args.book.words.now in
    let whole = counts_at args.station (plain_in FourWords book) in
    let here = c.count_of.ensures ∙ sym (count_told book args.station loop.passage (omega (arith, loop.invariant.0))) in (
      length-set loop.count-items loop.passage _ ∙ loop.invariant.0,
      λ i below. ap (λ (count : ℕ). get_or (set loop.count-items loop.passage count) i 0) here ∙ same_more loop.passage loop.count-items whole (omega (arith, loop.invariant.0)) loop.invariant.1 i below,
    )

pub returns : goal.returns
returns c =
    let loop = c.loop-passage in
    let args = c.args in
    let book = args.book.words.now in
    let whole = counts_at args.station (plain_in FourWords book) in
    ext_get_or 0 loop.count-items whole (loop.invariant.0 ∙ sym (length_counts args.station (plain_in FourWords book) ∙ length_plain book))
    (λ i below. loop.invariant.1 i (omega (arith, loop.invariant.0)))
