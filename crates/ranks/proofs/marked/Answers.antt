-- `ranks::marked` meets its contract: after each turn of the loop one more rank is marked.
use Prim.Native.Nat.{◌+◌}
use mathlib.Core.Path.{◌≡◌, refl, sym, ap, subst, ◌∙◌}
use mathlib.Core.Bool.{Bool, true, false}
use mathlib.Core.List.{List}
use native.Mathlib.Omega.{arith}
use lib.ListN.{length, set, take, length-set, get_or-replicate}
use Rattle.words.specs.Words.{passage_count}
use Rattle.ranks.specs.Marking.{MarksOf}
use Rattle.ranks.proofs.Marking.{one_marked, none_marked}
use Rattle.ranks.proofs.marked.Goals as goal
use Rattle.ranks.proofs.marked.Goals.{then-number, else-number}

pub loop-rank-init : goal.loop-rank-init
loop-rank-init c = (refl, λ number below. get_or-replicate passage_count number false false below)

pub loop-rank-preserved : goal.loop-rank-preserved
loop-rank-preserved c =
    let ranks = c.args.ranks.now in
    let loop = c.loop-rank in
    let k = loop.rank-index in
    let number = c.from-number.ensures in
    let Kept : List Bool → Type 0 = λ found. (length found ≡ passage_count) × MarksOf found (take (k + 1) ranks) in
    elim c.if-number.branch [
      | then-number w ↦
          subst Kept (sym (w.found-is ∙ ap (λ n. set loop.found n true) number))
          (length-set loop.found _ true ∙ loop.invariant.0, one_marked loop.found ranks k c.loop-rank-test.true (omega (arith, w.if-number.true, number, loop.invariant.0)) loop.invariant.1)
      | else-number w ↦
          subst Kept (sym w.found-is)
          (loop.invariant.0, none_marked loop.found ranks k c.loop-rank-test.true (omega (arith, w.if-number.false, number)) loop.invariant.1)
    ]
