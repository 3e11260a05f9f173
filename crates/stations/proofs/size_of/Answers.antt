-- `stations::size_of` meets its contract: the size so far is that of the counts passed, from the last on.
use mathlib.Core.Path.{◌≡◌, sym, subst}
use mathlib.Core.List.{List}
use Prim.Native.Nat.{ℕ}
use native.Mathlib.Omega.{arith}
use borrow.Author.Rules.{rules}
use Rattle.stations.specs.declared.Size.{Size}
use Rattle.stations.proofs.Counting.{Sized, sized_none, sized_next, sized_fits, sized_all}
use Rattle.stations.proofs.size_of.Goals as goal

pub loop-count-init : goal.loop-count-init
loop-count-init c =
    let counts = c.args.counts in
    let all : c.into_iter-count-iterator.result.iter.rest.now ≡ counts = cc in
    let zero : c.default-size.result ≡ record { legs = 0; passages = 0; pairs = 0 } = search rules in
    subst (λ (left : List ℕ). Sized counts left c.default-size.result) (sym all) (subst (λ (size : Size). Sized counts counts size) (sym zero) (sized_none counts))

pub with_passage-size-requires : goal.with_passage-size-requires
with_passage-size-requires c =
    let loop = c.loop-count in
    sized_fits c.args.counts _ loop.size loop.invariant c.next.new.self.iter.rest.now c.in-Some.count.now c.in-Some.ensures.steps c.requires (omega arith)

pub loop-count-preserved : goal.loop-count-preserved
loop-count-preserved c =
    let loop = c.loop-count in
    let left = c.next.new.self.iter.rest.now in
    subst (λ (size : Size). Sized c.args.counts left size) (sym c.with_passage-size.ensures)
    (sized_next c.args.counts _ loop.size loop.invariant left c.in-Some.count.now c.in-Some.ensures.steps)

pub returns : goal.returns
returns c = sized_all c.args.counts _ c.loop-count.size c.loop-count.invariant c.in-None.ensures.steps.0
