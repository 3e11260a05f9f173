-- `encoder::write_seen` meets its contract: each value is put behind those before it, and the first behind the length and the kind.
use Prim.Native.Nat.{ℕ}
use mathlib.Core.Path.{◌≡◌, refl, ap, ◌∙◌}
use mathlib.Core.List.{List}
use native.Mathlib.Omega.{arith}
use lib.ListN.{length, length-take, take}
use lib.Seq.{take_all}
use Rattle.frames.specs.Numbers.{fields64}
use Rattle.frames.specs.Answers.{frame_of, answer_frame, written}
use Rattle.frames.proofs.Put.{next_put, values_written}
use Rattle.encoder.proofs.write_seen.Goals as goal

pub loop-k-init : goal.loop-k-init
unfolding fields64
loop-k-init c = refl

pub loop-k-preserved : goal.loop-k-preserved
loop-k-preserved c =
    let loop = c.loop-k in
    next_put _ loop.out _ (take c.values_shown-shown.result c.args.seen.values) 4 loop.k c.loop-k-test.true loop.invariant c.put64.ensures

pub returns : goal.returns
unfolding answer_frame
returns c =
    let loop = c.loop-k in
    let shown = c.values_shown-shown in
    let head = c.put_head-count in
    let values : List ℕ = take shown.result c.args.seen.values in
    let many : shown.result ≡ length values = omega (arith, length-take shown.result c.args.seen.values) in
    values_written c.args.out.now head.new.out loop.out values 139 head.result (omega arith) (omega arith)
    (rw many at head.ensures.1)
    (rw (take_all loop.k values c.loop-k-test.false) at loop.invariant)
    ∙ ap (λ (k : ℕ). written c.args.out.now (frame_of 139 (fields64 (take k c.args.seen.values)))) shown.ensures
