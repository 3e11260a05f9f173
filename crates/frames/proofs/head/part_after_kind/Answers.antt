-- `frames::head::part_after_kind` meets its contract: what is left after four bytes is all of it.
use native.Mathlib.Omega.{arith}
use Prim.Native.Nat.{◌-◌}
use lib.ListN.{length, drop, length-drop}
use lib.Seq.{take_all}
use Rattle.frames.proofs.head.part_after_kind.Goals as goal

pub returns : goal.returns
returns c = let frame = c.args.frame.now in
    take_all (length frame - 4) (drop 4 frame) (simp length-drop (omega arith))
