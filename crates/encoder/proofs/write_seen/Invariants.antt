use mathlib.Core.Path.{◌≡◌}
use lib.ListN.{take}
use lib.Seq.{sets}
use Rattle.frames.specs.Numbers.{fields64}
use Rattle.encoder.proofs.write_seen.Given as goal

-- The first k values stand behind the head.
abbrev pub invariant-loop-k : goal.invariant-loop-k
invariant-loop-k l = l.out ≡ sets l.initial.out 4 (fields64 (take l.k l.value-items))
