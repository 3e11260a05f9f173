use mathlib.Core.Path.{◌≡◌}
use Prim.Native.Nat.{◌-◌}
use Rattle.carry.specs.Writing.{newers_set}
use Rattle.carry.proofs.set_newers.Given as goal

abbrev pub invariant-loop-leg : goal.invariant-loop-leg
invariant-loop-leg l = l.second ≡ newers_set l.old (l.leg - 1) l.initial.second
