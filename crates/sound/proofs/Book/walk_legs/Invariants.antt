use mathlib.Core.List.{List}
use Prim.Native.Nat.{ℕ, ◌-◌}
use Rattle.soundness.specs.Checking.{walk}
use Rattle.sound.specs.Bits.{Marked}
use Rattle.sound.proofs.Bits.{Walking}
use Rattle.sound.proofs.Book.walk_legs.Given as goal

abbrev pub invariant-loop : goal.invariant-loop
invariant-loop l =
    (used : List ℕ) → Marked l.self.layout l.initial.bits used → Walking l.self.layout l.self.words.now l.bits l.passage (l.count - l.counter) l.newer l.next (walk l.self.layout l.self.words.now l.passage l.count 0 l.newest used)
