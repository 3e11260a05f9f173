use Rattle.sound.proofs.Bits.{Reached}
use Rattle.sound.proofs.Book.walk_passages.Given as goal

abbrev pub invariant-loop-passage : goal.invariant-loop-passage
invariant-loop-passage l = Reached l.self.layout l.self.words.now l.bits l.passage
