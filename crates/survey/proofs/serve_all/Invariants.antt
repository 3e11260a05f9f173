use Prim.Native.Nat.{◌<◌}
use Rattle.frames.specs.Fields.{longest_frame}
use Rattle.survey.proofs.serve_all.Given as goal

abbrev pub invariant-loop : goal.invariant-loop
invariant-loop l = l.server.input.have < longest_frame
