-- `serve::Server::at_end` meets its contract: Refused 3 where bytes are kept, and else nothing.
use Prim.Native.Nat.{ℕ}
use mathlib.Core.Path.{subst}
use native.Mathlib.Omega.{arith}
use Rattle.frames.specs.Answers.{answer_frame, PutAt}
use Rattle.frames.specs.declared.Answer.TheVariants as Answer
use Rattle.serve.proofs.Serving.{ends_torn, ends_whole}
use Rattle.serve.proofs.Server.at_end.Goals as goal

pub returns-then-have-gt0 : goal.returns-then-have-gt0
returns-then-have-gt0 c =
    let args = c.args in
    let put = subst (λ (number : ℕ). PutAt args.out.now 0 (answer_frame (Answer.Refused number)) c.put.result c.put.new.out) c.number.ensures c.put.ensures in
    (ends_torn args.out.now args.have c.if-have-gt0.true put, put.0.1)

pub returns : goal.returns
returns c = let args = c.args in (ends_whole args.out.now args.have c.if-have-gt0.false, omega arith)
