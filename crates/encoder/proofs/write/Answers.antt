-- `encoder::write` meets its contract: each answer is written in the first bytes of the output, where the longest has room.
use Rattle.frames.specs.Answers.{answer_frame}
use Rattle.encoder.proofs.Written.{written_first}
use Rattle.encoder.proofs.write.Goals as goal

pub returns-in-Standing : goal.returns-in-Standing
unfolding answer_frame
returns-in-Standing c = written_first _ _ _ _ c.args.answer (rw c.unwrap-out.ensures at c.first_chunk_mut.ensures.cases) (rw c.in-Standing.is c.write_short.ensures)

pub returns-in-Step : goal.returns-in-Step
returns-in-Step c = written_first _ _ _ _ c.args.answer (rw c.unwrap-out.ensures at c.first_chunk_mut.ensures.cases) (rw c.in-Step.is c.write_step.ensures)

pub returns-in-Look : goal.returns-in-Look
returns-in-Look c = written_first _ _ _ _ c.args.answer (rw c.unwrap-out.ensures at c.first_chunk_mut.ensures.cases) (rw c.in-Look.is c.write_look.ensures)

pub returns-in-Refused : goal.returns-in-Refused
unfolding answer_frame
returns-in-Refused c = written_first _ _ _ _ c.args.answer (rw c.unwrap-out.ensures at c.first_chunk_mut.ensures.cases) (rw c.in-Refused.is c.write_short-in-Refused.ensures)
