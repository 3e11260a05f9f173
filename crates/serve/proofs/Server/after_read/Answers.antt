-- `serve::Server::after_read` meets its contract: the end of the input, or what was read answered.
use mathlib.Core.Path.{◌∙◌}
use Rattle.tickets.specs.Table.{table_of}
use Rattle.serve.proofs.Serving.{serves_end, serves_read}
use Rattle.serve.proofs.Server.after_read.Goals as goal

pub returns-then-got-eq0-clause-all : goal.returns-then-got-eq0-clause-all
returns-then-got-eq0-clause-all c =
    let before = c.args.self.now in
    serves_end before.book.now (table_of before.tickets) before.ranks.now before.input.buffer.now before.input.have c.args.got before.out.now c.if-got-eq0.true c.at_end-count.ensures.0

pub returns-clause-all : goal.returns-clause-all
returns-clause-all c =
    let before = c.args.self.now in
    c.serve_front.ensures.all ∙ serves_read before.book.now (table_of before.tickets) before.ranks.now before.input.buffer.now before.input.have c.args.got before.out.now c.if-got-eq0.false
