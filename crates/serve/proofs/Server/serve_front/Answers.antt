-- `serve::Server::serve_front` meets its contract: there is room for Refused 3, and less than a whole frame is kept where it goes on.
use native.Mathlib.Omega.{arith}
use mathlib.Core.Path.{sym, ◌∙◌}
use Rattle.tickets.specs.Table.{table_of}
use Rattle.serve.proofs.Serving.{room_to_refuse, few_kept}
use Rattle.serve.proofs.Server.serve_front.Goals as goal

pub put-refused-requires : goal.put-refused-requires
put-refused-requires c =
    let before = c.args.self.now in
    room_to_refuse before.book.now (table_of before.tickets) before.ranks.now before.input.buffer.now before.input.have before.out.now _ _ _ c.stream-answered.ensures.all (omega arith) before.input.inside before.roomy

pub returns-clause-bounds : goal.returns-clause-bounds
returns-clause-bounds c =
    let before = c.args.self.now in
    let goes = sym c.goes_on.ensures ∙ c.if-not-goes_on.false in
    let few = few_kept before.book.now (table_of before.tickets) before.ranks.now before.input.buffer.now before.input.have before.out.now _ _ _ c.stream-answered.ensures.all (omega arith) before.input.inside before.roomy goes in
    (omega (arith, few), omega arith)
