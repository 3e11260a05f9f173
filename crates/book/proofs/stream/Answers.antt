-- `book::stream` meets its contract: no book of 4,096 words, ranks that are not accepted, or all frames answered.
use native.Mathlib.Omega.{arith}
use mathlib.Core.Path.{sym, ◌∙◌}
use lib.ListN.{length}
use Rattle.calls.specs.Stream.{stream_from}
use Rattle.tickets.specs.Table.{table_of}
use Rattle.calls.proofs.Streaming.{stream_whole, stream_no_book, stream_no_ranks}
use Rattle.book.proofs.Rooms.{not_accepted, are_accepted}
use Rattle.book.proofs.stream.Goals as goal

pub returns-in_default : goal.returns-in_default
returns-in_default c =
    let is = c.stopped.ensures in
    record { bounds = (omega (arith, is.1), omega (arith, is.2)); all = (λ i. (is.0 i, c.args.book.now, c.args.out.now)) ∙ stream_no_book c.args.book.now (table_of c.args.tickets) c.args.ranks.now c.args.input.now c.args.out.now c.in_default.ensures.cases }

pub returns-in_default-accepted : goal.returns-in_default-accepted
returns-in_default-accepted c =
    let is = c.stopped-in_default-accepted.ensures in
    let lent = c.in-Some.ensures.cases in
    record { bounds = (omega (arith, is.1), omega (arith, is.2)); all = (λ i. (is.0 i, lent.same i, c.args.out.now)) ∙ stream_no_ranks c.args.book.now (table_of c.args.tickets) c.args.ranks.now c.args.input.now c.args.out.now lent.long (not_accepted _ _ (sym c.in_default-accepted.is ∙ c.accepted.ensures)) }

pub returns : goal.returns
returns c =
    let lent = c.in-Some.ensures.cases in
    let fine = are_accepted _ _ _ (sym c.in-Some-accepted.is ∙ c.accepted.ensures) in
    let answered = c.answer_frames.ensures in
    record {
      bounds = answered.0;
      all =
          answered.1
          ∙ (λ i. stream_from (length c.args.input.now) (lent.same i) (table_of c.args.tickets) (fine.1 i) c.args.input.now c.args.out.now 0 0)
          ∙ stream_whole c.args.book.now (table_of c.args.tickets) c.args.ranks.now c.args.input.now c.args.out.now lent.long fine.0;
    }
