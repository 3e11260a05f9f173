-- `handlers::other_frame` meets its contract: what is left in the room at the front is left in the output.
use mathlib.Core.Path.{subst}
use Rattle.frames.specs.Numbers.{Bytes}
use Rattle.tickets.specs.Table.{gathered}
use Rattle.calls.specs.Way.{aim_numbered, settled_by}
use Rattle.handlers.specs.Settling.{OpenedAs}
use Rattle.handlers.proofs.Rooms.{opened_in_front}
use Rattle.handlers.proofs.other_frame.Goals as goal

pub returns : goal.returns
returns c =
    let left = c.answer_other in
    let room = c.in-Some.ensures.cases in
    opened_in_front c.args.out.now room.enough (subst (λ (room : Bytes). OpenedAs (settled_by c.args.book.now (gathered c.args.targets.now c.args.ticket) c.args.ranks.now c.args.frame.now (aim_numbered c.args.aim)).0 left.new.targets c.args.ticket left.result room left.new.out) room.same left.ensures)
