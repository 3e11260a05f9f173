-- `tickets::Ticket::put` meets its contract: one more put, in the ticket gathered from the slot.
use Rattle.tickets.proofs.Gathering.{gathered_put}
use Rattle.tickets.proofs.Ticket.put.Goals as goal

pub returns-clause-edit : goal.returns-clause-edit
returns-clause-edit c = λ targets. rw c.advanced.ensures (gathered_put targets c.args.self c.requires.0 c.requires.1)
