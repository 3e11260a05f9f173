-- `tickets::Ticket::claim` meets its contract: one more claimed, in the ticket gathered from the slot.
use Rattle.tickets.proofs.Gathering.{gathered_claimed}
use Rattle.tickets.proofs.Ticket.claim.Goals as goal

pub returns-clause-edit : goal.returns-clause-edit
returns-clause-edit c = λ edit targets. rw c.advanced.ensures (gathered_claimed targets c.args.self edit c.requires.0 c.requires.1)
