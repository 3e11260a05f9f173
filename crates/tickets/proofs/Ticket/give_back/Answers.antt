-- `tickets::Ticket::give_back` meets its contract: one more given back, in the ticket gathered from the slot.
use Rattle.tickets.proofs.Gathering.{gathered_given}
use Rattle.tickets.proofs.Ticket.give_back.Goals as goal

pub returns-clause-edit : goal.returns-clause-edit
returns-clause-edit c = λ stale targets. rw (c.advanced.ensures, c.given.ensures) (gathered_given targets c.args.self stale c.requires.0 c.requires.1)
