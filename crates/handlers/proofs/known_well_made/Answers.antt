-- `handlers::known_well_made` meets its contract: known, or tested.
use Rattle.handlers.proofs.Cases.{known_passes}
use Rattle.handlers.proofs.known_well_made.Goals as goal

pub returns-then-known : goal.returns-then-known
returns-then-known c = known_passes _ (c.requires c.if-known.true)
