-- `tickets::Tickets::fresh` meets its contract: sixteen empty slots say no ticket.
use mathlib.Core.Path.{refl, ap, ◌∙◌}
use lib.ListN.{replicate}
use Rattle.words.specs.Words.{team_count}
use Rattle.tickets.specs.Table.{no_target, target_room, table_of}
use Rattle.tickets.proofs.Tables.{fresh_table}
use Rattle.tickets.proofs.Tickets.fresh.Goals as goal

pub returns : goal.returns
returns c = ap (λ slot. table_of record { slots = replicate team_count slot }) c.fresh.ensures ∙ fresh_table (replicate team_count (replicate target_room no_target)) refl
