-- `claiming::claim` meets its contract: the quoted value is exchanged for the mark, or the claim misses.
use Rattle.tickets.specs.declared.Phase.TheVariants.{Claiming}
use Rattle.replies.proofs.Standing.{phase_tells, target_asked}
use Rattle.claiming.proofs.Claiming.{next_unclaimed, misses_in, edit_claims, edit_misses}
use Rattle.claiming.proofs.claim.Goals as goal

pub target_at-target-requires : goal.target_at-target-requires
target_at-target-requires c =
    let args = c.args in
    let known = c.requires.steps_from in
    target_asked args.targets.now args.ticket known.steps_in.made args.ticket.claimed (next_unclaimed args.book.now args.targets.now args.team args.ticket args.out.now known)

pub claim-after-requires : goal.claim-after-requires
claim-after-requires c =
    (phase_tells c.args.ticket Claiming c.requires.steps_from.phase_known).1

pub returns-then-found-target : goal.returns-then-found-target
returns-then-found-target c =
    let args = c.args in
    let swap = c.conditional_swap-found in
    let target = c.target_at-target in
    let mark = c.mark-mark in
    let after = c.claim-after in
    let left = c.leave in
    rw left.ensures.ticket
    (edit_claims args.book.now args.targets.now args.team args.ticket args.out.now c.requires.steps_from target.result mark.result swap.result.found swap.new.book after.result left.result.written left.new.out
    target.ensures.target mark.ensures swap.ensures.found swap.ensures.words c.if-found-target.true after.ensures.slot left.ensures.answer)

pub missed-requires : goal.missed-requires
missed-requires c =
    let args = c.args in
    (misses_in args.book.now args.targets.now args.team args.ticket args.out.now c.requires.steps_from, c.requires.room)

pub returns : goal.returns
returns c =
    let other = c.if-found-target.false in
    let mark = c.mark-mark in
    let target = c.target_at-target in
    let args = c.args in
    edit_misses args.book.now args.targets.now args.team args.ticket args.out.now c.requires.steps_from target.result mark.result c.conditional_swap-found.result.found c.conditional_swap-found.new.book c.missed.result.ticket c.missed.result.written c.missed.new.out
    target.ensures.target mark.ensures c.conditional_swap-found.ensures.found c.conditional_swap-found.ensures.words other c.missed.ensures
