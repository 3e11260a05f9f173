-- `views::view_claim` meets its contract: the swap of any value, once, and what it found is waited for or noted.
use mathlib.Core.Path.{sym, ◌∙◌}
use native.Mathlib.Omega.{arith}
use Rattle.replies.proofs.Standing.{phase_tells, few_targets, target_asked}
use Rattle.tickets.specs.declared.Phase.TheVariants.{Viewing}
use Rattle.views.proofs.Viewing.{next_unclaimed, view_waits, view_notes}
use Rattle.views.proofs.view_claim.Goals as goal

pub target_at-target-requires : goal.target_at-target-requires
target_at-target-requires c =
    let args = c.args in
    let known = c.requires.steps_from in
    let unclaimed = next_unclaimed args.book.now args.targets.now args.team args.ticket args.out.now known in
    target_asked args.targets.now args.ticket known.steps_in.made args.ticket.claimed unclaimed

pub returns-then-is_held : goal.returns-then-is_held
returns-then-is_held c =
    let mark = c.mark-mark in
    let target = c.target_at-target in
    let args = c.args in
    let targets = args.targets.now in
    view_waits args.book.now targets args.team args.ticket args.out.now c.requires.steps_from target.result mark.result c.swap_any_value-found.result.found c.swap_any_value-found.new.book c.waited.result.ticket c.waited.result.written c.waited.new.out
    target.ensures.target mark.ensures c.swap_any_value-found.ensures.found c.swap_any_value-found.ensures.words (sym c.is_held.ensures ∙ c.if-is_held.true) c.waited.ensures.ticket c.waited.ensures.answer

pub note-requires : goal.note-requires
note-requires c =
    let args = c.args in
    let known = c.requires.steps_from in
    let unclaimed = next_unclaimed args.book.now args.targets.now args.team args.ticket args.out.now known in
    omega (arith, unclaimed, few_targets args.targets.now args.ticket known.steps_in.made)

pub claim-after-requires : goal.claim-after-requires
claim-after-requires c =
    (phase_tells c.args.ticket Viewing c.requires.steps_from.phase_known).1

pub returns : goal.returns
returns c =
    let mark = c.mark-mark in
    let target = c.target_at-target in
    let swap = c.swap_any_value-found in
    let after = c.claim-after in
    let left = c.leave in
    let args = c.args in
    let known = c.requires.steps_from in
    let targets = args.targets.now in
    let unclaimed = next_unclaimed args.book.now targets args.team args.ticket args.out.now known in
    let few = few_targets targets args.ticket known.steps_in.made in
    rw left.ensures.ticket
    (view_notes args.book.now targets args.team args.ticket args.out.now known target.result mark.result swap.result.found swap.new.book after.result left.result.written left.new.out
    target.ensures.target mark.ensures swap.ensures.found swap.ensures.words c.note.new.targets (sym c.is_held.ensures ∙ c.if-is_held.false) (omega (arith, unclaimed, few, c.told-targets)) c.note.ensures after.ensures.slot left.ensures.answer)
