-- `releasing::give_back` meets its contract: the mark is exchanged for the quoted value, told as Returned, or with the last as Stale.
use mathlib.Core.Path.{sym, ◌∙◌}
use native.Mathlib.Omega.{arith}
use Rattle.replies.proofs.Standing.{target_asked}
use Rattle.releasing.proofs.Releasing.{next_claimed, edit_returns, edit_stale}
use Rattle.releasing.proofs.give_back.Goals as goal

pub target_at-target-requires : goal.target_at-target-requires
target_at-target-requires c =
    let args = c.args in
    let known = c.requires.steps_from in
    target_asked args.targets.now args.ticket known.steps_in.made args.ticket.done (omega (arith, next_claimed args.book.now args.targets.now args.team args.ticket args.out.now known))

pub give_back-after-requires : goal.give_back-after-requires
give_back-after-requires c =
    let args = c.args in
    let (below, some) = next_claimed args.book.now args.targets.now args.team args.ticket args.out.now c.requires.steps_from in
    (below, omega (arith, some))

pub returns-then-stands : goal.returns-then-stands
returns-then-stands c =
    let args = c.args in
    let target = c.target_at-target in
    let after = c.give_back-after in
    let left = c.leave in
    rw left.ensures.ticket
    (edit_returns args.book.now args.targets.now args.team args.ticket args.out.now c.requires.steps_from target.result c.release.new.book after.result left.result.written left.new.out
    target.ensures.target c.release.ensures after.ensures.slot (sym c.stands.ensures ∙ c.if-stands.true) left.ensures.answer)

pub target_at-differed-requires : goal.target_at-differed-requires
target_at-differed-requires c =
    let args = c.args in
    let known = c.requires.steps_from in
    target_asked args.targets.now args.ticket known.steps_in.made args.ticket.claimed (next_claimed args.book.now args.targets.now args.team args.ticket args.out.now known).1

pub returns : goal.returns
returns c =
    let args = c.args in
    let differed = c.target_at-differed in
    let target = c.target_at-target in
    let after = c.give_back-after in
    let left = c.leave-2 in
    rw left.ensures.ticket
    (edit_stale args.book.now args.targets.now args.team args.ticket args.out.now c.requires.steps_from target.result c.release.new.book after.result left.result.written left.new.out
    target.ensures.target c.release.ensures after.ensures.slot differed.result (sym c.stands.ensures ∙ c.if-stands.false) differed.ensures.target left.ensures.answer)
