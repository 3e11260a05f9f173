-- `views::view_give_back` meets its contract: one conditional swap, told as Returned, or with the last as Seen.
use mathlib.Core.Path.{sym, ◌∙◌}
use native.Mathlib.Omega.{arith}
use Rattle.replies.proofs.Standing.{target_asked}
use Rattle.views.proofs.Viewing.{few_named, next_claimed, view_returns, view_sees}
use Rattle.views.proofs.view_give_back.Goals as goal

pub target_at-target-requires : goal.target_at-target-requires
target_at-target-requires c =
    let args = c.args in
    let known = c.requires.steps_from in
    let claimed = next_claimed args.book.now args.targets.now args.team args.ticket args.out.now known in
    target_asked args.targets.now args.ticket known.steps_in.made args.ticket.done (omega (arith, claimed))

pub give_back-after-requires : goal.give_back-after-requires
give_back-after-requires c =
    let args = c.args in
    let claimed = next_claimed args.book.now args.targets.now args.team args.ticket args.out.now c.requires.steps_from in
    (claimed.0, omega (arith, claimed.1))

pub returns-then-stands : goal.returns-then-stands
returns-then-stands c =
    let args = c.args in
    let target = c.target_at-target in
    let after = c.give_back-after in
    let left = c.leave in
    rw left.ensures.ticket
    (view_returns args.book.now args.targets.now args.team args.ticket args.out.now c.requires.steps_from target.result c.release.new.book after.result left.result.written left.new.out
    target.ensures.target c.release.ensures after.ensures.slot (sym c.stands.ensures ∙ c.if-stands.true) left.ensures.answer)

pub values_seen-seen-requires : goal.values_seen-seen-requires
values_seen-seen-requires c =
    let args = c.args in
    few_named args.book.now args.targets.now args.team args.ticket args.out.now c.requires.steps_from

pub returns : goal.returns
returns c =
    let args = c.args in
    let seen = c.values_seen-seen in
    let target = c.target_at-target in
    let after = c.give_back-after in
    let left = c.leave-2 in
    rw left.ensures.ticket
    (view_sees args.book.now args.targets.now args.team args.ticket args.out.now c.requires.steps_from target.result c.release.new.book after.result left.result.written left.new.out
    target.ensures.target c.release.ensures after.ensures.slot seen.result (sym c.stands.ensures ∙ c.if-stands.false) seen.ensures left.ensures.answer)
