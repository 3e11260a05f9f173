-- `releasing::put` meets its contract: the mark is exchanged for the new value, told as Put, or with the last as Granted.
use mathlib.Core.Path.{sym, ◌∙◌}
use Rattle.replies.proofs.Standing.{target_asked}
use Rattle.releasing.proofs.Releasing.{puts_next, edit_puts, edit_granted}
use Rattle.releasing.proofs.put.Goals as goal

pub target_at-target-requires : goal.target_at-target-requires
target_at-target-requires c =
    let args = c.args in
    let known = c.requires.steps_from in
    target_asked args.targets.now args.ticket known.steps_in.made args.ticket.done (puts_next args.book.now args.targets.now args.team args.ticket args.out.now known).1

pub put-after-requires : goal.put-after-requires
put-after-requires c =
    let args = c.args in
    puts_next args.book.now args.targets.now args.team args.ticket args.out.now c.requires.steps_from

pub returns-then-stands : goal.returns-then-stands
returns-then-stands c =
    let args = c.args in
    let target = c.target_at-target in
    let after = c.put-after in
    let left = c.leave in
    rw left.ensures.ticket
    (edit_puts args.book.now args.targets.now args.team args.ticket args.out.now c.requires.steps_from target.result c.release.new.book after.result left.result.written left.new.out
    target.ensures.target c.release.ensures after.ensures.slot (sym c.stands.ensures ∙ c.if-stands.true) left.ensures.answer)

pub returns : goal.returns
returns c =
    let args = c.args in
    let target = c.target_at-target in
    let after = c.put-after in
    let left = c.leave-2 in
    rw left.ensures.ticket
    (edit_granted args.book.now args.targets.now args.team args.ticket args.out.now c.requires.steps_from target.result c.release.new.book after.result left.result.written left.new.out
    target.ensures.target c.release.ensures after.ensures.slot (sym c.stands.ensures ∙ c.if-stands.false) left.ensures.answer)
