-- `claiming::missed` meets its contract: the next target waits for its word, or tells that it differed.
use mathlib.Core.Path.{sym, subst, ◌∙◌}
use Rattle.words.specs.Words.{holder_of}
use Rattle.tickets.specs.declared.StepAnswer.TheVariants.{Waiting}
use Rattle.replies.specs.Leaving.{Answered}
use Rattle.replies.proofs.Standing.{target_asked}
use Rattle.claiming.specs.Missing.{differed_answer}
use Rattle.claiming.proofs.Missing.{next_unclaimed, miss_waits, miss_differs}
use Rattle.claiming.proofs.missed.Goals as goal

pub target_at-target-requires : goal.target_at-target-requires
target_at-target-requires c =
    let args = c.args in
    target_asked args.targets.now args.ticket c.requires.0.made args.ticket.claimed (next_unclaimed args.targets.now args.ticket args.out.now c.requires.0)

pub returns-then-is_held : goal.returns-then-is_held
returns-then-is_held c =
    let held = c.if-is_held.true in
    let test = c.is_held in
    let target = c.target_at-target in
    let args = c.args in
    miss_waits args.targets.now args.ticket args.out.now c.requires.0 args.found c.waited.result.ticket c.waited.result.written c.waited.new.out
    (sym test.ensures ∙ held) c.waited.ensures.ticket
    (subst (λ one. Answered args.out.now (Waiting one.word (holder_of args.found)) c.waited.result.written c.waited.new.out) target.ensures.target c.waited.ensures.answer)

pub returns : goal.returns
returns c =
    let value = c.if-is_held.false in
    let test = c.is_held in
    let target = c.target_at-target in
    let args = c.args in
    miss_differs args.targets.now args.ticket args.out.now c.requires.0 args.found c.differed.result.ticket c.differed.result.written c.differed.new.out
    (sym test.ensures ∙ value) c.differed.ensures.ticket
    (subst (λ one. Answered args.out.now (differed_answer args.ticket one.word) c.differed.result.written c.differed.new.out) target.ensures.target c.differed.ensures.answer)
