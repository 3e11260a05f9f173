-- `handlers::answer_other` meets its contract: a refusal, a look or a frame that asks for a ticket.
use Rattle.std.specs.Prelude.{Ok}
use mathlib.Core.Path.{sym, ap, subst, ◌∙◌}
use Rattle.words.specs.Words.{Words}
use Rattle.tickets.specs.Table.{gathered}
use Rattle.frames.specs.declared.Answer.{Answer}
use Rattle.frames.specs.Answers.{answer_frame, written}
use Rattle.calls.specs.Way.{aimed, aim_numbered, Settled}
use Rattle.handlers.specs.Settling.{NoStep, AskedAs}
use Rattle.handlers.proofs.Cases.{refused_by, look_by, open_by_lem, asked_so, opened_as, unopened_as, aimed_so}
use Rattle.handlers.proofs.answer_other.Goals as goal

pub returns-in-Err : goal.returns-in-Err
returns-in-Err c =
    let targets = c.args.targets.now in
    aimed_so c.args.book.now (gathered targets c.args.ticket) c.args.ranks.now c.args.frame.now c.args.ticket (ap aim_numbered c.in-Err.is)
    (opened_as (asked_so targets c.args.ticket _ (refused_by c.args.book.now (gathered targets c.args.ticket) c.args.ranks.now c.args.frame.now _)) c.settle.ensures)

pub returns-in-Look : goal.returns-in-Look
returns-in-Look c =
    let targets = c.args.targets.now in
    aimed_so c.args.book.now (gathered targets c.args.ticket) c.args.ranks.now c.args.frame.now c.args.ticket (ap aim_numbered c.in-Ok.is ∙ ap (λ a. Ok (aimed a)) c.in-Look.is)
    (unopened_as targets c.args.ticket c.write.result _ (look_by c.args.book.now (gathered targets c.args.ticket) c.args.ranks.now c.args.frame.now) (c.write.ensures.0 ∙ ap (λ (a : Answer). written c.args.out.now (answer_frame a)) c.look_answer.ensures))

pub returns-in-Team : goal.returns-in-Team
returns-in-Team c =
    let ticket = gathered c.args.targets.now c.args.ticket in
    let is = ap aim_numbered c.in-Ok.is ∙ ap (λ a. Ok (aimed a)) c.in-Team.is in
    aimed_so c.args.book.now ticket c.args.ranks.now c.args.frame.now c.args.ticket is
    (opened_as
    (subst (λ (s : Settled). AskedAs s c.«open-asked».new.targets c.args.ticket c.«open-asked».result) (sym (ap (λ (r : Settled × Words). r.0) (open_by_lem c.args.book.now ticket c.args.ranks.now c.args.frame.now _ _ (subst NoStep is c.requires.1)))) c.«open-asked».ensures)
    c.settle-in-Team.ensures)
