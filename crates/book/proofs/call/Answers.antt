-- `book::call` meets its contract: refusals 1, 13 and 2 at once, else the way of the frame.
use Rattle.calls.specs.Way.{aim_numbered, settled_by}
use mathlib.Core.Path.{sym, ap, subst, ◌∙◌}
use Rattle.words.specs.Words.{Words}
use Rattle.legs.specs.Positions.{Ranks}
use Rattle.handlers.specs.Settling.{SettledAs}
use Rattle.tickets.specs.Table.{ticket_said, slot_of, table_of}
use Rattle.calls.proofs.Sending.{call_no_book, call_no_ranks, call_no_room}
use Rattle.calls.specs.Returned.{returned_by}
use Rattle.dispatch.proofs.Aiming.{slot_known}
use Rattle.book.proofs.Rooms.{not_accepted, are_accepted}
use Rattle.frames.specs.Refusals.{numbered, refusal_in}
use Rattle.book.proofs.Returned.{returns_13, returns_2, returns_none}
use Rattle.book.proofs.Answering.{answered_call}
use Rattle.book.proofs.call.Goals as goal

pub returns-in_default-clause-all : goal.returns-in_default-clause-all
returns-in_default-clause-all c =
    let is = c.turned_away.ensures in
    (λ i. (record { written = returned_by (is.0 i); tickets = table_of (is.1 i) }, c.args.book.now, c.args.out.now)) ∙ call_no_book c.args.book.now (table_of c.args.tickets) c.args.ranks.now c.args.frame.now c.args.out.now c.in_default.ensures.cases

pub returns-in_default-accepted-clause-all : goal.returns-in_default-accepted-clause-all
returns-in_default-accepted-clause-all c =
    let is = c.turned_away-in_default-accepted.ensures in
    let lent = c.in-Some.ensures.cases in
    (λ i. (record { written = returned_by (is.0 i); tickets = table_of (is.1 i) }, lent.same i, c.args.out.now)) ∙ call_no_ranks c.args.book.now (table_of c.args.tickets) c.args.ranks.now c.args.frame.now c.args.out.now lent.long (not_accepted _ _ (sym c.in_default-accepted.is ∙ c.accepted.ensures))

pub returns-then-out-lt-LONGEST-clause-all : goal.returns-then-out-lt-LONGEST-clause-all
returns-then-out-lt-LONGEST-clause-all c =
    let is = c.turned_away-then-out-lt-LONGEST.ensures in
    let lent = c.in-Some.ensures.cases in
    (λ i. (record { written = returned_by (is.0 i); tickets = table_of (is.1 i) }, lent.same i, c.args.out.now)) ∙ call_no_room c.args.book.now (table_of c.args.tickets) c.args.ranks.now c.args.frame.now c.args.out.now lent.long (are_accepted _ _ _ (sym c.in-Some-accepted.is ∙ c.accepted.ensures)).0 c.if-out-lt-LONGEST.true

pub returns-in_default-accepted-clause-refusal : goal.returns-in_default-accepted-clause-refusal
returns-in_default-accepted-clause-refusal c =
    ap (λ w. refusal_in (numbered w)) c.turned_away-in_default-accepted.ensures.0 ∙ returns_13 c.args.book.now c.args.ranks.now c.args.out.now c.in-Some.ensures.cases.long (not_accepted _ _ (sym c.in_default-accepted.is ∙ c.accepted.ensures))

pub returns-then-out-lt-LONGEST-clause-refusal : goal.returns-then-out-lt-LONGEST-clause-refusal
returns-then-out-lt-LONGEST-clause-refusal c =
    ap (λ w. refusal_in (numbered w)) c.turned_away-then-out-lt-LONGEST.ensures.0 ∙ returns_2 c.args.book.now c.args.ranks.now c.args.out.now c.in-Some.ensures.cases.long (are_accepted _ _ _ (sym c.in-Some-accepted.is ∙ c.accepted.ensures)).0 c.if-out-lt-LONGEST.true

pub returns-clause-refusal : goal.returns-clause-refusal
returns-clause-refusal c = returns_none c.args.book.now c.args.ranks.now c.args.out.now c.in-Some.ensures.cases.long (are_accepted _ _ _ (sym c.in-Some-accepted.is ∙ c.accepted.ensures)).0 c.if-out-lt-LONGEST.false

pub slot_of-team-requires : goal.slot_of-team-requires
slot_of-team-requires c = slot_known c.args.frame.now (aim_numbered c.aim_of-aim.result) c.aim_of-aim.ensures.1

pub answer-left-requires : goal.answer-left-requires
answer-left-requires c = (c.aim_of-aim.ensures.1, c.slot_of-team.ensures.0, c.if-out-lt-LONGEST.false)

pub returns-clause-all : goal.returns-clause-all
returns-clause-all c =
    let aim = c.aim_of-aim in
    let team = c.slot_of-team in
    let left = c.answer-left in
    let lent = c.in-Some.ensures.cases in
    let fine = are_accepted _ _ _ (sym c.in-Some-accepted.is ∙ c.accepted.ensures) in
    let ticket = ticket_said (slot_of c.args.tickets team.result) in
    answered_call c.args.book.now c.args.tickets c.args.ranks.now c.args.frame.now c.args.out.now (aim_numbered aim.result) team.result _ _ _ _ _ aim.ensures.0 team.ensures.0
    (subst (λ (given : Words × Ranks). SettledAs (settled_by given.0 ticket given.1 c.args.frame.now (aim_numbered aim.result)) left.new.targets left.result.ticket left.new.book c.args.out.now left.result.written left.new.out)
    (λ i. (lent.same i, fine.1 i)) left.ensures)
    lent.long fine.0 c.if-out-lt-LONGEST.false
