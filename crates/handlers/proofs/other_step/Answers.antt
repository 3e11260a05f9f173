-- `handlers::other_step` meets its contract: a claim that missed, refusal 9 or 7, or the step.
use Prim.Native.Nat.{ℕ}
use mathlib.Core.Path.{refl, sym, subst, ◌∙◌}
use mathlib.Core.Bool.{true, false}
use Rattle.tickets.specs.Table.{gathered}
use Rattle.claiming.specs.Missing.{MissLeft}
use Rattle.quick.proofs.Trying.{missed_word}
use Rattle.handlers.proofs.Cases.{stands_has, stands_not, passes_made, steps_none, steps_badly, step_refused, step_left, no_miss}
use Rattle.handlers.proofs.other_step.Goals as goal

pub missed-requires : goal.missed-requires
missed-requires c = (c.requires.1 c.in-Missed.found c.in-Missed.is, c.requires.3)

pub returns-in-Missed : goal.returns-in-Missed
returns-in-Missed c =
    let targets = c.args.targets.now in
    record {
      missed = λ found missed. (refl, refl, subst (λ (w : ℕ). MissLeft targets c.args.ticket w c.missed.result.ticket c.args.out.now c.missed.result.written c.missed.new.out) (missed_word (sym c.in-Missed.is ∙ missed)) c.missed.ensures);
      made = λ none. absurd (none c.in-Missed.found c.in-Missed.is);
    }

pub returns-then-not-stands : goal.returns-then-not-stands
returns-then-not-stands c =
    let targets = c.args.targets.now in
    let book = c.args.book.now in
    let none = steps_none book (gathered targets c.args.ticket) c.args.team (stands_not targets c.args.ticket (sym c.stands.ensures ∙ c.if-not-stands.true)) in
    no_miss c.in_default.not-Missed (step_refused book targets c.args.team c.args.ticket _ 9 _ _ _ c.refuse.ensures.0 none c.refuse.ensures.1)

pub returns-then-not-known_well_made : goal.returns-then-not-known_well_made
returns-then-not-known_well_made c =
    let targets = c.args.targets.now in
    let book = c.args.book.now in
    let stands = sym c.stands.ensures ∙ c.if-not-stands.false in
    let made = passes_made targets c.args.ticket false stands (sym c.known_well_made.ensures ∙ c.if-not-known_well_made.true) in
    let refused = c.refuse-then-not-known_well_made.ensures in
    let badly = steps_badly book (gathered targets c.args.ticket) c.args.team (stands_has targets c.args.ticket stands) made in
    no_miss c.in_default.not-Missed (step_refused book targets c.args.team c.args.ticket _ 7 _ _ _ refused.0 badly refused.1)

pub step-requires : goal.step-requires
step-requires c =
    let targets = c.args.targets.now in
    let stands = sym c.stands.ensures ∙ c.if-not-stands.false in
    record {
      steps_in = record {
        team_known = c.requires.0;
        made = passes_made targets c.args.ticket true stands (sym c.known_well_made.ensures ∙ c.if-not-known_well_made.false);
      };
      room = c.requires.3;
    }

pub returns : goal.returns
returns c =
    let targets = c.args.targets.now in
    let stands = sym c.stands.ensures ∙ c.if-not-stands.false in
    let made = passes_made targets c.args.ticket true stands (sym c.known_well_made.ensures ∙ c.if-not-known_well_made.false) in
    no_miss c.in_default.not-Missed (step_left c.args.book.now targets _ c.args.team c.args.ticket _ _ _ _ _ (stands_has targets c.args.ticket stands) made c.step.ensures)
