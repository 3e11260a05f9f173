-- `carry::carry_over` meets its contract: the checks are made in their order, and only then is anything written.
use Rattle.std.specs.Prelude.{Ok}
use Rattle.std.proofs.lemmas.Option.{MatchOption-at_some, MatchOption-at_none}
use Rattle.std.proofs.lemmas.Result.{err_from_is_err_and}
use Rattle.sound.proofs.Refusing.{error_told}
use mathlib.Core.Path.{◌≡◌, sym, ap, ◌∙◌}
use mathlib.Core.Bool.{false}
use lib.ListN.{length}
use Rattle.words.specs.Words.{last_leg, words_in_book}
use Rattle.std.specs.Array.{IsWholeChunk}
use Rattle.tickets.specs.Table.{table_of}
use Rattle.carrying.specs.Carrying.{either_length_wrong, carry_of}
use Rattle.carrying.proofs.Answers.{whole_right, old_wrong, second_wrong, refused_1, refused_14, refused_15, refused_16, done_by_lem}
use Rattle.carry.specs.Writing.{newers_set}
use Rattle.carry.proofs.Writing.{old_links_fit, old_written}
use Rattle.carry.proofs.carry_over.Goals as goal
use Rattle.carry.proofs.carry_over.Goals.{In_ok-second}

pub returns-in_err-old : goal.returns-in_err-old
returns-in_err-old c =
    let args = c.args in
    let p = err_from_is_err_and c.from_residual.result c.from_residual.ensures.1 in
    let nothing = c.in_err-old.ensures.ok_part in
    rw (p.1, p.2, error_told _ _ _ c.in_err-old.ensures.value nothing) (refused_1 args.old.now args.second.now (table_of args.tickets) (old_wrong args.old.now args.second.now (MatchOption-at_none _ _ nothing c.as_array.ensures.cases)))

pub returns-in_err-second : goal.returns-in_err-second
returns-in_err-second c =
    let args = c.args in
    let p = err_from_is_err_and c.from_residual-in_err-second.result c.from_residual-in_err-second.ensures.1 in
    let nothing = c.in_err-second.ensures.ok_part in
    rw (p.1, p.2, error_told _ _ _ c.in_err-second.ensures.value nothing) (refused_1 args.old.now args.second.now (table_of args.tickets) (second_wrong args.old.now args.second.now (MatchOption-at_none _ _ nothing c.as_mut_array.ensures.cases)))

old_whole : (c : In_ok-second) → IsWholeChunk c.args.old.now c.in_ok-old.old.now words_in_book
old_whole c = MatchOption-at_some _ _ _ c.in_ok-old.ensures.ok_part c.as_array.ensures.cases

second_whole : (c : In_ok-second) → IsWholeChunk c.args.second.now c.in_ok-second.second.now words_in_book
second_whole c = MatchOption-at_some _ _ _ c.in_ok-second.ensures.ok_part c.as_mut_array.ensures.cases

-- Both books are whole, and lent as they are.
whole : (c : In_ok-second) → either_length_wrong c.in_ok-old.old.now c.in_ok-second.second.now ≡ false
whole c =
    let old = old_whole c in
    let second = second_whole c in
    whole_right c.in_ok-old.old.now c.in_ok-second.second.now (ap length old.same ∙ old.long, ap length second.same ∙ second.long)

as_lent : (c : In_ok-second) → carry_of c.in_ok-old.old.now c.in_ok-second.second.now (table_of c.args.tickets) ≡ carry_of c.args.old.now c.args.second.now (table_of c.args.tickets)
as_lent c = λ i. carry_of ((old_whole c).same i) ((second_whole c).same i) (table_of c.args.tickets)

pub returns-then-any_stands : goal.returns-then-any_stands
returns-then-any_stands c =
    let lent = (goal.at.returns-then-any_stands c).In_ok-second in
    refused_14 c.in_ok-old.old.now c.in_ok-second.second.now (table_of c.args.tickets) (whole lent) (sym c.any_stands.ensures ∙ c.if-any_stands.true)
    ∙ as_lent lent

pub returns-then-not-is_plain : goal.returns-then-not-is_plain
returns-then-not-is_plain c =
    let lent = (goal.at.returns-then-not-is_plain c).In_ok-second in
    let none = sym c.any_stands.ensures ∙ c.if-any_stands.false in
    refused_15 c.in_ok-old.old.now c.in_ok-second.second.now (table_of c.args.tickets) (whole lent) none (sym c.is_plain.ensures ∙ c.if-not-is_plain.true)
    ∙ as_lent lent

pub has_leg_above-requires : goal.has_leg_above-requires
has_leg_above-requires c = sym c.is_plain.ensures ∙ c.if-not-is_plain.false

pub returns-then-has_leg_above : goal.returns-then-has_leg_above
returns-then-has_leg_above c =
    let lent = (goal.at.returns-then-has_leg_above c).In_ok-second in
    let none = sym c.any_stands.ensures ∙ c.if-any_stands.false in
    let sound = sym c.is_plain.ensures ∙ c.if-not-is_plain.false in
    refused_16 c.in_ok-old.old.now c.in_ok-second.second.now (table_of c.args.tickets) (whole lent) none sound (sym c.has_leg_above.ensures ∙ c.if-has_leg_above.true)
    ∙ as_lent lent

pub set_newers-requires : goal.set_newers-requires
set_newers-requires c =
    old_links_fit c.in_ok-old.old.now (sym c.is_plain.ensures ∙ c.if-not-is_plain.false) (sym c.has_leg_above.ensures ∙ c.if-has_leg_above.false)

pub returns : goal.returns
returns c =
    let lent = (goal.at.returns c).In_ok-second in
    let old = c.in_ok-old.old.now in
    let none = sym c.any_stands.ensures ∙ c.if-any_stands.false in
    let sound = sym c.is_plain.ensures ∙ c.if-not-is_plain.false in
    let fits = sym c.has_leg_above.ensures ∙ c.if-has_leg_above.false in
    (λ i. (Ok tt, (c.set_newers.ensures ∙ ap (newers_set old last_leg) c.move_words.ensures ∙ old_written old sound fits) i))
    ∙ done_by_lem old c.in_ok-second.second.now (table_of c.args.tickets) (whole lent) none sound fits
    ∙ as_lent lent
