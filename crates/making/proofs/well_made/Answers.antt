-- `making::well_made` meets its contract: the parts of the definition, in its order.
use Prim.Native.Nat.{◌<◌}
use mathlib.Core.Path.{◌≡◌, sym, ap, subst, ◌∙◌}
use mathlib.Core.Bool.{true, false, cond}
use Rattle.tickets.specs.Tickets.{words_in, named_in, counts_well_made, names_well_made}
use Rattle.tickets.specs.Table.{claims_in, targets_of}
use Rattle.making.proofs.Parts.{most_told, within_most, none_stands, many_targets, one_bad, counts_bad, by_names, targets_tested}
use Rattle.making.proofs.well_made.Goals as goal

pub returns-then-ticket : goal.returns-then-ticket
returns-then-ticket c = sym (none_stands c.args.targets.now c.args.ticket c.if-ticket.true)

pub returns-then-most_targets-ticket : goal.returns-then-most_targets-ticket
returns-then-most_targets-ticket c =
    let ticket = c.args.ticket in
    let most = most_told ticket _ _ (c.is_view-view.ensures (claims_in ticket)) c.most_targets.ensures in
    sym (many_targets c.args.targets.now ticket c.if-ticket.false (subst (λ limit. limit < ticket.n) most c.if-most_targets-ticket.true))

pub returns-then-not-targets_well_made : goal.returns-then-not-targets_well_made
returns-then-not-targets_well_made c =
    let ticket = c.args.ticket in
    let most = within_most ticket _ _ (c.is_view-view.ensures (claims_in ticket)) c.most_targets.ensures c.if-most_targets-ticket.false in
    let bad : c.targets_well_made.result ≡ false = c.if-not-targets_well_made.true in
    sym (one_bad c.args.targets.now ticket c.if-ticket.false most (targets_tested c.args.targets.now ticket c.told-targets most ∙ sym c.targets_well_made.ensures ∙ bad))

pub returns-then-not-counts_fit : goal.returns-then-not-counts_fit
returns-then-not-counts_fit c =
    let ticket = c.args.ticket in
    let most = within_most ticket _ _ (c.is_view-view.ensures (claims_in ticket)) c.most_targets.ensures c.if-most_targets-ticket.false in
    let good : c.targets_well_made.result ≡ true = c.if-not-targets_well_made.false in
    let bad : c.counts_fit.result ≡ false = c.if-not-counts_fit.true in
    sym
    (counts_bad c.args.targets.now ticket c.if-ticket.false most
    (targets_tested c.args.targets.now ticket c.told-targets most ∙ sym c.targets_well_made.ensures ∙ good)
    (ap (λ p. counts_well_made p ticket.n ticket.claimed ticket.done) (sym c.phase-phase.ensures) ∙ sym c.counts_fit.ensures ∙ bad))

-- An edit passes, and of a view the names are asked.
pub returns-then-not-view : goal.returns-then-not-view
returns-then-not-view c =
    let ticket = c.args.ticket in
    let targets = targets_of c.args.targets.now ticket.n in
    let most = within_most ticket _ _ (c.is_view-view.ensures (claims_in ticket)) c.most_targets.ensures c.if-most_targets-ticket.false in
    let good : c.targets_well_made.result ≡ true = c.if-not-targets_well_made.false in
    let fit : c.counts_fit.result ≡ true = c.if-not-counts_fit.false in
    let edit : c.is_view-view.result ≡ false = c.if-not-view.true in
    sym
    (by_names c.args.targets.now ticket c.if-ticket.false most
    (targets_tested c.args.targets.now ticket c.told-targets most ∙ sym c.targets_well_made.ensures ∙ good)
    (ap (λ p. counts_well_made p ticket.n ticket.claimed ticket.done) (sym c.phase-phase.ensures) ∙ sym c.counts_fit.ensures ∙ fit)
    ∙ ap (λ b. cond b (names_well_made (named_in targets) (words_in targets)) true) (sym (c.is_view-view.ensures (claims_in ticket)) ∙ edit))

pub returns : goal.returns
returns c =
    let ticket = c.args.ticket in
    let targets = targets_of c.args.targets.now ticket.n in
    let most = within_most ticket _ _ (c.is_view-view.ensures (claims_in ticket)) c.most_targets.ensures c.if-most_targets-ticket.false in
    let good : c.targets_well_made.result ≡ true = c.if-not-targets_well_made.false in
    let fit : c.counts_fit.result ≡ true = c.if-not-counts_fit.false in
    let view : c.is_view-view.result ≡ true = c.if-not-view.false in
    c.names_well_made.ensures
    ∙ sym
    (by_names c.args.targets.now ticket c.if-ticket.false most
    (targets_tested c.args.targets.now ticket c.told-targets most ∙ sym c.targets_well_made.ensures ∙ good)
    (ap (λ p. counts_well_made p ticket.n ticket.claimed ticket.done) (sym c.phase-phase.ensures) ∙ sym c.counts_fit.ensures ∙ fit)
    ∙ ap (λ b. cond b (names_well_made (named_in targets) (words_in targets)) true) (sym (c.is_view-view.ensures (claims_in ticket)) ∙ view))
