-- `handlers::open` meets its contract: refused over a ticket, else an edit or a view is read.
use Rattle.std.proofs.lemmas.Result.{err_from_is_err_and}
use mathlib.Core.Path.{sym, ap, ◌∙◌}
use mathlib.Core.Bool.{true}
use Rattle.frames.specs.Kinds.{kind_number}
use Rattle.frames.specs.Refusals.{numbered}
use Rattle.frames.specs.Requests.{part_after_kind}
use Rattle.tickets.specs.Table.{gathered}
use Rattle.calls.specs.Way.{open_settled, view_settled}
use Rattle.handlers.specs.Settling.{open_by}
use Rattle.handlers.proofs.Cases.{stands_has, stands_not, passes_made, opens_over, opens_edit_lem, opens_view, edit_fields_lem, view_kind_lem, view_fields, read_allowed, view_read_opens, asked_so, edit_opened, edit_refused, view_opened, view_refused}
use Rattle.handlers.proofs.open.Goals as goal

pub returns-then-slot_well_made : goal.returns-then-slot_well_made
returns-then-slot_well_made c =
    let targets = c.args.targets.now in
    let stands = sym c.stands.ensures ∙ c.if-stands.true in
    let made = passes_made targets c.args.ticket true stands (sym c.slot_well_made.ensures ∙ c.if-slot_well_made.true) in
    asked_so targets c.args.ticket _ (opens_over (gathered targets c.args.ticket) c.args.ranks.now (part_after_kind c.args.frame.now) (kind_number c.args.kind) (stands_has targets c.args.ticket stands) made)

-- An edit's fields are read: refused,
pub returns-in_err-edit : goal.returns-in_err-edit
returns-in_err-edit c =
    let targets = c.args.targets.now in
    let ticket = gathered targets c.args.ticket in
    let p = err_from_is_err_and c.from_residual.result c.from_residual.ensures.1 in
    let gone = stands_not targets c.args.ticket (sym c.stands.ensures ∙ c.if-stands.false) in
    let is = sym (ap numbered c.in_err-edit.was) ∙ c.read_edit.ensures in
    rw (p.1, p.2)
    (asked_so targets c.args.ticket _
    (edit_refused ticket c.args.ranks.now _
    ∙ ap (open_settled ticket c.args.ranks.now) is
    ∙ opens_edit_lem ticket c.args.ranks.now _ (kind_number c.args.kind) gone (sym c.is_edit.ensures ∙ c.if-is_edit.true)
    ∙ ap (λ p. open_by ticket c.args.ranks.now p (kind_number c.args.kind)) c.part_after_kind-part.ensures))

pub read_edit-requires : goal.read_edit-requires
read_edit-requires c =
    let fields = edit_fields_lem c.args.frame.now (kind_number c.args.kind) _ c.requires.0.0 (sym c.is_edit.ensures ∙ c.if-is_edit.true) c.part_after_kind-part.ensures in
    (fields.edit, fields.long)

pub open-n-requires : goal.open-n-requires
open-n-requires c = read_allowed (kind_number c.args.kind) c.part_after_kind-part.result.now _ (sym c.read_edit.ensures ∙ ap numbered c.in_ok-edit.was)

-- or its targets stored;
pub returns-then-is_edit : goal.returns-then-is_edit
returns-then-is_edit c =
    let ticket = gathered c.args.targets.now c.args.ticket in
    let gone = stands_not c.args.targets.now c.args.ticket (sym c.stands.ensures ∙ c.if-stands.false) in
    let is = sym (ap numbered c.in_ok-edit.was) ∙ c.read_edit.ensures in
    rw c.edit.ensures
    (asked_so c.open-n.new.targets c.args.ticket _
    (edit_opened ticket _ c.args.ranks.now _ _ c.open-n.ensures.1 c.open-n.ensures.0
    ∙ ap (open_settled ticket c.args.ranks.now) is
    ∙ opens_edit_lem ticket c.args.ranks.now _ (kind_number c.args.kind) gone (sym c.is_edit.ensures ∙ c.if-is_edit.true)
    ∙ ap (λ p. open_by ticket c.args.ranks.now p (kind_number c.args.kind)) c.part_after_kind-part.ensures))

-- and so a view's.
pub read_view-requires : goal.read_view-requires
read_view-requires c =
    let view = view_kind_lem c.args.frame.now (kind_number c.args.kind) c.args.team c.requires.0 c.requires.1 (sym c.is_edit.ensures ∙ c.if-is_edit.false) in
    view_fields c.args.frame.now (kind_number c.args.kind) _ c.requires.0.0 view c.part_after_kind-part.ensures

pub returns-in_err-view : goal.returns-in_err-view
returns-in_err-view c =
    let targets = c.args.targets.now in
    let ticket = gathered targets c.args.ticket in
    let p = err_from_is_err_and c.from_residual-in_err-view.result c.from_residual-in_err-view.ensures.1 in
    let gone = stands_not targets c.args.ticket (sym c.stands.ensures ∙ c.if-stands.false) in
    let view = view_kind_lem c.args.frame.now (kind_number c.args.kind) c.args.team c.requires.0 c.requires.1 (sym c.is_edit.ensures ∙ c.if-is_edit.false) in
    let is = sym (ap numbered c.in_err-view.was) ∙ c.read_view.ensures in
    rw (p.1, p.2)
    (asked_so targets c.args.ticket _
    (view_refused ticket c.args.ranks.now _
    ∙ ap (view_settled ticket c.args.ranks.now) is
    ∙ opens_view ticket c.args.ranks.now _ (kind_number c.args.kind) gone view
    ∙ ap (λ p. open_by ticket c.args.ranks.now p (kind_number c.args.kind)) c.part_after_kind-part.ensures))

pub open_view-requires : goal.open_view-requires
open_view-requires c =
    let view = view_kind_lem c.args.frame.now (kind_number c.args.kind) c.args.team c.requires.0 c.requires.1 (sym c.is_edit.ensures ∙ c.if-is_edit.false) in
    view_read_opens c.part_after_kind-part.result.now c.in_ok-view.view (view_fields c.args.frame.now (kind_number c.args.kind) _ c.requires.0.0 view c.part_after_kind-part.ensures) (sym c.read_view.ensures ∙ ap numbered c.in_ok-view.was)

pub returns : goal.returns
returns c =
    let ticket = gathered c.args.targets.now c.args.ticket in
    let gone = stands_not c.args.targets.now c.args.ticket (sym c.stands.ensures ∙ c.if-stands.false) in
    let view = view_kind_lem c.args.frame.now (kind_number c.args.kind) c.args.team c.requires.0 c.requires.1 (sym c.is_edit.ensures ∙ c.if-is_edit.false) in
    let is = sym (ap numbered c.in_ok-view.was) ∙ c.read_view.ensures in
    rw c.view.ensures
    (asked_so c.open_view.new.targets c.args.ticket _
    (view_opened ticket _ c.args.ranks.now c.in_ok-view.view c.open_view.ensures
    ∙ ap (view_settled ticket c.args.ranks.now) is
    ∙ opens_view ticket c.args.ranks.now _ (kind_number c.args.kind) gone view
    ∙ ap (λ p. open_by ticket c.args.ranks.now p (kind_number c.args.kind)) c.part_after_kind-part.ensures))
