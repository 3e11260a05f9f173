-- `dispatch::aim_by_kind` meets its contract: a look, a team below 16, or refusal 6.
use Rattle.std.specs.Prelude.{Ok}
use mathlib.Core.Path.{◌≡◌, sym, ap, subst, ◌∙◌}
use Prim.Native.Nat.{ℕ, ◌≤◌, ◌<◌}
use lib.ListN.{length}
use Rattle.words.specs.Words.{team_count}
use Rattle.frames.specs.Requests.{part_after_kind, team_in, look_kind}
use Rattle.frames.specs.Fields.{Whole}
use Rattle.frames.specs.Kinds.{kind_number}
use Rattle.frames.proofs.ReadKinds.{look_only}
use Rattle.calls.specs.Way.{Aim}
use Rattle.dispatch.proofs.Aiming.{aim_look, aim_team, aim_nobody, team_inside}
use Rattle.dispatch.proofs.aim_by_kind.Goals as goal

pub returns-in-Look : goal.returns-in-Look
returns-in-Look c =
    let is = ap kind_number c.in-Look.is in
    (aim_look c.args.frame.now (kind_number c.args.kind) is, subst (Whole c.args.frame.now) is c.requires)

pub read16-team-requires : goal.read16-team-requires
read16-team-requires c =
    let whole = c.requires in
    subst (λ l. 1 < length l) (sym c.part_after_kind-part.ensures) (team_inside c.args.frame.now (kind_number c.args.kind) whole)

pub returns-then-team : goal.returns-then-team
returns-then-team c =
    let frame = c.args.frame.now in
    let kind = kind_number c.args.kind in
    let team = c.read16-team.ensures.0 ∙ ap team_in c.part_after_kind-part.ensures in
    let other = (λ (e : kind_number c.args.kind ≡ look_kind). c.in_default.not-Look (look_only c.args.kind e)) in
    let below : team_in (part_after_kind frame) < team_count = subst (λ (t : ℕ). t < team_count) team c.if-team.true in (
      ap (λ (t : ℕ). Ok (Aim.Team kind t)) team ∙ aim_team frame kind other below,
      (c.requires, other, c.if-team.true),
    )

pub returns-else-team : goal.returns-else-team
returns-else-team c =
    let team = c.read16-team.ensures.0 ∙ ap team_in c.part_after_kind-part.ensures in (
      aim_nobody c.args.frame.now (kind_number c.args.kind) (λ e. c.in_default.not-Look (look_only c.args.kind e)) (subst (λ (t : ℕ). team_count ≤ t) team c.if-team.false),
      tt,
    )
