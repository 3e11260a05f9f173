-- `dispatch::aim_of` meets its contract: the header's refusal, or where its kind goes.
use mathlib.Core.Path.{sym, ap, subst, ◌∙◌}
use Rattle.std.proofs.lemmas.Result.{err_from_is_err_and}
use Rattle.frames.specs.Fields.{WholeIfKnown}
use Rattle.calls.specs.Way.{aim_by, aim_of}
use Rattle.dispatch.proofs.aim_of.Goals as goal

pub aim_by_kind-requires : goal.aim_by_kind-requires
aim_by_kind-requires c = c.in_ok-kind.ensures.1

pub returns-in_err-kind : goal.returns-in_err-kind
unfolding aim_of
returns-in_err-kind c =
    let p = err_from_is_err_and c.from_residual.result c.from_residual.ensures.1 in
    rw (p.1, p.2) (ap (aim_by c.args.frame.now) c.in_err-kind.ensures.0, tt)

pub returns : goal.returns
unfolding aim_of
returns c = (c.aim_by_kind.ensures.0 ∙ ap (aim_by c.args.frame.now) c.in_ok-kind.ensures.0, c.aim_by_kind.ensures.1)
