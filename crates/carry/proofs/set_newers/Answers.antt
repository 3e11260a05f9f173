-- `carry::set_newers` meets its contract: the links of the legs so far are done.
use mathlib.Core.Path.{◌≡◌, sym, ap, ◌∙◌}
use Prim.Native.Nat.{ℕ, ◌+◌, ◌-◌}
use native.Mathlib.Omega.{arith}
use Rattle.words.specs.Words.{read_of}
use Rattle.carry.specs.Writing.{with_newer, newers_set}
use Rattle.carry.proofs.Writing.{newers_none, newers_next}
use Rattle.carry.proofs.set_newers.Goals as goal

pub loop-leg-init : goal.loop-leg-init
loop-leg-init c = sym (newers_none _ _)

pub loop-leg-preserved : goal.loop-leg-preserved
loop-leg-preserved c =
    let old = c.args.old.now in
    let leg = c.loop-leg.leg in
    let same : leg ≡ leg + 1 - 1 = omega arith in
    c.set_newer.ensures
    ∙ (λ i. with_newer (c.loop-leg.invariant i) (read_of old (c.link_word_in.ensures i)) leg)
    ∙ sym (newers_next old leg c.args.second.now (omega arith))
    ∙ ap (λ (n : ℕ). newers_set old n c.args.second.now) same
