-- `carry::set_newer` meets its contract, by whether there is a leg to set it for.
use mathlib.Core.Path.{sym, ap, ◌∙◌}
use Prim.Native.Nat.{ℕ}
use lib.ListN.{set}
use Rattle.carry.proofs.Writing.{newer_none, newer_put}
use Rattle.carry.proofs.set_newer.Goals as goal

pub returns-then-older-eq0 : goal.returns-then-older-eq0
returns-then-older-eq0 c =
    let args = c.args in
    sym (newer_none args.second.now args.older args.leg c.if-older-eq0.true)

pub returns : goal.returns
returns c =
    let args = c.args in
    ap (λ (at : ℕ). set args.second.now at args.leg) c.newer_word-at.ensures
    ∙ sym (newer_put args.second.now args.older args.leg c.if-older-eq0.false)
