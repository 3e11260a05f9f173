-- `stations::LegsAlong::next` meets its contract: the first of the legs that are left, and those behind it.
use Prim.Native.Nat.{ℕ, suc}
use mathlib.Core.Path.{sym, subst}
use native.Mathlib.Omega.{arith}
use Rattle.words.specs.Words.{read_of}
use Rattle.stations.specs.Links.{IsLeg, leg_after}
use Rattle.stations.proofs.book.LegsAlongIterator.next.Goals as goal

pub invariant_of-self : goal.invariant_of-self
invariant_of-self c =
    let chain = c.args.self.now in
    let words = chain.book.words.now in
    record {
      legs = λ k below.
          subst (λ (at : ℕ). IsLeg (leg_after words (read_of words at) k)) (sym c.link_word.ensures) (chain.legs (suc k) (omega arith));
    }
