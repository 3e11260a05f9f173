-- `sound::Book::rest_zero` meets its contract: the chain asks of each leg what the definition does.
use mathlib.Core.Path.{refl, ◌∙◌}
use native.Mathlib.Omega.{arith}
use Rattle.std.proofs.Common.{rules, tests}
use Rattle.std.proofs.lemmas.Iterator.{YieldsList-from_range}
use Rattle.std.proofs.lemmas.Iterator.Search.{all_from_yields_List}
use Prim.Native.Nat.{◌+◌}
use Rattle.words.specs.Words.{last_leg_in}
use Rattle.soundness.specs.Checking.{used_or_zero}
use Rattle.sound.proofs.Bits.{rest_all}
use Rattle.sound.proofs.Book.rest_zero.Goals as goal

pub returns : goal.returns
returns c = λ used marked.
    all_from_yields_List (used_or_zero c.args.self.layout c.args.self.words.now used) _ _ _ c.all.ensures.ran
    (YieldsList-from_range 1 (c.last_leg_in.result + 1) (last_leg_in c.args.self.layout) refl (omega (arith, c.last_leg_in.ensures)))
    (λ x b q k. search (rules, tests))
    ∙ rest_all c.args.self.layout c.args.self.words.now used (last_leg_in c.args.self.layout)
