-- `decoder::named_words` meets its contract: after each turn of the loop the first k words are read.
use mathlib.Core.Path.{refl, ap, ◌∙◌}
use mathlib.Core.List.{List}
use native.Mathlib.Omega.{arith}
use Prim.Native.Nat.{ℕ}
use lib.ListN.{set}
use Rattle.frames.specs.Numbers.{numbers16}
use Rattle.decoder.proofs.Viewed.{word_read}
use Rattle.decoder.proofs.named_words.Goals as goal

pub loop-k-init : goal.loop-k-init
unfolding numbers16
loop-k-init c = refl

pub loop-k-preserved : goal.loop-k-preserved
loop-k-preserved c =
    let k = c.loop-k.k in
    let word = c.from.result in
    ap (λ (l : List ℕ). set l k word) c.loop-k.invariant ∙ word_read c.args.part.now k word (omega arith) (c.from.ensures ∙ c.read16.ensures.0)
