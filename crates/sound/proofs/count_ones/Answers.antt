-- `sound::count_ones` meets its contract.
use mathlib.Core.Path.{◌≡◌, ◌∙◌}
use borrow.Author.Rules.{rules}
use Rattle.sound.specs.Bits.{ones_of}
use Rattle.sound.proofs.count_ones.Goals as goal

pub returns : goal.returns
returns c =
    let counted : c.sum.result ≡ ones_of c.args.bits.now = search rules in
    (counted, λ layout used marked. counted ∙ marked.counted)
