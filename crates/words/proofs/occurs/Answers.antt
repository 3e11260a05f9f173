-- `words::occurs` meets its contract: the library's test with the two sides exchanged.
use Rattle.std.proofs.Common.{◌≡◌, ℕ, true, cond, refl, ap, ◌∙◌, arith}
use lib.Dec.{eqb}
use Rattle.std.proofs.lemmas.Bool.Decides.{nat_tests}
use Rattle.words.proofs.Tests.{any_is}
use Rattle.words.specs.Tests.{occurs}
use Rattle.words.proofs.occurs.Goals as goal

exchanged : (a b : ℕ) → eqb a b ≡ eqb b a
exchanged a b = grind (arith, nat_tests)

pub returns : goal.returns
returns c =
    c.contains.ensures.value
    ∙ any_is _ (occurs c.args.number) refl (λ number numbers. ap (λ b. cond b true (occurs c.args.number numbers)) (exchanged c.args.number number)) c.args.numbers.now
