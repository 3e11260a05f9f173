-- `sound::sum_of_counts` meets its contract: the chain sums what the definition does.
use mathlib.Core.Path.{refl, sym, subst, ◌∙◌}
use Prim.Native.Nat.{ℕ, ◌^◌, ◌<◌}
use native.Mathlib.Omega.{arith}
use Rattle.std.proofs.Common.{rules, tests}
use Rattle.std.proofs.lemmas.Iterator.{serves_from_Range, YieldsList-from_range, YieldsList-from_map}
use Rattle.std.proofs.lemmas.Iterator.Consumers.{YieldsList-at, sum_from_yields_List, fits_from_yields_list}
use Rattle.words.specs.Words.{passage_count}
use Rattle.sound.proofs.Bits.{count_in, counts_all, counts_few}
use Rattle.sound.proofs.sum_of_counts.Goals as goal

pub sum-requires-clause-can : goal.sum-requires-clause-can
sum-requires-clause-can c = (tt, serves_from_Range (λ x q k. search (rules, tests)) (λ x low high. search rules))

pub sum-requires-clause-fits : goal.sum-requires-clause-fits
sum-requires-clause-fits c =
    let book = c.args.book.now in
    fits_from_yields_list c.map.result _ (YieldsList-from_map _ (count_in book) (YieldsList-at c.map.ensures.source (YieldsList-from_range 0 passage_count passage_count refl refl)) c.map.ensures.closure (λ x r q k. search rules))
    (subst (λ (n : ℕ). n < 2 ^ 64) (sym (counts_all book passage_count)) (omega (arith, counts_few book c.requires passage_count (omega arith))))

pub returns : goal.returns
returns c =
    let book = c.args.book.now in
    sum_from_yields_List c.map.result _ c.sum.ensures.ran (YieldsList-from_map _ (count_in book) (YieldsList-at c.map.ensures.source (YieldsList-from_range 0 passage_count passage_count refl refl)) c.map.ensures.closure (λ x r q k. search rules))
    ∙ counts_all book passage_count
