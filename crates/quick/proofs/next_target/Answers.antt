-- `quick::next_target` meets its contract: an edit on the fast way has a next target, and its word is in the book.
use mathlib.Core.Path.{refl, ap, subst, sym}
use native.Mathlib.Omega.{arith}
use Prim.Native.Nat.{◌<◌}
use Rattle.words.specs.Words.{words_in_book}
use Rattle.tickets.specs.Table.{target_standing}
use Rattle.replies.proofs.Standing.{few_targets}
use Rattle.quick.specs.Quick.{claims_quick}
use Rattle.quick.proofs.Swapping.{next_below, word_inside}
use Rattle.quick.proofs.next_target.Goals as goal

pub bounds-targets-k : goal.bounds-targets-k
bounds-targets-k c =
    let ticket = c.args.ticket in
    omega (arith, c.chosen-k.ensures, few_targets c.args.targets.now ticket c.requires.made, next_below c.args.targets.now 0 ticket c.requires (claims_quick ticket) refl)

pub returns-clause-next : goal.returns-clause-next
returns-clause-next c = ap (target_standing c.args.targets.now) c.chosen-k.ensures

pub returns-clause-inside : goal.returns-clause-inside
returns-clause-inside c = subst (λ k. (target_standing c.args.targets.now k).word < words_in_book) (sym c.chosen-k.ensures) (word_inside c.args.targets.now 0 c.args.ticket c.requires)
