-- `sound::LegAt::is_zero` meets its contract, by its words in both layouts.
use Prim.Native.Nat.{ℕ, ◌+◌, ◌-◌, ◌<◌}
use mathlib.Core.Path.{◌≡◌, sym, ap, ◌∙◌}
use mathlib.Core.Bool.{◌&&◌}
use native.Mathlib.Omega.{arith}
use lib.Dec.{eqb}
use lib.ListN.{length, take, drop}
use Rattle.std.specs.List.{list_all}
use Rattle.soundness.specs.Checking.{fourth_is, is_zero}
use Rattle.sound.proofs.Bits.{zero_words}
use Rattle.sound.proofs.LegAt.is_zero.Goals as goal
use Rattle.sound.proofs.LegAt.is_zero.Goals.{After-all_zero}

told : (c : After-all_zero) → (c.all_zero.result && fourth_is c.args.self.book.layout c.args.self.book.words.now 0 c.args.self.number) ≡ is_zero c.args.self.book.layout c.args.self.book.words.now c.args.self.number
told c =
    let leg = c.args.self in
    let words = leg.book.words.now in
    let at = c.link_word-at.result in
    let inside : at + 2 < length words = omega (arith, c.link_word-at.ensures.1) in
    zero_words leg.book.layout words leg.number at c.link_word-at.ensures.0 inside c.all_zero.result
    (let three : at + 3 - at ≡ 3 = omega arith in c.all_zero.ensures ∙ ap (λ (n : ℕ). list_all (λ (word : ℕ). eqb word 0) (take n (drop at words))) three)

pub returns-then-all_zero : goal.returns-then-all_zero
returns-then-all_zero c =
    c.fourth_is.ensures ∙ ap (λ b. b && fourth_is c.args.self.book.layout c.args.self.book.words.now 0 c.args.self.number) (sym c.if-all_zero.true) ∙ told (goal.at.returns-then-all_zero c).After-all_zero

pub returns-else-all_zero : goal.returns-else-all_zero
returns-else-all_zero c =
    c.if-all_zero.false ∙ ap (λ b. b && fourth_is c.args.self.book.layout c.args.self.book.words.now 0 c.args.self.number) (sym c.if-all_zero.false) ∙ told (goal.at.returns-else-all_zero c).After-all_zero
