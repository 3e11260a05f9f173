-- `sound::LegAt::fourth_is` meets its contract, by the layout.
use Prim.Native.Nat.{ℕ, ◌≤◌}
use mathlib.Core.Path.{sym, ap, subst, ◌∙◌}
use native.Mathlib.Omega.{arith}
use lib.Dec.{eqb}
use Rattle.words.specs.Words.{last_leg_in, read_of}
use Rattle.soundness.specs.Checking.{fourth_is}
use Rattle.sound.proofs.LegAt.fourth_is.Goals as goal

pub newer_word-requires : goal.newer_word-requires
newer_word-requires c =
    (c.args.self.is_leg.0, subst (λ layout. c.args.self.number ≤ last_leg_in layout) c.in-FourWords.is c.args.self.is_leg.1)

pub bounds-self-newer_word : goal.bounds-self-newer_word
bounds-self-newer_word c =
    let most = subst (λ layout. c.args.self.number ≤ last_leg_in layout) c.in-FourWords.is c.args.self.is_leg.1 in
    omega (arith, most, c.newer_word.ensures)

pub returns-in-FourWords : goal.returns-in-FourWords
returns-in-FourWords c =
    let words = c.args.self.book.words.now in
    ap (λ (at : ℕ). eqb (read_of words at) c.args.value) c.newer_word.ensures
    ∙ ap (λ layout. fourth_is layout words c.args.value c.args.self.number) (sym c.in-FourWords.is)
