-- `legs::AcceptedRanks::position` meets its contract: a passage's word stands at its newest or next to it, a leg's word at its own number.
use mathlib.Core.Path.{◌∙◌, sym, ap}
use Prim.Native.Nat.{ℕ, ◌+◌, ◌%◌}
use Rattle.legs.proofs.Ranks.{passage_word_at, leg_word_at}
use Rattle.legs.proofs.AcceptedRanks.position.Goals as goal

pub returns-then-word : goal.returns-then-word
returns-then-word c =
    let word = c.args.word in
    ap (λ (v : ℕ). v + word % 2) c.newest_position.ensures.0 ∙ sym (passage_word_at c.args.self.now word c.if-word.true)

pub returns-else-word : goal.returns-else-word
returns-else-word c = sym (leg_word_at c.args.self.now c.args.word c.if-word.false)
