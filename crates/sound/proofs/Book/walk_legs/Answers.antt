-- `sound::Book::walk_legs` meets its contract. The invariant: what is left of the walk gives what the whole gives.
use mathlib.Core.Path.{◌≡◌, sym, ap, subst, ◌∙◌}
use mathlib.Core.List.{List}
use mathlib.Core.Option.{Option}
use Prim.Native.Nat.{ℕ, ◌+◌, ◌-◌, ◌≤◌}
use native.Mathlib.Omega.{arith}
use Rattle.words.specs.Words.{last_leg_in, link_word_in, read_of}
use Rattle.soundness.specs.Checking.{may_follow, walk}
use Rattle.sound.specs.Bits.{with_bit, Marked}
use Rattle.sound.proofs.Bits.{no_leg, Walking, walking_off, walking_on, walking_ends}
use Rattle.sound.proofs.Book.walk_legs.Goals as goal
use Rattle.sound.proofs.Book.walk_legs.Goals.{After-may_follow}

pub loop-init : goal.loop-init
loop-init c =
    let args = c.args in
    let book = args.self in
    let all : args.count ≡ args.count - 0 = omega arith in
    λ used marked. record { used = used; marked = marked; same = ap (λ (n : ℕ). walk book.layout book.words.now args.passage n 0 args.newest used) all }

pub returns-in_default : goal.returns-in_default
returns-in_default c =
    let loop = c.loop in
    let args = c.args in
    let book = args.self in
    λ used marked. walking_off book.layout book.words.now loop.bits args.passage (args.count - loop.counter) loop.newer loop.next _ (loop.invariant used marked) (omega arith)
    (λ now_used now-marked. no_leg book.layout book.words.now args.passage now_used loop.newer loop.next c.in_default.ensures)

-- The test of the leg is that of its number.
told : (c : After-may_follow) (used : List ℕ) → Marked c.args.self.layout c.loop.bits used → may_follow c.args.self.layout c.args.self.words.now c.args.passage used c.loop.newer c.loop.next ≡ c.may_follow.result
told c used marked =
    let (number, layout, words) = c.in-Some.ensures in
    (λ i. may_follow (sym layout i) (sym words i) c.args.passage used c.loop.newer (sym number i))
    ∙ sym (c.may_follow.ensures used (subst (λ layout. Marked layout c.loop.bits used) (sym layout) marked))

pub returns-then-not-may_follow : goal.returns-then-not-may_follow
returns-then-not-may_follow c =
    let loop = c.loop in
    let args = c.args in
    let book = args.self in
    let at = (goal.at.returns-then-not-may_follow c).After-may_follow in
    λ used marked. walking_off book.layout book.words.now loop.bits args.passage (args.count - loop.counter) loop.newer loop.next _ (loop.invariant used marked) (omega arith)
    (λ now_used now-marked. told at now_used now-marked ∙ c.if-not-may_follow.true)

pub loop-preserved : goal.loop-preserved
loop-preserved c =
    let loop = c.loop in
    let args = c.args in
    let layout = args.self.layout in
    let words = args.self.words.now in
    let whole : List ℕ → Option (List ℕ) = λ used. walk layout words args.passage args.count 0 args.newest used in
    let left = args.count - loop.counter in
    let next : left - 1 ≡ args.count - (loop.counter + 1) = omega arith in
    let at = (goal.at.loop-preserved c).After-may_follow in
    let leg = c.in-Some.leg in
    let (is_number, is_layout, is_words) = c.in-Some.ensures in
    let least : 1 ≤ loop.next = subst (λ (n : ℕ). 1 ≤ n) is_number leg.is_leg.0 in
    let most : loop.next ≤ last_leg_in layout = subst (λ layout. loop.next ≤ last_leg_in layout) is_layout (subst (λ (n : ℕ). n ≤ last_leg_in leg.book.layout) is_number leg.is_leg.1) in
    let marks : c.mark.new.bits ≡ with_bit loop.bits loop.next = c.mark.ensures ∙ ap (with_bit loop.bits) is_number in
    let here : c.link_word.result ≡ link_word_in layout loop.next = c.link_word.ensures.0 ∙ (λ i. link_word_in (is_layout i) (is_number i)) in
    λ used marked.
    subst (λ (n : ℕ). Walking layout words c.mark.new.bits args.passage n loop.next (read_of words c.link_word.result) (whole used)) next
    (subst (λ (l : List ℕ). Walking layout words l args.passage (left - 1) loop.next (read_of words c.link_word.result) (whole used)) (sym marks)
    (subst (λ (at : ℕ). Walking layout words (with_bit loop.bits loop.next) args.passage (left - 1) loop.next (read_of words at) (whole used)) (sym here)
    (walking_on layout words loop.bits args.passage left loop.newer loop.next _ (loop.invariant used marked) (omega arith) least most
    (λ now_used now-marked. told at now_used now-marked ∙ c.if-not-may_follow.false))))

pub returns : goal.returns
returns c =
    let args = c.args in
    let loop = c.loop in
    λ used marked. walking_ends args.self.layout args.self.words.now loop.bits args.passage (args.count - loop.counter) loop.newer loop.next _ (loop.invariant used marked) (omega arith)
