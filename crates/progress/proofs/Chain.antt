-- Not all standing tickets wait: the word that one waits for is held by another, whose own next word stands higher; and positions have an end.
use Prim.Native.Nat.{ℕ, zero, suc, ◌+◌, ◌≤◌, ◌<◌}
use mathlib.Core.Path.{◌≡◌, ap}
use mathlib.Core.Bool.{true}
use native.Mathlib.Omega.{arith}
use native.Mathlib.Decide.{ℕ_discrete}
use lib.ListN.{length}
use Rattle.words.specs.Words.{Words}
use Rattle.tickets.specs.Tickets.{Ticket, target_at, has_ticket}
use Rattle.tickets.specs.Invariant.{FitTicket, Invariant, Holder}
use Rattle.tickets.proofs.TargetLists.{length_targets, target_listed, claimable_at}
use Rattle.tickets.proofs.Keeping.{standing_fit, claims_counts}
use Rattle.progress.specs.Rounds.{Waits, AllRise, NotAllWait}

-- No word of a book of n words stands higher than all their positions together.
abbrev together : (ℕ → ℕ) → ℕ → ℕ
together position zero = 0
together position (suc n) = position n + together position n

below_together : (position : ℕ → ℕ) (n word : ℕ) → word < n → position word ≤ together position n
below_together position zero word below = absurd (omega arith)
below_together position (suc n) word below = elim (ℕ_discrete word n) [
  | yes same ↦ let here : position word ≡ position n = ap position same in omega arith
  | no differs ↦ let before = below_together position n word (omega arith) in omega arith
]

module _ (position : ℕ → ℕ) (words : Words) (tickets : ℕ → Ticket) (plain : ℕ → ℕ) (i : Invariant words tickets plain) (rise : AllRise position tickets)
    (all_wait : (other : ℕ) → has_ticket (tickets other).phase ≡ true → Waits words (tickets other)) where
  -- The word that a waiting ticket claims next.
  abbrev next_word : ℕ → ℕ
  next_word team = (target_at (tickets team) (tickets team).claimed).word

  module _ (team : ℕ) (stands : has_ticket (tickets team).phase ≡ true) where
    fit : FitTicket (length words) (tickets team)
    fit = standing_fit (length words) (tickets team) (i.fit team) stands

    some_left : (tickets team).claimed < (tickets team).n
    some_left = claims_counts (tickets team) fit (all_wait team stands).claiming

    inside : next_word team < length words
    inside = (claimable_at (length words) (tickets team) fit.claimable).inside (tickets team).claimed some_left

    -- It stands higher than every word claimed before.
    higher_than : (at : ℕ) → at < (tickets team).claimed → position (target_at (tickets team) at).word < position (next_word team)
    higher_than at before =
        let left = some_left in
        let there : at < (tickets team).n = omega arith in
        let low = ap (λ one. position one.word) (target_listed (tickets team) at there) in
        let high = ap (λ one. position one.word) (target_listed (tickets team) (tickets team).claimed left) in
        let higher = rise team stands at (tickets team).claimed before (omega (arith, length_targets (tickets team))) in
        omega arith

    holder : Holder tickets (next_word team)
    holder = i.owned (next_word team) inside (all_wait team stands).held

  -- So the chain goes on upwards, and can't.
  climbs : (room team : ℕ) → has_ticket (tickets team).phase ≡ true → together position (length words) < position (next_word team) + room → ⊥
  climbs zero team stands above = omega (arith, below_together position (length words) (next_word team) (inside team stands))
  climbs (suc room) team stands above =
      let other = holder team stands in
      let holds = other.holds in
      let here : position (target_at (tickets other.team) holds.at).word ≡ position (next_word team) = ap position holds.its_word in
      let higher = higher_than other.team holds.stands holds.at holds.claimed in
      climbs room other.team holds.stands (omega arith)

pub not_all_wait : NotAllWait
not_all_wait position words tickets plain team i rise stands all_wait =
    climbs position words tickets plain i rise all_wait (suc (together position (length words))) team stands (omega arith)
