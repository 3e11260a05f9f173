-- The swaps that all tickets may still have, together.
use Prim.Native.Nat.{ℕ, zero, suc, ◌+◌, ◌*◌, ◌≤◌, ◌<◌}
use mathlib.Core.Path.{◌≡◌, refl, sym, ap, ◌∙◌}
use mathlib.Core.Bool.{cond}
use mathlib.Core.Logic.{◌≢◌}
use native.Mathlib.Omega.{arith}
use native.Mathlib.Decide.{ℕ_discrete}
use Rattle.words.specs.Words.{team_count}
use Rattle.tickets.specs.Tickets.{Ticket, Tickets, ticket_of}
use Rattle.tickets.specs.Invariant.{with_slot, FitSlot}
use Rattle.tickets.proofs.Slots.{slot_same, slot_other}
use Rattle.progress.specs.Rounds.{targets_below, NoneStands, NoTicketNoRound}
use Rattle.progress.proofs.Measure.{swaps_left, swaps_most}

-- Those of the teams below n.
unfoldable pub total : ℕ → (ℕ → Ticket) → ℕ
total zero tickets = 0
total (suc n) tickets = swaps_left (tickets n) + total n tickets

module _ (tickets : ℕ → Ticket) (team : ℕ) (after : Ticket) where
  total_beyond : (n : ℕ) → n ≤ team → total n (with_slot tickets team after) ≡ total n tickets
  unfolding total
  total_beyond zero beyond = refl
  total_beyond (suc n) beyond =
      let other : n ≢ team = λ same. omega arith in
      let here = ap swaps_left (slot_other tickets team n after other) in
      let before = total_beyond n (omega arith) in
      omega arith

  -- Another ticket in one slot: its swaps take the place of those before.
  pub total_with : (n : ℕ) → team < n → total n (with_slot tickets team after) + swaps_left (tickets team) ≡ total n tickets + swaps_left after
  unfolding total
  total_with zero inside = absurd (omega arith)
  total_with (suc n) inside = elim (ℕ_discrete team n) [
    | yes same ↦
        let here = ap swaps_left (ap (with_slot tickets team after) (sym same) ∙ slot_same tickets team after) in
        let mine : swaps_left (tickets team) ≡ swaps_left (tickets n) = ap (λ team. swaps_left (tickets team)) same in
        let before = total_beyond n (omega arith) in
        omega arith
    | no differs ↦
        let here = ap swaps_left (slot_other tickets team n after (λ same. differs (sym same))) in
        let before = total_with n (omega arith) in
        omega arith
  ]

-- Where the total is zero, no team has any.
pub total_none : (n : ℕ) (tickets : ℕ → Ticket) (team : ℕ) → total n tickets ≡ 0 → team < n → swaps_left (tickets team) ≡ 0
unfolding total
total_none zero tickets team none inside = absurd (omega arith)
total_none (suc n) tickets team none inside = elim (ℕ_discrete team n) [
  | yes same ↦ let mine : swaps_left (tickets team) ≡ swaps_left (tickets n) = ap (λ team. swaps_left (tickets team)) same in omega arith
  | no differs ↦ total_none n tickets team (omega arith) (omega arith)
]

-- It is at most twice the targets of the standing tickets.
pub total_most : (size : ℕ) (table : Tickets) → ((team : ℕ) → FitSlot size (ticket_of table team)) → (n : ℕ) → total n (ticket_of table) ≤ 2 * targets_below n table
unfolding total targets_below
total_most size table fit zero = omega arith
total_most size table fit (suc n) =
    let here = swaps_most (ticket_of table n) (fit n) in
    let before = total_most size table fit n in
    omega arith

-- Where none stands there are no targets.
no_targets : (table : Tickets) → NoneStands table → (n : ℕ) → targets_below n table ≡ 0
unfolding targets_below
no_targets table none zero = refl
no_targets table none (suc n) =
    let here = ap (λ has. cond has (ticket_of table n).n 0) (none n) in
    let before = no_targets table none n in
    omega arith

pub no_ticket_no_round : NoTicketNoRound
no_ticket_no_round table none = no_targets table none team_count
