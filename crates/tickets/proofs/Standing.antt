-- Tickets asked one after another whether they stand.
use Prim.Native.Nat.{ℕ, zero, suc, ◌-◌, ◌≤◌, ◌<◌}
use mathlib.Core.Path.{◌≡◌, refl, sym, ap, ◌∙◌}
use mathlib.Core.Bool.{Bool, true, false, cond}
use native.Mathlib.Omega.{arith}
use Rattle.tickets.specs.Tickets.{Tickets}
use Rattle.tickets.specs.Tickets.{ticket_of, has_ticket, stands_below}

-- Whether a ticket stands below team n: the last one's does, or one below it.
pub below_next : (tickets : Tickets) (n : ℕ) → 0 < n → (last : Bool) → has_ticket (ticket_of tickets (n - 1)).phase ≡ last → stands_below n tickets ≡ cond last true (stands_below (n - 1) tickets)
unfolding stands_below
below_next tickets zero some last is = absurd (omega arith)
below_next tickets (suc n) some last is =
    let same : suc n - 1 ≡ n = omega arith in
    ap (λ b. cond b true (stands_below n tickets)) (ap (λ (k : ℕ). has_ticket (ticket_of tickets k).phase) (sym same) ∙ is)
    ∙ ap (λ (k : ℕ). cond last true (stands_below k tickets)) (sym same)

pub below_none : (tickets : Tickets) (n : ℕ) → n ≤ 0 → stands_below n tickets ≡ false
unfolding stands_below
below_none tickets zero none = refl
below_none tickets (suc n) none = absurd (omega arith)
