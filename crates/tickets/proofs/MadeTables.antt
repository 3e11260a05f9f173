-- Tables whose tickets are all well made: the test of one slot after another, and another ticket in one slot.
use Prim.Native.Nat.{ℕ, zero, suc, ◌+◌, ◌-◌, ◌<◌, ◌≤◌}
use mathlib.Core.Path.{◌≡◌, refl, sym, ap, subst, ◌∙◌}
use mathlib.Core.List.{List, [], ◌∷◌}
use mathlib.Core.Bool.{Bool, true, false, cond, false≢true}
use native.Mathlib.Omega.{arith}
use native.Mathlib.Decide.{ℕ_discrete}
use lib.ListN.{get_or, set}
use Rattle.words.specs.Words.{team_count}
use Rattle.tickets.specs.Tickets.{Ticket, Tickets, no_ticket, ticket_of, with_ticket, has_ticket, well_made, SlotWellMade, TableWellMade, slot_well_made, well_made_from}

-- A slot without a ticket passes, and the test of a slot says that it does.
pub empty_well_made : (ticket : Ticket) → has_ticket ticket.phase ≡ false → SlotWellMade ticket
empty_well_made ticket empty stands = absurd (false≢true (sym empty ∙ stands))

test_well_made : (ticket : Ticket) → slot_well_made ticket ≡ true → SlotWellMade ticket
test_well_made ticket tested stands = go (has_ticket ticket.phase) stands tested
  where
    go : (has : Bool) → has ≡ true → cond has (well_made ticket) true ≡ true → well_made ticket ≡ true
    go true s t = t
    go false s t = absurd (false≢true s)

-- The slots from one on, tested one after another.
pub well_made_next : (tickets : Tickets) (k : ℕ) → k < team_count → well_made_from k (team_count - k) tickets ≡ cond (slot_well_made (ticket_of tickets k)) (well_made_from (k + 1) (team_count - (k + 1)) tickets) false
unfolding well_made_from
well_made_next tickets k inside =
    let one_more : team_count - k ≡ suc (team_count - (k + 1)) = omega arith in
    ap (λ (m : ℕ). well_made_from k m tickets) one_more

pub well_made_none : (tickets : Tickets) (k : ℕ) → team_count ≤ k → well_made_from k (team_count - k) tickets ≡ true
unfolding well_made_from
well_made_none tickets k outside =
    let none : team_count - k ≡ 0 = omega arith in
    ap (λ (m : ℕ). well_made_from k m tickets) none

each_from : (tickets : Tickets) (many k : ℕ) → well_made_from k many tickets ≡ true → (team : ℕ) → k ≤ team → team < k + many → SlotWellMade (ticket_of tickets team)
unfolding well_made_from
each_from tickets zero k all team least below = absurd (empty least below)
  where
    empty : k ≤ team → team < k + 0 → ⊥
    empty a b = omega arith
each_from tickets (suc many) k all team least below = go (slot_well_made (ticket_of tickets k)) refl all (λ later first last. each_from tickets many (k + 1) later team first last)
  where
    go : (here : Bool) → slot_well_made (ticket_of tickets k) ≡ here → cond here (well_made_from (k + 1) many tickets) false ≡ true
        → (well_made_from (k + 1) many tickets ≡ true → k + 1 ≤ team → team < k + 1 + many → SlotWellMade (ticket_of tickets team)) → SlotWellMade (ticket_of tickets team)
    go true is later rest = elim (ℕ_discrete team k) [
      | yes same ↦ subst (λ (t : ℕ). SlotWellMade (ticket_of tickets t)) (sym same) (test_well_made (ticket_of tickets k) is)
      | no other ↦ rest later (omega arith) (omega arith)
    ]
    go false is later rest = absurd (false≢true later)

pub all_well_made_lem : (tickets : Tickets) → well_made_from 0 team_count tickets ≡ true → TableWellMade tickets
all_well_made_lem tickets all team inside = each_from tickets team_count 0 all team (omega arith) (omega arith)

-- Another ticket in one slot.
set_well_made : (In : ℕ → Type 0) (slots : List Ticket) (slot : ℕ) (ticket : Ticket) → ((team : ℕ) → In team → SlotWellMade (get_or slots team no_ticket)) → SlotWellMade ticket
    → (team : ℕ) → In team → SlotWellMade (get_or (set slots slot ticket) team no_ticket)
set_well_made In [] slot ticket each mine team inside = each team inside
set_well_made In (first ∷ slots) zero ticket each mine zero inside = mine
set_well_made In (first ∷ slots) zero ticket each mine (suc team) inside = each (suc team) inside
set_well_made In (first ∷ slots) (suc slot) ticket each mine zero inside = each zero inside
set_well_made In (first ∷ slots) (suc slot) ticket each mine (suc team) inside = set_well_made (λ t. In (suc t)) slots slot ticket (λ t. each (suc t)) mine team inside

pub with_well_made : (tickets : Tickets) (slot : ℕ) (ticket : Ticket) → TableWellMade tickets → SlotWellMade ticket → TableWellMade (with_ticket tickets slot ticket)
with_well_made tickets slot ticket all mine = set_well_made (λ team. team < team_count) tickets.slots slot ticket all mine
