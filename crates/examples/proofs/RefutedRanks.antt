-- Runs of wrong programs with loads, for which demand 3 does not hold.
use Prim.Native.Nat.{ℕ, ◌^◌}
use native.Mathlib.Omega.{arith}
use mathlib.Core.Path.{◌≡◌, refl, ap}
use mathlib.Core.Bool.{true≢false}
use mathlib.Core.List.{List, [], ◌∷◌, ◌++◌}
use lib.ListN.{get_or, replicate}
use Rattle.words.specs.Words.{Words}
use Rattle.legs.specs.Positions.{Ranks}
use Rattle.legs.proofs.Examples.{turned}
use Rattle.tickets.specs.declared.Phase.TheVariants.{Viewing}
use Rattle.tickets.specs.declared.StepAnswer.TheVariants.{Claimed, Stale}
use Rattle.tickets.specs.Tickets.{Tickets, fresh_tickets, with_ticket}
use Rattle.tickets.specs.Steps.{advanced}
use Rattle.edits.specs.Opened.{opened_ticket}
use Rattle.edits.specs.Views.{opened_view}
use Rattle.frames.specs.Request.{Open, Step, View}
use Rattle.frames.specs.declared.Answer.TheVariants as Answer
use Rattle.calls.specs.Run.{loading, fresh, sharing, Heard, Run}
use Rattle.calls.specs.Linearizable.{Linearizable}
use Rattle.calls.proofs.ExampleCalls.{every_run, heard_as}
use Rattle.calls.proofs.ComputedLoads.{twice, moving}
use Rattle.examples.proofs.RefutedOrders.{fresh_book, edited, adding}

-- A load that returned this.
abbrev load_heard : Ranks → ℕ → Heard
load_heard ranks number = record { call = loading ranks; returned = number; output = [] }

-- This book, these tickets and these ranks are left, and this was heard; or the book is fresh and no ticket stands.
abbrev leaving : Words → Tickets → Ranks → List Heard → Run
leaving book tickets ranks heard = record { end = sharing book tickets ranks; heard = heard }

abbrev left : Ranks → List Heard → Run
left ranks heard = leaving fresh_book fresh_tickets ranks heard

abbrev fixed : Ranks
fixed = (fresh []).ranks

-- The rank of passage 0 tells ranks apart.
rank_of : (one other : Ranks) → one ≡ other → get_or one 0 99 ≡ get_or other 0 99
rank_of one other same = ap (λ (ranks : Ranks). get_or ranks 0 99) same

-- One that says that a load went, and keeps the old ranks.
forgets_load : Linearizable (left fixed (load_heard turned 0 ∷ [])) → ⊥
unfolding every_run
forgets_load right = let ranks : ◌≡◌ {A = ℕ} 3 31 = rank_of fixed turned right.ranks_heard in omega arith

-- One that takes over the ranks of a load that it refuses.
refused_load_writes : Linearizable (left turned (load_heard turned 14 ∷ [])) → ⊥
unfolding every_run
refused_load_writes right = let ranks : ◌≡◌ {A = ℕ} 31 3 = rank_of turned fixed right.ranks_heard in omega arith

-- One that writes ranks though nothing was loaded.
writes_ranks : Linearizable (left turned []) → ⊥
unfolding every_run
writes_ranks right = let ranks : ◌≡◌ {A = ℕ} 31 3 = rank_of turned fixed right.ranks_heard in omega arith

-- One that accepts a rank twice.
accepts_twice : Linearizable (left twice (load_heard twice 0 ∷ [])) → ⊥
unfolding every_run
accepts_twice right = true≢false right.stays_ranked

-- One that accepts a load while a ticket stands: it is out of turn. The ranks loaded are those in force, so that nothing else is wrong.
loads_over_ticket : Linearizable (leaving fresh_book (with_ticket fresh_tickets 0 (opened_ticket fixed adding)) fixed (edited adding [] ++ (load_heard fixed 0 ∷ []))) → ⊥
unfolding every_run
loads_over_ticket right = let counted : ◌≡◌ {A = ℕ} 1 0 = right.in_turn in omega arith

-- One that loads, and goes on claiming by the old ranks. Of words 0 and 2 a view claims word 0 first, where passage 1 has the lower rank now: word 2 is held, and not marked.
abbrev claimed_one : Tickets
claimed_one = with_ticket fresh_tickets 0 (advanced (opened_view fixed (0 ∷ 2 ∷ [])) Viewing 1 0)

abbrev claiming : List Heard
claiming = load_heard turned 0 ∷ heard_as (View 0 2 (0 ∷ 2 ∷ [])) (Answer.Standing 2) ∷ heard_as (Step 0) (Answer.Step (Claimed 1)) ∷ []

claims_by_old_ranks : Linearizable (leaving (2 ^ 63 ∷ replicate 4095 0) claimed_one turned claiming) → ⊥
unfolding every_run
claims_by_old_ranks right = let marked : ◌≡◌ {A = ℕ} 0 (2 ^ 63) = right.held_marked 0 2 refl in omega arith

-- The same with an edit: it is stale by word 0, which is not the first to be claimed.
stale_by_old_ranks : Linearizable (left turned (load_heard turned 0 ∷ heard_as (Open 0 moving) (Answer.Standing 7) ∷ heard_as (Step 0) (Answer.Step (Stale 0 1)) ∷ [])) → ⊥
unfolding every_run
stale_by_old_ranks right = let named : ◌≡◌ {A = ℕ} 0 2 = right.last_answers.0.fits.1.named in omega arith
