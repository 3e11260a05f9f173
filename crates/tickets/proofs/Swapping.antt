-- One step is one swap: of the words it changes one at most, a view's claiming swap takes any value, and Waiting tells the holder reported.
use Prim.Native.Nat.{ℕ, ◌+◌}
use mathlib.Core.Path.{◌≡◌, refl, ap, ◌∙◌}
use mathlib.Core.Bool.{Bool, true, false, cond}
use lib.Dec.{eqb}
use lib.ListN.{set}
use lib.Seq.{get_or-set_same, get_or-set_other}
use borrow.Author.Tests.{eq-eqb, ne_eqb}
use Rattle.words.specs.Words.{Words, is_held, mark_of, read_of, swap_of}
use Rattle.words.proofs.AnyValue.{value_expected, mark_unexpected}
use Rattle.tickets.specs.declared.Phase.{Phase}
use Rattle.tickets.specs.declared.Phase.TheVariants.{NoTicket, Claiming, Putting, GivingBack, Viewing, Viewed}
use Rattle.tickets.specs.Tickets.{Ticket}
use Rattle.tickets.specs.declared.SwapTried.{SwapTried}
use Rattle.tickets.specs.Steps.{Stepped}
use Rattle.tickets.specs.declared.StepAnswer.TheVariants.{Found, Put, Returned, Granted, Stale, Seen}
use Rattle.tickets.specs.Tickets.{no_ticket, target_at}
use Rattle.tickets.specs.Steps.{swap_tried_in, swap_tried, one_more_try, advanced, stepped, claimed, waited, view_claimed, view_waited, values_seen, settled_in, settled, step_of}
use Rattle.tickets.specs.Swapping.{SwapsOne, StepSwapsOneWord, ViewsTakeAnyValue, TellsHolder, WaitingTellsHolder}
use Rattle.tickets.proofs.Settled.{settled_view_waited, settled_view_claimed}

swaps_one : (words : Words) (tried : SwapTried) → SwapsOne words tried (swap_of words tried.word tried.expected tried.desired).words
swaps_one words tried = record {
  elsewhere = λ word differs. other word differs (eqb (read_of words tried.word) tried.expected);
  as_expected = λ inside same.
      ap (λ b. read_of (cond b (set words tried.word tried.desired) words) tried.word) (eq-eqb _ _ same) ∙ get_or-set_same words tried.word tried.desired 0 inside;
  otherwise = λ differs. ap (λ b. cond b (set words tried.word tried.desired) words) (ne_eqb _ _ differs);
}
  where
    other : (word : ℕ) → (word ≡ tried.word → ⊥) → (same : Bool) → read_of (cond same (set words tried.word tried.desired) words) word ≡ read_of words word
    other word differs true = get_or-set_other words tried.word word tried.desired 0 differs
    other word differs false = refl

pub step_swaps_one_word : StepSwapsOneWord
unfolding step_of
step_swaps_one_word words ticket team = swaps_one words (swap_tried words ticket team)

-- A step by the phase that its ticket is in.
abbrev step_in : Phase → Words → Ticket → ℕ → Stepped × Words
step_in phase words ticket team =
    let tried = swap_tried_in phase words ticket team in
    let swap = swap_of words tried.word tried.expected tried.desired in
    (settled_in phase ticket swap.found, swap.words)

step_in_lem : (phase : Phase) (words : Words) (ticket : Ticket) (team : ℕ) → ticket.phase ≡ phase → step_of words ticket team ≡ step_in phase words ticket team
unfolding step_of swap_tried settled
step_in_lem phase words ticket team is = ap (λ phase. step_in phase words ticket team) is

pub views_take_any_value : ViewsTakeAnyValue
views_take_any_value words ticket team viewing = (
  λ value. by_swap true (view_claimed ticket found) (value_expected found value) (settled_view_claimed ticket found value),
  λ held. by_swap false (view_waited ticket found) (mark_unexpected found held) (settled_view_waited ticket found held),
)
  where
    word : ℕ
    word = (target_at ticket ticket.claimed).word

    found : ℕ
    found = read_of words word

    by_swap : (takes : Bool) (after : Stepped) → eqb found (cond (is_held found) 0 found) ≡ takes → settled_in Viewing ticket found ≡ after
        → ◌≡◌ {A = Stepped × Words} (step_of words ticket team) (after, cond takes (set words word (mark_of team)) words)
    by_swap takes after swaps settles = step_in_lem Viewing words ticket team viewing ∙ (λ i. (settles i, cond (swaps i) (set words word (mark_of team)) words))

module _ (words : Words) (ticket : Ticket) (at expected desired : ℕ) where
  abbrev Tells : Stepped → Type 0
  Tells after = TellsHolder (swap_of words at expected desired) after.answer

  claiming_tells : (same held none : Bool)
      → Tells (cond same (claimed ticket) (cond held (waited ticket (read_of words at))
      (cond none (stepped no_ticket (Stale (target_at ticket ticket.claimed).word (one_more_try ticket.tries))) (stepped (advanced ticket GivingBack ticket.claimed 0) (Found (target_at ticket ticket.claimed).word)))))
  claiming_tells true held none = tt
  claiming_tells false true none = refl
  claiming_tells false false true = tt
  claiming_tells false false false = tt

  viewing_tells : (held : Bool) → Tells (cond held (view_waited ticket (read_of words at)) (view_claimed ticket (read_of words at)))
  viewing_tells true = refl
  viewing_tells false = tt

  putting_tells : (last : Bool) → Tells (cond last (stepped no_ticket (Granted (one_more_try ticket.tries))) (stepped (advanced ticket Putting ticket.claimed (ticket.done + 1)) (Put (ticket.done + 1))))
  putting_tells true = tt
  putting_tells false = tt

  giving_tells : (last : Bool)
      → Tells (cond last (stepped no_ticket (Stale (target_at ticket ticket.claimed).word (one_more_try ticket.tries))) (stepped (advanced ticket GivingBack ticket.claimed (ticket.done + 1)) (Returned (ticket.done + 1))))
  giving_tells true = tt
  giving_tells false = tt

  viewed_tells : (last : Bool) → Tells (cond last (stepped no_ticket (Seen (values_seen ticket))) (stepped (advanced ticket Viewed ticket.claimed (ticket.done + 1)) (Returned (ticket.done + 1))))
  viewed_tells true = tt
  viewed_tells false = tt

  settled_tells : (phase : Phase) → Tells (settled_in phase ticket (read_of words at))
  settled_tells NoTicket = tt
  settled_tells Claiming = claiming_tells (eqb (read_of words at) (target_at ticket ticket.claimed).quoted) (is_held (read_of words at)) (eqb ticket.claimed 0)
  settled_tells Putting = putting_tells (eqb (ticket.done + 1) ticket.n)
  settled_tells GivingBack = giving_tells (eqb (ticket.done + 1) ticket.claimed)
  settled_tells Viewing = viewing_tells (is_held (read_of words at))
  settled_tells Viewed = viewed_tells (eqb (ticket.done + 1) ticket.claimed)

pub waiting_tells_holder : WaitingTellsHolder
unfolding step_of settled
waiting_tells_holder words ticket team =
    let tried = swap_tried words ticket team in
    settled_tells words ticket tried.word tried.expected tried.desired ticket.phase
