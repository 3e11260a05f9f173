-- How many swaps that do something a ticket may still have, and that each step but a waiting one leaves fewer.
use Prim.Native.Nat.{ℕ, ◌+◌, ◌*◌, ◌-◌, ◌^◌, ◌≤◌, ◌<◌}
use mathlib.Core.Path.{◌≡◌, refl, sym, ap, subst, subst₂, ◌∙◌}
use mathlib.Core.Bool.{true, false, cond, false≢true}
use mathlib.Core.List.{List, map}
use native.Mathlib.Omega.{arith}
use lib.Dec.{eqb}
use lib.ListN.{length, get_or, set, length-map, get_or-map}
use borrow.Author.Tests.{ne_eqb, le-leb}
use Rattle.words.specs.Words.{Words, read_of}
use Rattle.words.proofs.AnyValue.{mark_unexpected}
use Rattle.tickets.specs.declared.Target.{Target}
use Rattle.tickets.specs.declared.Phase.{Phase}
use Rattle.tickets.specs.declared.Phase.TheVariants.{NoTicket, Claiming, Putting, GivingBack, Viewing, Viewed}
use Rattle.tickets.specs.Tickets.{Ticket, no_ticket, target, target_at, targets_in, words_in, has_ticket, claims}
use Rattle.tickets.specs.declared.StepAnswer.{StepAnswer}
use Rattle.tickets.specs.Steps.{swap_tried_in, swap_tried, advanced, noting, step_of}
use Rattle.tickets.specs.Targets.{target_in}
use Rattle.tickets.specs.Invariant.{with_slot, FitTicket, FitSlot, Invariant, Holder, Leaves, StepKept, one_claimed, claimed_last, waiting, found_other, stale_at_once, put_one, put_last, returned_one, returned_last, viewed_one, viewed_last, view_waiting, view_returned_one, view_returned_last}
use Rattle.tickets.proofs.TargetLists.{targets_advanced, claimable_at}
use Rattle.tickets.proofs.Names.{words_noting}
use Rattle.tickets.proofs.Keeping.{standing_fit, claims_counts, done_counts}
use Rattle.tickets.proofs.Stepping.{step_keeps}
use Rattle.tickets.proofs.Slots.{every_slot}
use Rattle.edits.specs.Ordering.{RisesStrictly}
use Rattle.progress.specs.Rounds.{Waits, AllRise}
use Rattle.tickets.proofs.Putting.{all_put, all_put_lem}

-- While it claims: those left to claim, and then all to put or to give back; later those left to put or to give back.
abbrev pub swaps_in : Phase → (n claimed done : ℕ) → ℕ
swaps_in NoTicket n claimed done = 0
swaps_in Claiming n claimed done = n - claimed + n
swaps_in Putting n claimed done = n - done
swaps_in GivingBack n claimed done = claimed - done
swaps_in Viewing n claimed done = n - claimed + n
swaps_in Viewed n claimed done = claimed - done

unfoldable pub swaps_left : Ticket → ℕ
swaps_left ticket = swaps_in ticket.phase ticket.n ticket.claimed ticket.done

swaps_in_lem : (phase : Phase) (ticket : Ticket) → ticket.phase ≡ phase → swaps_left ticket ≡ swaps_in phase ticket.n ticket.claimed ticket.done
unfolding swaps_left
swaps_in_lem phase ticket is = ap (λ phase. swaps_in phase ticket.n ticket.claimed ticket.done) is

-- A standing ticket has some left, and at most two for each target.
pub swaps_some : {size : ℕ} (ticket : Ticket) → FitTicket size ticket → has_ticket ticket.phase ≡ true → 0 < swaps_left ticket
swaps_some ticket fit stands = by ticket.phase refl
  where
    by : (phase : Phase) → ticket.phase ≡ phase → 0 < swaps_left ticket
    by NoTicket is = absurd (false≢true (sym (ap has_ticket is) ∙ stands))
    by Claiming is = omega (arith, swaps_in_lem Claiming ticket is, claims_counts ticket fit (ap claims is))
    by Putting is = let (some, most) = done_counts ticket fit stands (ap claims is) in omega (arith, swaps_in_lem Putting ticket is)
    by GivingBack is = omega (arith, swaps_in_lem GivingBack ticket is, (done_counts ticket fit stands (ap claims is)).0)
    by Viewing is = omega (arith, swaps_in_lem Viewing ticket is, claims_counts ticket fit (ap claims is))
    by Viewed is = omega (arith, swaps_in_lem Viewed ticket is, (done_counts ticket fit stands (ap claims is)).0)

pub swaps_most : {size : ℕ} (ticket : Ticket) → FitSlot size ticket → swaps_left ticket ≤ 2 * cond (has_ticket ticket.phase) ticket.n 0
swaps_most ticket slot = by ticket.phase refl
  where
    standing : (phase : Phase) → ticket.phase ≡ phase → has_ticket phase ≡ true → swaps_in phase ticket.n ticket.claimed ticket.done ≤ 2 * ticket.n
        → swaps_left ticket ≤ 2 * cond (has_ticket ticket.phase) ticket.n 0
    standing phase is stands most = subst₂ (λ left has. left ≤ 2 * cond has ticket.n 0) (sym (swaps_in_lem phase ticket is)) (sym (ap has_ticket is ∙ stands)) most

    fit : (phase : Phase) → ticket.phase ≡ phase → has_ticket phase ≡ true → claims phase ≡ false → ticket.claimed ≤ ticket.n
    fit phase is stands over =
        let stands_now = ap has_ticket is ∙ stands in
        (done_counts ticket (standing_fit _ ticket slot stands_now) stands_now (ap claims is ∙ over)).1

    by : (phase : Phase) → ticket.phase ≡ phase → swaps_left ticket ≤ 2 * cond (has_ticket ticket.phase) ticket.n 0
    by NoTicket is = omega (arith, swaps_in_lem NoTicket ticket is)
    by Claiming is = standing Claiming is refl (omega arith)
    by Putting is = standing Putting is refl (omega arith)
    by GivingBack is = standing GivingBack is refl (omega (arith, fit GivingBack is refl refl))
    by Viewing is = standing Viewing is refl (omega arith)
    by Viewed is = standing Viewed is refl (omega (arith, fit Viewed is refl refl))

-- The swap of a ticket that waits changes no word.
waits_unchanged : (words : Words) (ticket : Ticket) (team : ℕ) → (target_at ticket ticket.claimed).quoted < 2 ^ 63 → Waits words ticket → (step_of words ticket team).1 ≡ words
unfolding step_of swap_tried
waits_unchanged words ticket team value waits =
    let tried = swap_tried_in ticket.phase words ticket team in
    ap (λ same. cond same (set words tried.word tried.desired) words) (passes ticket.phase waits.claiming)
  where
    passes : (phase : Phase) → claims phase ≡ true → let tried = swap_tried_in phase words ticket team in eqb (read_of words tried.word) tried.expected ≡ false
    passes NoTicket claiming = absurd (false≢true claiming)
    passes Claiming claiming = let next = target_at ticket ticket.claimed in ne_eqb (read_of words next.word) next.quoted (λ same. omega (arith, waits.held))
    passes Putting claiming = absurd (false≢true claiming)
    passes GivingBack claiming = absurd (false≢true claiming)
    passes Viewing claiming = let found = read_of words (target_at ticket ticket.claimed).word in mark_unexpected found (le-leb (2 ^ 63) found waits.held)
    passes Viewed claiming = absurd (false≢true claiming)

-- Targets with the same words rise alike.
pub rises_alike : (position : ℕ → ℕ) (before after : List Target) → map (λ target. target.word) after ≡ map (λ target. target.word) before → RisesStrictly position before → RisesStrictly position after
rises_alike position before after same rise j k above inside =
    subst₂ (λ low high. position low < position high) (alike j) (alike k)
    (rise j k above (omega (arith, ap length same, length-map before (λ target. target.word), length-map after (λ target. target.word))))
  where
    alike : (k : ℕ) → (target_in before k).word ≡ (target_in after k).word
    alike k =
        sym (get_or-map (λ target. target.word) before k (target 0 0 0)) ∙ ap (λ words. get_or words k 0) (sym same)
        ∙ get_or-map (λ target. target.word) after k (target 0 0 0)

-- What holds between the steps: the invariant, with some plain words, and that every ticket claims by rising position.
pub record Going (position : ℕ → ℕ) (words : Words) (tickets : ℕ → Ticket) : Type 0 where
  pub plain : ℕ → ℕ
  pub agree : Invariant words tickets plain
  pub rise : AllRise position tickets

module _ (position : ℕ → ℕ) (words : Words) (tickets : ℕ → Ticket) (team : ℕ) where
  -- A step: fewer swaps are left; or the ticket waited, and nothing changed but its tries.
  pub data Moves (after : Ticket) : Type 0 where
    nearer : swaps_left after < swaps_left (tickets team) → Moves after
    waited : Waits words (tickets team) → (step_of words (tickets team) team).1 ≡ words → swaps_left after ≡ swaps_left (tickets team) → Moves after

  pub record Goes (after : Ticket) : Type 0 where
    pub going : Going position (step_of words (tickets team) team).1 (with_slot tickets team after)
    pub moves : Moves after

module _ (position : ℕ → ℕ) (words : Words) (tickets : ℕ → Ticket) (team : ℕ) (going : Going position words tickets) (stands : has_ticket (tickets team).phase ≡ true) where
  abbrev ticket : Ticket
  ticket = tickets team

  fit : FitTicket (length words) ticket
  fit = standing_fit (length words) ticket (going.agree.fit team) stands

  -- The step's ticket is gone, or has the same words.
  abbrev SameWords : Ticket → Type 0
  SameWords after = has_ticket after.phase ≡ true → words_in after ≡ words_in ticket

  abbrev Kept : Type 0
  Kept = Goes position words tickets team (step_of words ticket team).0.ticket

  goes_as : {plain : ℕ → ℕ} {after : Ticket} {answer : StepAnswer} → Leaves words tickets team plain after answer → SameWords after → Moves position words tickets team after → Kept
  goes_as {plain} {after} left same moves = subst (λ step. Goes position words tickets team step.ticket) (sym left.is) record {
    going = record {
      plain = plain;
      agree = left.keeps;
      rise = every_slot (λ one. has_ticket one.phase ≡ true → RisesStrictly position (targets_in one)) tickets team after
          (λ still. rises_alike position (targets_in ticket) (targets_in after) (same still) (going.rise team stands)) going.rise;
    };
    moves = moves;
  }

  words_advanced : (base : Ticket) (phase : Phase) (claimed done : ℕ) → words_in (advanced base phase claimed done) ≡ words_in base
  words_advanced base phase claimed done = ap (map (λ target. target.word)) (targets_advanced base phase claimed done)

  goes_on_lem : {plain : ℕ → ℕ} {phase : Phase} {claimed done : ℕ} {answer : StepAnswer} → Leaves words tickets team plain (advanced ticket phase claimed done) answer
      → Moves position words tickets team (advanced ticket phase claimed done) → Kept
  goes_on_lem left moves = goes_as left (λ still. words_advanced ticket _ _ _) moves

  -- A view that noted a value goes on.
  views_on : {plain : ℕ → ℕ} {phase : Phase} {claimed done : ℕ} {answer : StepAnswer} (value : ℕ) → Leaves words tickets team plain (advanced (noting ticket value) phase claimed done) answer
      → Moves position words tickets team (advanced (noting ticket value) phase claimed done) → Kept
  views_on value left moves = goes_as left (λ still. words_advanced (noting ticket value) _ _ _ ∙ words_noting ticket value) moves

  ends : {plain : ℕ → ℕ} {answer : StepAnswer} → Leaves words tickets team plain no_ticket answer → Kept
  unfolding swaps_left
  ends left = goes_as left (λ still. absurd (false≢true still)) (nearer (swaps_some ticket fit stands))

  fewer : {after : Ticket} (phase : Phase) → ticket.phase ≡ phase → swaps_left after < swaps_in phase ticket.n ticket.claimed ticket.done → Moves position words tickets team after
  fewer {after} phase is less = nearer (subst (λ left. swaps_left after < left) (sym (swaps_in_lem phase ticket is)) less)

  -- It waits: the word is marked.
  waits_on : (phase : Phase) → ticket.phase ≡ phase → claims phase ≡ true → Holder tickets (target_at ticket ticket.claimed).word
      → swaps_left (advanced ticket phase ticket.claimed ticket.done) ≡ swaps_in phase ticket.n ticket.claimed ticket.done
      → Moves position words tickets team (advanced ticket phase ticket.claimed ticket.done)
  waits_on phase is claiming holder same =
      let marked = (going.agree.held holder.team _ holder.value holder.holds).marked in
      let claims_now : claims ticket.phase ≡ true = ap claims is ∙ claiming in
      let waits : Waits words ticket = record { claiming = claims_now; held = omega arith } in
      let value = (claimable_at (length words) ticket fit.claimable).quoted ticket.claimed (claims_counts ticket fit claims_now) in
      waited waits (waits_unchanged words ticket team value waits) (same ∙ sym (swaps_in_lem phase ticket is))

  goes_by : StepKept words tickets going.plain team ticket → Kept
  unfolding swaps_left
  goes_by (one_claimed is more left) = goes_on_lem left (fewer Claiming is (omega arith))
  goes_by (claimed_last is last matches left) =
      goes_on_lem (left (all_put (targets_in ticket) going.plain) (all_put_lem (targets_in ticket) going.plain fit.claimable.once)) (fewer Claiming is (omega arith))
  goes_by (waiting is holder other left) = goes_on_lem left (waits_on Claiming is refl holder refl)
  goes_by (found_other is some differs left) = goes_on_lem left (fewer Claiming is (omega (arith, claims_counts ticket fit (ap claims is))))
  goes_by (stale_at_once is none differs left) = ends left
  goes_by (put_one is more left) = goes_on_lem left (fewer Putting is (omega arith))
  goes_by (put_last is last left) = ends left
  goes_by (returned_one is more left) = goes_on_lem left (fewer GivingBack is (omega arith))
  goes_by (returned_last is last left) = ends left
  goes_by (viewed_one is more value plain left) = views_on value left (fewer Viewing is (omega arith))
  goes_by (viewed_last is last value plain left) = views_on value left (fewer Viewing is (omega arith))
  goes_by (view_waiting is holder other left) = goes_on_lem left (waits_on Viewing is refl holder refl)
  goes_by (view_returned_one is more left) = goes_on_lem left (fewer Viewed is (omega arith))
  goes_by (view_returned_last is last left) = ends left

  pub step_goes : Goes position words tickets team (step_of words (tickets team) team).0.ticket
  step_goes = goes_by (step_keeps words tickets going.plain team going.agree stands)
