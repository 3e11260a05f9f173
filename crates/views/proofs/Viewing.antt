-- What a step of a view leaves, by what its swap found and what is done.
use Prim.Native.Nat.{ℕ, ◌+◌, ◌≤◌, ◌<◌}
use mathlib.Core.Path.{◌≡◌, refl, sym, ap, subst, ◌∙◌}
use mathlib.Core.Bool.{Bool, true, false, cond}
use mathlib.Core.List.{List, [], ◌∷◌}
use native.Mathlib.Omega.{arith}
use borrow.Author.Tests.{leb-true}
use lib.Dec.{leb}
use lib.ListN.{length}
use Rattle.words.specs.Words.{Words, most_named, is_held, mark_of, holder_of, read_of, swap_of, any_value}
use Rattle.words.specs.Tests.{within}
use Rattle.words.proofs.Tests.{split}
use Rattle.tickets.specs.declared.Phase.TheVariants.{Viewing, Viewed}
use Rattle.tickets.specs.declared.StepAnswer.TheVariants as Answer
use Rattle.tickets.specs.declared.Target.{Target}
use Rattle.tickets.specs.declared.Values.{Values}
use Rattle.tickets.specs.declared.Ticket as Slot
use Rattle.tickets.specs.Tickets.{Ticket, no_ticket, target_at, most_of}
use Rattle.tickets.specs.Steps.{Stepped, tries, advanced, stepped, view_claimed, view_waited, values_seen, view_given_back, swap_tried_in, step_of}
use Rattle.tickets.specs.Table.{target_standing, noted_at, tried_slot, done_with_one, stands_in, standing, targets_of, gathered}
use Rattle.tickets.proofs.Gathering.{gathered_tried}
use Rattle.tickets.proofs.Made.{well_made_parts}
use Rattle.tickets.proofs.Settled.{settled_view_waited, settled_view_claimed}
use Rattle.tickets.proofs.Viewing.{gathered_viewed, gathered_seen}
use Rattle.frames.specs.Numbers.{Bytes}
use Rattle.replies.specs.Leaving.{Answered, StepsFrom, LeftBy}
use Rattle.replies.proofs.Standing.{phase_tells, given_more, given_last, made_stands, is_standing, standing_phase, well_standing, few_targets, target_read, counts_there}
use Rattle.replies.proofs.Stepping.{step_left}
use Rattle.views.proofs.Seeing.{standing_seen}

-- A view that gives back names at most so many words.
pub few_named : (words : Words) (targets : List Target) (team : ℕ) (slot : Slot.Ticket) (out : Bytes) → StepsFrom Viewed targets team slot → slot.n ≤ most_named
few_named words targets team slot out known =
    let well = known.steps_in.made in
    let many = (well_made_parts (standing targets slot) (well_standing targets slot well)).many in
    let phase : (standing targets slot).phase ≡ Viewed = standing_phase targets slot well ∙ known.phase_known in
    let (_, (most, _)) = split (leb 1 slot.n ∷ leb slot.n most_named ∷ []) (sym (ap (λ p. within 1 (most_of p) slot.n) phase) ∙ many) in
    leb-true _ _ most

module _ (words : Words) (targets : List Target) (team : ℕ) (slot : Slot.Ticket) (out : Bytes) (known : StepsFrom Viewing targets team slot) where
  -- The next target is the first not claimed.
  pub next_unclaimed : slot.claimed < slot.n
  next_unclaimed = (phase_tells slot Viewing known.phase_known).1.1

  module _ (next : Target) (mark found : ℕ) (after : Words) (left : Slot.Ticket) (place : ℕ) (output : Bytes)
      (next_is : next ≡ target_standing targets slot.claimed)
      (marks : mark ≡ mark_of team)
      (finds : found ≡ (swap_of words next.word (any_value (read_of words next.word)) mark).found)
      (leaves : after ≡ (swap_of words next.word (any_value (read_of words next.word)) mark).words) where
    abbrev there : Ticket
    there = standing targets slot

    next_read : next ≡ target_at there slot.claimed
    next_read = next_is ∙ sym (target_read targets slot known.steps_in.made slot.claimed next_unclaimed)

    swap_is : tries next.word (any_value (read_of words next.word)) mark ≡ swap_tried_in Viewing words there team
    swap_is = λ i. tries (next_read i).word (any_value (read_of words (next_read i).word)) (marks i)

    -- It waits where it found a mark,
    pub view_waits : is_held found ≡ true
        → left ≡ tried_slot slot slot.kind slot.claimed slot.done
        → Answered out (Answer.Waiting next.word (holder_of found)) place output
        → LeftBy (step_of words (gathered targets slot) team) targets left after out place output
    view_waits held is answer =
        step_left Viewing words targets team slot out known _ found after (view_waited there found) targets left place output
        swap_is finds leaves
        (sym (settled_view_waited there found held))
        (ap (gathered targets) is
        ∙ gathered_tried targets slot slot.kind slot.claimed slot.done (made_stands targets slot known.steps_in.made)
        ∙ ap (λ p. advanced there p slot.claimed slot.done) (standing_phase targets slot known.steps_in.made ∙ known.phase_known))
        (subst (λ (one : Target). Answered out (Answer.Waiting one.word (holder_of found)) place output) next_read answer)

    -- and else notes the value.
    pub view_notes : (numbers : List Target) → is_held found ≡ false → slot.claimed < length targets
        → numbers ≡ noted_at targets slot.claimed found
        → left ≡ tried_slot slot slot.kind (slot.claimed + 1) slot.done
        → Answered out (Answer.Claimed left.claimed) place output
        → LeftBy (step_of words (gathered targets slot) team) numbers left after out place output
    view_notes numbers value inside noted is answer =
        let tells = phase_tells slot Viewing known.phase_known in
        step_left Viewing words targets team slot out known _ found after (view_claimed there found) numbers left place output
        swap_is finds leaves
        (sym (settled_view_claimed there found value))
        ((λ i. gathered (noted i) (is i))
        ∙ gathered_viewed targets slot found next_unclaimed (few_targets targets slot known.steps_in.made) inside tells.0 tells.1.0
        ∙ ap (λ (t : Ticket). (view_claimed t found).ticket) (is_standing targets slot known.steps_in.made))
        (subst (λ (s : Slot.Ticket). Answered out (Answer.Claimed s.claimed) place output) is answer)

module _ (words : Words) (targets : List Target) (team : ℕ) (slot : Slot.Ticket) (out : Bytes) (known : StepsFrom Viewed targets team slot) where
  -- What is given back is claimed, and all is.
  pub next_claimed : (slot.done < slot.claimed) × (slot.claimed ≡ slot.n)
  next_claimed = counts_there targets slot known.steps_in.made Viewed known.phase_known

  module _ (next : Target) (after : Words) (left : Slot.Ticket) (place : ℕ) (output : Bytes)
      (next_is : next ≡ target_standing targets slot.done)
      (leaves : after ≡ (swap_of words next.word (mark_of team) next.quoted).words)
      (is : left ≡ tried_slot slot slot.kind slot.claimed (done_with_one slot)) where
    abbrev stands_there : Ticket
    stands_there = standing targets slot

    -- By the answer,
    view_given : Answered out (view_given_back stands_there).answer place output → LeftBy (step_of words (gathered targets slot) team) targets left after out place output
    view_given answer =
        let made = known.steps_in.made in
        let (below, all) = next_claimed in
        let read = next_is ∙ sym (target_read targets slot made slot.done (omega (arith, below, all))) in
        step_left Viewed words targets team slot out known (tries next.word (mark_of team) next.quoted) _ after (view_given_back stands_there) targets left place output
        (λ i. tries (read i).word (mark_of team) (read i).quoted) refl leaves refl
        (ap (gathered targets) is
        ∙ gathered_seen targets slot (phase_tells slot Viewed known.phase_known) below (omega (arith, all))
        ∙ ap (λ (t : Ticket). (view_given_back t).ticket) (is_standing targets slot made))
        answer

    abbrev by : Bool → Stepped
    by last = cond last (stepped no_ticket (Answer.Seen (values_seen stands_there))) (stepped (advanced stands_there Viewed slot.claimed (slot.done + 1)) (Answer.Returned (slot.done + 1)))

    -- which is Returned where the view still stands,
    pub view_returns : stands_in left ≡ true → Answered out (Answer.Returned left.done) place output → LeftBy (step_of words (gathered targets slot) team) targets left after out place output
    view_returns stands answer =
        let (below, all) = next_claimed in
        let (more, counts) = given_more slot slot.kind below (omega (arith, all)) (sym (ap stands_in is) ∙ stands) in
        view_given (subst (λ told. Answered out told place output) (ap (λ (s : Slot.Ticket). Answer.Returned s.done) is ∙ ap Answer.Returned counts ∙ sym (ap (λ b. (by b).answer) more)) answer)

    -- and else Seen, with the values.
    pub view_sees : (seen : Values) → stands_in left ≡ false → seen ≡ values_seen (targets_of targets slot.n) → Answered out (Answer.Seen seen) place output
        → LeftBy (step_of words (gathered targets slot) team) targets left after out place output
    view_sees seen gone is_seen answer =
        let (below, all) = next_claimed in
        let last = given_last slot slot.kind below (omega (arith, all)) (sym (ap stands_in is) ∙ gone) in
        view_given (subst (λ told. Answered out told place output) (ap Answer.Seen (is_seen ∙ standing_seen targets slot) ∙ sym (ap (λ b. (by b).answer) last)) answer)
