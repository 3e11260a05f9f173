-- What a step of an edit that puts or gives back leaves, by what is done.
use Prim.Native.Nat.{ℕ, ◌+◌, ◌≤◌, ◌<◌}
use mathlib.Core.Path.{◌≡◌, refl, sym, ap, subst, ◌∙◌}
use mathlib.Core.Bool.{Bool, true, false, cond}
use mathlib.Core.List.{List}
use native.Mathlib.Omega.{arith}
use borrow.Author.Tests.{eq-eqb, ne_eqb, ltb-true, ltb-false}
use Rattle.words.specs.Words.{Words, mark_of, swap_of}
use Rattle.tickets.specs.declared.Kind.TheVariants.{Edit}
use Rattle.tickets.specs.declared.Phase.TheVariants.{Putting, GivingBack}
use Rattle.tickets.specs.declared.StepAnswer.{StepAnswer}
use Rattle.tickets.specs.declared.StepAnswer.TheVariants as Answer
use Rattle.tickets.specs.declared.Target.{Target}
use Rattle.tickets.specs.declared.Ticket as Slot
use Rattle.tickets.specs.Tickets.{Ticket, no_ticket, target_at}
use Rattle.tickets.specs.Steps.{one_more_try, tries, advanced, stepped, put, given_back, step_of}
use Rattle.tickets.specs.Table.{target_standing, tried_slot, done_with_one, stands_in, claims_in, standing, gathered}
use Rattle.tickets.proofs.Gathering.{gathered_put, gathered_given}
use Rattle.frames.specs.Numbers.{Bytes}
use Rattle.replies.specs.Leaving.{Answered, StepsFrom, LeftBy}
use Rattle.replies.proofs.Standing.{phase_tells, given_more, given_last, is_standing, target_read, counts_there}
use Rattle.replies.proofs.Stepping.{step_left}

module _ (words : Words) (targets : List Target) (team : ℕ) (slot : Slot.Ticket) (out : Bytes) (known : StepsFrom Putting targets team slot) where
  -- What a put asks of the ticket.
  pub puts_next : (slot.kind ≡ Edit) × (slot.done < slot.n) × (claims_in slot ≡ false)
  puts_next =
      let tells = phase_tells slot Putting known.phase_known in
      (tells.0, counts_there targets slot known.steps_in.made Putting known.phase_known, tells.1)

  module _ (next : Target) (after : Words) (left : Slot.Ticket) (place : ℕ) (output : Bytes)
      (next_is : next ≡ target_standing targets slot.done)
      (leaves : after ≡ (swap_of words next.word (mark_of team) next.new).words)
      (is : left ≡ tried_slot slot slot.kind slot.claimed (slot.done + 1)) where
    abbrev stands_there : Ticket
    stands_there = standing targets slot

    -- By the answer,
    edit_put : Answered out (put stands_there).answer place output → LeftBy (step_of words (gathered targets slot) team) targets left after out place output
    edit_put answer =
        let made = known.steps_in.made in
        let (edit, below, claims) = puts_next in
        let read = next_is ∙ sym (target_read targets slot made slot.done below) in
        step_left Putting words targets team slot out known (tries next.word (mark_of team) next.new) _ after (put stands_there) targets left place output
        (λ i. tries (read i).word (mark_of team) (read i).new) refl leaves refl
        (ap (gathered targets) is
        ∙ gathered_put targets slot edit below
        ∙ ap (λ (t : Ticket). (put t).ticket) (is_standing targets slot made))
        answer

    abbrev told_put : Bool → StepAnswer
    told_put last = (cond last (stepped no_ticket (Answer.Granted (one_more_try slot.tries))) (stepped (advanced stands_there Putting slot.claimed (slot.done + 1)) (Answer.Put (slot.done + 1)))).answer

    -- which is Put where the ticket still stands,
    pub edit_puts : stands_in left ≡ true → Answered out (Answer.Put left.done) place output → LeftBy (step_of words (gathered targets slot) team) targets left after out place output
    edit_puts stands answer =
        let more : slot.done + 1 < slot.n = ltb-true _ _ (sym (ap stands_in is) ∙ stands) in
        edit_put (subst (λ told. Answered out told place output) (ap (λ (s : Slot.Ticket). Answer.Put s.done) is ∙ sym (ap told_put (ne_eqb (slot.done + 1) slot.n (λ e. omega (arith, e, more))))) answer)

    -- and else Granted.
    pub edit_granted : stands_in left ≡ false → Answered out (Answer.Granted left.tries) place output → LeftBy (step_of words (gathered targets slot) team) targets left after out place output
    edit_granted gone answer =
        let over : slot.n ≤ slot.done + 1 = ltb-false _ _ (sym (ap stands_in is) ∙ gone) in
        let below = puts_next.1 in
        edit_put (subst (λ told. Answered out told place output) (ap (λ (s : Slot.Ticket). Answer.Granted s.tries) is ∙ sym (ap told_put (eq-eqb (slot.done + 1) slot.n (omega (arith, over, below))))) answer)

module _ (words : Words) (targets : List Target) (team : ℕ) (slot : Slot.Ticket) (out : Bytes) (known : StepsFrom GivingBack targets team slot) where
  -- What is given back is claimed, and one is not.
  pub next_claimed : (slot.done < slot.claimed) × (slot.claimed < slot.n)
  next_claimed = counts_there targets slot known.steps_in.made GivingBack known.phase_known

  module _ (next : Target) (after : Words) (left : Slot.Ticket) (place : ℕ) (output : Bytes)
      (next_is : next ≡ target_standing targets slot.done)
      (leaves : after ≡ (swap_of words next.word (mark_of team) next.quoted).words)
      (is : left ≡ tried_slot slot slot.kind slot.claimed (done_with_one slot)) where
    abbrev gives_there : Ticket
    gives_there = standing targets slot

    -- By the answer,
    edit_given : Answered out (given_back gives_there).answer place output → LeftBy (step_of words (gathered targets slot) team) targets left after out place output
    edit_given answer =
        let made = known.steps_in.made in
        let (below, some) = next_claimed in
        let read = next_is ∙ sym (target_read targets slot made slot.done (omega (arith, below, some))) in
        step_left GivingBack words targets team slot out known (tries next.word (mark_of team) next.quoted) _ after (given_back gives_there) targets left place output
        (λ i. tries (read i).word (mark_of team) (read i).quoted) refl leaves refl
        (ap (gathered targets) is
        ∙ gathered_given targets slot (phase_tells slot GivingBack known.phase_known) below (omega (arith, some))
        ∙ ap (λ (t : Ticket). (given_back t).ticket) (is_standing targets slot made))
        answer

    abbrev told_given : Bool → StepAnswer
    told_given last =
        (cond last
        (stepped no_ticket (Answer.Stale (target_at gives_there slot.claimed).word (one_more_try slot.tries)))
        (stepped (advanced gives_there GivingBack slot.claimed (slot.done + 1)) (Answer.Returned (slot.done + 1)))).answer

    -- which is Returned where the ticket still stands,
    pub edit_returns : stands_in left ≡ true → Answered out (Answer.Returned left.done) place output → LeftBy (step_of words (gathered targets slot) team) targets left after out place output
    edit_returns stands answer =
        let (below, some) = next_claimed in
        let (more, counts) = given_more slot slot.kind below (omega (arith, some)) (sym (ap stands_in is) ∙ stands) in
        edit_given (subst (λ told. Answered out told place output) (ap (λ (s : Slot.Ticket). Answer.Returned s.done) is ∙ ap Answer.Returned counts ∙ sym (ap told_given more)) answer)

    -- and else Stale, by the word that differed: the first not claimed.
    pub edit_stale : (differed : Target) → stands_in left ≡ false → differed ≡ target_standing targets slot.claimed → Answered out (Answer.Stale differed.word left.tries) place output
        → LeftBy (step_of words (gathered targets slot) team) targets left after out place output
    edit_stale differed gone differed_is answer =
        let (below, some) = next_claimed in
        let last = given_last slot slot.kind below (omega (arith, some)) (sym (ap stands_in is) ∙ gone) in
        let read = differed_is ∙ sym (target_read targets slot known.steps_in.made slot.claimed some) in
        edit_given (subst (λ told. Answered out told place output) ((λ i. Answer.Stale (read i).word (is i).tries) ∙ sym (ap told_given last)) answer)
