-- What a claim of an edit leaves, by what its swap found.
use Prim.Native.Nat.{ℕ, ◌+◌, ◌<◌}
use mathlib.Core.Path.{◌≡◌, sym, ap, subst, ◌∙◌}
use mathlib.Core.Bool.{cond}
use mathlib.Core.List.{List}
use borrow.Author.Tests.{ne_eqb}
use Rattle.words.specs.Words.{Words, mark_of, swap_of}
use Rattle.tickets.specs.declared.Phase.TheVariants.{Claiming}
use Rattle.tickets.specs.declared.StepAnswer.TheVariants as Answer
use Rattle.tickets.specs.declared.Target.{Target}
use Rattle.tickets.specs.declared.Ticket as Slot
use Rattle.tickets.specs.Tickets.{Ticket, target_at}
use Rattle.tickets.specs.Steps.{tries, claimed, swap_tried_in, step_of}
use Rattle.tickets.specs.Table.{target_standing, tried_slot, standing, gathered}
use Rattle.tickets.proofs.Gathering.{gathered_claimed}
use Rattle.tickets.proofs.Settled.{settled_claimed}
use Rattle.frames.specs.Numbers.{Bytes}
use Rattle.replies.specs.Leaving.{Answered, StepsFrom, LeftBy}
use Rattle.replies.proofs.Standing.{phase_tells, is_standing, target_read}
use Rattle.replies.proofs.Stepping.{step_made, step_left}
use Rattle.claiming.specs.Missing.{missed_by, MissesIn, MissLeft}

module _ (words : Words) (targets : List Target) (team : ℕ) (slot : Slot.Ticket) (out : Bytes) (known : StepsFrom Claiming targets team slot) where
  -- The next target is the first not claimed.
  pub next_unclaimed : slot.claimed < slot.n
  next_unclaimed = (phase_tells slot Claiming known.phase_known).1.1

  -- What a claim that misses asks.
  pub misses_in : MissesIn targets slot
  misses_in =
      record { claiming = known.phase_known; made = known.steps_in.made }

  module _ (next : Target) (mark found : ℕ) (after : Words) (left : Slot.Ticket) (place : ℕ) (output : Bytes)
      (next_is : next ≡ target_standing targets slot.claimed)
      (marks : mark ≡ mark_of team)
      (finds : found ≡ (swap_of words next.word next.quoted mark).found)
      (leaves : after ≡ (swap_of words next.word next.quoted mark).words) where
    abbrev there : Ticket
    there = standing targets slot

    next_read : next ≡ target_at there slot.claimed
    next_read = next_is ∙ sym (target_read targets slot known.steps_in.made slot.claimed next_unclaimed)

    swap_is : tries next.word next.quoted mark ≡ swap_tried_in Claiming words there team
    swap_is = λ i. tries (next_read i).word (next_read i).quoted (marks i)

    -- The word is as quoted: one more is claimed;
    pub edit_claims : found ≡ next.quoted
        → left ≡ tried_slot slot slot.kind (slot.claimed + 1) slot.done
        → Answered out (Answer.Claimed left.claimed) place output
        → LeftBy (step_of words (gathered targets slot) team) targets left after out place output
    edit_claims same is answer =
        let tells = phase_tells slot Claiming known.phase_known in
        step_left Claiming words targets team slot out known _ found after (claimed there) targets left place output
        swap_is finds leaves
        (sym (settled_claimed there found (same ∙ ap (λ (one : Target). one.quoted) next_read)))
        (ap (gathered targets) is
        ∙ gathered_claimed targets slot tells.0 tells.1.0 tells.1.1
        ∙ ap (λ (t : Ticket). (claimed t).ticket) (is_standing targets slot known.steps_in.made))
        (subst (λ (s : Slot.Ticket). Answered out (Answer.Claimed s.claimed) place output) is answer)

    -- or it is not.
    pub edit_misses : (found ≡ next.quoted → ⊥)
        → MissLeft targets slot found left out place output
        → LeftBy (step_of words (gathered targets slot) team) targets left after out place output
    edit_misses other missed =
        subst (λ step. LeftBy step targets left after out place output)
        ((λ i. (missed_by (is_standing targets slot known.steps_in.made i) found, after))
        ∙ step_made Claiming words targets team slot out known _ found after (missed_by there found) swap_is finds leaves
        (sym (ap (λ b. cond b (claimed there) (missed_by there found)) (ne_eqb found _ (λ same. other (same ∙ sym (ap (λ (one : Target). one.quoted) next_read)))))))
        (missed after)
