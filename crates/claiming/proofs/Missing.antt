-- A claim that missed: what is left of its ticket, and its answer.
use Prim.Native.Nat.{ℕ, ◌<◌}
use mathlib.Core.Bool.{Bool, true, false, cond}
use mathlib.Core.Path.{◌≡◌, refl, sym, ap, subst, ◌∙◌}
use mathlib.Core.List.{List}
use native.Mathlib.Omega.{arith}
use lib.Dec.{eqb}
use Rattle.words.specs.Words.{is_held, holder_of}
use Rattle.tickets.specs.declared.Kind.TheVariants.{Stale}
use Rattle.tickets.specs.declared.Phase.TheVariants.{Claiming, GivingBack}
use Rattle.tickets.specs.declared.StepAnswer.{StepAnswer}
use Rattle.tickets.specs.declared.StepAnswer.TheVariants as Answer
use Rattle.tickets.specs.declared.Target.{Target}
use Rattle.tickets.specs.declared.Ticket as Slot
use Rattle.tickets.specs.Tickets.{Ticket, no_ticket, target_at}
use Rattle.tickets.specs.Steps.{Stepped, one_more_try, advanced, stepped, waited, differed}
use Rattle.tickets.specs.Table.{target_standing, no_slot, tried_slot, standing, gathered}
use Rattle.tickets.proofs.Gathering.{gathered_gone, gathered_tried}
use Rattle.frames.specs.Numbers.{Bytes}
use Rattle.replies.specs.Leaving.{Answered, LeftBy}
use Rattle.replies.proofs.Standing.{phase_tells, made_stands, is_standing, standing_phase, target_read}
use Rattle.claiming.specs.Missing.{missed_by, differed_slot, differed_answer, MissesIn, MissLeft}

-- By whether anything is claimed.
abbrev pub differed_by : Slot.Ticket → Bool → Slot.Ticket
differed_by slot none = cond none no_slot (tried_slot slot Stale slot.claimed 0)

abbrev pub told_by : Slot.Ticket → ℕ → Bool → StepAnswer
told_by slot word none = cond none (Answer.Stale word (one_more_try slot.tries)) (Answer.Found word)

module _ (targets : List Target) (slot : Slot.Ticket) (out : Bytes) (known : MissesIn targets slot) where
  abbrev there : Ticket
  there = standing targets slot

  -- The next target is the first not claimed.
  pub next_unclaimed : slot.claimed < slot.n
  next_unclaimed = (phase_tells slot Claiming known.claiming).1.1

  word_told : (target_standing targets slot.claimed).word ≡ (target_at there slot.claimed).word
  word_told = sym (ap (λ (one : Target). one.word) (target_read targets slot known.made slot.claimed next_unclaimed))

  module _ (found : ℕ) (left : Slot.Ticket) (place : ℕ) (output : Bytes) where
    -- From a step of the ticket that stands there.
    miss_left : (result : Stepped) → missed_by there found ≡ result → gathered targets left ≡ result.ticket → Answered out result.answer place output → MissLeft targets slot found left out place output
    miss_left result is ticket answer words =
        subst (λ s. LeftBy (s, words) targets left words out place output)
        (sym is ∙ ap (λ (t : Ticket). missed_by t found) (sym (is_standing targets slot known.made)))
        record { ticket_left = ticket; words_left = refl; answered = answer }

    -- It waits,
    pub miss_waits : is_held found ≡ true
        → left ≡ tried_slot slot slot.kind slot.claimed slot.done
        → Answered out (Answer.Waiting (target_standing targets slot.claimed).word (holder_of found)) place output
        → MissLeft targets slot found left out place output
    miss_waits held is answer =
        miss_left (waited there found)
        (ap (λ b. cond b (waited there found) (differed there)) held)
        (ap (gathered targets) is
        ∙ gathered_tried targets slot slot.kind slot.claimed slot.done (made_stands targets slot known.made)
        ∙ ap (λ p. advanced there p slot.claimed slot.done) (standing_phase targets slot known.made ∙ known.claiming))
        (subst (λ word. Answered out (Answer.Waiting word (holder_of found)) place output) word_told answer)

    -- or is found stale.
    pub miss_differs : is_held found ≡ false
        → left ≡ differed_slot slot
        → Answered out (differed_answer slot (target_standing targets slot.claimed).word) place output
        → MissLeft targets slot found left out place output
    miss_differs value is answer =
        miss_left (differed there)
        (ap (λ b. cond b (waited there found) (differed there)) value)
        (ap (gathered targets) is ∙ ticket_left (eqb slot.claimed 0))
        (subst (λ told. Answered out told place output) (ap (differed_answer slot) word_told ∙ told_is (eqb slot.claimed 0)) answer)
      where
        word : ℕ
        word = (target_at there slot.claimed).word

        by : Bool → Stepped
        by none = cond none (stepped no_ticket (Answer.Stale word (one_more_try slot.tries))) (stepped (advanced there GivingBack slot.claimed 0) (Answer.Found word))

        ticket_left : (none : Bool) → gathered targets (differed_by slot none) ≡ (by none).ticket
        ticket_left true = gathered_gone targets no_slot (omega arith)
        ticket_left false = gathered_tried targets slot Stale slot.claimed 0 (omega (arith, next_unclaimed))

        told_is : (none : Bool) → told_by slot word none ≡ (by none).answer
        told_is true = refl
        told_is false = refl
