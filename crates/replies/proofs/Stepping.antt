-- What a step leaves, from the swap that it made and what that settles.
use Prim.Native.Nat.{ℕ}
use mathlib.Core.Path.{◌≡◌, refl, sym, ap, subst, ◌∙◌}
use mathlib.Core.List.{List}
use Rattle.words.specs.Words.{Words, swap_of}
use Rattle.tickets.specs.declared.Phase.{Phase}
use Rattle.tickets.specs.declared.SwapTried.{SwapTried}
use Rattle.tickets.specs.declared.Target.{Target}
use Rattle.tickets.specs.declared.Ticket as Slot
use Rattle.tickets.specs.Tickets.{Ticket}
use Rattle.tickets.specs.Steps.{Stepped, swap_tried_in, settled_in, step_of}
use Rattle.tickets.specs.Table.{standing, gathered}
use Rattle.tickets.proofs.Settled.{tried_in, settled_in_lem, step_by_lem}
use Rattle.frames.specs.Numbers.{Bytes}
use Rattle.replies.specs.Leaving.{Answered, StepsFrom, LeftBy}
use Rattle.replies.proofs.Standing.{is_standing, standing_phase}

-- By what the step comes to.
pub left_as : (result step : Stepped × Words) (targets : List Target) (slot : Slot.Ticket) (out : Bytes) (place : ℕ) (output : Bytes)
    → result ≡ step
    → gathered targets slot ≡ result.0.ticket
    → Answered out result.0.answer place output
    → LeftBy step targets slot result.1 out place output
left_as result step targets slot out place output is left answered =
    subst (λ s. LeftBy s targets slot result.1 out place output) is record { ticket_left = left; words_left = refl; answered = answered }

module _ (phase : Phase) (words : Words) (targets : List Target) (team : ℕ) (slot : Slot.Ticket) (out : Bytes) (known : StepsFrom phase targets team slot) where
  -- A step in a known phase is its swap, and what that found settles.
  pub step_made : (tried : SwapTried) (found : ℕ) (after : Words) (result : Stepped)
      → tried ≡ swap_tried_in phase words (standing targets slot) team
      → found ≡ (swap_of words tried.word tried.expected tried.desired).found
      → after ≡ (swap_of words tried.word tried.expected tried.desired).words
      → result ≡ settled_in phase (standing targets slot) found
      → ◌≡◌ {A = Stepped × Words} (result, after) (step_of words (gathered targets slot) team)
  step_made tried found after result tries finds leaves settles =
      let made = known.steps_in.made in
      let stands = standing targets slot in
      let is = standing_phase targets slot made ∙ known.phase_known in
      step_by_lem words stands team tried found after result
      (tries ∙ sym (tried_in words stands team phase is))
      finds
      leaves
      (settles ∙ sym (settled_in_lem stands found phase is))
      ∙ ap (λ (t : Ticket). step_of words t team) (sym (is_standing targets slot made))

  -- What the step leaves, from there.
  pub step_left : (tried : SwapTried) (found : ℕ) (after : Words) (result : Stepped) (numbers : List Target) (left : Slot.Ticket) (place : ℕ) (output : Bytes)
      → tried ≡ swap_tried_in phase words (standing targets slot) team
      → found ≡ (swap_of words tried.word tried.expected tried.desired).found
      → after ≡ (swap_of words tried.word tried.expected tried.desired).words
      → result ≡ settled_in phase (standing targets slot) found
      → gathered numbers left ≡ result.ticket
      → Answered out result.answer place output
      → LeftBy (step_of words (gathered targets slot) team) numbers left after out place output
  step_left tried found after result numbers left place output tries finds leaves settles ticket answer =
      left_as (result, after) (step_of words (gathered targets slot) team) numbers left out place output (step_made tried found after result tries finds leaves settles) ticket answer
