-- How a step settles, by the word found.
use Prim.Native.Nat.{ℕ}
use mathlib.Core.Path.{◌≡◌, refl, ap, ◌∙◌}
use mathlib.Core.Bool.{true, false}
use borrow.Author.Tests.{eq-eqb}
use Rattle.words.specs.Words.{Words, is_held, swap_of}
use Rattle.tickets.specs.declared.Phase.{Phase}
use Rattle.tickets.specs.declared.Phase.TheVariants.{Claiming, Viewing}
use Rattle.tickets.specs.Tickets.{Ticket}
use Rattle.tickets.specs.declared.SwapTried.{SwapTried}
use Rattle.tickets.specs.Steps.{Stepped}
use Rattle.tickets.specs.Tickets.{target_at}
use Rattle.tickets.specs.Steps.{swap_tried_in, swap_tried, claimed, view_waited, view_claimed, settled_in, settled, step_of}

-- Claiming: the word is the quoted value.
pub settled_claimed : (ticket : Ticket) (found : ℕ) → found ≡ (target_at ticket ticket.claimed).quoted → settled_in Claiming ticket found ≡ claimed ticket
settled_claimed ticket found e = rw (eq-eqb found (target_at ticket ticket.claimed).quoted e) refl

-- A view claiming: the word is held, or a value.
pub settled_view_waited : (ticket : Ticket) (found : ℕ) → is_held found ≡ true → settled_in Viewing ticket found ≡ view_waited ticket found
settled_view_waited ticket found h = rw h refl

pub settled_view_claimed : (ticket : Ticket) (found : ℕ) → is_held found ≡ false → settled_in Viewing ticket found ≡ view_claimed ticket found
settled_view_claimed ticket found h = rw h refl

-- A ticket in a known phase.
pub tried_in : (words : Words) (ticket : Ticket) (team : ℕ) (phase : Phase) → ticket.phase ≡ phase → swap_tried words ticket team ≡ swap_tried_in phase words ticket team
unfolding swap_tried
tried_in words ticket team phase e = ap (λ p. swap_tried_in p words ticket team) e

pub settled_in_lem : (ticket : Ticket) (found : ℕ) (phase : Phase) → ticket.phase ≡ phase → settled ticket found ≡ settled_in phase ticket found
unfolding settled
settled_in_lem ticket found phase e = ap (λ p. settled_in p ticket found) e

-- A step, from a swap of the words that it tries.
pub step_by_lem : (words : Words) (ticket : Ticket) (team : ℕ) (tried : SwapTried) (found : ℕ) (after : Words) (result : Stepped)
    → tried ≡ swap_tried words ticket team
    → found ≡ (swap_of words tried.word tried.expected tried.desired).found
    → after ≡ (swap_of words tried.word tried.expected tried.desired).words
    → result ≡ settled ticket found
    → ◌≡◌ {A = Stepped × Words} (result, after) (step_of words ticket team)
unfolding step_of
step_by_lem words ticket team tried found after result et ef ew er =
    (λ i. (er i, ew i))
    ∙ (λ i. (settled ticket (ef i), (swap_of words tried.word tried.expected tried.desired).words))
    ∙ (λ i. (settled ticket (swap_of words (et i).word (et i).expected (et i).desired).found, (swap_of words (et i).word (et i).expected (et i).desired).words))
