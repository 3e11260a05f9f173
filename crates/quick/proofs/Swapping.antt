-- The swap of an edit on the fast way, by the place of its value, is the one that the definition tries.
use Prim.Native.Nat.{ℕ, ◌≤◌, ◌<◌, ◌^◌}
use mathlib.Core.Path.{◌≡◌, refl, sym, ap, ◌∙◌}
use mathlib.Core.Bool.{Bool, true, false, cond, not}
use mathlib.Core.List.{List}
use native.Mathlib.Omega.{arith}
use mathlib.Core.Logic.{◌⊎◌, inl, inr}
use borrow.Author.Tests.{eq-eqb, le-ltb, lt-ltb, ltb-true, le-leb, lt-leb}
use lib.Dec.{eqb}
use Rattle.words.specs.Words.{Words, words_in_book, mark_of, is_held}
use Rattle.tickets.specs.declared.Phase.{Phase}
use Rattle.tickets.specs.declared.Phase.TheVariants.{NoTicket, Claiming, Putting}
use Rattle.tickets.specs.declared.SwapTried.{SwapTried}
use Rattle.tickets.specs.declared.Target.{Target}
use Rattle.tickets.specs.declared.Ticket as Slot
use Rattle.tickets.specs.Tickets.{Ticket}
use Rattle.tickets.specs.Steps.{tries, swap_tried_in, swap_tried}
use Rattle.tickets.specs.Table.{target_standing, claims_in, phase_by, phase_of, standing, gathered}
use Rattle.tickets.proofs.Settled.{tried_in}
use Rattle.replies.proofs.Standing.{is_standing, standing_phase, target_read, target_fits_there}
use Rattle.quick.specs.Quick.{Quick, claims_quick, next_of}

-- Its swap, with the quoted or the new value.
abbrev pub swap_by : Target → ℕ → Bool → SwapTried
swap_by next team claims =
    let value = cond claims next.quoted next.new in
    tries next.word (cond claims value (mark_of team)) (cond claims (mark_of team) value)

-- An edit that claims wherever not all is claimed has words left to claim just there.
pub claims_plain : (slot : Slot.Ticket) → (slot.done ≡ 0) ⊎ (slot.n ≤ slot.claimed) → claims_in slot ≡ claims_quick slot
claims_plain slot (inl none) = ap (λ b. cond b (claims_quick slot) false) (eq-eqb slot.done 0 none)
claims_plain slot (inr all) =
    let no_more = le-ltb slot.claimed slot.n all in
    ap (λ b. cond (eqb slot.done 0) b false) no_more ∙ either (eqb slot.done 0) ∙ sym no_more
  where
    either : (b : Bool) → cond b false false ≡ false
    either true = refl
    either false = refl

module _ (targets : List Target) (team : ℕ) (slot : Slot.Ticket) (quick : Quick targets slot) where
  -- So its phase follows, without a branch on what is done.
  pub phase_quick : phase_of slot ≡ cond (claims_quick slot) Claiming Putting
  phase_quick =
      ap (λ b. cond b (phase_by slot.kind (claims_in slot)) NoTicket) (lt-ltb slot.done slot.n quick.stands)
      ∙ ap (λ k. phase_by k (claims_in slot)) quick.edit
      ∙ ap (λ b. cond b Claiming Putting) (claims_plain slot quick.plain)

  pub next_below : (claims : Bool) → claims_quick slot ≡ claims → next_of claims slot < slot.n
  next_below true is = ltb-true _ _ is
  next_below false is = quick.stands

  standing_tried : (words : Words) (phase : Phase) → phase_of slot ≡ phase → swap_tried_in phase words (standing targets slot) team ≡ swap_tried words (gathered targets slot) team
  standing_tried words phase is =
      sym (tried_in words (standing targets slot) team phase (standing_phase targets slot quick.made ∙ is))
      ∙ ap (λ (t : Ticket). swap_tried words t team) (sym (is_standing targets slot quick.made))

  pub swap_by_lem : (words : Words) (claims : Bool) → claims_quick slot ≡ claims → swap_by (target_standing targets (next_of claims slot)) team claims ≡ swap_tried words (gathered targets slot) team
  swap_by_lem words true is =
      ap (λ (next : Target). tries next.word next.quoted (mark_of team)) (sym (target_read targets slot quick.made slot.claimed (next_below true is)))
      ∙ standing_tried words Claiming (phase_quick ∙ ap (λ b. cond b Claiming Putting) is)
  swap_by_lem words false is =
      ap (λ (next : Target). tries next.word (mark_of team) next.new) (sym (target_read targets slot quick.made slot.done (next_below false is)))
      ∙ standing_tried words Putting (phase_quick ∙ ap (λ b. cond b Claiming Putting) is)

  pub word_inside : (target_standing targets (next_of (claims_quick slot) slot)).word < words_in_book
  word_inside = (target_fits_there targets slot quick.made (next_of (claims_quick slot) slot) (next_below (claims_quick slot) refl)).inside

  -- As the code reads it.
  pub swap_read : (words : Words) (mark value expected desired : ℕ) (next : Target)
      → next ≡ target_standing targets (next_of (claims_quick slot) slot)
      → mark ≡ mark_of team
      → value ≡ cond (claims_quick slot) next.quoted next.new
      → expected ≡ cond (claims_quick slot) value mark
      → desired ≡ cond (claims_quick slot) mark value
      → tries next.word expected desired ≡ swap_tried words (gathered targets slot) team
  swap_read words mark value expected desired next next_is marked chosen expects desires =
      let claims = claims_quick slot in
      (λ i. tries next.word (expects i) (desires i))
      ∙ (λ i. tries next.word (cond claims (chosen i) (marked i)) (cond claims (marked i) (chosen i)))
      ∙ (λ i. swap_by (next_is i) team claims)
      ∙ swap_by_lem words claims refl

  -- A put expects a mark, and a claim a value, which is none.
  expects_mark : (claims : Bool) → claims_quick slot ≡ claims → let next = target_standing targets (next_of claims slot) in
      cond claims (is_held next.quoted) (not (is_held next.new)) ≡ is_held (swap_by next team claims).expected
  expects_mark true is = refl
  expects_mark false is =
      ap not (lt-leb (2 ^ 63) _ (target_fits_there targets slot quick.made slot.done (next_below false is)).new_value)
      ∙ sym (le-leb (2 ^ 63) (mark_of team) (omega arith))

  pub mark_expected : (words : Words) (next : Target) → next ≡ target_standing targets (next_of (claims_quick slot) slot)
      → cond (claims_quick slot) (is_held next.quoted) (not (is_held next.new)) ≡ is_held (swap_tried words (gathered targets slot) team).expected
  mark_expected words next next_is =
      let claims = claims_quick slot in
      ap (λ (one : Target). cond claims (is_held one.quoted) (not (is_held one.new))) next_is
      ∙ expects_mark claims refl
      ∙ ap (λ (swap : SwapTried). is_held swap.expected) (swap_by_lem words claims refl)
