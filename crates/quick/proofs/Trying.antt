-- What a swap tried on the fast way comes to, by the tests of the code.
use Prim.Native.Nat.{ℕ, ◌≤◌, ◌<◌}
use mathlib.Core.Path.{◌≡◌, refl, sym, ap, ◌∙◌}
use mathlib.Core.Bool.{Bool, true, false, cond, false≢true}
use mathlib.Core.List.{List}
use borrow.Author.Tests.{le-leb, lt-leb, eq-eqb, ne_eqb}
use lib.Dec.{eqb}
use Rattle.words.specs.Words.{Words, is_held, swap_of}
use Rattle.tickets.specs.declared.SwapTried.{SwapTried}
use Rattle.tickets.specs.declared.Target.{Target}
use Rattle.tickets.specs.declared.Ticket as Slot
use Rattle.tickets.specs.Steps.{swap_tried}
use Rattle.tickets.specs.Table.{gathered}
use Rattle.quick.specs.declared.Tried.{Tried}
use Rattle.quick.specs.declared.Tried.TheVariants.{Went, Missed, Untried}
use Rattle.quick.specs.Quick.{claims_quick, tried, quick_made, quick_tried}

-- The cases of what came of a swap, apart.
abbrev went_in : Tried → Bool
went_in (Went claims) = true
went_in (Missed found) = false
went_in Untried = false

abbrev missed_in : Tried → Bool
missed_in (Went claims) = false
missed_in (Missed found) = true
missed_in Untried = false

abbrev claims_told : Tried → Bool
claims_told (Went claims) = claims
claims_told (Missed found) = false
claims_told Untried = false

abbrev found_told : Tried → ℕ
found_told (Went claims) = 0
found_told (Missed found) = found
found_told Untried = 0

pub went_only : (claims : Bool) (found : ℕ) (went told : Bool) → tried claims found went ≡ Went told → (went ≡ true) × (claims ≡ told)
went_only claims found true told is = (refl, ap claims_told is)
went_only claims found false told is = absurd (false≢true (ap went_in is))

pub missed_only : (claims : Bool) (found : ℕ) (went : Bool) (told : ℕ) → tried claims found went ≡ Missed told → (went ≡ false) × (found ≡ told)
missed_only claims found true told is = absurd (false≢true (ap missed_in is))
missed_only claims found false told is = (refl, ap found_told is)

pub missed_word : {found told : ℕ} → Missed found ≡ Missed told → found ≡ told
missed_word is = ap found_told is

pub some_tried : (claims : Bool) (found : ℕ) (went : Bool) → tried claims found went ≡ Untried → ⊥
some_tried claims found true is = false≢true (sym (ap went_in is))
some_tried claims found false is = false≢true (sym (ap missed_in is))

pub none_went : (told : Bool) → Untried ≡ Went told → ⊥
none_went told is = false≢true (ap went_in is)

pub none_missed : (told : ℕ) → Untried ≡ Missed told → ⊥
none_missed told is = false≢true (ap missed_in is)

-- Whether a swap that expected this went through.
abbrev pub went_by : ℕ → ℕ → Bool
went_by found expected = cond (eqb found expected) true (is_held expected)

pub went_same : (found expected : ℕ) → found ≡ expected → true ≡ went_by found expected
went_same found expected same = sym (ap (λ b. cond b true (is_held expected)) (eq-eqb found expected same))

pub went_other : (found expected : ℕ) → (found ≡ expected → ⊥) → is_held expected ≡ went_by found expected
went_other found expected other = sym (ap (λ b. cond b true (is_held expected)) (ne_eqb found expected other))

module _ (words : Words) (targets : List Target) (team : ℕ) (slot : Slot.Ticket) (quick : ℕ) where
  abbrev tried_if : Bool → Tried × Words
  tried_if none = cond none (Untried, words) (quick_made words (gathered targets slot) team (claims_quick slot))

  -- Nothing is tried where too many are done,
  pub not_tried : quick ≤ slot.done → quick_tried words targets team slot quick ≡ (Untried, words)
  unfolding quick_tried
  not_tried over = ap tried_if (le-leb quick slot.done over)

  -- and else one swap.
  pub is_tried : slot.done < quick → quick_tried words targets team slot quick ≡ quick_made words (gathered targets slot) team (claims_quick slot)
  unfolding quick_tried
  is_tried below = ap tried_if (lt-leb quick slot.done below)

  pub tried_by : (swap : SwapTried) (found : ℕ) (after : Words) (went : Bool)
      → slot.done < quick
      → swap ≡ swap_tried words (gathered targets slot) team
      → found ≡ (swap_of words swap.word swap.expected swap.desired).found
      → after ≡ (swap_of words swap.word swap.expected swap.desired).words
      → went ≡ went_by found swap.expected
      → ◌≡◌ {A = Tried × Words} (tried (claims_quick slot) found went, after) (quick_tried words targets team slot quick)
  tried_by swap found after went below is finds leaves goes =
      (λ i. (tried (claims_quick slot) found (goes i), leaves i))
      ∙ (λ i. (tried (claims_quick slot) (finds i) (went_by (finds i) swap.expected), (swap_of words swap.word swap.expected swap.desired).words))
      ∙ ap made is
      ∙ sym (is_tried below)
    where
      made : SwapTried → Tried × Words
      made swap =
          let report = swap_of words swap.word swap.expected swap.desired in
          (tried (claims_quick slot) report.found (went_by report.found swap.expected), report.words)
