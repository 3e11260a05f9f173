-- The invariant after one team's ticket, some words and some plain words have changed: what is to be shown of each word.
use Prim.Native.Nat.{ℕ, ◌^◌, ◌≤◌, ◌<◌}
use mathlib.Core.Path.{◌≡◌, sym, subst, ◌∙◌}
use mathlib.Core.Logic.{◌≢◌, ◌⊎◌, inl, inr}
use native.Mathlib.Omega.{arith}
use native.Mathlib.Decide.{ℕ_discrete}
use lib.ListN.{length}
use Rattle.words.specs.Words.{Words, mark_of, read_of}
use Rattle.tickets.specs.Tickets.{Ticket}
use Rattle.tickets.specs.Invariant.{with_slot, Holds, Holder, FitSlot, HeldWord, Invariant}
use Rattle.tickets.proofs.Slots.{slot_same, slot_other, every_slot}

-- A ticket holds a word, whatever its plain value is.
abbrev pub HoldsSome : Ticket → ℕ → Type 0
HoldsSome ticket word = (value : ℕ) × Holds ticket word value

-- Of two tickets one holds what the other holds.
pub record HeldAlike (old new : Ticket) : Type 0 where
  pub held_before : (word value : ℕ) → Holds new word value → Holds old word value
  pub held_after : (word value : ℕ) → Holds old word value → HoldsSome new word

-- A word that no team but this one holds.
abbrev pub NoOthers : Words → ℕ → ℕ → Type 0
NoOthers words team word = (read_of words word < 2 ^ 63) ⊎ (read_of words word ≡ mark_of team)

-- What may become of one word where a team's ticket becomes another, and the words and the plain words change.
pub data Becomes (before after : Words) (plain plain_after_lem : ℕ → ℕ) (team : ℕ) (old new : Ticket) (word : ℕ) : Type 0 where
  -- It stays, held or not.
  stays : read_of after word ≡ read_of before word
      → plain_after_lem word ≡ plain word
      → ((value : ℕ) → Holds old word value → HoldsSome new word)
      → Becomes before after plain plain_after_lem team old new word
  -- The team holds it now.
  kept : NoOthers before team word → HoldsSome new word → Becomes before after plain plain_after_lem team old new word
  -- It is the plain word now.
  left : NoOthers before team word
      → read_of after word ≡ plain_after_lem word
      → plain_after_lem word < 2 ^ 63
      → Becomes before after plain plain_after_lem team old new word

module _ {before : Words} {tickets : ℕ → Ticket} {plain : ℕ → ℕ} (i : Invariant before tickets plain)
    (team : ℕ) (after : Words) (plain_after_lem : ℕ → ℕ) (new : Ticket)
    (same_length : length after ≡ length before)
    (fit : FitSlot (length before) new)
    (mine : (word value : ℕ) → Holds new word value → HeldWord after plain_after_lem team word value)
    (each : (word : ℕ) → word < length before → Becomes before after plain plain_after_lem team (tickets team) new word) where
  -- What another team holds is none of these words.
  not_others : (other word value : ℕ) → other ≢ team → Holds (tickets other) word value → NoOthers before team word → ⊥
  not_others other word value differs holds (inl free) = omega (arith, (i.held other word value holds).marked)
  not_others other word value differs holds (inr marked) = differs (omega (arith, (i.held other word value holds).marked))

  others : (other word value : ℕ) → other ≢ team → Holds (tickets other) word value → HeldWord after plain_after_lem other word value
  others other word value differs holds = let held = i.held other word value holds in elim (each word held.inside) [
    | stays read_same plain_same Holds-on ↦ record {
      inside = omega (arith, held.inside);
      marked = read_same ∙ held.marked;
      plain_is = plain_same ∙ held.plain_is;
      a_value = held.a_value;
    }
    | kept no_others now ↦ absurd (not_others other word value differs holds no_others)
    | left no_others read small ↦ absurd (not_others other word value differs holds no_others)
  ]

  held_after : (other word value : ℕ) → Holds (with_slot tickets team new other) word value → HeldWord after plain_after_lem other word value
  held_after other word value holds = elim (ℕ_discrete other team) [
    | yes same ↦ rw same (mine word value (rw (same, slot_same tickets team new) at holds))
    | no differs ↦ others other word value differs (rw (slot_other tickets team other new differs) at holds)
  ]

  free_after : (word : ℕ) → word < length after → read_of after word < 2 ^ 63 → read_of after word ≡ plain_after_lem word
  free_after word inside small = elim (each word (omega arith)) [
    | stays read_same plain_same Holds-on ↦ read_same ∙ i.free word (omega arith) (omega arith) ∙ sym plain_same
    | kept no_others now ↦ absurd (omega (arith, (mine word now.0 now.1).marked))
    | left no_others read value ↦ read
  ]

  held_by_team : (word : ℕ) → HoldsSome new word → Holder (with_slot tickets team new) word
  held_by_team word now = record { team = team; value = now.0; holds = rw (slot_same tickets team new) now.1 }

  owned_after : (word : ℕ) → word < length after → 2 ^ 63 ≤ read_of after word → Holder (with_slot tickets team new) word
  owned_after word inside large = elim (each word (omega arith)) [
    | stays read_same plain_same Holds-on ↦ let holder = i.owned word (omega arith) (omega arith) in elim (ℕ_discrete holder.team team) [
      | yes same ↦ held_by_team word (Holds-on holder.value (rw same at holder.holds))
      | no differs ↦ record { team = holder.team; value = holder.value; holds = rw (slot_other tickets team holder.team new differs) holder.holds }
    ]
    | kept no_others now ↦ held_by_team word now
    | left no_others read value ↦ absurd (omega arith)
  ]

  pub changed : Invariant after (with_slot tickets team new) plain_after_lem
  changed = record {
    fit = λ other. subst (λ size. FitSlot size (with_slot tickets team new other)) (sym same_length) (every_slot (FitSlot (length before)) tickets team new fit i.fit other);
    held = held_after;
    free = free_after;
    owned = owned_after;
  }
