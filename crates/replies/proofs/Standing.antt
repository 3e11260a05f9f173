-- What a slot says whose ticket is well made: it stands, its targets fit, and its phase tells its kind and its counts.
use Prim.Native.Nat.{ℕ, ◌+◌, ◌≤◌, ◌<◌}
use mathlib.Core.Path.{◌≡◌, refl, sym, ap, subst, ◌∙◌}
use mathlib.Core.Bool.{Bool, true, false, cond, false≢true}
use mathlib.Core.List.{List}
use native.Mathlib.Omega.{arith}
use native.Mathlib.Decide.{dec_lt}
use borrow.Author.Tests.{eqb-true, eqb-false, ltb-true, ltb-false, lt-ltb}
use lib.Dec.{eqb, ltb}
use Rattle.words.specs.Words.{words_in_book, most_targets}
use Rattle.tickets.specs.declared.Kind.{Kind}
use Rattle.tickets.specs.declared.Target.{Target}
use Rattle.tickets.specs.declared.Kind.TheVariants.{Edit, Stale, View}
use Rattle.tickets.specs.declared.Phase.{Phase}
use Rattle.tickets.specs.declared.Phase.TheVariants.{NoTicket, Claiming, Putting, GivingBack, Viewing, Viewed}
use Rattle.tickets.specs.declared.Ticket as Slot
use Rattle.tickets.specs.Tickets.{target_at, well_made}
use Rattle.tickets.specs.Table.{target_room, target_standing, stands_in, claims_in, done_with_one, tried_slot, phase_by, phase_of, standing, gathered}
use Rattle.tickets.proofs.Made.{TargetFits, Made, made, CountsFit, counts_in}
use Rattle.tickets.proofs.Gathering.{gathered_stands, gathered_gone}
use Rattle.tickets.proofs.Tables.{target_stands}

-- What a phase tells of its slot.
abbrev pub PhaseTells : Phase → Slot.Ticket → Type 0
PhaseTells NoTicket slot = Unit {0}
PhaseTells Claiming slot = (slot.kind ≡ Edit) × ((slot.done ≡ 0) × (slot.claimed < slot.n))
PhaseTells Putting slot = (slot.kind ≡ Edit) × (claims_in slot ≡ false)
PhaseTells GivingBack slot = slot.kind ≡ Stale
PhaseTells Viewing slot = (slot.kind ≡ View) × ((slot.done ≡ 0) × (slot.claimed < slot.n))
PhaseTells Viewed slot = slot.kind ≡ View

pub claims_tell : (slot : Slot.Ticket) → claims_in slot ≡ true → (slot.done ≡ 0) × (slot.claimed < slot.n)
claims_tell slot claims = each (eqb slot.done 0) refl claims
  where
    each : (none : Bool) → eqb slot.done 0 ≡ none → cond none (ltb slot.claimed slot.n) false ≡ true → (slot.done ≡ 0) × (slot.claimed < slot.n)
    each true is more = (eqb-true _ _ is, ltb-true _ _ more)
    each false is more = absurd (false≢true more)

pub phase_tells : (slot : Slot.Ticket) (phase : Phase) → phase_of slot ≡ phase → PhaseTells phase slot
phase_tells slot phase is = subst (λ p. PhaseTells p slot) is (each (stands_in slot) slot.kind (claims_in slot) refl refl)
  where
    each : (stands : Bool) (kind : Kind) (claims : Bool) → slot.kind ≡ kind → claims_in slot ≡ claims → PhaseTells (cond stands (phase_by kind claims) NoTicket) slot
    each false kind claims of_kind claimed = tt
    each true Edit true of_kind claimed = (of_kind, claims_tell slot claimed)
    each true Edit false of_kind claimed = (of_kind, claimed)
    each true Stale claims of_kind claimed = of_kind
    each true View true of_kind claimed = (of_kind, claims_tell slot claimed)
    each true View false of_kind claimed = of_kind

-- Whether a ticket still stands with one more word given back tells whether that was the last.
module _ (slot : Slot.Ticket) (kind : Kind) (below : slot.done < slot.claimed) (most : slot.claimed ≤ slot.n) where
  abbrev done_by : Bool → ℕ
  done_by last = cond last slot.n (slot.done + 1)

  pub given_more : stands_in (tried_slot slot kind slot.claimed (done_with_one slot)) ≡ true → (eqb (slot.done + 1) slot.claimed ≡ false) × (done_with_one slot ≡ slot.done + 1)
  given_more stands = each (eqb (slot.done + 1) slot.claimed) (ltb-true _ _ stands)
    where
      each : (last : Bool) → done_by last < slot.n → (last ≡ false) × (done_by last ≡ slot.done + 1)
      each true over = absurd (never over)
        where
          never : slot.n < slot.n → ⊥
          never l = omega arith
      each false over = (refl, refl)

  pub given_last : stands_in (tried_slot slot kind slot.claimed (done_with_one slot)) ≡ false → eqb (slot.done + 1) slot.claimed ≡ true
  given_last gone = each (eqb (slot.done + 1) slot.claimed) refl (ltb-false _ _ gone)
    where
      each : (last : Bool) → eqb (slot.done + 1) slot.claimed ≡ last → slot.n ≤ done_by last → last ≡ true
      each true is over = refl
      each false is over = absurd (never (eqb-false _ _ is) over)
        where
          never : (slot.done + 1 ≡ slot.claimed → ⊥) → slot.n ≤ slot.done + 1 → ⊥
          never differs l = omega (arith, differs, l, below, most)

module _ (targets : List Target) (slot : Slot.Ticket) (well : well_made (gathered targets slot) ≡ true) where
  -- It stands, since no ticket is well made in a slot that has none.
  pub made_stands : slot.done < slot.n
  made_stands = elim (dec_lt slot.done slot.n) [
    | yes stands ↦ stands
    | no gone ↦ absurd (counts_in (gathered targets slot) NoTicket (ap (λ t. t.phase) (gathered_gone targets slot (omega (arith, gone)))) well)
  ]

  pub is_standing : gathered targets slot ≡ standing targets slot
  is_standing = gathered_stands targets slot made_stands

  pub standing_phase : (standing targets slot).phase ≡ phase_of slot
  standing_phase = sym (ap (λ b. cond b (phase_by slot.kind (claims_in slot)) NoTicket) (lt-ltb slot.done slot.n made_stands))

  -- So what is well made is what stands there.
  pub well_standing : well_made (standing targets slot) ≡ true
  well_standing = sym (ap well_made is_standing) ∙ well

  pub made_standing : Made (standing targets slot)
  made_standing = made (standing targets slot) well_standing

  pub few_targets : slot.n ≤ most_targets
  few_targets = made_standing.most

  -- Each target is the one that stands at its place, and fits.
  pub target_read : (k : ℕ) → k < slot.n → target_at (standing targets slot) k ≡ target_standing targets k
  target_read k below = target_stands targets k slot below (omega (arith, below, few_targets))

  pub target_fits_there : (k : ℕ) → k < slot.n → TargetFits (target_standing targets k)
  target_fits_there k below = subst TargetFits (target_read k below) (made_standing.targets k below)

  -- What is asked where it is read.
  pub target_asked : (k : ℕ) → k < slot.n → (k < target_room) × ((target_standing targets k).word < words_in_book)
  target_asked k below = (omega (arith, below, few_targets), (target_fits_there k below).inside)

  -- The counts are those of the phase.
  pub counts_there : (phase : Phase) → phase_of slot ≡ phase → CountsFit phase slot.n slot.claimed slot.done
  counts_there phase is = counts_in (standing targets slot) phase (standing_phase ∙ is) well_standing
