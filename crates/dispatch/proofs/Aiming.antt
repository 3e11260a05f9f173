-- Where a whole frame goes, test by test, and that its first field is inside it.
use Rattle.std.specs.Prelude.{Result, Ok, Err}
use Prim.Native.Nat.{ℕ, ◌-◌, ◌≤◌, ◌<◌}
use mathlib.Core.Path.{◌≡◌, refl, sym, subst}
use mathlib.Core.Bool.{true, false}
use native.Mathlib.Omega.{arith}
use native.Mathlib.Decide.{ℕ_discrete}
use borrow.Author.Tests.{eq-eqb, ne_eqb, lt-ltb, le-ltb, ltb-true}
use lib.Dec.{eqb, ltb, lit<}
use lib.ListN.{length}
use Rattle.words.specs.Tests.{all_hold}
use Rattle.words.specs.Words.{team_count}
use Rattle.frames.specs.Numbers.{Bytes}
use Rattle.frames.specs.Requests.{part_after_kind, look_kind, view_kind, kinds, length_of_kind, is_kind, team_in}
use Rattle.frames.specs.Fields.{Whole}
use Rattle.frames.proofs.Headers.{each_row, kind_row, fields_of_kind, fields_of_view}
use Rattle.calls.specs.Way.{Aim}
use Rattle.calls.specs.Way.{aim_by, AimKnown, SlotKnown, slot_of}

-- Where a whole frame goes.
pub aim_look : (frame : Bytes) (kind : ℕ) → kind ≡ look_kind → (Ok Aim.Look) ≡ aim_by frame (Ok kind)
aim_look frame kind e = rw (eq-eqb kind look_kind e) refl

pub aim_team : (frame : Bytes) (kind : ℕ) → (kind ≡ look_kind → ⊥) → team_in (part_after_kind frame) < team_count → Ok (Aim.Team kind (team_in (part_after_kind frame))) ≡ aim_by frame (Ok kind)
aim_team frame kind n l = rw (ne_eqb kind look_kind n, lt-ltb (team_in (part_after_kind frame)) team_count l) refl

pub aim_nobody : (frame : Bytes) (kind : ℕ) → (kind ≡ look_kind → ⊥) → team_count ≤ team_in (part_after_kind frame) → Err 6 ≡ aim_by frame (Ok kind)
aim_nobody frame kind n l = rw (ne_eqb kind look_kind n, le-ltb (team_in (part_after_kind frame)) team_count l) refl

-- A known aim has a known slot.
pub slot_known : (frame : Bytes) (aim : Result Aim ℕ) → AimKnown frame aim → SlotKnown aim
slot_known frame (Err number) known = tt
slot_known frame (Ok Aim.Look) known = tt
slot_known frame (Ok (Aim.Team kind team)) known = known.2

pub slot_below : (frame : Bytes) (aim : Result Aim ℕ) → AimKnown frame aim → slot_of aim < team_count
slot_below frame (Err number) known = lit< tt
slot_below frame (Ok Aim.Look) known = lit< tt
slot_below frame (Ok (Aim.Team kind team)) known = known.2

-- The part after the kind has room for a first field.
long_enough : (kind : ℕ) → is_kind kind ≡ true → eqb kind view_kind ≡ false → 1 < length_of_kind kind - 2
unfolding all_hold
long_enough kind known no_view = ltb-true _ _ (each_row (λ k. ltb 1 (length_of_kind k - 2)) kinds kind refl (kind_row kind known no_view))

pub team_inside : (frame : Bytes) (kind : ℕ) → Whole frame kind → 1 < length (part_after_kind frame)
team_inside frame kind whole = elim (ℕ_discrete kind view_kind) [
  | yes e ↦ let fields = fields_of_view (subst (Whole frame) e whole) in omega (arith, fields.long, fields.least)
  | no v ↦ subst (λ (l : ℕ). 1 < l) (sym (fields_of_kind whole v)) (long_enough kind whole.known (ne_eqb kind view_kind v))
]
