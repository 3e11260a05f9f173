-- Of two legs listed the earlier is of a lower passage, or of the same and newer; and each is written with its distance.
use Prim.Native.Nat.{ℕ, suc, ◌+◌, ◌*◌, ◌<◌, zero-le, suc-le-suc}
use mathlib.Core.Path.{◌≡◌, refl, sym, ap, subst, ◌∙◌}
use mathlib.Core.List.{List, [], ◌∷◌, ◌++◌}
use mathlib.Core.Bool.{Bool, true, false, cond}
use mathlib.Core.Logic.{◌⊎◌, inl, inr}
use native.Mathlib.Omega.{arith}
use lib.ListN.{length}
use Rattle.words.specs.Words.{Words, read_of}
use Rattle.plain.specs.Plain.{Plain, NumberedLeg, list_of}
use Rattle.meeting.specs.Meeting.{meets, those_meeting, legs_at, passages_at, pairs_of, listed_words, pair_words, station_words}
use Rattle.meeting.specs.Statements.{Contains, ContainsBoth, LegsInOrder, LegsWithDistance}

-- A leg is one of a list.
abbrev In : NumberedLeg → List NumberedLeg → Type 0
In leg [] = ⊥
In leg (one ∷ older) = (leg ≡ one) ⊎ In leg older

-- One leg is in a list, and another behind it.
abbrev InBoth : NumberedLeg → NumberedLeg → List NumberedLeg → Type 0
InBoth first second [] = ⊥
InBoth first second (one ∷ older) = ((first ≡ one) × In second older) ⊎ InBoth first second older

in_behind : (leg : NumberedLeg) (newer older : List NumberedLeg) → In leg (newer ++ (leg ∷ older))
in_behind leg [] older = inl refl
in_behind leg (one ∷ newer) older = inr (in_behind leg newer older)

both_behind : (first second : NumberedLeg) (newer between older : List NumberedLeg) → InBoth first second (newer ++ (first ∷ (between ++ (second ∷ older))))
both_behind first second [] between older = inl (refl, in_behind second between older)
both_behind first second (one ∷ newer) between older = inr (both_behind first second newer between older)

contains : (leg : NumberedLeg) (legs : List NumberedLeg) → In leg legs → Contains legs leg
contains leg [] x = elim x [ ]
contains leg (one ∷ older) (inl same) = record { newer = []; older = older; parted = ap (λ a. a ∷ older) (sym same) }
contains leg (one ∷ older) (inr there) =
    let rest = contains leg older there in
    record { newer = one ∷ rest.newer; older = rest.older; parted = ap (λ l. one ∷ l) rest.parted }

contains_both : (first second : NumberedLeg) (legs : List NumberedLeg) → InBoth first second legs → ContainsBoth legs first second
contains_both first second [] x = elim x [ ]
contains_both first second (one ∷ older) (inl (same, there)) =
    let rest = contains second older there in
    record { newer = []; between = rest.newer; older = rest.older; parted = λ i. sym same i ∷ rest.parted i }
contains_both first second (one ∷ older) (inr there) =
    let rest = contains_both first second older there in
    record { newer = one ∷ rest.newer; between = rest.between; older = rest.older; parted = ap (λ l. one ∷ l) rest.parted }

-- In one of two lists, one after the other.
in_append : (leg : NumberedLeg) (a b : List NumberedLeg) → In leg (a ++ b) → In leg a ⊎ In leg b
in_append leg [] b there = inr there
in_append leg (one ∷ a) b (inl same) = inl (inl same)
in_append leg (one ∷ a) b (inr there) = elim (in_append leg a b there) [ inl h ↦ inl (inr h) | inr h ↦ inr h ]

both_append : (first second : NumberedLeg) (a b : List NumberedLeg) → InBoth first second (a ++ b)
    → InBoth first second a ⊎ ((In first a × In second b) ⊎ InBoth first second b)
both_append first second [] b there = inr (inr there)
both_append first second (one ∷ a) b (inl (same, there)) = elim (in_append second a b there) [ inl h ↦ inl (inl (same, h)) | inr h ↦ inr (inl (inl same, h)) ]
both_append first second (one ∷ a) b (inr there) = elim (both_append first second a b there) [
  | inl h ↦ inl (inr h)
  | inr (inl h) ↦ inr (inl (inr h.0, h.1))
  | inr (inr h) ↦ inr (inr h)
]

module _ (station : ℕ) where
  in_those : (leg : NumberedLeg) (legs : List NumberedLeg) → In leg (those_meeting station legs) → In leg legs
  unfolding those_meeting
  in_those leg [] there = elim there [ ]
  in_those leg (one ∷ older) there = by (meets station one) (in_those leg older) there
    where
      by : (b : Bool) → (In leg (those_meeting station older) → In leg older) → In leg (cond b (one ∷ those_meeting station older) (those_meeting station older)) → In leg (one ∷ older)
      by true rest (inl same) = inl same
      by true rest (inr h) = inr (rest h)
      by false rest h = inr (rest h)

  both_those : (first second : NumberedLeg) (legs : List NumberedLeg) → InBoth first second (those_meeting station legs) → InBoth first second legs
  unfolding those_meeting
  both_those first second [] there = elim there [ ]
  both_those first second (one ∷ older) there = by (meets station one) (both_those first second older) there
    where
      by : (b : Bool) → (InBoth first second (those_meeting station older) → InBoth first second older)
          → InBoth first second (cond b (one ∷ those_meeting station older) (those_meeting station older)) → InBoth first second (one ∷ older)
      by true rest (inl h) = inl (h.0, in_those second older h.1)
      by true rest (inr h) = inr (rest h)
      by false rest h = inr (rest h)

  in_list : (leg : NumberedLeg) (lists : Plain) → In leg (legs_at station lists) → (p : ℕ) × In leg (list_of lists p)
  unfolding legs_at
  in_list leg [] there = elim there [ ]
  in_list leg (legs ∷ lists) there = elim (in_append leg (those_meeting station legs) (legs_at station lists) there) [
    | inl h ↦ (0, in_those leg legs h)
    | inr h ↦ let (p, inside) = in_list leg lists h in (suc p, inside)
  ]

  both_in_lists : (first second : NumberedLeg) (lists : Plain) → InBoth first second (legs_at station lists)
      → ((p q : ℕ) × (p < q) × In first (list_of lists p) × In second (list_of lists q)) ⊎ ((p : ℕ) × InBoth first second (list_of lists p))
  unfolding legs_at
  both_in_lists first second [] there = elim there [ ]
  both_in_lists first second (legs ∷ lists) there = elim (both_append first second (those_meeting station legs) (legs_at station lists) there) [
    | inl h ↦ inr (0, both_those first second legs h)
    | inr (inl h) ↦ let (q, inside) = in_list second lists h.1 in inl (0, suc q, suc-le-suc zero-le, in_those first legs h.0, inside)
    | inr (inr h) ↦ elim (both_in_lists first second lists h) [
      | inl (p, q, before, one, other) ↦ inl (suc p, suc q, suc-le-suc before, one, other)
      | inr (p, inside) ↦ inr (suc p, inside)
    ]
  ]

pub legs_in_order : LegsInOrder
legs_in_order station plain first second parted =
    let inside = subst (InBoth first second) (sym parted.parted) (both_behind first second parted.newer parted.between parted.older) in
    elim (both_in_lists station first second plain inside) [
      | inl (p, q, before, one, other) ↦ inl (p, q, before, contains first (list_of plain p) one, contains second (list_of plain q) other)
      | inr (p, both) ↦ inr (p, contains_both first second (list_of plain p) both)
    ]

-- The two words of a leg among those of the list.
entry : (newer : List NumberedLeg) (leg : NumberedLeg) (older : List NumberedLeg) (rest : Words)
    → (read_of (listed_words (newer ++ (leg ∷ older)) ++ rest) (2 * length newer) ≡ leg.number)
    × (read_of (listed_words (newer ++ (leg ∷ older)) ++ rest) (suc (2 * length newer)) ≡ leg.measure.distance)
unfolding listed_words
entry [] leg older rest = (refl, refl)
entry (one ∷ newer) leg older rest =
    let here : 2 * suc (length newer) ≡ suc (suc (2 * length newer)) = omega arith in
    let words = listed_words ((one ∷ newer) ++ (leg ∷ older)) ++ rest in
    let later = entry newer leg older rest in
    (ap (read_of words) here ∙ later.0, ap (λ (n : ℕ). read_of words (suc n)) here ∙ later.1)

pub legs_with_distance : LegsWithDistance
unfolding station_words
legs_with_distance station plain newer leg older parted =
    let pairs = pairs_of (passages_at station plain) in
    let rest = length pairs ∷ pair_words pairs in
    let told = entry newer leg older rest in
    let first : 1 + 2 * length newer ≡ suc (2 * length newer) = omega arith in
    let second : 2 + 2 * length newer ≡ suc (suc (2 * length newer)) = omega arith in
    let legs = legs_at station plain in (
      ap (read_of (length legs ∷ listed_words legs ++ rest)) first ∙ ap (λ l. read_of (listed_words l ++ rest) (2 * length newer)) parted ∙ told.0,
      ap (read_of (length legs ∷ listed_words legs ++ rest)) second ∙ ap (λ l. read_of (listed_words l ++ rest) (suc (2 * length newer))) parted ∙ told.1,
    )
