-- A leg meets a station by from or to; each such leg of the book is listed once, and no other number is.
use Prim.Native.Nat.{ℕ, zero, suc, ◌+◌, ◌≤◌, ◌<◌, zero-le}
use mathlib.Core.Path.{◌≡◌, refl, sym, ap, ◌∙◌}
use mathlib.Core.List.{List, [], ◌∷◌, ◌++◌}
use mathlib.Core.Bool.{Bool, true, false, cond, false≢true}
use mathlib.Core.Logic.{◌⊎◌, inl, inr}
use native.Mathlib.Omega.{arith}
use native.Mathlib.Decide.{ℕ_discrete}
use native.Mathlib.Nat.{not-suc-le-zero, le_of_suc-le-suc}
use lib.Dec.{eqb}
use lib.ListN.{length, get_or}
use borrow.Author.Tests.{eq-eqb, ne_eqb}
use Rattle.words.specs.Tests.{some_holds}
use Rattle.plain.specs.Plain.{Plain, NumberedLeg, times_in, times_below}
use Rattle.meeting.specs.Meeting.{meets, those_meeting, legs_at}
use Rattle.meeting.specs.Statements.{MeetsByFromOrTo, EachLegOnce, OnlyLegsOfTheBook}

pub meets_by_from_or_to : MeetsByFromOrTo
unfolding some_holds
meets_by_from_or_to station leg = (tells (ℕ_discrete leg.stations.from station) (ℕ_discrete leg.stations.to station), λ one. told one)
  where
    tells : Dec (leg.stations.from ≡ station) → Dec (leg.stations.to ≡ station) → meets station leg ≡ true → (leg.stations.from ≡ station) ⊎ (leg.stations.to ≡ station)
    tells (yes same) other e = inl same
    tells (no apart) (yes same) e = inr same
    tells (no apart) (no other) e = absurd (false≢true (sym (rw (ne_eqb leg.stations.from station apart, ne_eqb leg.stations.to station other)) ∙ e))

    told : (leg.stations.from ≡ station) ⊎ (leg.stations.to ≡ station) → meets station leg ≡ true
    told (inl same) = rw (eq-eqb leg.stations.from station same)
    told (inr same) = rw (eq-eqb leg.stations.to station same) (either (eqb leg.stations.from station))
      where
        either : (b : Bool) → cond b true true ≡ true
        either true = refl
        either false = refl

-- How often a number is in lists, one after another.
times_in_all : ℕ → Plain → ℕ
times_in_all r [] = 0
times_in_all r (legs ∷ lists) = times_in r legs + times_in_all r lists

-- The same counted by passage.
below_shifted : (n : ℕ) (legs : List NumberedLeg) (lists : Plain) (r : ℕ) → times_below (suc n) (legs ∷ lists) r ≡ times_in r legs + times_below n lists r
unfolding times_below
below_shifted zero legs lists r = omega arith
below_shifted (suc n) legs lists r = omega (arith, below_shifted n legs lists r)

below_all : (lists : Plain) (r : ℕ) → times_below (length lists) lists r ≡ times_in_all r lists
unfolding times_in_all times_below
below_all [] r = refl
below_all (legs ∷ lists) r = below_shifted (length lists) legs lists r ∙ omega (arith, below_all lists r)

times_append : (r : ℕ) (a b : List NumberedLeg) → times_in r (a ++ b) ≡ times_in r a + times_in r b
times_append r [] b = omega arith
times_append r (leg ∷ a) b = omega (arith, times_append r a b)

module _ (station : ℕ) where
  those_most : (r : ℕ) (legs : List NumberedLeg) → times_in r (those_meeting station legs) ≤ times_in r legs
  unfolding those_meeting
  those_most r [] = zero-le
  those_most r (leg ∷ older) = by (meets station leg) (those_most r older)
    where
      by : (b : Bool) → times_in r (those_meeting station older) ≤ times_in r older
          → times_in r (cond b (leg ∷ those_meeting station older) (those_meeting station older)) ≤ cond (eqb r leg.number) 1 0 + times_in r older
      by true rest = omega (arith, rest)
      by false rest = omega (arith, rest)

  listed_most : (r : ℕ) (lists : Plain) → times_in r (legs_at station lists) ≤ times_in_all r lists
  unfolding legs_at times_in_all
  listed_most r [] = zero-le
  listed_most r (legs ∷ lists) = omega (arith, times_append r (those_meeting station legs) (legs_at station lists), those_most r legs, listed_most r lists)

  -- In a list that has the leg once.
  once_there : (newer : List NumberedLeg) (leg : NumberedLeg) (older : List NumberedLeg) → times_in leg.number (newer ++ (leg ∷ older)) ≤ 1
      → times_in leg.number (those_meeting station (newer ++ (leg ∷ older))) ≡ cond (meets station leg) 1 0
  unfolding those_meeting
  once_there [] leg older once = by (meets station leg) (those_most leg.number older)
    where
      by : (b : Bool) → times_in leg.number (those_meeting station older) ≤ times_in leg.number older
          → times_in leg.number (cond b (leg ∷ those_meeting station older) (those_meeting station older)) ≡ cond b 1 0
      by true rest = rw (eq-eqb leg.number leg.number refl) (omega (arith, rest, rw (eq-eqb leg.number leg.number refl) at once))
      by false rest = omega (arith, rest, rw (eq-eqb leg.number leg.number refl) at once)
  once_there (other ∷ newer) leg older once = by (meets station other) (once_there newer leg older (omega (arith, once)))
    where
      there : 1 ≤ times_in leg.number (newer ++ (leg ∷ older))
      there = rw (times_append leg.number newer (leg ∷ older), eq-eqb leg.number leg.number refl) (omega arith)

      by : (b : Bool) → times_in leg.number (those_meeting station (newer ++ (leg ∷ older))) ≡ cond (meets station leg) 1 0
          → times_in leg.number (cond b (other ∷ those_meeting station (newer ++ (leg ∷ older))) (those_meeting station (newer ++ (leg ∷ older)))) ≡ cond (meets station leg) 1 0
      by true rest = omega (arith, rest, there, once)
      by false rest = rest

  -- Among lists that have it once together.
  once_listed : (lists : Plain) (p : ℕ) (newer : List NumberedLeg) (leg : NumberedLeg) (older : List NumberedLeg) → p < length lists → get_or lists p [] ≡ newer ++ (leg ∷ older)
      → times_in_all leg.number lists ≤ 1 → times_in leg.number (legs_at station lists) ≡ cond (meets station leg) 1 0
  unfolding legs_at times_in_all
  once_listed [] p newer leg older inside e once = absurd (not-suc-le-zero inside)
  once_listed (legs ∷ lists) zero newer leg older inside e once =
      let there : 1 ≤ times_in leg.number (newer ++ (leg ∷ older)) = rw (times_append leg.number newer (leg ∷ older), eq-eqb leg.number leg.number refl) (omega arith) in
      let same : times_in leg.number legs ≡ times_in leg.number (newer ++ (leg ∷ older)) = ap (times_in leg.number) e in
      times_append leg.number (those_meeting station legs) (legs_at station lists)
      ∙ omega (arith, listed_most leg.number lists, ap (λ l. times_in leg.number (those_meeting station l)) e, once_there newer leg older (omega (arith, once, same)), there, same, once)
  once_listed (legs ∷ lists) (suc p) newer leg older inside e once =
      let later = once_listed lists p newer leg older (le_of_suc-le-suc inside) e (omega (arith, once)) in
      let there = times_there lists p newer leg older (le_of_suc-le-suc inside) e in
      times_append leg.number (those_meeting station legs) (legs_at station lists) ∙ omega (arith, those_most leg.number legs, later, there, once)
    where
      times_there : (lists : Plain) (p : ℕ) (newer : List NumberedLeg) (leg : NumberedLeg) (older : List NumberedLeg) → p < length lists → get_or lists p [] ≡ newer ++ (leg ∷ older) → 1 ≤ times_in_all leg.number lists
      times_there [] p newer leg older inside e = absurd (not-suc-le-zero inside)
      times_there (legs ∷ lists) zero newer leg older inside e =
          let there : 1 ≤ times_in leg.number (newer ++ (leg ∷ older)) = rw (times_append leg.number newer (leg ∷ older), eq-eqb leg.number leg.number refl) (omega arith) in
          omega (arith, there, ap (times_in leg.number) e)
      times_there (legs ∷ lists) (suc p) newer leg older inside e = omega (arith, times_there lists p newer leg older (le_of_suc-le-suc inside) e)

pub each_leg_once : EachLegOnce
each_leg_once station plain sound passage inside newer leg older e =
    once_listed station plain passage newer leg older (omega (arith, sound.passages)) e
    (omega (arith, below_all plain leg.number, ap (λ (n : ℕ). times_below n plain leg.number) sound.passages, sound.none_twice leg.number))

pub only_legs_of_the_book : OnlyLegsOfTheBook
only_legs_of_the_book station plain whole r = omega (arith, listed_most station r plain, below_all plain r, ap (λ (n : ℕ). times_below n plain r) whole)
