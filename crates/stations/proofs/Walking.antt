-- The legs along the links of a sound book, one by one: each is a leg of the book, and those at a station are counted.
use Prim.Native.Nat.{ℕ, zero, suc, ◌+◌, ◌-◌, ◌≤◌, ◌<◌}
use mathlib.Core.Path.{◌≡◌, refl, sym, ap, subst, ◌∙◌}
use mathlib.Core.List.{List, [], ◌∷◌}
use mathlib.Core.Bool.{Bool, true, false, cond}
use mathlib.Core.Logic.{◌≢◌}
use native.Mathlib.Omega.{arith}
use native.Mathlib.Nat.{not-suc-le-zero, le_of_suc-le-suc}
use lib.Dec.{eqb}
use lib.ListN.{length, get_or}
use borrow.Author.Tests.{eq-eqb, ne_eqb}
use Rattle.std.specs.List.{filter}
use Rattle.words.specs.Tests.{some_holds}
use Rattle.words.specs.declared.LegLayout.TheVariants.{FourWords}
use Rattle.words.specs.Words.{Words, passage_count, last_leg, link_word, read_of}
use Rattle.plain.specs.Plain.{NumberedLeg, list_of, Sound}
use Rattle.plain.proofs.OneList.{Every}
use Rattle.plain.proofs.Slots.{InRange}
use Rattle.plain.proofs.Lists.{fair_of}
use Rattle.plain.proofs.Values.{length_most}
use Rattle.soundness.specs.Checking.{is_sound}
use Rattle.soundness.specs.InWords.{leg_at, legs_along, list_in, lists_from, plain_in}
use Rattle.soundness.proofs.Soundness.{sound_exactly}
use Rattle.soundness.proofs.Telling.{words_tell_lists}
use Rattle.meeting.specs.Meeting.{meets, those_meeting, legs_at}
use Rattle.meeting.proofs.Rising.{listed_few}
use Rattle.stations.specs.Links.{IsLeg, leg_after}

-- The first of the lists, and the others.
list_from : (lists : ℕ → List NumberedLeg) (p n k : ℕ) → k < n → get_or (lists_from lists p n) k [] ≡ lists (p + k)
unfolding lists_from
list_from lists p zero k below = absurd (not-suc-le-zero below)
list_from lists p (suc n) zero below = let here : p ≡ p + 0 = omega arith in ap lists here
list_from lists p (suc n) (suc k) below = let here : suc p + k ≡ p + suc k = omega arith in list_from lists (suc p) n k (le_of_suc-le-suc below) ∙ ap lists here

length_lists : (lists : ℕ → List NumberedLeg) (p n : ℕ) → length (lists_from lists p n) ≡ n
unfolding lists_from
length_lists lists p zero = refl
length_lists lists p (suc n) = ap suc (length_lists lists (suc p) n)

pub length_plain : (words : Words) → length (plain_in FourWords words) ≡ passage_count
unfolding plain_in
length_plain words = length_lists (list_in FourWords words) 0 passage_count

pub list_in_lem : (words : Words) (p : ℕ) → p < passage_count → list_of (plain_in FourWords words) p ≡ list_in FourWords words p
unfolding plain_in
list_in_lem words p inside = list_from (list_in FourWords words) 0 passage_count p inside ∙ (let here : 0 + p ≡ p = omega arith in ap (list_in FourWords words) here)

module _ (words : Words) (sound : is_sound words ≡ true) where
  -- The plain book in the words of a sound book keeps its rules.
  pub plain_sound : Sound (plain_in FourWords words)
  plain_sound =
      let (plain, keeps, agree) = (sound_exactly FourWords words).0 sound in
      subst Sound (sym (words_tell_lists FourWords words plain keeps agree)) keeps

  -- So the numbers along its links are legs,
  pub legs_fit : (p : ℕ) → p < passage_count → Every InRange (list_in FourWords words p)
  legs_fit p inside = subst (Every InRange) (list_in_lem words p inside) ((fair_of FourWords (plain_in FourWords words) plain_sound).range p)

  -- and they are few.
  pub list_few : (p : ℕ) → p < passage_count → length (list_in FourWords words p) ≤ last_leg
  list_few p inside =
      subst (λ l. length l ≤ last_leg) (list_in_lem words p inside)
      (length_most FourWords (list_of (plain_in FourWords words)) (fair_of FourWords (plain_in FourWords words) plain_sound) p inside)

  pub all_few : (station : ℕ) → length (legs_at station (plain_in FourWords words)) ≤ last_leg
  all_few station = listed_few station (plain_in FourWords words) plain_sound

-- So each number along the links, until as many are passed as there are legs, is a leg's.
pub along_legs : (words : Words) (left leg : ℕ) → Every InRange (legs_along FourWords words left leg) → (k : ℕ) → k < left → IsLeg (leg_after words leg k)
along_legs words zero leg fits k below = absurd (not-suc-le-zero below)
along_legs words (suc left) leg fits zero below = (fits.0.number, fits.0.most)
along_legs words (suc left) leg fits (suc k) below = along_legs words left (read_of words (link_word leg)) fits.1 k (le_of_suc-le-suc below)

-- One leg along the links, and those after it.
pub along_next : (words : Words) (left leg : ℕ) → 0 < left
    → legs_along FourWords words left leg ≡ leg_at FourWords words leg ∷ legs_along FourWords words (left - 1) (read_of words (link_word leg))
along_next words zero leg more = absurd (not-suc-le-zero more)
along_next words (suc left) leg more = let same : left ≡ suc left - 1 = omega arith in ap (λ (n : ℕ). leg_at FourWords words leg ∷ legs_along FourWords words n (read_of words (link_word leg))) same

-- Those at a station are the ones that pass the test.
pub those_passing : (station : ℕ) (legs : List NumberedLeg) → those_meeting station legs ≡ filter (meets station) legs
unfolding those_meeting
those_passing station [] = refl
those_passing station (leg ∷ older) = ap (λ l. cond (meets station leg) (leg ∷ l) l) (those_passing station older)

-- Whether one leg alone meets the station.
module _ (station : ℕ) (leg : NumberedLeg) where
  pub from_there : leg.stations.from ≡ station → meets station leg ≡ true
  unfolding some_holds
  from_there same = rw (eq-eqb leg.stations.from station same)

  pub from_elsewhere : leg.stations.from ≢ station → meets station leg ≡ eqb leg.stations.to station
  unfolding some_holds
  from_elsewhere apart = rw (ne_eqb leg.stations.from station apart) (by (eqb leg.stations.to station))
    where
      by : (b : Bool) → cond b true false ≡ b
      by true = refl
      by false = refl
