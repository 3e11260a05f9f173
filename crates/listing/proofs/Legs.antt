-- The words of the legs at a station, leg by leg and passage by passage.
use Prim.Native.Nat.{ℕ, suc, ◌+◌, ◌-◌, ◌≤◌, ◌<◌}
use mathlib.Core.Path.{◌≡◌, refl, ap, ◌∙◌}
use mathlib.Core.List.{List, [], ◌∷◌, ◌++◌}
use mathlib.Core.Bool.{Bool, true, false, cond}
use native.Mathlib.Omega.{arith}
use Rattle.words.specs.declared.LegLayout.TheVariants.{FourWords}
use Rattle.words.specs.Words.{Words, passage_count}
use Rattle.plain.specs.Plain.{NumberedLeg}
use Rattle.soundness.specs.InWords.{list_in, lists_from, plain_in}
use Rattle.meeting.specs.Meeting.{meets, those_meeting, legs_at, listed_words}

listed_append : (a b : List NumberedLeg) → listed_words (a ++ b) ≡ listed_words a ++ listed_words b
unfolding listed_words
listed_append [] b = refl
listed_append (leg ∷ a) b = ap (λ l. leg.number ∷ leg.measure.distance ∷ l) (listed_append a b)

-- One leg, and those after it.
those_next : (station : ℕ) (leg : NumberedLeg) (older : List NumberedLeg) → those_meeting station (leg ∷ older) ≡ those_meeting station (leg ∷ []) ++ those_meeting station older
unfolding those_meeting
those_next station leg older = by (meets station leg)
  where
    by : (b : Bool) → cond b (leg ∷ those_meeting station older) (those_meeting station older) ≡ cond b (leg ∷ []) [] ++ those_meeting station older
    by true = refl
    by false = refl

pub listed_next : (station : ℕ) (legs : List NumberedLeg) (leg : NumberedLeg) (older : List NumberedLeg) → legs ≡ leg ∷ older
    → listed_words (those_meeting station legs) ≡ listed_words (those_meeting station (leg ∷ [])) ++ listed_words (those_meeting station older)
listed_next station legs leg older parted =
    ap (λ l. listed_words (those_meeting station l)) parted
    ∙ ap listed_words (those_next station leg older)
    ∙ listed_append (those_meeting station (leg ∷ [])) (those_meeting station older)

pub nothing_listed : (station : ℕ) (legs : List NumberedLeg) → legs ≡ [] → listed_words (those_meeting station legs) ≡ []
unfolding listed_words those_meeting
nothing_listed station legs none = ap (λ l. listed_words (those_meeting station l)) none

-- The same of passages: the words of all from one on are those of its legs, and of the passages after it.
pub passages_next : (words : Words) (station p : ℕ) → p < passage_count
    → listed_words (legs_at station (lists_from (list_in FourWords words) p (passage_count - p)))
    ≡ listed_words (those_meeting station (list_in FourWords words p)) ++ listed_words (legs_at station (lists_from (list_in FourWords words) (p + 1) (passage_count - (p + 1))))
unfolding legs_at lists_from
passages_next words station p inside =
    let left : passage_count - p ≡ suc (passage_count - (p + 1)) = omega arith in
    let next : suc p ≡ p + 1 = omega arith in
    ap (λ (n : ℕ). listed_words (legs_at station (lists_from (list_in FourWords words) p n))) left
    ∙ listed_append (those_meeting station (list_in FourWords words p)) (legs_at station (lists_from (list_in FourWords words) (suc p) (passage_count - (p + 1))))
    ∙ ap (λ (q : ℕ). listed_words (those_meeting station (list_in FourWords words p)) ++ listed_words (legs_at station (lists_from (list_in FourWords words) q (passage_count - (p + 1))))) next

pub no_passages_left : (words : Words) (station p : ℕ) → passage_count ≤ p → listed_words (legs_at station (lists_from (list_in FourWords words) p (passage_count - p))) ≡ []
unfolding legs_at lists_from listed_words
no_passages_left words station p high =
    let none : passage_count - p ≡ 0 = omega arith in
    ap (λ (n : ℕ). listed_words (legs_at station (lists_from (list_in FourWords words) p n))) none

-- The lists of a book's words, from the first on.
pub plain_lists : (words : Words) → plain_in FourWords words ≡ lists_from (list_in FourWords words) 0 passage_count
unfolding plain_in
plain_lists words = refl

-- One leg alone, that is there or not.
module _ (station : ℕ) (leg : NumberedLeg) where
  pub listed_there : meets station leg ≡ true → listed_words (those_meeting station (leg ∷ [])) ≡ leg.number ∷ leg.measure.distance ∷ []
  unfolding those_meeting listed_words
  listed_there there = rw there

  pub listed_elsewhere : meets station leg ≡ false → listed_words (those_meeting station (leg ∷ [])) ≡ []
  unfolding those_meeting listed_words
  listed_elsewhere there = rw there
