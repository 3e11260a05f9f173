-- A walk that goes through, as a list: the legs along its links, each of which stands in its words.
use Prim.Native.Nat.{ℕ, zero, suc, ◌+◌, ◌≤◌, ◌<◌}
use mathlib.Core.Path.{◌≡◌, refl, sym, ap, subst, ◌∙◌}
use mathlib.Core.List.{List, [], ◌∷◌}
use mathlib.Core.Bool.{Bool, true, false, cond, false≢true}
use mathlib.Core.Option.{none, some}
use native.Mathlib.Omega.{arith}
use native.Mathlib.Decide.{ℕ_discrete, dec_lt}
use native.Mathlib.Nat.{not-suc-le-zero}
use lib.Dec.{eqb}
use lib.ListN.{length}
use borrow.Author.Tests.{eqb-true, eq-eqb, ne_eqb}
use Rattle.words.specs.Tests.{all_hold, within}
use Rattle.words.specs.declared.LegLayout.{LegLayout}
use Rattle.words.specs.declared.LegLayout.TheVariants.{ThreeWords, FourWords}
use Rattle.words.specs.Words.{Words, words_in_book, leg_words, last_leg_in, newest_word, count_word, link_word_in, place_word_in, measure_word_in, newer_word, read_of}
use Rattle.words.proofs.Tests.{split, join}
use Rattle.std.specs.Prelude.{None, Some}
use Rattle.legs.specs.Legs.{place_of, measure_of, is_taken, place_in_range, measure_in_range, leg_in_range}
use Rattle.legs.proofs.Figures.{written_taken}
use Rattle.legs.specs.Reading.{passage_in, stations_in, measure_in, is_place, is_measure, reading_of}
use Rattle.plain.specs.Plain.{NumberedLeg, in_passage, newest_in, times_in}
use Rattle.plain.proofs.OneList.{at_leg, newer_in, Every, times_there}
use Rattle.plain.proofs.Slots.{place_at, measure_at, InRangeIn}
use Rattle.plain.proofs.Lists.{each_in_range}
use Rattle.soundness.specs.Checking.{is_of_passage, fourth_is, may_follow, walk, walk_passage}
use Rattle.soundness.specs.InWords.{leg_at, legs_along, list_in}
use Rattle.soundness.proofs.Walking.{none_some, number_in, Following, following, walk_on, walk_off, walk_ends, passage_walk, passage_off}
use Rattle.soundness.proofs.Counting.{once, once_more}

-- The words of a leg are words of the book.
pub inside : (layout : LegLayout) (leg which : ℕ) → 1 ≤ leg → leg ≤ last_leg_in layout → which < leg_words layout → link_word_in layout leg + which < words_in_book
inside ThreeWords leg which least most few = omega arith
inside FourWords leg which least most few = omega arith

pub link_inside : (layout : LegLayout) (leg : ℕ) → 1 ≤ leg → leg ≤ last_leg_in layout → link_word_in layout leg < words_in_book
link_inside ThreeWords leg least most = omega arith
link_inside FourWords leg least most = omega arith

pub three_words : (layout : LegLayout) (which : ℕ) → which < 3 → which < leg_words layout
three_words ThreeWords which few = few
three_words FourWords which few = omega arith

-- The fourth word, where the layout has it, as a fact.
abbrev pub Fourth : LegLayout → Words → ℕ → ℕ → Type 0
Fourth ThreeWords words value leg = Unit {0}
Fourth FourWords words value leg = value ≡ read_of words (newer_word leg)

pub fourth_told : (layout : LegLayout) (words : Words) (value leg : ℕ) → fourth_is layout words value leg ≡ true → Fourth layout words value leg
fourth_told ThreeWords words value leg e = tt
fourth_told FourWords words value leg e = sym (eqb-true _ _ e)

pub tells_fourth : (layout : LegLayout) (words : Words) (value leg : ℕ) → Fourth layout words value leg → fourth_is layout words value leg ≡ true
tells_fourth ThreeWords words value leg e = refl
tells_fourth FourWords words value leg e = eq-eqb _ _ (sym e)

pub length_along : (layout : LegLayout) (words : Words) (n leg : ℕ) → length (legs_along layout words n leg) ≡ n
length_along layout words zero leg = refl
length_along layout words (suc n) leg = ap suc (length_along layout words n (read_of words (link_word_in layout leg)))

-- Words that read as a leg of a passage: its figures are in range, and the words are theirs.
record FiguresOf (p place measure : ℕ) : Type 0 where
  pub placed : place_in_range p (stations_in place) ≡ true
  pub measured : measure_in_range (measure_in measure) ≡ true
  pub place_is : place_of p (stations_in place) ≡ place
  pub measure_is : measure_of (measure_in measure) ≡ measure
  pub as_taken : is_taken (measure_in measure) ≡ true

figures_of : (p place measure : ℕ) → is_of_passage p (reading_of place measure) ≡ true → FiguresOf p place measure
unfolding reading_of is_place is_measure
figures_of p place measure e = by_tests (all_hold (is_place place ∷ is_measure measure ∷ [])) refl e
  where
    by_tests : (b : Bool) → all_hold (is_place place ∷ is_measure measure ∷ []) ≡ b
        → is_of_passage p (cond b (Some (record { passage = passage_in place; stations = stations_in place; measure = measure_in measure })) None) ≡ true
        → FiguresOf p place measure
    by_tests true t same =
        let (p_holds, (m_holds, u)) = split (is_place place ∷ is_measure measure ∷ []) t in
        let (placed, (place_written, v)) = split (place_in_range (passage_in place) (stations_in place) ∷ eqb (place_of (passage_in place) (stations_in place)) place ∷ []) p_holds in
        let (measured, (measure_written, w)) = split (measure_in_range (measure_in measure) ∷ eqb (measure_of (measure_in measure)) measure ∷ []) m_holds in
        let here : passage_in place ≡ p = eqb-true _ _ same in
        record {
          placed = subst (λ (q : ℕ). place_in_range q (stations_in place) ≡ true) here placed;
          measured = measured;
          place_is = subst (λ (q : ℕ). place_of q (stations_in place) ≡ place) here (eqb-true _ _ place_written);
          measure_is = eqb-true _ _ measure_written;
          as_taken = written_taken measure (eqb-true _ _ measure_written);
        }
    by_tests false t same = absurd (false≢true same)

module _ (layout : LegLayout) where
  -- The words of a leg of a list, with the leg just newer and the legs older than it.
  pub record StandsIn (words : Words) (p newer : ℕ) (a : NumberedLeg) (older : List NumberedLeg) : Type 0 where
    pub fits : InRangeIn layout a
    pub link_is_lem : newest_in older ≡ read_of words (link_word_in layout a.number)
    pub place_is : place_at p a ≡ read_of words (place_word_in layout a.number)
    pub measure_is : measure_at a ≡ read_of words (measure_word_in layout a.number)
    pub fourth_is_lem : Fourth layout words newer a.number

  abbrev pub AllStand : Words → ℕ → ℕ → List NumberedLeg → Type 0
  AllStand words p newer [] = Unit {0}
  AllStand words p newer (a ∷ older) = StandsIn words p newer a older × AllStand words p a.number older

  pub all_fit : (words : Words) (p newer : ℕ) (l : List NumberedLeg) → AllStand words p newer l → Every (InRangeIn layout) l
  all_fit words p newer [] h = tt
  all_fit words p newer (a ∷ older) h = (h.0.fits, all_fit words p a.number older h.1)

  -- What a list gives to a word of one of its legs is that word.
  pub at_word : (words : Words) (p : ℕ) (g : NumberedLeg → List NumberedLeg → ℕ) (word : ℕ → ℕ)
      → ((newer : ℕ) (a : NumberedLeg) (older : List NumberedLeg) → StandsIn words p newer a older → g a older ≡ read_of words (word a.number))
      → (r newer : ℕ) (l : List NumberedLeg) → AllStand words p newer l → 0 < times_in r l → at_leg g r l ≡ read_of words (word r)
  at_word words p g word gives r newer [] h there = absurd (not-suc-le-zero there)
  at_word words p g word gives r newer (a ∷ older) h there = elim (ℕ_discrete r a.number) [
    | yes same ↦ rw (eq-eqb r a.number same) (gives newer a older h.0 ∙ ap (λ (n : ℕ). read_of words (word n)) (sym same))
    | no apart ↦ rw (ne_eqb r a.number apart) (at_word words p g word gives r a.number older h.1 (rw (times_there r a older apart) at there))
  ]

  -- A walk that goes through: the list starts at its first leg, every leg stands in its words, and the legs used are counted.
  pub record Walked (words : Words) (p newer leg : ℕ) (l : List NumberedLeg) (used after : List ℕ) : Type 0 where
    pub starts : newest_in l ≡ leg
    pub stand : AllStand words p newer l
    pub counted : (r : ℕ) → once r after ≡ times_in r l + once r used

  -- One leg more, in front.
  one_more : (words : Words) (p n newer leg : ℕ) (used after : List ℕ) → Following layout words p used newer leg
      → Walked words p leg (read_of words (link_word_in layout leg)) (legs_along layout words n (read_of words (link_word_in layout leg))) (leg ∷ used) after
      → Walked words p newer leg (legs_along layout words (suc n) leg) used after
  one_more words p n newer leg used after follows rest =
      let figures = figures_of p (read_of words (place_word_in layout leg)) (read_of words (measure_word_in layout leg)) follows.reads in
      let tests = place_in_range p (leg_at layout words leg).stations ∷ measure_in_range (leg_at layout words leg).measure ∷ [] in
      record {
        starts = refl;
        stand = (
          record {
            fits = each_in_range layout p (leg_at layout words leg) (join (within 1 (last_leg_in layout) leg ∷ leg_in_range (in_passage p (leg_at layout words leg)) ∷ is_taken (leg_at layout words leg).measure ∷ [])
                (number_in layout leg follows.least follows.most, (join tests (figures.placed, (figures.measured, tt)), (figures.as_taken, tt))));
            link_is_lem = rest.starts;
            place_is = figures.place_is;
            measure_is = figures.measure_is;
            fourth_is_lem = fourth_told layout words newer leg follows.fourth;
          },
          rest.stand,
        );
        counted = λ r. omega (arith, rest.counted r, once_more r leg used follows.new);
      }

  walked : (words : Words) (p n newer leg : ℕ) (used after : List ℕ) → walk layout words p n newer leg used ≡ some after → Walked words p newer leg (legs_along layout words n leg) used after
  walked words p zero newer leg used after e = by_link (eqb leg 0) refl (sym (walk_ends layout words p newer leg used) ∙ e)
    where
      by_link : (b : Bool) → eqb leg 0 ≡ b → cond b (some used) none ≡ some after → Walked words p newer leg [] used after
      by_link true t same = let used_same : used ≡ after = cc in
          record { starts = sym (eqb-true _ _ t); stand = tt; counted = λ r. ap (once r) (sym used_same) ∙ omega arith }
      by_link false t same = absurd (none_some after same)
  walked words p (suc n) newer leg used after e =
      by_test (may_follow layout words p used newer leg) refl (λ t. walked words p n leg (read_of words (link_word_in layout leg)) (leg ∷ used) after (sym (walk_on layout words p n newer leg used t) ∙ e))
    where
      by_test : (b : Bool) → may_follow layout words p used newer leg ≡ b
          → (may_follow layout words p used newer leg ≡ true → Walked words p leg (read_of words (link_word_in layout leg)) (legs_along layout words n (read_of words (link_word_in layout leg))) (leg ∷ used) after)
          → Walked words p newer leg (legs_along layout words (suc n) leg) used after
      by_test false t rest = absurd (none_some after (sym (walk_off layout words p n newer leg used t) ∙ e))
      by_test true t rest = one_more words p n newer leg used after (following layout words p used newer leg t) (rest t)

  pub passage_walked : (words : Words) (p : ℕ) (used after : List ℕ) → walk_passage layout words p used ≡ some after → Walked words p 0 (read_of words (newest_word p)) (list_in layout words p) used after
  passage_walked words p used after e = elim (dec_lt (last_leg_in layout) (read_of words (count_word p))) [
    | yes above ↦ absurd (none_some after (sym (passage_off layout words p used above) ∙ e))
    | no within_most ↦ walked words p (read_of words (count_word p)) 0 (read_of words (newest_word p)) used after (sym (passage_walk layout words p used (omega arith)) ∙ e)
  ]

-- In the layout of four words, what a list gives to the fourth word of one of its legs is that word.
pub at_newer : (words : Words) (p r newer : ℕ) (l : List NumberedLeg) → AllStand FourWords words p newer l → 0 < times_in r l → newer_in newer r l ≡ read_of words (newer_word r)
at_newer words p r newer [] h there = absurd (not-suc-le-zero there)
at_newer words p r newer (a ∷ older) h there = elim (ℕ_discrete r a.number) [
  | yes same ↦ rw (eq-eqb r a.number same) (h.0.fourth_is_lem ∙ ap (λ (n : ℕ). read_of words (newer_word n)) (sym same))
  | no apart ↦ rw (ne_eqb r a.number apart) (at_newer words p r a.number older h.1 (rw (times_there r a older apart) at there))
]
