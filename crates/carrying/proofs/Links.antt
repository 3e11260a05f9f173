-- In a plain book that keeps the rules of both layouts, links and newer words say the same: leg r links to leg s exactly when s has r as its newer leg.
use Prim.Native.Nat.{ℕ, ◌≤◌, ◌<◌}
use mathlib.Core.Path.{◌≡◌, refl, sym, ap, subst, ◌∙◌}
use mathlib.Core.List.{List, [], ◌∷◌, ◌++◌, append_assoc}
use mathlib.Core.Logic.{◌≢◌}
use native.Mathlib.Omega.{arith}
use native.Mathlib.Nat.{not-suc-le-zero}
use native.Mathlib.Decide.{ℕ_discrete, dec_lt}
use Rattle.words.specs.declared.LegLayout.TheVariants.{ThreeWords, FourWords}
use Rattle.words.specs.Words.{passage_count, last_leg, link_word_in, newer_word}
use Rattle.plain.specs.Plain.{Plain, NumberedLeg, list_of, times_in, word_in, word_of, SoundIn, Sound}
use Rattle.plain.specs.Laws.{oldest_or}
use Rattle.plain.proofs.Sums.{sum_below, sum_zero, sum_some}
use Rattle.plain.proofs.OneList.{Every, times_there}
use Rattle.plain.proofs.Slots.{times_at, InRangeIn}
use Rattle.plain.proofs.Lists.{fair_of}
use Rattle.plain.proofs.ReadOut.{legs_read_out, newer_reads_out, absent_legs_read_as_none, absent_legs_have_no_newer}
use Rattle.soundness.proofs.Accepted.{oldest_more}

-- A leg of a list parts it into the newer ones, itself and the older ones.
record Parted (r : ℕ) (l : List NumberedLeg) : Type 0 where
  pub newer : List NumberedLeg
  pub leg : NumberedLeg
  pub older : List NumberedLeg
  pub whole : l ≡ newer ++ (leg ∷ older)
  pub number : leg.number ≡ r

parted : (r : ℕ) (l : List NumberedLeg) → 0 < times_in r l → Parted r l
parted r [] there = absurd (not-suc-le-zero there)
parted r (a ∷ l) there = elim (ℕ_discrete r a.number) [
  | yes same ↦ record { newer = []; leg = a; older = l; whole = refl; number = sym same }
  | no apart ↦
      let rest = parted r l (rw (times_there r a l apart) at there) in
      record { newer = a ∷ rest.newer; leg = rest.leg; older = rest.older; whole = ap (λ (m : List NumberedLeg). a ∷ m) rest.whole; number = rest.number }
]

-- A list with a leg has an oldest one.
record Ended (b : NumberedLeg) (l : List NumberedLeg) : Type 0 where
  pub newer : List NumberedLeg
  pub last : NumberedLeg
  pub whole : b ∷ l ≡ newer ++ (last ∷ [])
  pub number : last.number ≡ oldest_or b.number l

ended : (b : NumberedLeg) (l : List NumberedLeg) → Ended b l
ended b [] = record { newer = []; last = b; whole = refl; number = refl }
ended b (a ∷ l) = let rest = ended a l in
    record { newer = b ∷ rest.newer; last = rest.last; whole = ap (λ (m : List NumberedLeg). b ∷ m) rest.whole; number = rest.number }

-- A fact of each leg is one of each later leg.
later_each : (P : NumberedLeg → Type 0) (newer l : List NumberedLeg) → Every P (newer ++ l) → Every P l
later_each P [] l each = each
later_each P (a ∷ newer) l each = later_each P newer l each.1

module _ (plain : Plain) (keeps : SoundIn ThreeWords plain) (sound : Sound plain) where
  -- The link of a leg in the old layout, and its newer word.
  abbrev link_is : ℕ → ℕ
  link_is r = word_in ThreeWords plain (link_word_in ThreeWords r)

  abbrev newer_is : ℕ → ℕ
  newer_is s = word_of plain (newer_word s)

  -- A leg of a passage is in range.
  in_list : (p : ℕ) (newer : List NumberedLeg) (a : NumberedLeg) (older : List NumberedLeg) → list_of plain p ≡ newer ++ (a ∷ older) → InRangeIn FourWords a
  in_list p newer a older whole = (later_each (InRangeIn FourWords) newer (a ∷ older) (subst (Every (InRangeIn FourWords)) whole ((fair_of FourWords plain sound).range p))).0

  -- A leg just older than another.
  pub record Behind (r s : ℕ) : Type 0 where
    pub newer_is_lem : newer_is s ≡ r
    pub link_is_lem : link_is r ≡ s
    pub newer_fits : (1 ≤ r) × (r ≤ last_leg)
    pub older_fits : (1 ≤ s) × (s ≤ last_leg)

  behind : (p : ℕ) → p < passage_count → (newer : List NumberedLeg) (a b : NumberedLeg) (older : List NumberedLeg) → list_of plain p ≡ newer ++ (a ∷ (b ∷ older)) → Behind a.number b.number
  behind p p_fits newer a b older whole =
      let apart : list_of plain p ≡ (newer ++ (a ∷ [])) ++ (b ∷ older) = whole ∙ sym (append_assoc newer (a ∷ []) (b ∷ older)) in
      let first = in_list p newer a (b ∷ older) whole in
      let second = in_list p (newer ++ (a ∷ [])) b older apart in
      record {
        newer_is_lem = newer_reads_out plain sound p p_fits (newer ++ (a ∷ [])) b older apart ∙ oldest_more 0 newer a;
        link_is_lem = (legs_read_out ThreeWords plain keeps p p_fits newer a (b ∷ older) whole).link;
        newer_fits = (first.number, first.most);
        older_fits = (second.number, second.most);
      }

  -- A leg is in a list, or in none.
  module _ (r : ℕ) (least : 1 ≤ r) where
    absent_link : sum_below (times_at r) (list_of plain) passage_count ≡ 0 → link_is r ≡ 0
    absent_link none = (absent_legs_read_as_none ThreeWords plain r least (sum_zero (times_at r) (list_of plain) passage_count none)).link

    absent_newer : sum_below (times_at r) (list_of plain) passage_count ≡ 0 → newer_is r ≡ 0
    absent_newer none = absent_legs_have_no_newer plain r least (sum_zero (times_at r) (list_of plain) passage_count none)

    -- A leg that has a link stands just before the leg that it names.
    pub links : link_is r ≢ 0 → Behind r (link_is r)
    links some = elim (dec_lt 0 (sum_below (times_at r) (list_of plain) passage_count)) [
      | yes there ↦ let (p, p_fits, inside) = sum_some (times_at r) (list_of plain) passage_count there in at_home p p_fits (parted r (list_of plain p) inside)
      | no nowhere ↦ absurd (some (absent_link (omega arith)))
    ]
      where
        at_home : (p : ℕ) → p < passage_count → Parted r (list_of plain p) → Behind r (link_is r)
        at_home p p_fits parts = by parts.older parts.whole
          where
            by : (older : List NumberedLeg) → list_of plain p ≡ parts.newer ++ (parts.leg ∷ older) → Behind r (link_is r)
            by [] whole = absurd (some (ap link_is (sym parts.number) ∙ (legs_read_out ThreeWords plain keeps p p_fits parts.newer parts.leg [] whole).link))
            by (b ∷ older) whole =
                let found = behind p p_fits parts.newer parts.leg b older whole in
                let here : b.number ≡ link_is r = sym found.link_is_lem ∙ ap link_is parts.number in
                subst (Behind r) here (subst (λ (n : ℕ). Behind n b.number) parts.number found)

    -- A leg that has a newer word stands just behind the leg that it names.
    pub newers : newer_is r ≢ 0 → Behind (newer_is r) r
    newers some = elim (dec_lt 0 (sum_below (times_at r) (list_of plain) passage_count)) [
      | yes there ↦ let (p, p_fits, inside) = sum_some (times_at r) (list_of plain) passage_count there in at_home p p_fits (parted r (list_of plain p) inside)
      | no nowhere ↦ absurd (some (absent_newer (omega arith)))
    ]
      where
        at_home : (p : ℕ) → p < passage_count → Parted r (list_of plain p) → Behind (newer_is r) r
        at_home p p_fits parts = by parts.newer parts.whole
          where
            by : (newer : List NumberedLeg) → list_of plain p ≡ newer ++ (parts.leg ∷ parts.older) → Behind (newer_is r) r
            by [] whole = absurd (some (ap newer_is (sym parts.number) ∙ newer_reads_out plain sound p p_fits [] parts.leg parts.older whole))
            by (b ∷ newer) whole =
                let end = ended b newer in
                let apart : list_of plain p ≡ end.newer ++ (end.last ∷ (parts.leg ∷ parts.older)) =
                whole ∙ ap (λ (l : List NumberedLeg). l ++ (parts.leg ∷ parts.older)) end.whole ∙ append_assoc end.newer (end.last ∷ []) (parts.leg ∷ parts.older) in
                let found = behind p p_fits end.newer end.last parts.leg parts.older apart in
                let here : end.last.number ≡ newer_is r = sym found.newer_is_lem ∙ ap newer_is parts.number in
                subst (λ (n : ℕ). Behind n r) here (subst (Behind end.last.number) parts.number found)
