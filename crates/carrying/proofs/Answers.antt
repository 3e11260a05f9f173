-- Each answer of a carry-over comes exactly when it is due: by the four tests, and by what the check of the old book says of its lists.
use Rattle.std.specs.Prelude.{Ok, Err}
use Prim.Native.Nat.{ℕ}
use mathlib.Core.Path.{◌≡◌, refl, sym, ap, subst, ◌∙◌}
use mathlib.Core.List.{[], ◌∷◌}
use mathlib.Core.Bool.{Bool, true, false, not, false≢true, true≢false}
use mathlib.Core.Option.{Option, none, some}
use mathlib.Core.Logic.{◌↔◌, ◌⊎◌, inl, inr, ◌≢◌}
use native.Mathlib.Omega.{arith}
use native.Mathlib.Decide.{ℕ_discrete}
use lib.ListN.{length}
use borrow.Author.Tests.{eq-eqb, ne_eqb, not-true, not-false}
use Rattle.words.specs.Tests.{some_holds}
use Rattle.words.specs.declared.LegLayout.TheVariants.{ThreeWords, FourWords}
use Rattle.words.specs.Words.{Words, words_in_book}
use Rattle.tickets.specs.Tickets.{Tickets}
use Rattle.calls.specs.Outcomes.{Outcome}
use Rattle.calls.specs.Call.{check, first_of, book_length_wrong}
use Rattle.calls.specs.Outcomes.{outcome_of, number_of, ticket_stands}
use Rattle.soundness.specs.Checking.{is_sound_in}
use Rattle.soundness.specs.InWords.{plain_in}
use Rattle.soundness.specs.Soundness.{WordsOf, OfSomePlainBook}
use Rattle.soundness.proofs.Soundness.{sound_exactly}
use Rattle.soundness.proofs.Telling.{words_tell_lists}
use Rattle.carrying.specs.Carrying.{either_length_wrong, leg_above, carry_checks, carry_refusal, carried, carried_by, carry_of, BothWhole, OfBookWith, CarryAnswered, CarryAnswers, DoneCarriesTheLists}
use Rattle.carrying.proofs.Carrying.{carries_the_lists}

-- The answer of four tests; which tests made it, by its number.
abbrev answered : (wrong stands unsound above : Bool) → Outcome
answered wrong stands unsound above = outcome_of (first_of (check 1 wrong ∷ check 14 stands ∷ check 15 unsound ∷ check 16 above ∷ []))

by_1 : (wrong stands unsound above : Bool) → answered wrong stands unsound above ≡ Err 1 → wrong ≡ true
by_1 true stands unsound above e = refl
by_1 false true unsound above e = absurd (omega (arith, ap number_of e))
by_1 false false true above e = absurd (omega (arith, ap number_of e))
by_1 false false false true e = absurd (omega (arith, ap number_of e))
by_1 false false false false e = absurd (omega (arith, ap number_of e))

by_14 : (wrong stands unsound above : Bool) → answered wrong stands unsound above ≡ Err 14 → (wrong ≡ false) × (stands ≡ true)
by_14 true stands unsound above e = absurd (omega (arith, ap number_of e))
by_14 false true unsound above e = (refl, refl)
by_14 false false true above e = absurd (omega (arith, ap number_of e))
by_14 false false false true e = absurd (omega (arith, ap number_of e))
by_14 false false false false e = absurd (omega (arith, ap number_of e))

by_15 : (wrong stands unsound above : Bool) → answered wrong stands unsound above ≡ Err 15 → (wrong ≡ false) × (stands ≡ false) × (unsound ≡ true)
by_15 true stands unsound above e = absurd (omega (arith, ap number_of e))
by_15 false true unsound above e = absurd (omega (arith, ap number_of e))
by_15 false false true above e = (refl, refl, refl)
by_15 false false false true e = absurd (omega (arith, ap number_of e))
by_15 false false false false e = absurd (omega (arith, ap number_of e))

by_16 : (wrong stands unsound above : Bool) → answered wrong stands unsound above ≡ Err 16 → (wrong ≡ false) × (stands ≡ false) × (unsound ≡ false) × (above ≡ true)
by_16 true stands unsound above e = absurd (omega (arith, ap number_of e))
by_16 false true unsound above e = absurd (omega (arith, ap number_of e))
by_16 false false true above e = absurd (omega (arith, ap number_of e))
by_16 false false false true e = (refl, refl, refl, refl)
by_16 false false false false e = absurd (omega (arith, ap number_of e))

by_none : (wrong stands unsound above : Bool) → answered wrong stands unsound above ≡ Ok tt → (wrong ≡ false) × (stands ≡ false) × (unsound ≡ false) × (above ≡ false)
by_none true stands unsound above e = absurd (omega (arith, ap number_of e))
by_none false true unsound above e = absurd (omega (arith, ap number_of e))
by_none false false true above e = absurd (omega (arith, ap number_of e))
by_none false false false true e = absurd (omega (arith, ap number_of e))
by_none false false false false e = (refl, refl, refl, refl)

-- A refusal leaves the second book, and the call writes it where there is none.
module _ (old second : Words) where
  outcome_by : (refusal : Option ℕ) → (carried_by refusal old second).0 ≡ outcome_of refusal
  outcome_by none = refl
  outcome_by (some number) = refl

  kept_by_lem : (refusal : Option ℕ) (number : ℕ) → (carried_by refusal old second).0 ≡ Err number → (carried_by refusal old second).1 ≡ second
  kept_by_lem none number e = absurd (let never : ◌≡◌ {A = ℕ} 0 1 = cc in omega arith)
  kept_by_lem (some other) number e = refl

  written_by_lem : (refusal : Option ℕ) → (carried_by refusal old second).0 ≡ Ok tt → (carried_by refusal old second).1 ≡ carried old
  written_by_lem none e = refl
  written_by_lem (some number) e = absurd (let never : ◌≡◌ {A = ℕ} 0 1 = cc in omega arith)

-- The first test, as facts on lengths.
module _ (old second : Words) where
  pub whole_right : BothWhole old second → either_length_wrong old second ≡ false
  unfolding some_holds
  whole_right (first, other) = rw (eq-eqb (length old) words_in_book first, eq-eqb (length second) words_in_book other)

  pub old_wrong : length old ≢ words_in_book → either_length_wrong old second ≡ true
  unfolding some_holds
  old_wrong n = rw (ne_eqb (length old) words_in_book n)

  pub second_wrong : length second ≢ words_in_book → either_length_wrong old second ≡ true
  unfolding some_holds
  second_wrong n = by (book_length_wrong old) (book_length_wrong second) (rw (ne_eqb (length second) words_in_book n))
    where
      by : (one two : Bool) → two ≡ true → some_holds (one ∷ two ∷ []) ≡ true
      by true two e = refl
      by false two e = rw e

  -- Both lengths are right, or one is not.
  lengths : BothWhole old second ⊎ ((length old ≢ words_in_book) ⊎ (length second ≢ words_in_book))
  lengths = elim (ℕ_discrete (length old) words_in_book) [
    | yes first ↦ elim (ℕ_discrete (length second) words_in_book) [ yes other ↦ inl (first, other) | no n ↦ inr (inr n) ]
    | no n ↦ inr (inl n)
  ]

  either_wrong : (length old ≢ words_in_book) ⊎ (length second ≢ words_in_book) → either_length_wrong old second ≡ true
  either_wrong (inl n) = old_wrong n
  either_wrong (inr n) = second_wrong n

  right_whole : either_length_wrong old second ≡ false → BothWhole old second
  right_whole e = elim lengths [ inl whole ↦ whole | inr n ↦ absurd (true≢false (sym (either_wrong n) ∙ e)) ]

  wrong_either : either_length_wrong old second ≡ true → (length old ≢ words_in_book) ⊎ (length second ≢ words_in_book)
  wrong_either e = elim lengths [ inl whole ↦ absurd (false≢true (sym (whole_right whole) ∙ e)) | inr n ↦ n ]

-- The last two tests, as facts on the plain book that the old words are of.
module _ (old : Words) where
  unsound_none : not (is_sound_in ThreeWords old) ≡ true → ¬ OfSomePlainBook ThreeWords old
  unsound_none e some_book = false≢true (sym (not-true _ e) ∙ (sound_exactly ThreeWords old).1 some_book)

  none_unsound : ¬ OfSomePlainBook ThreeWords old → not (is_sound_in ThreeWords old) ≡ true
  none_unsound never = by (is_sound_in ThreeWords old) refl
    where
      by : (sound : Bool) → is_sound_in ThreeWords old ≡ sound → not (is_sound_in ThreeWords old) ≡ true
      by true e = absurd (never ((sound_exactly ThreeWords old).0 e))
      by false e = ap not e

  book_of_lem : (above : Bool) → not (is_sound_in ThreeWords old) ≡ false → leg_above (plain_in ThreeWords old) ≡ above → OfBookWith above old
  book_of_lem above sound e =
      let (plain, keeps, agree) = (sound_exactly ThreeWords old).0 (not-false _ sound) in
      (plain, keeps, agree, subst (λ book. leg_above book ≡ above) (words_tell_lists ThreeWords old plain keeps agree) e)

  of_book : (above : Bool) → OfBookWith above old → (not (is_sound_in ThreeWords old) ≡ false) × (leg_above (plain_in ThreeWords old) ≡ above)
  of_book above (plain, keeps, agree, e) = (
    ap not ((sound_exactly ThreeWords old).1 (plain, keeps, agree)),
    ap leg_above (words_tell_lists ThreeWords old plain keeps agree) ∙ e,
  )

module _ (old second : Words) (tickets : Tickets) where
  abbrev wrong : Bool
  wrong = either_length_wrong old second

  abbrev stands : Bool
  stands = ticket_stands tickets

  abbrev unsound : Bool
  unsound = not (is_sound_in ThreeWords old)

  abbrev above : Bool
  above = leg_above (plain_in ThreeWords old)

  -- An answer comes exactly with the tests that make it.
  exactly : (answer : Outcome) (Tests : Type 0) → (answered wrong stands unsound above ≡ answer → Tests) → (Tests → answered wrong stands unsound above ≡ answer)
      → ((carry_of old second tickets).0 ≡ answer) ↔ Tests
  unfolding carry_of carry_refusal carry_checks
  exactly answer Tests there back =
      let is = outcome_by old second (first_of (carry_checks old second tickets)) in
      (λ e. there (sym is ∙ e), λ tests. is ∙ back tests)

  answered_exactly : CarryAnswered old second tickets
  unfolding carry_of
  answered_exactly = record {
    wrong_length = exactly (Err 1) _ (λ e. wrong_either old second (by_1 wrong stands unsound above e)) (λ n i. answered (either_wrong old second n i) stands unsound above);
    a_ticket_stands = exactly (Err 14) _
        (λ e. let tests = by_14 wrong stands unsound above e in (right_whole old second tests.0, tests.1))
        (λ (whole, standing) i. answered (whole_right old second whole i) (standing i) unsound above);
    unsound = exactly (Err 15) _
        (λ e. let tests = by_15 wrong stands unsound above e in ((right_whole old second tests.0, tests.1), unsound_none old tests.2))
        (λ ((whole, empty), never) i. answered (whole_right old second whole i) (empty i) (none_unsound old never i) above);
    a_leg_above = exactly (Err 16) _
        (λ e. let tests = by_16 wrong stands unsound above e in ((right_whole old second tests.0, tests.1), book_of_lem old true tests.2 tests.3))
        (λ ((whole, empty), book) i. answered (whole_right old second whole i) (empty i) ((of_book old true book).0 i) ((of_book old true book).1 i));
    done = exactly (Ok tt) _
        (λ e. let tests = by_none wrong stands unsound above e in ((right_whole old second tests.0, tests.1), book_of_lem old false tests.2 tests.3))
        (λ ((whole, empty), book) i. answered (whole_right old second whole i) (empty i) ((of_book old false book).0 i) ((of_book old false book).1 i));
    kept = kept_by_lem old second (carry_refusal old second tickets);
    written = written_by_lem old second (carry_refusal old second tickets);
  }

pub carry_answers : CarryAnswers
carry_answers = answered_exactly

-- The second book after it is what was carried over, so it has the lists.
pub done_carries_the_lists : DoneCarriesTheLists
done_carries_the_lists old second tickets done =
    let (ready, (plain, sound, agree, low)) = (carry_answers old second tickets).done.0 done in
    let (here, whole, words) = carries_the_lists old plain sound agree low in
    let left = sym ((carry_answers old second tickets).written done) in
    record {
      lists = plain;
      there = sound;
      old_words = agree;
      here = here;
      whole = subst (λ (after : Words). length after ≡ words_in_book) left whole;
      words = subst (λ (after : Words). WordsOf FourWords after plain) left words;
    }

-- What the call comes to, by its tests as the code makes them.
module _ (old second : Words) (tickets : Tickets) where
  pub refused_1 : either_length_wrong old second ≡ true → (Err 1, second) ≡ carry_of old second tickets
  unfolding carry_of carry_refusal carry_checks
  refused_1 wrong = sym (rw wrong)

  module _ (right : either_length_wrong old second ≡ false) where
    pub refused_14 : ticket_stands tickets ≡ true → (Err 14, second) ≡ carry_of old second tickets
    unfolding carry_of carry_refusal carry_checks
    refused_14 stands = sym (rw (right, stands))

    module _ (empty : ticket_stands tickets ≡ false) where
      pub refused_15 : is_sound_in ThreeWords old ≡ false → (Err 15, second) ≡ carry_of old second tickets
      unfolding carry_of carry_refusal carry_checks
      refused_15 unsound = sym (rw (right, empty, unsound))

      module _ (sound : is_sound_in ThreeWords old ≡ true) where
        pub refused_16 : leg_above (plain_in ThreeWords old) ≡ true → (Err 16, second) ≡ carry_of old second tickets
        unfolding carry_of carry_refusal carry_checks
        refused_16 above = sym (rw (right, empty, sound, above))

        pub done_by_lem : leg_above (plain_in ThreeWords old) ≡ false → (Ok tt, carried old) ≡ carry_of old second tickets
        unfolding carry_of carry_refusal carry_checks
        done_by_lem low = sym (rw (right, empty, sound, low))
