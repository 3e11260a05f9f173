-- What the code writes is what is carried over: word by word, and the newer words leg by leg.
use Prim.Native.Nat.{ℕ, zero, suc, ◌+◌, ◌-◌, ◌/◌, ◌%◌, ◌≤◌, ◌<◌}
use mathlib.Core.Path.{◌≡◌, refl, sym, ap, ◌∙◌}
use mathlib.Core.Bool.{Bool, true, false, cond}
use mathlib.Core.Logic.{◌≢◌}
use native.Mathlib.Omega.{arith}
use native.Mathlib.Decide.{ℕ_discrete, dec_lt}
use lib.Dec.{eqb, leb}
use lib.ListN.{length, set, length-set}
use lib.Seq.{get_or-set_same, get_or-set_other, ext_get_or}
use borrow.Author.Tests.{eq-eqb, ne_eqb, lt-ltb, le-ltb, le-leb, lt-leb}
use Rattle.words.specs.declared.LegLayout.TheVariants.{ThreeWords, FourWords}
use Rattle.words.specs.Words.{Words, words_in_book, last_leg, first_leg_word, leg_words, link_word_in, newer_word, read_of}
use Rattle.plain.specs.Plain.{Plain, word_in, word_of, SoundIn, Sound}
use Rattle.plain.proofs.LaidOut.{of_passage, leg_word_lem}
use Rattle.soundness.specs.Checking.{is_sound_in}
use Rattle.soundness.specs.InWords.{plain_in}
use Rattle.soundness.specs.Soundness.{WordsOf}
use Rattle.soundness.proofs.Soundness.{sound_exactly}
use Rattle.soundness.proofs.Telling.{words_tell_lists}
use Rattle.carrying.specs.Carrying.{leg_above, words_from, laid_out, carried}
use Rattle.carrying.proofs.Carrying.{length_from, read_whole, length_laid_out, laid_out_words, carried_is, sound_carried}
use Rattle.carrying.proofs.Links.{links, newers}
use Rattle.carry.specs.Writing.{index_in_leg, leg_of_word, moved_word, with_newer, newers_set, LinksFit}

-- A word moved, by where it stands.
module _ (old : Words) (word : ℕ) where
  pub moved_passage : word < first_leg_word → moved_word old word ≡ read_of old word
  moved_passage passage = rw (lt-ltb word first_leg_word passage)

  module _ (behind : first_leg_word ≤ word) where
    pub moved_fourth : index_in_leg word ≡ leg_words ThreeWords → moved_word old word ≡ 0
    moved_fourth fourth = rw (le-ltb word first_leg_word behind, eq-eqb (index_in_leg word) (leg_words ThreeWords) fourth)

    pub moved_leg : index_in_leg word ≢ leg_words ThreeWords → moved_word old word ≡ read_of old (link_word_in ThreeWords (leg_of_word word) + index_in_leg word)
    moved_leg other = rw (le-ltb word first_leg_word behind, ne_eqb (index_in_leg word) (leg_words ThreeWords) other)

-- The newer words set leave the book's length.
length_newer : (words : Words) (older leg : ℕ) → length (with_newer words older leg) ≡ length words
length_newer words older leg = by (eqb older 0)
  where
    by : (none : Bool) → length (cond none words (set words (newer_word older) leg)) ≡ length words
    by true = refl
    by false = length-set words (newer_word older) leg

pub length_newers : (old : Words) (n : ℕ) (words : Words) → length (newers_set old n words) ≡ length words
unfolding newers_set
length_newers old zero words = refl
length_newers old (suc n) words = length_newer (newers_set old n words) (read_of old (link_word_in ThreeWords (suc n))) (suc n) ∙ length_newers old n words

-- They are set leg by leg.
pub newers_none : (old words : Words) → newers_set old 0 words ≡ words
unfolding newers_set
newers_none old words = refl

pub newers_next : (old : Words) (leg : ℕ) (words : Words) → 1 ≤ leg → newers_set old leg words ≡ with_newer (newers_set old (leg - 1) words) (read_of old (link_word_in ThreeWords leg)) leg
unfolding newers_set
newers_next old zero words least = absurd (omega arith)
newers_next old (suc n) words least = let less : n ≡ suc n - 1 = omega arith in ap (λ (m : ℕ). with_newer (newers_set old m words) (read_of old (link_word_in ThreeWords (suc n))) (suc n)) less

-- What a link sets, and what it leaves.
module _ (words : Words) (older leg : ℕ) where
  pub newer_none : older ≡ 0 → with_newer words older leg ≡ words
  newer_none none = rw (eq-eqb older 0 none)

  pub newer_put : older ≢ 0 → with_newer words older leg ≡ set words (newer_word older) leg
  newer_put some = rw (ne_eqb older 0 some)

  newer_keeps : (word : ℕ) → (older ≢ 0 → word ≢ newer_word older) → read_of (with_newer words older leg) word ≡ read_of words word
  newer_keeps word apart = elim (ℕ_discrete older 0) [
    | yes none ↦ ap (λ (w : Words). read_of w word) (newer_none none)
    | no some ↦ ap (λ (w : Words). read_of w word) (newer_put some) ∙ get_or-set_other words (newer_word older) word leg 0 (apart some)
  ]

-- A word that is no leg's newer word stays.
pub newers_keep : (old : Words) (n : ℕ) (words : Words) (word : ℕ) → ((s : ℕ) → s ≢ 0 → word ≢ newer_word s) → read_of (newers_set old n words) word ≡ read_of words word
unfolding newers_set
newers_keep old zero words word apart = refl
newers_keep old (suc n) words word apart =
    newer_keeps (newers_set old n words) (read_of old (link_word_in ThreeWords (suc n))) (suc n) word (apart (read_of old (link_word_in ThreeWords (suc n))))
    ∙ newers_keep old n words word apart

-- An old book of a plain one, which the new layout has room for.
module _ (old : Words) (plain : Plain) (keeps : SoundIn ThreeWords plain) (agree : WordsOf ThreeWords old plain) (low : leg_above plain ≡ false) where
  sound : Sound plain
  sound = sound_carried plain keeps low

  abbrev newer_is : ℕ → ℕ
  newer_is s = word_of plain (newer_word s)

  -- A link of the old book, as the plain book has it.
  link_read : (r : ℕ) → 1 ≤ r → r ≤ last_leg → read_of old (link_word_in ThreeWords r) ≡ word_in ThreeWords plain (link_word_in ThreeWords r)
  link_read r least most = agree (link_word_in ThreeWords r) (omega arith)

  links_fit : LinksFit old
  links_fit r least most = elim (ℕ_discrete (read_of old (link_word_in ThreeWords r)) 0) [
    | yes none ↦ omega (arith, none)
    | no some ↦
        let behind = links plain keeps sound r least (λ e. some (link_read r least most ∙ e)) in
        omega (arith, link_read r least most, behind.older_fits.1)
  ]

  -- The newer word of a leg, while the links of legs 1 to n are done: set, if the newer leg is one of them.
  abbrev set_by : ℕ → ℕ → ℕ
  set_by n newer = cond (leb newer n) newer 0

  set_next : (n newer : ℕ) → newer ≢ suc n → set_by n newer ≡ set_by (suc n) newer
  set_next n newer other = elim (dec_lt n newer) [
    | yes above ↦ ap (λ b. cond b newer 0) (lt-leb newer n above) ∙ sym (ap (λ b. cond b newer 0) (lt-leb newer (suc n) (omega arith)))
    | no below ↦ ap (λ b. cond b newer 0) (le-leb newer n (omega arith)) ∙ sym (ap (λ b. cond b newer 0) (le-leb newer (suc n) (omega arith)))
  ]

  set_all : (n newer : ℕ) → newer ≤ n → set_by n newer ≡ newer
  set_all n newer below = ap (λ b. cond b newer 0) (le-leb newer n below)

  set_none : (newer : ℕ) → set_by 0 newer ≡ 0
  set_none newer = elim (ℕ_discrete newer 0) [
    | yes none ↦ set_all 0 newer (omega arith) ∙ none
    | no some ↦ ap (λ b. cond b newer 0) (lt-leb newer 0 (omega arith))
  ]

  newers_told : (base : Words) → length base ≡ words_in_book → ((s : ℕ) → 1 ≤ s → s ≤ last_leg → read_of base (newer_word s) ≡ 0)
      → (n : ℕ) → n ≤ last_leg → (s : ℕ) → 1 ≤ s → s ≤ last_leg → read_of (newers_set old n base) (newer_word s) ≡ set_by n (newer_is s)
  unfolding newers_set
  newers_told base whole zeros zero most s above below = zeros s above below ∙ sym (set_none (newer_is s))
  newers_told base whole zeros (suc n) most s above below =
      by (read_of old (link_word_in ThreeWords (suc n))) (link_read (suc n) (omega arith) most) (newers_told base whole zeros n (omega arith) s above below)
    where
      by : (older : ℕ) → older ≡ word_in ThreeWords plain (link_word_in ThreeWords (suc n)) → read_of (newers_set old n base) (newer_word s) ≡ set_by n (newer_is s)
          → read_of (with_newer (newers_set old n base) older (suc n)) (newer_word s) ≡ set_by (suc n) (newer_is s)
      by older is so_far = elim (ℕ_discrete older s) [
        | yes same ↦
            let behind = links plain keeps sound (suc n) (omega arith) (λ e. omega (arith, same, is, e)) in
            let named : newer_is s ≡ suc n = ap newer_is (sym same ∙ is) ∙ behind.newer_is_lem in
            let inside : newer_word s < length (newers_set old n base) = omega (arith, length_newers old n base) in
            ap (λ (words : Words). read_of words (newer_word s)) (newer_put (newers_set old n base) older (suc n) (λ e. omega (arith, same, e)))
            ∙ ap (λ (t : ℕ). read_of (set (newers_set old n base) (newer_word t) (suc n)) (newer_word s)) same
            ∙ get_or-set_same (newers_set old n base) (newer_word s) (suc n) 0 inside
            ∙ sym named
            ∙ sym (set_all (suc n) (newer_is s) (omega (arith, named)))
        | no apart ↦
            newer_keeps (newers_set old n base) older (suc n) (newer_word s) (λ some e. apart (omega (arith, some, e)))
            ∙ so_far
            ∙ set_next n (newer_is s) (λ e. apart (is ∙ ap (λ (r : ℕ). word_in ThreeWords plain (link_word_in ThreeWords r)) (sym e) ∙ (newers plain keeps sound s above (λ none. omega (arith, e, none))).link_is_lem))
      ]

  -- A word that is no newer word has moved to its place.
  moved_is : (word : ℕ) → word < words_in_book → (first_leg_word ≤ word → index_in_leg word ≢ leg_words ThreeWords) → moved_word old word ≡ word_of plain word
  moved_is word inside not_newer = elim (dec_lt word first_leg_word) [
    | yes passage ↦
        moved_passage old word passage
        ∙ agree word inside
        ∙ of_passage ThreeWords plain word (word / 2) (word % 2) passage refl refl
        ∙ sym (of_passage FourWords plain word (word / 2) (word % 2) passage refl refl)
    | no leg ↦
        let behind : first_leg_word ≤ word = omega arith in
        let few : index_in_leg word < 3 = omega (arith, not_newer behind) in
        let here : word ≡ link_word_in FourWords (leg_of_word word) + index_in_leg word = omega arith in
        moved_leg old word behind (not_newer behind)
        ∙ agree (link_word_in ThreeWords (leg_of_word word) + index_in_leg word) (omega arith)
        ∙ leg_word_lem ThreeWords plain (leg_of_word word) (index_in_leg word) (omega arith) few
        ∙ sym (leg_word_lem FourWords plain (leg_of_word word) (index_in_leg word) (omega arith) few)
        ∙ sym (ap (word_of plain) here)
  ]

  -- A leg's fourth word is 0 at first.
  moved_newer : (s : ℕ) → 1 ≤ s → moved_word old (newer_word s) ≡ 0
  moved_newer s least = moved_fourth old (newer_word s) (omega arith) (omega arith)

  abbrev moved : Words
  moved = words_from (moved_word old) 0 words_in_book

  moved_read : (word : ℕ) → word < words_in_book → read_of moved word ≡ moved_word old word
  moved_read word inside = read_whole (moved_word old) word inside

  -- At the end each word is the plain book's.
  word_written : (word : ℕ) → word < words_in_book → read_of (newers_set old last_leg moved) word ≡ word_of plain word
  word_written word inside = elim (dec_lt word first_leg_word) [
    | yes passage ↦ newers_keep old last_leg moved word (λ s some e. omega (arith, e)) ∙ moved_read word inside ∙ moved_is word inside (λ behind. absurd (omega arith))
    | no leg ↦ elim (ℕ_discrete (index_in_leg word) 3) [
      | yes fourth ↦
          let s = leg_of_word word in
          let here : word ≡ newer_word s = omega arith in
          let newest : newer_is s ≤ last_leg = newer_most s (omega arith) in
          ap (read_of (newers_set old last_leg moved)) here
          ∙ newers_told moved (length_from (moved_word old) 0 words_in_book) (λ t above below. moved_read (newer_word t) (omega arith) ∙ moved_newer t above) last_leg (omega arith) s (omega arith) (omega arith)
          ∙ set_all last_leg (newer_is s) newest
          ∙ sym (ap (word_of plain) here)
      | no other ↦ newers_keep old last_leg moved word (λ s some e. other (omega arith)) ∙ moved_read word inside ∙ moved_is word inside (λ behind. other)
    ]
  ]
    where
      newer_most : (s : ℕ) → 1 ≤ s → newer_is s ≤ last_leg
      newer_most s least = elim (ℕ_discrete (newer_is s) 0) [
        | yes none ↦ omega (arith, none)
        | no some ↦ (newers plain keeps sound s least some).newer_fits.1
      ]

  written : newers_set old last_leg moved ≡ carried old
  written =
      let whole = length_newers old last_leg moved ∙ length_from (moved_word old) 0 words_in_book in
      ext_get_or 0 (newers_set old last_leg moved) (laid_out FourWords plain) (whole ∙ sym (length_laid_out FourWords plain))
      (λ word inside. let small : word < words_in_book = omega (arith, whole, inside) in word_written word small ∙ sym (laid_out_words FourWords plain word small))
      ∙ sym (carried_is old plain keeps agree)

-- So it is of an old book that passes the checks.
module _ (old : Words) (passes : is_sound_in ThreeWords old ≡ true) (fits : leg_above (plain_in ThreeWords old) ≡ false) where
  pub old_links_fit : LinksFit old
  old_links_fit =
      let (plain, keeps, agree) = (sound_exactly ThreeWords old).0 passes in
      links_fit old plain keeps agree (sym (ap leg_above (words_tell_lists ThreeWords old plain keeps agree)) ∙ fits)

  pub old_written : newers_set old last_leg (words_from (moved_word old) 0 words_in_book) ≡ carried old
  old_written =
      let (plain, keeps, agree) = (sound_exactly ThreeWords old).0 passes in
      written old plain keeps agree (sym (ap leg_above (words_tell_lists ThreeWords old plain keeps agree)) ∙ fits)
