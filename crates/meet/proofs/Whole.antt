-- The whole list, part by part: the number of legs, the legs, the number of pairs, the pairs.
use Rattle.std.specs.Prelude.{Ok, Err}
use Prim.Native.Nat.{ℕ, ◌+◌, ◌≤◌, ◌<◌}
use mathlib.Core.Path.{◌≡◌, refl, sym, ap, ◌∙◌}
use mathlib.Core.List.{List, [], ◌∷◌, ◌++◌, append-nil}
use mathlib.Core.Bool.{true}
use native.Mathlib.Omega.{arith}
use lib.ListN.{length, drop}
use lib.Seq.{sets-eq}
use borrow.Author.Tests.{lt-ltb, le-ltb}
use Rattle.words.specs.declared.LegLayout.TheVariants.{FourWords}
use Rattle.words.specs.Words.{Words, words_in_book}
use Rattle.plain.specs.Plain.{Plain}
use Rattle.soundness.specs.Checking.{is_sound}
use Rattle.soundness.specs.InWords.{plain_in}
use Rattle.meeting.specs.Meeting.{legs_at, pairs_of, listed_words, pair_words, station_words, station_list, at_front, meeting_of}
use Rattle.meeting.specs.Statements.{longest_list}
use Rattle.meeting.proofs.Telling.{sound_written}
use Rattle.meeting.proofs.Rising.{room_for_every_list}
use Rattle.stations.specs.declared.Size.{Size}
use Rattle.stations.specs.Counting.{counts_at, present_from, size_of, list_length}
use Rattle.listing.specs.Listing.{wrote}
use Rattle.listing.proofs.Continuing.{Continues, begins, goes_on_lem, all_written_lem}
use Rattle.stations.proofs.Walking.{plain_sound}
use Rattle.stations.proofs.Counting.{sum_counts, present_counts, size_legs, size_pairs, length_list}

module _ (station : ℕ) (plain : Plain) (counts : List ℕ) (size : Size) (counted : counts ≡ counts_at station plain) (sized : size ≡ size_of counts) where
  legs_part : Words
  legs_part = listed_words (legs_at station plain)

  pairs_part : Words
  pairs_part = pair_words (pairs_of (present_from 0 counts))

  -- The list by what was counted.
  list_parts : station_words station plain ≡ size.legs ∷ (legs_part ++ (size.pairs ∷ pairs_part))
  unfolding station_words legs_part pairs_part
  list_parts =
      let same : size_of counts ≡ size = sym sized in
      let legs : length (legs_at station plain) ≡ size.legs =
      sym (sum_counts station plain) ∙ sym (size_legs (counts_at station plain)) ∙ ap (λ l. (size_of l).legs) (sym counted) ∙ ap (λ (s : Size). s.legs) same in
      let present = sym (present_counts station 0 plain) ∙ ap (present_from 0) (sym counted) in
      let pairs = ap (λ l. length (pairs_of l)) present ∙ sym (size_pairs 0 counts) ∙ ap (λ (s : Size). s.pairs) same in
      λ i. legs i ∷ listed_words (legs_at station plain) ++ (pairs i ∷ pair_words (pairs_of (present i)))

  pub list_length_lem : length (station_words station plain) ≡ list_length size
  list_length_lem = length_list station plain ∙ ap (λ l. list_length (size_of l)) (sym counted) ∙ ap list_length (sym sized)

  module _ (out : Words) (room : list_length size ≤ length out) where
    -- The number of legs is written.
    module _ (at₁ : ℕ) (out₁ : Words) (number_written : (at₁, out₁) ≡ wrote out 0 (size.legs ∷ [])) where
      pub legs_next : Continues out₁ at₁ (listed_words (legs_at station plain) ++ (size.pairs ∷ pair_words (pairs_of (present_from 0 counts)))) out 0 (station_words station plain)
      unfolding legs_part pairs_part
      legs_next = goes_on_lem out 0 _ out 0 _ (begins out 0 (station_words station plain) (omega (arith, room, list_length_lem))) (size.legs ∷ []) _ list_parts at₁ out₁ number_written

      -- The legs are.
      module _ (at₂ : ℕ) (out₂ : Words) (legs_written : (at₂, out₂) ≡ wrote out₁ at₁ (listed_words (legs_at station plain))) where
        pub pairs_number_next : Continues out₂ at₂ (size.pairs ∷ pair_words (pairs_of (present_from 0 counts))) out 0 (station_words station plain)
        pairs_number_next = goes_on_lem _ _ _ _ _ _ legs_next (listed_words (legs_at station plain)) _ refl at₂ out₂ legs_written

        -- The number of pairs is.
        module _ (at₃ : ℕ) (out₃ : Words) (pairs_number_written : (at₃, out₃) ≡ wrote out₂ at₂ (size.pairs ∷ [])) where
          pub pairs_next : Continues out₃ at₃ (pair_words (pairs_of (present_from 0 counts))) out 0 (station_words station plain)
          pairs_next = goes_on_lem _ _ _ _ _ _ pairs_number_next (size.pairs ∷ []) _ refl at₃ out₃ pairs_number_written

          -- The pairs are, and so the whole is written.
          pub list_written : (r : ℕ) (last : Words) → (r, last) ≡ wrote out₃ at₃ (pair_words (pairs_of (present_from 0 counts)))
              → (r ≡ length (station_words station plain)) × (last ≡ at_front out (station_words station plain))
          list_written r last pairs_written =
              let pairs = pair_words (pairs_of (present_from 0 counts)) in
              let done = all_written_lem _ _ _ _ _ _ (goes_on_lem _ _ _ _ _ _ pairs_next pairs [] (sym (append-nil pairs)) r last pairs_written) refl in
              let list = station_words station plain in
              let zero_more : 0 + length list ≡ length list = omega arith in (
                ap (λ (told : ℕ × Words). told.0) done ∙ zero_more,
                ap (λ (told : ℕ × Words). told.1) done ∙ sets-eq list out 0 (omega (arith, room, list_length_lem)) ∙ ap (λ (n : ℕ). list ++ drop n out) zero_more,
              )

-- The answer over a sound book, by whether its list has room.
module _ (words : Words) (station : ℕ) (out : Words) (whole : length words ≡ words_in_book) (sound : is_sound words ≡ true) where
  pub refused_21 : length out < length (station_list words station) → meeting_of words station out ≡ (Err 21, out)
  refused_21 short = sound_written words station out whole sound ∙ rw (lt-ltb (length out) (length (station_list words station)) short)

  pub list_out : length (station_list words station) ≤ length out → meeting_of words station out ≡ (Ok (length (station_list words station)), at_front out (station_list words station))
  list_out long = sound_written words station out whole sound ∙ rw (le-ltb (length out) (length (station_list words station)) long)

-- The words of the list of a sound book are few.
pub words_few : (words : Words) → is_sound words ≡ true → (station : ℕ) (counts : List ℕ) (size : Size) → counts ≡ counts_at station (plain_in FourWords words) → size ≡ size_of counts
    → list_length size ≤ longest_list
words_few words sound station counts size counted sized =
    omega (arith, list_length_lem station (plain_in FourWords words) counts size counted sized, room_for_every_list station (plain_in FourWords words) (plain_sound words sound))
