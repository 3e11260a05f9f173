-- Over the words of a plain book the call writes that book's list, and over other words it is refused.
use Rattle.std.specs.Prelude.{Ok, Err}
use Prim.Native.Nat.{ℕ}
use mathlib.Core.Path.{◌≡◌, refl, ap, ◌∙◌}
use mathlib.Core.List.{[], ◌∷◌}
use mathlib.Core.Bool.{Bool, true, false, cond, not}
use mathlib.Core.Logic.{◌≢◌}
use lib.ListN.{length}
use borrow.Author.Tests.{eq-eqb, ne_eqb}
use Rattle.words.specs.declared.LegLayout.TheVariants.{FourWords}
use Rattle.words.specs.Words.{Words, words_in_book}
use Rattle.calls.specs.Call.{check, first_of, book_length_wrong}
use Rattle.soundness.specs.Checking.{is_sound}
use Rattle.soundness.specs.Soundness.{OfSomePlainBook}
use Rattle.soundness.proofs.Soundness.{sound_exactly}
use Rattle.soundness.proofs.Telling.{words_tell_lists}
use Rattle.meeting.specs.Meeting.{station_words, station_list, list_too_long, at_front, meeting_checks, meeting_refusal, met_by, meeting_of}
use Rattle.meeting.specs.Statements.{writing, MeetingOfPlainBook, OtherBooksRefused}

-- The call, by its three tests.
by_tests : (words : Words) (station : ℕ) (out : Words)
    → meeting_of words station out
    ≡ cond (book_length_wrong words) (Err 1, out) (cond (not (is_sound words)) (Err 15, out) (writing out (station_list words station)))
unfolding meeting_of meeting_refusal meeting_checks
by_tests words station out = by (book_length_wrong words) (not (is_sound words)) (station_list words station)
  where
    by : (wrong unsound : Bool) (list : Words)
        → met_by (first_of (check 1 wrong ∷ check 15 unsound ∷ check 21 (list_too_long out list) ∷ [])) list out ≡ cond wrong (Err 1, out) (cond unsound (Err 15, out) (writing out list))
    by true unsound list = refl
    by false true list = refl
    by false false list = fits (list_too_long out list)
      where
        fits : (short : Bool)
            → met_by (first_of (check 1 false ∷ check 15 false ∷ check 21 short ∷ [])) list out ≡ cond short (Err 21, out) (Ok (length list), at_front out list)
        fits true = refl
        fits false = refl

module _ (words : Words) (station : ℕ) (out : Words) where
  pub refused_1 : length words ≢ words_in_book → meeting_of words station out ≡ (Err 1, out)
  refused_1 n = by_tests words station out ∙ rw (ne_eqb (length words) words_in_book n)

  pub refused_15 : length words ≡ words_in_book → is_sound words ≡ false → meeting_of words station out ≡ (Err 15, out)
  refused_15 whole e = by_tests words station out ∙ rw (eq-eqb (length words) words_in_book whole, e)

  pub sound_written : length words ≡ words_in_book → is_sound words ≡ true → meeting_of words station out ≡ writing out (station_list words station)
  sound_written whole e = by_tests words station out ∙ rw (eq-eqb (length words) words_in_book whole, e)

pub meeting_of_plain_book : MeetingOfPlainBook
meeting_of_plain_book words out station plain whole sound agree =
    sound_written words station out whole ((sound_exactly FourWords words).1 (plain, sound, agree))
    ∙ ap (λ lists. writing out (station_words station lists)) (words_tell_lists FourWords words plain sound agree)

pub other_books_refused : OtherBooksRefused
other_books_refused words out station = (
  refused_1 words station out,
  λ whole none_of. refused_15 words station out whole (not_sound none_of),
)
  where
    not_sound : ¬ OfSomePlainBook FourWords words → is_sound words ≡ false
    not_sound none_of = by (is_sound words) refl
      where
        by : (b : Bool) → is_sound words ≡ b → is_sound words ≡ false
        by true e = absurd (none_of ((sound_exactly FourWords words).0 e))
        by false e = e
