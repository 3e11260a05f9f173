-- What the fields of a view are read as: the words that it names, one after another, the tests of them, and the answer.
use mathlib.Core.Path.{◌≡◌, sym, ap, ◌∙◌}
use mathlib.Core.Bool.{true, false}
use mathlib.Core.List.{List, [], ◌∷◌, ◌++◌, append_assoc}
use Prim.Native.Nat.{ℕ, zero, suc, ◌+◌, ◌*◌, ◌-◌, ◌/◌, ◌<◌}
use native.Mathlib.Numerals.{add-one}
use native.Mathlib.Omega.{arith}
use lib.Dec.{eqb}
use lib.ListN.{length, set, take, replicate, length-append}
use lib.Seq.{take_at, set_at}
use borrow.Author.Tests.{eq-eqb, ne_eqb}
use Rattle.std.specs.Prelude.{Ok, Err}
use Rattle.words.specs.Tests.{all_hold, distinct}
use Rattle.words.specs.Words.{most_named}
use Rattle.edits.specs.Views.{all_in_book, view_in_range, view_repeats, padded_names}
use Rattle.frames.specs.Numbers.{Bytes, number16, numbers16}
use Rattle.frames.specs.Requests.{view_words_in}
use Rattle.frames.specs.Fields.{view_read}
use Rattle.frames.proofs.Bytes.{length_numbers16}

-- So many numbers of 16 bits, and one more behind them.
another16 : (many : ℕ) (bytes : Bytes) (at : ℕ) → numbers16 (suc many) bytes at ≡ numbers16 many bytes at ++ (number16 bytes (at + 2 * many) ∷ [])
unfolding numbers16
another16 zero bytes at =
    let here : at ≡ at + 2 * 0 = omega arith in
    ap (λ (k : ℕ). number16 bytes k ∷ []) here
another16 (suc many) bytes at =
    let there : at + 2 + 2 * many ≡ at + 2 * suc many = omega arith in
    ap (λ (rest : List ℕ). number16 bytes at ∷ rest)
    (another16 many bytes (at + 2) ∙ ap (λ (k : ℕ). numbers16 many bytes (at + 2) ++ (number16 bytes k ∷ [])) there)

-- A number put where the zeros begin.
put_next : (before : List ℕ) (k number : ℕ) → length before ≡ k → k < most_named → set (padded_names before) k number ≡ padded_names (before ++ (number ∷ []))
put_next before k number size room =
    let free : most_named - length before ≡ suc (most_named - (k + 1)) = omega arith in
    let long : length (before ++ (number ∷ [])) ≡ k + 1 = length-append before (number ∷ []) ∙ ap (λ (i : ℕ). i + 1) size in
    ap (λ (i : ℕ). set (before ++ replicate i 0) k number) free
    ∙ set_at before 0 (replicate (most_named - (k + 1)) 0) number k size
    ∙ sym (append_assoc before (number ∷ []) (replicate (most_named - (k + 1)) 0))
    ∙ ap (λ (i : ℕ). (before ++ (number ∷ [])) ++ replicate (most_named - i) 0) (sym long)

-- One more word of a view, after k of them.
pub word_read : (part : Bytes) (k word : ℕ) → k < most_named → word ≡ number16 part (4 + 2 * k) → set (padded_names (numbers16 k part 4)) k word ≡ padded_names (numbers16 (k + 1) part 4)
word_read part k word room is =
    put_next (numbers16 k part 4) k word (length_numbers16 k part 4) room
    ∙ ap (λ (v : ℕ). padded_names (numbers16 k part 4 ++ (v ∷ []))) is
    ∙ ap padded_names (sym (another16 k part 4))
    ∙ ap (λ (i : ℕ). padded_names (numbers16 i part 4)) (sym (add-one k))

-- A view whose n isn't the count of its words is refused by 10.
pub miscounted : (part : Bytes) {n : ℕ} → n ≡ number16 part 2 → (n ≡ (length part - 4) / 2 → ⊥) → Err 10 ≡ view_read (number16 part 2) (view_words_in part)
unfolding view_read view_in_range all_hold
miscounted part is other =
    simp (ne_eqb (number16 part 2) (length (view_words_in part)) (λ same. other (is ∙ same ∙ length_numbers16 ((length part - 4) / 2) part 4)))

-- Where it is, and the words stand in their room, zeros behind them:
module _ (part : Bytes) {n : ℕ} {room : List ℕ} (is : n ≡ number16 part 2) (same : n ≡ (length part - 4) / 2) (held : room ≡ padded_names (view_words_in part)) where
  abbrev many : ℕ
  many = (length part - 4) / 2

  abbrev words : List ℕ
  words = view_words_in part

  size : length words ≡ many
  size = length_numbers16 many part 4

  counted : eqb (number16 part 2) (length words) ≡ true
  counted = eq-eqb _ _ (sym is ∙ same ∙ sym size)

  there : take many room ≡ words
  there = ap (take many) held ∙ take_at words (replicate (most_named - length words) 0) many size

  -- a word that isn't of the book is refused by 10 too,
  pub outside : all_in_book (take many room) ≡ false → Err 10 ≡ view_read (number16 part 2) words
  unfolding view_read view_in_range all_hold
  outside out = simp (counted, ap all_in_book (sym there) ∙ out)

  -- then one named twice by 11,
  pub repeated : all_in_book (take many room) ≡ true → distinct (take many room) ≡ false → Err 11 ≡ view_read (number16 part 2) words
  unfolding view_read view_in_range view_repeats all_hold
  repeated inside twice = simp (counted, ap all_in_book (sym there) ∙ inside, ap distinct (sym there) ∙ twice)

  -- and any other view is read.
  pub view_read_lem : all_in_book (take many room) ≡ true → distinct (take many room) ≡ true → Ok (record { n = n; words = room }) ≡ view_read (number16 part 2) words
  unfolding view_read view_in_range view_repeats all_hold
  view_read_lem inside once =
      (λ i. Ok (record { n = (same ∙ sym size) i; words = held i }))
      ∙ simp (counted, ap all_in_book (sym there) ∙ inside, ap distinct (sym there) ∙ once)
