-- An answer whose fields fit is read back from its frame, and from no other bytes.
use Prim.Native.Nat.{ℕ, zero, suc, ◌/◌, ◌%◌, ◌≤◌, min}
use mathlib.Core.Path.{◌≡◌, refl, sym, ap, ap₂, ◌∙◌}
use mathlib.Core.List.{List, [], ◌∷◌, map}
use mathlib.Core.Bool.{Bool, true, false, cond, false≢true}
use mathlib.Core.Option.{Option, none, some}
use native.Mathlib.Omega.{arith}
use borrow.Author.Tests.{ltb-true, leb-true, eq-eqb, eqb-true, eqb-false}
use lib.Dec.{eqb, leb, ltb}
use lib.ListN.{length, get_or, take, drop}
use lib.Seq.{length-take-le}
use Rattle.words.specs.Tests.{all_hold, within}
use Rattle.words.specs.Words.{most_named}
use Rattle.words.proofs.Tests.{AllTrue, split, is_false}
use Rattle.tickets.specs.declared.Values.{Values}
use Rattle.tickets.specs.Steps.{values_from}
use Rattle.tickets.proofs.Room.{in_room_by}
use Rattle.tickets.specs.declared.StepAnswer.TheVariants.{Claimed, Waiting, Found, Put, Returned, Granted, Stale, Seen}
use Rattle.std.specs.Prelude.{None, Some}
use Rattle.frames.specs.declared.Answer.{Answer}
use Rattle.frames.specs.declared.Answer.TheVariants.{Standing, Step, Look, Refused}
use Rattle.frames.specs.Numbers.{Bytes, number16, number32, number64, numbers64, fields64, fits64}
use Rattle.frames.specs.Answers.{answer_kind, values_shown, answer_fields, answer_frame}
use Rattle.frames.specs.Reading.{values_in, answers_with, all_zero, values_fit, same_bytes, first_framed, answer_in, AnswersReadBack, OnlyAnswersRead}
use Rattle.frames.proofs.Bytes.{back16, back32, back64, numbers_back64, length_fields64}

-- Bytes are the same as themselves, and as no others.
same_self : (bytes : Bytes) → same_bytes bytes bytes ≡ true
same_self [] = refl
same_self (byte ∷ bytes) = simp (eq-eqb byte byte refl) (same_self bytes)

same_equal : (bytes others : Bytes) → same_bytes bytes others ≡ true → bytes ≡ others
same_equal [] [] h = refl
same_equal [] (other ∷ others) h = absurd (false≢true h)
same_equal (byte ∷ bytes) [] h = absurd (false≢true h)
same_equal (byte ∷ bytes) (other ∷ others) h = by (eqb byte other) (eqb-true byte other) (same_equal bytes others) h
  where
    by : (test : Bool) → (test ≡ true → byte ≡ other) → (same_bytes bytes others ≡ true → bytes ≡ others) → cond test (same_bytes bytes others) false ≡ true → byte ∷ bytes ≡ other ∷ others
    by true first rest h = ap₂ (λ (x : ℕ) (xs : Bytes). x ∷ xs) (first refl) (rest h)
    by false first rest h = absurd (false≢true h)

-- An answer that stands first among those that the fields could be of is found.
found : (answer read : Answer) (answers : List Answer) → read ≡ answer → first_framed (answer_frame answer) (read ∷ answers) ≡ some answer
found answer read answers e =
    ap (λ (a : Answer). cond (same_bytes (answer_frame a) (answer_frame answer)) (some a) (first_framed (answer_frame answer) answers)) e
    ∙ simp (same_self (answer_frame answer))

-- One of another kind before it is passed over.
passed : (answer first : Answer) (answers : List Answer) → eqb (answer_kind first % 256) (answer_kind answer % 256) ≡ false → first_framed (answer_frame answer) answers ≡ some answer → first_framed (answer_frame answer) (first ∷ answers) ≡ some answer
unfolding answer_frame
passed answer first answers other rest =
    let differ = is_false (same_bytes (answer_frame first) (answer_frame answer))
    (λ same. eqb-false _ _ other (ap (λ (bytes : Bytes). get_or bytes 2 0) (same_equal (answer_frame first) (answer_frame answer) same))) in
    ap (λ (test : Bool). cond test (some first) (first_framed (answer_frame answer) answers)) differ ∙ rest

-- The values of a view are read back: those shown from the bytes, and the others are zeros.
zeros_behind : (many k : ℕ) (numbers : List ℕ) → AllTrue (map (eqb 0) (drop many numbers)) → get_or (take many numbers) k 0 ≡ get_or numbers k 0
zeros_behind zero k [] h = refl
zeros_behind zero zero (number ∷ numbers) h = eqb-true 0 number h.0
zeros_behind zero (suc k) (number ∷ numbers) h = zeros_behind zero k numbers h.1
zeros_behind (suc many) k [] h = refl
zeros_behind (suc many) zero (number ∷ numbers) h = refl
zeros_behind (suc many) (suc k) (number ∷ numbers) h = zeros_behind many k numbers h

first_fit : (many : ℕ) (numbers : List ℕ) → AllTrue (map fits64 numbers) → AllTrue (map fits64 (take many numbers))
first_fit zero numbers h = tt
first_fit (suc many) [] h = tt
first_fit (suc many) (number ∷ numbers) h = (h.0, first_fit many numbers h.1)

shown_back : (n : ℕ) (numbers : List ℕ) → n ≤ length numbers → AllTrue (map fits64 numbers) → values_in (fields64 (take n numbers)) ≡ values_from n (take n numbers)
shown_back n numbers most fit =
    let part = fields64 (take n numbers) in
    let many : length (take n numbers) ≡ n = length-take-le n numbers most in
    let fields : length part / 8 ≡ length (take n numbers) = omega (arith, length_fields64 (take n numbers)) in
    ap (λ (k : ℕ). values_from k (numbers64 k part 0)) fields
    ∙ ap (λ (l : List ℕ). values_from (length (take n numbers)) l) (numbers_back64 (take n numbers) (first_fit n numbers fit))
    ∙ ap (λ (k : ℕ). values_from k (take n numbers)) many

values_back : (seen : Values) → values_fit seen ≡ true → values_in (fields64 (values_shown seen)) ≡ seen
values_back seen h =
    let n = seen.n in
    let values = seen.values in
    let (inside, (long, (fit, (behind, u)))) = split (within 1 most_named n ∷ eqb (length values) most_named ∷ all_hold (map fits64 values) ∷ all_zero (drop n values) ∷ []) h in
    let (least, (most, v)) = split (leb 1 n ∷ leb n most_named ∷ []) inside in
    let many : n ≤ most_named = leb-true n most_named most in
    let six : length values ≡ most_named = eqb-true (length values) most_named long in
    let zeros = split (map (eqb 0) (drop n values)) behind in
    let all : min n most_named ≡ n = omega arith in
    ap (λ (k : ℕ). values_in (fields64 (take k values))) all
    ∙ shown_back n values (omega arith) (split (map fits64 values) fit)
    ∙ (λ i. record { n = n; values = sym (in_room_by (take n values) values six (λ k below. sym (zeros_behind n k values zeros))) i })

abbrev is_some : Option Answer → Bool
is_some none = false
is_some (some answer) = true

framed_only : (bytes : Bytes) (answers : List Answer) (answer : Answer) → first_framed bytes answers ≡ some answer → bytes ≡ answer_frame answer
framed_only bytes [] answer e = absurd (false≢true (ap is_some e))
framed_only bytes (first ∷ answers) answer e =
    by (same_bytes (answer_frame first) bytes) (same_equal (answer_frame first) bytes) (framed_only bytes answers answer) e
  where
    by : (test : Bool) → (test ≡ true → answer_frame first ≡ bytes) → (first_framed bytes answers ≡ some answer → bytes ≡ answer_frame answer)
        → cond test (some first) (first_framed bytes answers) ≡ some answer → bytes ≡ answer_frame answer
    by true same rest e = let first_is : first ≡ answer = cc in sym (same refl) ∙ ap answer_frame first_is
    by false same rest e = rest e

pub only_answers_read : OnlyAnswersRead
unfolding answer_in
only_answers_read bytes answer e = framed_only bytes (answers_with (drop 4 bytes)) answer e

-- Each answer is found at its place; those of the kinds before it have other frames.
pub answers_read_back : AnswersReadBack
unfolding answer_frame answer_in fields64 numbers64
answers_read_back (Standing n) h =
    let part = answer_fields (Standing n) in
    found (Standing n) (Standing (number16 part 0)) (drop 1 (answers_with part)) (ap Standing (back16 n (ltb-true _ _ h)))
answers_read_back (Step (Claimed many)) h =
    let part = answer_fields (Step (Claimed many)) in
    found (Step (Claimed many)) (Step (Claimed (number16 part 0))) (drop 2 (answers_with part)) (ap (λ (x : ℕ). Step (Claimed x)) (back16 many (ltb-true _ _ h)))
answers_read_back (Step (Waiting word team)) h =
    let part = answer_fields (Step (Waiting word team)) in
    let (word_fits, (team_fits, u)) = split (ltb word 65536 ∷ ltb team 65536 ∷ []) h in
    found (Step (Waiting word team)) (Step (Waiting (number16 part 0) (number16 part 2))) (drop 3 (answers_with part))
    (ap₂ (λ (x y : ℕ). Step (Waiting x y)) (back16 word (ltb-true _ _ word_fits)) (back16 team (ltb-true _ _ team_fits)))
answers_read_back (Step (Found word)) h =
    let part = answer_fields (Step (Found word)) in
    found (Step (Found word)) (Step (Found (number16 part 0))) (drop 4 (answers_with part)) (ap (λ (x : ℕ). Step (Found x)) (back16 word (ltb-true _ _ h)))
answers_read_back (Step (Put many)) h =
    let part = answer_fields (Step (Put many)) in
    found (Step (Put many)) (Step (Put (number16 part 0))) (drop 5 (answers_with part)) (ap (λ (x : ℕ). Step (Put x)) (back16 many (ltb-true _ _ h)))
answers_read_back (Step (Returned many)) h =
    let part = answer_fields (Step (Returned many)) in
    found (Step (Returned many)) (Step (Returned (number16 part 0))) (drop 6 (answers_with part)) (ap (λ (x : ℕ). Step (Returned x)) (back16 many (ltb-true _ _ h)))
answers_read_back (Step (Granted tries)) h =
    let part = answer_fields (Step (Granted tries)) in
    found (Step (Granted tries)) (Step (Granted (number32 part 0))) (drop 7 (answers_with part)) (ap (λ (x : ℕ). Step (Granted x)) (back32 tries (ltb-true _ _ h)))
answers_read_back (Step (Stale word tries)) h =
    let part = answer_fields (Step (Stale word tries)) in
    let (word_fits, (tries_fits, u)) = split (ltb word 65536 ∷ ltb tries 4294967296 ∷ []) h in
    found (Step (Stale word tries)) (Step (Stale (number16 part 0) (number32 part 2))) (drop 8 (answers_with part))
    (ap₂ (λ (x y : ℕ). Step (Stale x y)) (back16 word (ltb-true _ _ word_fits)) (back32 tries (ltb-true _ _ tries_fits)))
answers_read_back (Step (Seen values)) h =
    let part = answer_fields (Step (Seen values)) in
    let seen = Step (Seen values) in
    let after : ℕ → List Answer = λ many. drop many (answers_with part) in
    passed seen (Standing (number16 part 0)) (after 1) refl
    (passed seen (Step (Claimed (number16 part 0))) (after 2) refl
    (passed seen (Step (Waiting (number16 part 0) (number16 part 2))) (after 3) refl
    (passed seen (Step (Found (number16 part 0))) (after 4) refl
    (passed seen (Step (Put (number16 part 0))) (after 5) refl
    (passed seen (Step (Returned (number16 part 0))) (after 6) refl
    (passed seen (Step (Granted (number32 part 0))) (after 7) refl
    (passed seen (Step (Stale (number16 part 0) (number32 part 2))) (after 8) refl
    (found seen (Step (Seen (values_in part))) (after 9) (ap (λ (x : Values). Step (Seen x)) (values_back values h))))))))))
answers_read_back (Look (Some value)) h =
    let part = answer_fields (Look (Some value)) in
    found (Look (Some value)) (Look (Some (number64 part 0))) (drop 10 (answers_with part)) (ap (λ (x : ℕ). Look (Some x)) (back64 value (ltb-true _ _ h)))
answers_read_back (Look None) h =
    let part = answer_fields (Look None) in
    found (Look None) (Look None) (drop 11 (answers_with part)) refl
answers_read_back (Refused number) h =
    let part = answer_fields (Refused number) in
    found (Refused number) (Refused (number16 part 0)) (drop 12 (answers_with part)) (ap Refused (back16 number (ltb-true _ _ h)))
