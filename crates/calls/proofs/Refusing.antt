-- The first check that applies is given, and none otherwise: its number is 1, 13 or 2, or 3 to 11, and where none applies, each test fails; what that says of the frame and of the words that a view names.
use Prim.Native.Nat.{ℕ, ◌+◌, ◌-◌, ◌/◌, ◌≤◌}
use mathlib.Core.Path.{◌≡◌, refl, sym, ◌∙◌}
use mathlib.Core.Bool.{Bool, true, false, cond, not, false≢true, true≢false}
use mathlib.Core.List.{List, [], ◌∷◌}
use mathlib.Core.Option.{Option, none, some}
use mathlib.Core.Logic.{◌≢◌, ◌⊎◌, inl, inr}
use native.Mathlib.Decide.{dec_lt}
use native.Mathlib.Omega.{arith}
use borrow.Author.Tests.{leb-true, ltb-false, eqb-true, ne_eqb, not-false}
use lib.Dec.{eqb, leb, ltb}
use lib.ListN.{length}
use Rattle.words.specs.Tests.{all_hold, some_holds, within, Every}
use Rattle.words.specs.Words.{Words, most_named}
use Rattle.words.proofs.Tests.{split, join}
use Rattle.legs.specs.Positions.{Ranks}
use Rattle.tickets.specs.Tickets.{Ticket, Tickets, has_ticket, well_made}
use Rattle.edits.specs.Views.{all_in_book, view_in_range, view_repeats, FineView}
use Rattle.frames.specs.Request.{Request, Open, Step, Look, View}
use Rattle.frames.specs.Numbers.{Bytes, number16}
use Rattle.frames.specs.Requests.{length_field, kind_field, head_bytes, part_after_kind, step_kind, look_kind, view_kind, length_of_kind, team_in, edit_of_kind, view_words_in, request_of_kind, request_in}
use Rattle.frames.specs.Fields.{longest_frame, frame_torn, kind_unknown, length_wrong, ViewFields, FieldsOf, Whole, angle_out_of_range, request_out_of_range, field_repeated}
use Rattle.frames.proofs.Bytes.{length_numbers16}
use Rattle.frames.proofs.Headers.{whole}
use Rattle.calls.specs.Call.{book_length_wrong, ranks_wrong, output_short, team_unknown, badly_made, own_ticket_badly_made, opens_over_ticket, step_without_ticket, Check, check, first_of, is_returned, refusal_checks, refusal_of}

-- Checks whose numbers follow each other.
abbrev pub numbered : ℕ → List Bool → List Check
numbered number [] = []
numbered number (applies ∷ later) = check number applies ∷ numbered (number + 1) later

abbrev pub first_from : ℕ → List Bool → Option ℕ
first_from number tests = first_of (numbered number tests)

-- The number of a refusal from 3 to 11 is not returned alone, and no count of bytes is taken for one: 13 is odd.
pub not_returned : (refusal : ℕ) → 3 ≤ refusal → refusal ≢ 13 → is_returned refusal ≡ false
not_returned refusal large other = simp (ne_eqb refusal 1 (λ e. omega arith), ne_eqb refusal 13 other, ne_eqb refusal 2 (λ e. omega arith))

-- One that is, is small.
pub returned_small : (refusal : ℕ) → is_returned refusal ≡ true → refusal ≤ 13
returned_small refusal alone = elim (dec_lt 13 refusal) [
  | yes large ↦ absurd (false≢true (sym (not_returned refusal (omega arith) (λ e. omega arith)) ∙ alone))
  | no small ↦ omega arith
]

-- A refusal is one that is returned alone, or one of 3 to 11.
abbrev pub Sorted : ℕ → Type 0
Sorted refusal = (is_returned refusal ≡ true) ⊎ ((3 ≤ refusal) × (refusal ≤ 11))

-- The number given, if one is, is that of one of the checks.
abbrev pub Given : (ℕ → Type 0) → Option ℕ → Type 0
Given P none = Unit {0}
Given P (some number) = P number

pub first_given : (P : ℕ → Type 0) (checks : List Check) → Every (λ one. P one.number) checks → Given P (first_of checks)
first_given P [] all = tt
first_given P (one ∷ later) all = by one.applies (first_given P later all.1)
  where
    by : (applies : Bool) → Given P (first_of later) → Given P (cond applies (some one.number) (first_of later))
    by true rest = all.0
    by false rest = rest

abbrev pub AllSorted : Option ℕ → Type 0
AllSorted refusal = Given Sorted refusal

in_frame : (refusal : ℕ) → within 3 11 refusal ≡ true → Sorted refusal
in_frame refusal inside = let (least, (most, u)) = split (leb 3 refusal ∷ leb refusal 11 ∷ []) inside in inr (leb-true _ _ least, leb-true _ _ most)

pub refusal_sorted : (words : Words) (tickets : Tickets) (ranks : Ranks) (frame out : Bytes) → AllSorted (refusal_of words tickets ranks frame out)
unfolding refusal_of refusal_checks all_hold
refusal_sorted words tickets ranks frame out =
    let framed : Every Sorted (3 ∷ 4 ∷ 5 ∷ 6 ∷ 7 ∷ 8 ∷ 9 ∷ 10 ∷ 11 ∷ []) =
    (in_frame 3 refl, (in_frame 4 refl, (in_frame 5 refl, (in_frame 6 refl, (in_frame 7 refl, (in_frame 8 refl, (in_frame 9 refl, (in_frame 10 refl, (in_frame 11 refl, tt))))))))) in
    first_given Sorted (refusal_checks words tickets ranks frame out) (inl refl, (inl refl, (inl refl, framed)))

-- Where none is given, none applies.
some_given : (number : ℕ) → some number ≡ none → ⊥
some_given number e = let z : ◌≡◌ {A = ℕ} 0 1 = cc in omega arith

pub none_applies : (checks : List Check) → first_of checks ≡ none → Every (λ one. one.applies ≡ false) checks
none_applies [] e = tt
none_applies (one ∷ later) e = by one.applies refl e (none_applies later)
  where
    by : (applies : Bool) → one.applies ≡ applies → cond applies (some one.number) (first_of later) ≡ none
        → (first_of later ≡ none → Every (λ one. one.applies ≡ false) later)
        → Every (λ one. one.applies ≡ false) (one ∷ later)
    by true is e rest = absurd (some_given one.number e)
    by false is e rest = (is, rest e)

second_fails : (first second : Bool) → some_holds (first ∷ second ∷ []) ≡ false → second ≡ false
unfolding some_holds
second_fails true second fails = absurd (true≢false fails)
second_fails false true fails = absurd (true≢false fails)
second_fails false false fails = refl

-- What is known of a call that is not refused.
pub record Passed (words : Words) (tickets : Tickets) (ranks : Ranks) (frame out : Bytes) : Type 0 where
  pub whole_book : book_length_wrong words ≡ false
  pub right_ranks : ranks_wrong ranks ≡ false
  pub room : output_short out ≡ false
  pub whole_frame : frame_torn frame ≡ false
  pub known_kind : kind_unknown frame ≡ false
  pub due_length : length_wrong frame ≡ false
  pub known_team : team_unknown (request_in frame) ≡ false
  pub well_made_lem : own_ticket_badly_made tickets (request_in frame) ≡ false
  pub opens_alone : opens_over_ticket tickets (request_in frame) ≡ false
  pub step_allowed : step_without_ticket tickets (request_in frame) ≡ false
  pub each_in_range : request_out_of_range (request_in frame) ≡ false
  pub named_once : field_repeated (request_in frame) ≡ false

pub passed : (words : Words) (tickets : Tickets) (ranks : Ranks) (frame out : Bytes) → refusal_of words tickets ranks frame out ≡ none → Passed words tickets ranks frame out
unfolding refusal_of refusal_checks
passed words tickets ranks frame out none_given =
    let (one, (thirteen, (two, (three, (four, (five, (six, (seven, (eight, (nine, (ten, (eleven, u)))))))))))) = none_applies (refusal_checks words tickets ranks frame out) none_given in
    record {
      whole_book = cc;
      right_ranks = cc;
      room = cc;
      whole_frame = cc;
      known_kind = cc;
      due_length = cc;
      known_team = cc;
      well_made_lem = cc;
      opens_alone = cc;
      step_allowed = cc;
      each_in_range = second_fails (angle_out_of_range frame) (request_out_of_range (request_in frame)) ten;
      named_once = cc;
    }

-- Where none of three tests holds, each fails.
pub tests_fail : (first second third : Bool) → some_holds (first ∷ second ∷ third ∷ []) ≡ false → (first ≡ false) × (second ≡ false) × (third ≡ false)
unfolding some_holds
tests_fail true second third fails = absurd (true≢false fails)
tests_fail false true third fails = absurd (true≢false fails)
tests_fail false false true fails = absurd (true≢false fails)
tests_fail false false false fails = (refl, refl, refl)

-- A frame that 3, 4 and 5 do not refuse is whole.
pub frame_whole : (frame : Bytes) → frame_torn frame ≡ false → kind_unknown frame ≡ false → length_wrong frame ≡ false → Whole frame (kind_field frame)
frame_whole frame torn unknown wrong =
    let (short, long, other) = tests_fail (ltb (length frame) head_bytes) (ltb longest_frame (length frame)) (not (eqb (length_field frame + 2) (length frame))) torn in
    whole frame (length_field frame) (kind_field frame) (not-false _ unknown) (ltb-false _ _ short) (eqb-true _ _ (not-false _ other)) (not-false _ wrong)

-- The words that a view's fields name are one to six.
abbrev pub OneToSix : List ℕ → Type 0
OneToSix words = (1 ≤ length words) × (length words ≤ most_named)

pub named_many : (part : Bytes) → ViewFields part → OneToSix (view_words_in part)
named_many part fields =
    let many = length_numbers16 ((length part - 4) / 2) part 4 in
    (omega (arith, many, fields.least, fields.long), omega (arith, many, fields.most, fields.long))

-- So it is of every request that is not refused.
abbrev pub Sized : Request → Type 0
Sized (Open team edit) = Unit {0}
Sized (Step team) = Unit {0}
Sized (Look word) = Unit {0}
Sized (View team n words) = OneToSix words

kind_sized : (kind : ℕ) (part : Bytes) → FieldsOf kind part → Sized (request_of_kind kind part)
unfolding request_of_kind
kind_sized kind part fields = by (eqb kind step_kind) (eqb kind look_kind) (eqb kind view_kind) fields
  where
    by : (step look view : Bool) → cond view (ViewFields part) (length part ≡ length_of_kind kind - 2)
        → Sized (cond step (Step (team_in part)) (cond look (Look (number16 part 0))
        (cond view (View (team_in part) (number16 part 2) (view_words_in part)) (Open (team_in part) (edit_of_kind kind part)))))
    by true look view fields = tt
    by false true view fields = tt
    by false false true fields = named_many part fields
    by false false false fields = tt

pub request_sized : {words : Words} {tickets : Tickets} {ranks : Ranks} {frame out : Bytes} → Passed words tickets ranks frame out → Sized (request_in frame)
unfolding request_in
request_sized {frame = frame} known = kind_sized (kind_field frame) (part_after_kind frame) (frame_whole frame known.whole_frame known.known_kind known.due_length).fields

-- A view that neither 5, 10 nor 11 refuses is fine.
pub fine_view : (n : ℕ) (words : List ℕ) → OneToSix words → view_in_range n words ≡ true → view_repeats words ≡ false → FineView words
unfolding view_in_range view_repeats
fine_view n words many each_in_range once =
    let (counted, (inside, u)) = split (eqb n (length words) ∷ all_in_book words ∷ []) each_in_range in
    record { least = many.0; most = many.1; inside = inside; once = not-false _ once }

-- A standing ticket that is not badly made is well made.
pub standing_made : (ticket : Ticket) → has_ticket ticket.phase ≡ true → badly_made ticket ≡ false → well_made ticket ≡ true
standing_made ticket stands good = made (well_made ticket) refl
  where
    made : (test : Bool) → well_made ticket ≡ test → well_made ticket ≡ true
    made true e = e
    made false e =
        let bad : badly_made ticket ≡ true = join (has_ticket ticket.phase ∷ not (well_made ticket) ∷ []) (stands, (rw e, tt)) in
        absurd (false≢true (cc))
