-- The header of a frame, from the tests in their order; and what a known kind says of the frame.
use Prim.Native.Nat.{ℕ, ◌+◌, ◌-◌, ◌/◌, ◌%◌, ◌<◌, ◌≤◌}
use mathlib.Core.Path.{◌≡◌, refl, sym, ap, subst, ◌∙◌}
use mathlib.Core.List.{List, [], ◌∷◌, map}
use mathlib.Core.Bool.{Bool, true, false, not, cond, false≢true}
use mathlib.Core.Logic.{◌⊎◌, inl, inr}
use native.Mathlib.Omega.{arith}
use native.Mathlib.Decide.{ℕ_discrete}
use borrow.Author.Tests.{eq-eqb, ne_eqb, eqb-true, lt-ltb, le-ltb, leb-true, not-true}
use lib.Dec.{eqb, leb}
use lib.ListN.{length, length-drop}
use Rattle.words.specs.Tests.{all_hold, some_holds, within}
use Rattle.words.specs.Words.{most_named}
use Rattle.words.proofs.Tests.{split, join, next_test, failed_test, last_test}
use Rattle.std.specs.Prelude.{Result, Ok, Err}
use Rattle.frames.specs.Request.{Open, Step, Look, View}
use Rattle.frames.specs.Numbers.{Bytes, number16}
use Rattle.frames.specs.Requests.{length_field, kind_field, head_bytes, part_after_kind, add_kind, correct_kind, strike_kind, move_kind, step_kind, look_kind, view_kind, add_minutes_kind, correct_minutes_kind, edit_kinds, kinds, has_row, length_of_kind, is_edit_kind, is_kind, length_of_view, length_fits, team_in, view_words_in, edit_of_kind, request_of_kind}
use Rattle.frames.specs.Fields.{longest_frame, frame_torn, kind_unknown, length_wrong, header_of, is_step, ViewFields, FieldsOf, Whole}
use Rattle.frames.proofs.Ranges.{first_of, next_of, none_of, within_in, within_below, within_above}

-- 3: too short, too long, or another count than the length field says.
pub too_short : (frame : Bytes) → length frame < head_bytes → frame_torn frame ≡ true
too_short frame l = first_of _ _ (lt-ltb _ _ l)

pub too_long : (frame : Bytes) → head_bytes ≤ length frame → longest_frame < length frame → frame_torn frame ≡ true
too_long frame l m = next_of _ _ _ (le-ltb _ _ l) (first_of _ _ (lt-ltb _ _ m))

pub other_count_lem : (frame : Bytes) → head_bytes ≤ length frame → length frame ≤ longest_frame → (length_field frame + 2 ≡ length frame → ⊥) → frame_torn frame ≡ true
other_count_lem frame l m n = next_of _ _ _ (le-ltb _ _ l) (next_of _ _ _ (le-ltb _ _ m) (first_of _ _ (ap not (ne_eqb _ _ n))))

pub not_torn : (frame : Bytes) → head_bytes ≤ length frame → length frame ≤ longest_frame → length_field frame + 2 ≡ length frame → frame_torn frame ≡ false
not_torn frame l m e = next_of _ _ _ (le-ltb _ _ l) (next_of _ _ _ (le-ltb _ _ m) (next_of _ _ _ (ap not (eq-eqb _ _ e)) none_of))

-- A test that a table's rows all pass is passed by every kind that has a row in it.
pub each_row : (test : ℕ → Bool) (rows : List (ℕ × ℕ)) (kind : ℕ) → all_hold (map (λ row. test row.0) rows) ≡ true → has_row rows kind ≡ true → test kind ≡ true
unfolding all_hold
each_row test [] kind passed has = absurd (false≢true has)
each_row test (row ∷ rows) kind passed has = elim (ℕ_discrete kind row.0) [
  | yes same ↦ ap test same ∙ (split (map (λ row. test row.0) (row ∷ rows)) passed).0
  | no other ↦ each_row test rows kind (join (map (λ row. test row.0) rows) (split (map (λ row. test row.0) (row ∷ rows)) passed).1) (rw (ne_eqb kind row.0 other) at has)
]

-- 4: no kind. A kind has a length, unless it is a view's.
pub kind_unknown_lem : (frame : Bytes) → length_of_kind (kind_field frame) ≡ 0 → (kind_field frame ≡ view_kind → ⊥) → kind_unknown frame ≡ true
kind_unknown_lem frame none other = ap not (next_of _ _ _ (ap not (eq-eqb _ _ none)) (next_of _ _ _ (ne_eqb _ _ other) none_of))

pub due_known : (kind : ℕ) → (length_of_kind kind ≡ 0 → ⊥) → is_kind kind ≡ true
due_known kind some = first_of _ _ (ap not (ne_eqb _ _ some))

view_known : is_kind view_kind ≡ true
unfolding some_holds
view_known = refl

-- 5: another length.
pub other_length : (frame : Bytes) → length_fits (kind_field frame) (length_field frame) ≡ false → length_wrong frame ≡ true
other_length frame e = ap not e

pub length_due : (frame : Bytes) → length_fits (kind_field frame) (length_field frame) ≡ true → length_wrong frame ≡ false
length_due frame e = ap not e

-- A length fits a kind other than a view's where it is the one due;
pub fits_other : (kind length : ℕ) → (kind ≡ view_kind → ⊥) → length_fits kind length ≡ eqb length (length_of_kind kind)
unfolding length_fits
fits_other kind length other = rw (ne_eqb kind view_kind other)

-- a view's where it is neither too short nor too long, and even.
pub view_short : (length : ℕ) → length < length_of_view 1 → length_fits view_kind length ≡ false
unfolding length_fits
view_short length l = failed_test _ _ (within_below (length_of_view 1) (length_of_view most_named) length l)

pub view_long : (length : ℕ) → length_of_view most_named < length → length_fits view_kind length ≡ false
unfolding length_fits
view_long length l = failed_test _ _ (within_above (length_of_view 1) (length_of_view most_named) length l)

pub view_even : (length : ℕ) → length_of_view 1 ≤ length → length ≤ length_of_view most_named → length_fits view_kind length ≡ eqb (length % 2) 0
unfolding length_fits
view_even length l m = next_test _ (eqb (length % 2) 0 ∷ []) (within_in (length_of_view 1) (length_of_view most_named) length l m) ∙ last_test (eqb (length % 2) 0)

-- The one length of a kind fits it: it is no view's, which has none.
pub due_fits : (kind length : ℕ) → length ≡ length_of_kind kind → 0 < length → length_fits kind length ≡ true
due_fits kind length due some =
    fits_other kind length (λ view. let none : length ≡ 0 = due ∙ ap length_of_kind view in omega (arith, none)) ∙ eq-eqb length (length_of_kind kind) due

-- The first that applies, or the kind.
pub header_torn : (frame : Bytes) → frame_torn frame ≡ true → Err 3 ≡ header_of frame
unfolding header_of
header_torn frame torn = simp torn

pub header_unknown : (frame : Bytes) → frame_torn frame ≡ false → kind_unknown frame ≡ true → Err 4 ≡ header_of frame
unfolding header_of
header_unknown frame torn unknown = simp (torn, unknown)

pub header_wrong : (frame : Bytes) → frame_torn frame ≡ false → kind_unknown frame ≡ false → length_wrong frame ≡ true → Err 5 ≡ header_of frame
unfolding header_of
header_wrong frame torn unknown wrong = simp (torn, unknown, wrong)

pub header_kind : (frame : Bytes) → frame_torn frame ≡ false → kind_unknown frame ≡ false → length_wrong frame ≡ false → Ok (kind_field frame) ≡ header_of frame
unfolding header_of
header_kind frame torn unknown wrong = simp (torn, unknown, wrong)

-- The part after the kind is two bytes shorter than the length field says: where that fits the kind, it has the kind's fields.
part_length : (frame : Bytes) (length_field_lem : ℕ) → head_bytes ≤ length frame → length_field_lem + 2 ≡ length frame → length (part_after_kind frame) ≡ length_field_lem - 2
part_length frame length_field_lem l e = simp length-drop (omega arith)

fields_fit : (kind length_field_lem : ℕ) (part : Bytes) → length part ≡ length_field_lem - 2 → length_fits kind length_field_lem ≡ true → FieldsOf kind part
unfolding length_fits
fields_fit kind length_field_lem part e fits = by (eqb kind view_kind) fits
  where
    by : (view : Bool)
        → cond view (all_hold (within (length_of_view 1) (length_of_view most_named) length_field_lem ∷ eqb (length_field_lem % 2) 0 ∷ [])) (eqb length_field_lem (length_of_kind kind)) ≡ true
        → cond view (ViewFields part) (length part ≡ length_of_kind kind - 2)
    by true fits =
        let (inside, (even, u)) = split (within (length_of_view 1) (length_of_view most_named) length_field_lem ∷ eqb (length_field_lem % 2) 0 ∷ []) fits in
        let (least, (most, v)) = split (leb (length_of_view 1) length_field_lem ∷ leb length_field_lem (length_of_view most_named) ∷ []) inside in
        let least : 8 ≤ length_field_lem = leb-true _ _ least in
        let most : length_field_lem ≤ 18 = leb-true _ _ most in
        let even : length_field_lem % 2 ≡ 0 = eqb-true _ _ even in
        record { words = (length_field_lem - 6) / 2; least = omega arith; most = omega arith; long = omega arith }
    by false fits =
        let due : length_field_lem ≡ length_of_kind kind = eqb-true _ _ fits in
        e ∙ ap (λ (k : ℕ). k - 2) due

pub whole : (frame : Bytes) (length_field_lem kind : ℕ) → is_kind kind ≡ true → head_bytes ≤ length frame → length_field_lem + 2 ≡ length frame → length_fits kind length_field_lem ≡ true → Whole frame kind
whole frame length_field_lem kind known head e fits = record {
  known = known;
  head = head;
  fields = fields_fit kind length_field_lem (part_after_kind frame) (part_length frame length_field_lem head e) fits;
}

-- A frame that 3 does not refuse, and what its length and kind were read as.
pub record Untorn (frame : Bytes) (length_field_lem kind : ℕ) : Type 0 where
  pub is_length : length_field_lem ≡ length_field frame
  pub is_kind_lem : kind ≡ kind_field frame
  pub head : head_bytes ≤ length frame
  pub most : length frame ≤ longest_frame
  pub counted : length_field_lem + 2 ≡ length frame

-- Its header, by these two.
module _ {frame : Bytes} {length_field_lem kind : ℕ} (read : Untorn frame length_field_lem kind) where
  whole_count : frame_torn frame ≡ false
  whole_count = not_torn frame read.head read.most (ap (λ (l : ℕ). l + 2) (sym read.is_length) ∙ read.counted)

  as_read : length_fits (kind_field frame) (length_field frame) ≡ length_fits kind length_field_lem
  as_read = λ i. length_fits (sym read.is_kind_lem i) (sym read.is_length i)

  known_read : is_kind kind ≡ true → kind_unknown frame ≡ false
  known_read known = ap (λ (k : ℕ). not (is_kind k)) (sym read.is_kind_lem) ∙ ap not known

  pub header_fits : is_kind kind ≡ true → length_fits kind length_field_lem ≡ true → (Ok kind ≡ header_of frame) × Whole frame kind
  header_fits known fits = (
    ap Ok read.is_kind_lem ∙ header_kind frame whole_count (known_read known) (length_due frame (as_read ∙ fits)),
    whole frame length_field_lem kind known read.head read.counted fits,
  )

  pub header_due : length_field_lem ≡ length_of_kind kind → (Ok kind ≡ header_of frame) × Whole frame kind
  header_due due =
      let some : 0 < length_field_lem = omega (arith, read.head, read.counted) in
      header_fits (due_known kind (λ none. omega (arith, some, due ∙ none))) (due_fits kind length_field_lem due some)

  pub header_misfits : is_kind kind ≡ true → length_fits kind length_field_lem ≡ false → Err 5 ≡ header_of frame
  header_misfits known misfits = header_wrong frame whole_count (known_read known) (other_length frame (as_read ∙ misfits))

  pub header_no_kind : is_kind kind ≡ false → Err 4 ≡ header_of frame
  header_no_kind none = header_unknown frame whole_count (ap (λ (k : ℕ). not (is_kind k)) (sym read.is_kind_lem) ∙ ap not none)

-- A step's frame is whole, and its kind is a step's.
pub step_header : (frame : Bytes) → is_step frame ≡ true → (Ok step_kind ≡ header_of frame) × Whole frame step_kind
step_header frame step =
    let (bytes, (long, (kind, u))) = split (eqb (length frame) (length_of_kind step_kind + 2) ∷ eqb (length_field frame) (length_of_kind step_kind) ∷ eqb (kind_field frame) step_kind ∷ []) step in
    let bytes : length frame ≡ 6 = eqb-true _ _ bytes in
    let long : length_field frame ≡ 4 = eqb-true _ _ long in
    let kind : kind_field frame ≡ step_kind = eqb-true _ _ kind in
    let read : Untorn frame (length_field frame) step_kind = record { is_length = refl; is_kind_lem = sym kind; head = omega (arith, bytes); most = omega (arith, bytes); counted = omega (arith, bytes, long) } in
    header_due read long

-- The fields of a whole frame: those of a view, and those of any other kind.
pub fields_of_kind : {frame : Bytes} {kind : ℕ} → Whole frame kind → (kind ≡ view_kind → ⊥) → length (part_after_kind frame) ≡ length_of_kind kind - 2
fields_of_kind {frame} {kind} sound other =
    subst (λ (view : Bool). cond view (ViewFields (part_after_kind frame)) (length (part_after_kind frame) ≡ length_of_kind kind - 2)) (ne_eqb kind view_kind other) sound.fields

pub fields_of_view : {frame : Bytes} → Whole frame view_kind → ViewFields (part_after_kind frame)
fields_of_view sound = sound.fields

-- An edit's kind is no step's, no look's and no view's;
edit_tests : ℕ → List Bool
edit_tests kind = not (eqb kind step_kind) ∷ not (eqb kind look_kind) ∷ not (eqb kind view_kind) ∷ []

pub edit_kind_lem : (kind : ℕ) → is_edit_kind kind ≡ true → (eqb kind step_kind ≡ false) × (eqb kind look_kind ≡ false) × (eqb kind view_kind ≡ false)
unfolding all_hold edit_tests
edit_kind_lem kind edit =
    let (no_step, (no_look, (no_view, u))) = split (edit_tests kind) (each_row (λ k. all_hold (edit_tests k)) edit_kinds kind refl edit) in
    (not-true _ no_step, not-true _ no_look, not-true _ no_view)

-- every other kind is one of theirs.
pub kind_row : (kind : ℕ) → is_kind kind ≡ true → eqb kind view_kind ≡ false → has_row kinds kind ≡ true
unfolding some_holds
kind_row kind known no_view = go (has_row kinds kind) (eqb kind view_kind) known no_view
  where
    go : (row view : Bool) → some_holds (row ∷ view ∷ []) ≡ true → view ≡ false → row ≡ true
    go true view known no_view = refl
    go false true known no_view = sym no_view
    go false false known no_view = known

pub other_kind : (kind : ℕ) → is_kind kind ≡ true → eqb kind step_kind ≡ false → eqb kind look_kind ≡ false → eqb kind view_kind ≡ false → is_edit_kind kind ≡ true
unfolding some_holds all_hold
other_kind kind known no_step no_look no_view =
    go (eqb kind step_kind) (eqb kind look_kind) (is_edit_kind kind) no_step no_look (each_row (λ k. some_holds (eqb k step_kind ∷ eqb k look_kind ∷ is_edit_kind k ∷ [])) kinds kind refl (kind_row kind known no_view))
  where
    go : (step look edit : Bool) → step ≡ false → look ≡ false → some_holds (step ∷ look ∷ edit ∷ []) ≡ true → edit ≡ true
    go true look edit no_step no_look one = absurd (false≢true (sym no_step))
    go false true edit no_step no_look one = absurd (false≢true (sym no_look))
    go false false true no_step no_look one = refl
    go false false false no_step no_look one = one

-- The one left of them is a move's.
pub move_left : (kind : ℕ) → is_edit_kind kind ≡ true → (kind ≡ add_kind → ⊥) → (kind ≡ correct_kind → ⊥) → (kind ≡ strike_kind → ⊥) → (kind ≡ add_minutes_kind → ⊥) → (kind ≡ correct_minutes_kind → ⊥) → kind ≡ move_kind
move_left kind edit a b c d e = elim (ℕ_discrete kind move_kind) [
  | yes move ↦ move
  | no f ↦ absurd (false≢true (rw (ne_eqb kind add_kind a, ne_eqb kind correct_kind b, ne_eqb kind strike_kind c, ne_eqb kind move_kind f, ne_eqb kind add_minutes_kind d, ne_eqb kind correct_minutes_kind e) at edit))
]

-- What a known kind and a refusal say of the tests.
pub kind_tests : (frame : Bytes) (kind : ℕ) → header_of frame ≡ Ok kind → (frame_torn frame ≡ false) × (kind_unknown frame ≡ false) × (length_wrong frame ≡ false) × (kind_field frame ≡ kind)
unfolding header_of
kind_tests frame kind e = by (frame_torn frame) (kind_unknown frame) (length_wrong frame) e
  where
    by : (torn unknown wrong : Bool) → cond {A = Result ℕ ℕ} torn (Err 3) (cond unknown (Err 4) (cond wrong (Err 5) (Ok (kind_field frame)))) ≡ Ok kind
        → (torn ≡ false) × (unknown ≡ false) × (wrong ≡ false) × (kind_field frame ≡ kind)
    by true unknown wrong e = (cc, cc, cc, cc)
    by false true wrong e = (cc, cc, cc, cc)
    by false false true e = (cc, cc, cc, cc)
    by false false false e = (refl, refl, refl, cc)

pub refused_tests : (frame : Bytes) (number : ℕ) → header_of frame ≡ Err number
    → ((frame_torn frame ≡ true) × (number ≡ 3))
    ⊎ (((frame_torn frame ≡ false) × (kind_unknown frame ≡ true) × (number ≡ 4))
    ⊎ ((frame_torn frame ≡ false) × (kind_unknown frame ≡ false) × (length_wrong frame ≡ true) × (number ≡ 5)))
unfolding header_of
refused_tests frame number e = by (frame_torn frame) (kind_unknown frame) (length_wrong frame) e
  where
    by : (torn unknown wrong : Bool) → cond {A = Result ℕ ℕ} torn (Err 3) (cond unknown (Err 4) (cond wrong (Err 5) (Ok (kind_field frame)))) ≡ Err number
        → ((torn ≡ true) × (number ≡ 3)) ⊎ (((torn ≡ false) × (unknown ≡ true) × (number ≡ 4)) ⊎ ((torn ≡ false) × (unknown ≡ false) × (wrong ≡ true) × (number ≡ 5)))
    by true unknown wrong e = inl (refl, cc)
    by false true wrong e = inr (inl (refl, refl, cc))
    by false false true e = inr (inr (refl, refl, refl, cc))
    by false false false e = inl (cc, cc)

-- What each kind asks for.
pub edit_asked : (kind : ℕ) (part : Bytes) → is_edit_kind kind ≡ true → request_of_kind kind part ≡ Open (team_in part) (edit_of_kind kind part)
unfolding request_of_kind
edit_asked kind part edit = let (no_step, no_look, no_view) = edit_kind_lem kind edit in rw (no_step, no_look, no_view) refl

pub step_asked : (part : Bytes) → request_of_kind step_kind part ≡ Step (team_in part)
unfolding request_of_kind
step_asked part = refl

pub look_asked : (part : Bytes) → request_of_kind look_kind part ≡ Look (number16 part 0)
unfolding request_of_kind
look_asked part = refl

pub view_asked : (part : Bytes) → request_of_kind view_kind part ≡ View (team_in part) (number16 part 2) (view_words_in part)
unfolding request_of_kind
view_asked part = refl
