-- "Frames refused": what 3, 4, 5, 10 and 11 test, on the frame and on its fields, and what the reader answers.
use Rattle.std.specs.Prelude.{ℕ, ◌+◌, ◌*◌, ◌-◌, ◌≤◌, ◌≡◌, List, [], ◌∷◌, Bool, true, false, not, cond, length, eqb, ltb, ℤ, Option, Some, None, Result, Ok, Err}
use Rattle.words.specs.Tests.{all_hold, some_holds}
use Rattle.words.specs.Words.{words_in_book, most_named}
use Rattle.legs.specs.declared.Measure.{Measure}
use Rattle.legs.specs.Legs.{clino_in_range, measure_in_range}
use Rattle.legs.specs.Minutes.{Minutes, hundredths_of, signed_by, compass_angle_in_range, clino_angle_in_range, angles_in_range, rounded}
use Rattle.edits.specs.declared.Edit.{Edit}
use Rattle.edits.specs.declared.View.{View}
use Rattle.edits.specs.Ranges.{leg_number_in_range, leg_or_none_in_range, count_before_strike_in_range, edit_in_range, edit_repeats}
use Rattle.edits.specs.Views.{view_in_range, view_repeats, view_of}
use Rattle.frames.specs.Request.{Request, Open, Step, Look}
use Rattle.frames.specs.declared.Taken.{Taken}
use Rattle.frames.specs.Numbers.{Bytes}
use Rattle.frames.specs.Requests.{length_field, kind_field, head_bytes, part_after_kind, step_kind, view_kind, length_of_kind, is_kind, length_fits, measure_at, minutes_at, add_with, correct_with, edit_of_kind, angles_of_kind}

-- A frame has at most 64 bytes.
abbrev pub longest_frame : ℕ
longest_frame = 64

-- 3. The frame has fewer than 4 or more than 64 bytes, or its length field isn't the count of bytes after it.
abbrev pub frame_torn : Bytes → Bool
frame_torn frame = some_holds (ltb (length frame) head_bytes ∷ ltb longest_frame (length frame) ∷ not (eqb (length_field frame + 2) (length frame)) ∷ [])

-- 4. The kind is none of the kinds.
abbrev pub kind_unknown : Bytes → Bool
kind_unknown frame = not (is_kind (kind_field frame))

-- 5. The length isn't that of the kind.
abbrev pub length_wrong : Bytes → Bool
length_wrong frame = not (length_fits (kind_field frame) (length_field frame))

-- A step's frame: its length and its kind are a step's, and it has as many bytes as they say.
abbrev pub is_step : Bytes → Bool
is_step frame =
    all_hold
    (eqb (length frame) (length_of_kind step_kind + 2)
    ∷ eqb (length_field frame) (length_of_kind step_kind)
    ∷ eqb (kind_field frame) step_kind
    ∷ [])

-- The number of the first of these three that applies, or else the kind.
unfoldable pub header_of : Bytes → Result ℕ ℕ
header_of frame =
    cond (frame_torn frame) (Err 3)
    (cond (kind_unknown frame) (Err 4)
    (cond (length_wrong frame) (Err 5)
    (Ok (kind_field frame))))

-- The part after the kind has the length that the kind asks for: a view's has room for team, n and one to six words.
pub record ViewFields (part : Bytes) : Type 0 where
  pub words : ℕ
  pub least : 1 ≤ words
  pub most : words ≤ most_named
  pub long : length part ≡ 4 + 2 * words

abbrev pub FieldsOf : ℕ → Bytes → Type 0
FieldsOf kind part = cond (eqb kind view_kind) (ViewFields part) (length part ≡ length_of_kind kind - 2)

-- A frame that none of the three refuses: its kind is known, and the part after the kind has its fields.
pub record Whole (frame : Bytes) (kind : ℕ) : Type 0 where
  pub known : is_kind kind ≡ true
  pub head : head_bytes ≤ length frame
  pub fields : FieldsOf kind (part_after_kind frame)

abbrev pub WholeIfKnown : {E : Type 0} → Bytes → Result ℕ E → Type 0
WholeIfKnown frame (Ok kind) = Whole frame kind
WholeIfKnown frame (Err refusal) = Unit {0}

-- 10. A field is out of range: one of an angle in minutes as it is sent, or one of what is asked for.
abbrev pub angle_out_of_range : Bytes → Bool
angle_out_of_range frame = not (angles_of_kind (kind_field frame) (part_after_kind frame))

abbrev pub request_out_of_range : Request → Bool
request_out_of_range (Open team edit) = not (edit_in_range edit)
request_out_of_range (Step team) = false
request_out_of_range (Look word) = not (ltb word words_in_book)
request_out_of_range (Request.View team n words) = not (view_in_range n words)

abbrev pub field_out_of_range : Bytes → Request → Bool
field_out_of_range frame request = some_holds (angle_out_of_range frame ∷ request_out_of_range request ∷ [])

-- 11. from equals to, q equals p, or a leg number other than 0 is named twice; a view names a word twice.
abbrev pub field_repeated : Request → Bool
field_repeated (Open team edit) = edit_repeats edit
field_repeated (Step team) = false
field_repeated (Look word) = false
field_repeated (Request.View team n words) = view_repeats words

-- A field's answer: its value where it is in range, and none where it is out of range. For fields of 16 bits, the distance, the clino, M, and f r s c.
abbrev pub field_of : {A : Type 0} → Bool → A → Option A
field_of in_range value = cond in_range (Some value) None

abbrev pub clino_field_of : ℤ → Option ℤ
clino_field_of clino = field_of (clino_in_range clino) clino

abbrev pub measure_field_of : Measure → Option Measure
measure_field_of measure = field_of (measure_in_range measure) measure

-- Of an angle in minutes: the compass, with its value in hundredths; the clino likewise; and M.
abbrev pub compass_minutes_field_of : ℕ → ℕ → Option ℕ
compass_minutes_field_of degrees minutes = field_of (compass_angle_in_range degrees minutes) (hundredths_of degrees minutes)

abbrev pub clino_minutes_field_of : ℕ → ℕ → ℕ → Option ℤ
clino_minutes_field_of sign degrees minutes = field_of (clino_angle_in_range sign degrees minutes) (signed_by sign (hundredths_of degrees minutes))

-- M is out of range where its angles are, whatever they are rounded to.
abbrev pub measure_field_if : Bool → Measure → Option Measure
measure_field_if angles measure = cond angles (measure_field_of measure) None

abbrev pub minutes_field_of : Minutes → Option Measure
minutes_field_of minutes = measure_field_if (angles_in_range minutes) (rounded minutes)

-- M in minutes or in hundredths: how many bytes it has, what it is read as, whether its angles are in range as they are sent, and its answer.
abbrev pub measure_size : Bool → ℕ
measure_size minutes = cond minutes 14 8

abbrev pub measure_read_at : Bool → Bytes → ℕ → Measure
measure_read_at minutes part at = cond minutes (rounded (minutes_at part at)) (measure_at part at)

abbrev pub angles_fit_at : Bool → Bytes → ℕ → Bool
angles_fit_at minutes part at = cond minutes (angles_in_range (minutes_at part at)) true

abbrev pub measure_field_at : Bool → Bytes → ℕ → Option Measure
measure_field_at minutes part at = measure_field_if (angles_fit_at minutes part at) (measure_read_at minutes part at)

-- f, r, s and c, where a leg is taken out of its passage's list.
abbrev pub taken_in_range : Taken → Bool
taken_in_range taken =
    all_hold (
    leg_or_none_in_range taken.newer
    ∷ leg_number_in_range taken.leg
    ∷ leg_or_none_in_range taken.older
    ∷ count_before_strike_in_range taken.count
    ∷ []
    )

abbrev pub taken_field_of : Taken → Option Taken
taken_field_of taken = field_of (taken_in_range taken) taken

-- What an edit's own fields, in hundredths, are read as: refused by 10 where one is out of range, then by 11, or else the edit.
unfoldable pub edit_read : Edit → Result Edit ℕ
edit_read edit = cond (edit_in_range edit) (cond (edit_repeats edit) (Err 11) (Ok edit)) (Err 10)

-- Angles in minutes are tested as they are sent.
abbrev pub read_if : Bool → Edit → Result Edit ℕ
read_if angles edit = cond angles (edit_read edit) (Err 10)

-- What the part after an edit's kind is read as: `edit_read` of its edit, once its angles in minutes have been tested;
unfoldable pub read_edit : ℕ → Bytes → Result Edit ℕ
read_edit kind part = read_if (angles_of_kind kind part) (edit_of_kind kind part)

-- of Add and of Correct, in minutes or in hundredths.
unfoldable pub add_read : Bool → Bytes → Result Edit ℕ
add_read minutes part = read_if (angles_fit_at minutes part 14) (Edit.Add (add_with (measure_read_at minutes part 14) part))

unfoldable pub correct_read : Bool → Bytes → Result Edit ℕ
correct_read minutes part =
    let second = 10 + measure_size minutes in
    read_if
    (all_hold (angles_fit_at minutes part 10 ∷ angles_fit_at minutes part second ∷ []))
    (Edit.Correct (correct_with (measure_read_at minutes part 10) (measure_read_at minutes part second) part))

-- What the fields of a view are read as, likewise.
unfoldable pub view_read : ℕ → List ℕ → Result View ℕ
view_read n words = cond (view_in_range n words) (cond (view_repeats words) (Err 11) (Ok (view_of words))) (Err 10)
