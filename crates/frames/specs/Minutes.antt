-- Request 9: the frame that asks for an edit in degrees and minutes, the other way round from `request_in`.
use Rattle.std.specs.Prelude.{ℕ, ◌≡◌, List, [], ◌∷◌, ◌++◌, map, Bool, true}
use Rattle.words.specs.Tests.{all_hold}
use Rattle.legs.specs.declared.Stations.{Stations}
use Rattle.legs.specs.Minutes.{Minutes, angles_in_range, rounded}
use Rattle.edits.specs.declared.Edit.{Edit}
use Rattle.frames.specs.Request.{Open}
use Rattle.std.specs.Prelude.{Ok}
use Rattle.frames.specs.Numbers.{Bytes, are_bytes, bytes32, fits16, fits32}
use Rattle.frames.specs.Requests.{kind_field, part_after_kind, add_minutes_kind, correct_minutes_kind, angles_of_kind, request_in}
use Rattle.frames.specs.Answers.{frame_of}
use Rattle.frames.specs.Fields.{header_of}
use Rattle.frames.specs.Writing.{fields16, edit_numbers, request_fits}

-- "Add and Correct get second kinds": their fields, M in minutes.
pub data MinutesEdit : Type 0 where
  AddInMinutes : (passage leg newest count : ℕ) → Stations → Minutes → MinutesEdit
  CorrectInMinutes : (passage leg : ℕ) → Stations → (old new : Minutes) → MinutesEdit

-- The edit in hundredths that it is rounded to.
abbrev pub rounded_edit : MinutesEdit → Edit
rounded_edit (AddInMinutes passage leg newest count stations m) =
    Edit.Add (record { passage = passage; leg = leg; newest = newest; count = count; stations = stations; measure = rounded m })
rounded_edit (CorrectInMinutes passage leg stations old new) =
    Edit.Correct (record { passage = passage; leg = leg; stations = stations; old = rounded old; new = rounded new })

abbrev pub minutes_kind : MinutesEdit → ℕ
minutes_kind (AddInMinutes passage leg newest count stations m) = add_minutes_kind
minutes_kind (CorrectInMinutes passage leg stations old new) = correct_minutes_kind

-- M: "compass and clino are a degree and a minute field each, the clino with a sign field .. before them".
abbrev pub angles_of : Minutes → List ℕ
angles_of m = m.compass_degrees ∷ m.compass_minutes ∷ m.sign ∷ m.clino_degrees ∷ m.clino_minutes ∷ []

abbrev pub minutes_bytes : Minutes → Bytes
minutes_bytes m = bytes32 m.distance ++ fields16 (angles_of m)

abbrev pub all_minutes_bytes : List Minutes → Bytes
all_minutes_bytes [] = []
all_minutes_bytes (m ∷ ms) = minutes_bytes m ++ all_minutes_bytes ms

abbrev pub minutes_of_edit : MinutesEdit → List Minutes
minutes_of_edit (AddInMinutes passage leg newest count stations m) = m ∷ []
minutes_of_edit (CorrectInMinutes passage leg stations old new) = old ∷ new ∷ []

-- The frame: the other fields stand as in hundredths.
unfoldable pub minutes_frame : ℕ → MinutesEdit → Bytes
minutes_frame team edit =
    frame_of (minutes_kind edit) (fields16 (team ∷ edit_numbers (rounded_edit edit)) ++ all_minutes_bytes (minutes_of_edit edit))

-- Every field has room in its bits; it may be out of range.
abbrev pub minutes_fit : Minutes → Bool
minutes_fit m = all_hold (fits32 m.distance ∷ map fits16 (angles_of m))

abbrev pub minutes_edit_fits : ℕ → MinutesEdit → Bool
minutes_edit_fits team edit =
    all_hold (
    all_hold (map fits16 (team ∷ edit_numbers (rounded_edit edit)))
    ∷ all_hold (map minutes_fit (minutes_of_edit edit))
    ∷ []
    )

-- Statement: the rounded edit is read from its frame, and the angles are tested as they are sent.
abbrev pub MinutesReadBack : Type 0
MinutesReadBack =
    (team : ℕ) (edit : MinutesEdit) → minutes_edit_fits team edit ≡ true
    → let frame = minutes_frame team edit in
    (request_in frame ≡ Open team (rounded_edit edit))
    × (angles_of_kind (kind_field frame) (part_after_kind frame) ≡ all_hold (map angles_in_range (minutes_of_edit edit)))

-- Statement: such a frame is bytes.
abbrev pub MinutesFramesAreBytes : Type 0
MinutesFramesAreBytes = (team : ℕ) (edit : MinutesEdit) → are_bytes (minutes_frame team edit) ≡ true

-- Statement: every edit that is read from bytes, its angles in range, has room in a frame in hundredths.
abbrev pub EditsReadFit : Type 0
EditsReadFit =
    (frame : Bytes) (team : ℕ) (edit : Edit) → are_bytes frame ≡ true
    → angles_of_kind (kind_field frame) (part_after_kind frame) ≡ true
    → request_in frame ≡ Open team edit
    → request_fits (Open team edit) ≡ true

-- Statement: refusals 3, 4 and 5 never apply to such a frame.
abbrev pub MinutesFramesWhole : Type 0
MinutesFramesWhole = (team : ℕ) (edit : MinutesEdit) → header_of (minutes_frame team edit) ≡ Ok (minutes_kind edit)
