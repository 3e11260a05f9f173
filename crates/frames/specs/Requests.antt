-- "Frames": the kinds, their lengths, and the fields of each.
use Rattle.std.specs.Prelude.{ℕ, ◌+◌, ◌*◌, ◌-◌, ◌/◌, ◌%◌, ◌≡◌, List, [], ◌∷◌, ◌++◌, Bool, true, not, cond, length, drop, eqb}
use Rattle.words.specs.Tests.{all_hold, some_holds, within}
use Rattle.words.specs.Words.{most_named}
use Rattle.legs.specs.declared.Stations.{Stations}
use Rattle.legs.specs.declared.Measure.{Measure}
use Rattle.legs.specs.Minutes.{Minutes, angles_in_range, rounded}
use Rattle.edits.specs.declared.Add.{Add}
use Rattle.edits.specs.declared.Correct.{Correct}
use Rattle.edits.specs.declared.Strike.{Strike}
use Rattle.edits.specs.declared.Move.{Move}
use Rattle.edits.specs.declared.Edit.{Edit}
use Rattle.edits.specs.Ranges.{edit_stations_in_range}
use Rattle.frames.specs.declared.Taken.{Taken}
use Rattle.frames.specs.Request.{Request, Open, Step, Look, View}
use Rattle.frames.specs.Numbers.{Bytes, are_bytes, number16, number32, numbers16, signed16}

-- Each starts with a 16-bit length of what follows it,
abbrev pub length_field : Bytes → ℕ
length_field frame = number16 frame 0

-- then a 16-bit kind:
abbrev pub kind_field : Bytes → ℕ
kind_field frame = number16 frame 2

-- four bytes.
abbrev pub head_bytes : ℕ
head_bytes = 4

-- The reader works on the part of the frame after its kind.
abbrev pub part_after_kind : Bytes → Bytes
part_after_kind frame = drop head_bytes frame

-- The kinds of what is asked for.
abbrev pub add_kind : ℕ
add_kind = 1

abbrev pub correct_kind : ℕ
correct_kind = 2

abbrev pub strike_kind : ℕ
strike_kind = 3

abbrev pub move_kind : ℕ
move_kind = 4

abbrev pub step_kind : ℕ
step_kind = 5

abbrev pub look_kind : ℕ
look_kind = 6

abbrev pub view_kind : ℕ
view_kind = 7

-- Add and Correct, compass and clino in degrees and minutes.
abbrev pub add_minutes_kind : ℕ
add_minutes_kind = 17

abbrev pub correct_minutes_kind : ℕ
correct_minutes_kind = 18

-- Each kind and its length, which is never 0: of the edits Add (length 24), Correct (28), Strike (26) and Move (24), in minutes Add (30) and Correct (40),
abbrev pub edit_kinds : List (ℕ × ℕ)
edit_kinds = (add_kind, 24) ∷ (correct_kind, 28) ∷ (strike_kind, 26) ∷ (move_kind, 24) ∷ (add_minutes_kind, 30) ∷ (correct_minutes_kind, 40) ∷ []

-- and of all but a view, whose length varies: besides the edits Step (4) and Look (4).
abbrev pub kinds : List (ℕ × ℕ)
kinds = edit_kinds ++ (step_kind, 4) ∷ (look_kind, 4) ∷ []

-- The length beside a kind; 0 where it stands in no row.
abbrev pub length_in : List (ℕ × ℕ) → ℕ → ℕ
length_in [] kind = 0
length_in (row ∷ rows) kind = cond (eqb kind row.0) row.1 (length_in rows kind)

abbrev pub has_row : List (ℕ × ℕ) → ℕ → Bool
has_row rows kind = not (eqb (length_in rows kind) 0)

abbrev pub length_of_kind : ℕ → ℕ
length_of_kind kind = length_in kinds kind

-- A number is an edit's kind; it is a kind.
abbrev pub is_edit_kind : ℕ → Bool
is_edit_kind kind = has_row edit_kinds kind

abbrev pub is_kind : ℕ → Bool
is_kind kind = some_holds (has_row kinds kind ∷ eqb kind view_kind ∷ [])

-- A view: the kind, the team and n take 6 bytes, each word 2.
abbrev pub length_of_view : ℕ → ℕ
length_of_view words = 6 + 2 * words

-- Whether a length field is one of a kind: View (even, 8 to 18: one to six words); every other kind has one length.
unfoldable pub length_fits : ℕ → ℕ → Bool
length_fits kind field =
    cond (eqb kind view_kind)
    (all_hold (within (length_of_view 1) (length_of_view most_named) field ∷ eqb (field % 2) 0 ∷ []))
    (eqb field (length_of_kind kind))

-- from to.
abbrev pub stations_at : Bytes → ℕ → Stations
stations_at part at = record { from = number16 part at; to = number16 part (at + 2) }

-- M stands for distance (32 bits), compass, clino (signed).
abbrev pub measure_at : Bytes → ℕ → Measure
measure_at part at = record { distance = number32 part at; compass = number16 part (at + 4); clino = signed16 part (at + 6) }

-- M of a frame in minutes: distance (32 bits), degrees and minutes of the compass, sign, degrees and minutes of the clino.
abbrev pub minutes_at : Bytes → ℕ → Minutes
minutes_at part at = record {
  distance = number32 part at;
  compass_degrees = number16 part (at + 4);
  compass_minutes = number16 part (at + 6);
  sign = number16 part (at + 8);
  clino_degrees = number16 part (at + 10);
  clino_minutes = number16 part (at + 12);
}

-- f r s c: a leg that is taken out of its passage's list.
abbrev pub taken_at : Bytes → ℕ → Taken
taken_at part at = record { newer = number16 part at; leg = number16 part (at + 2); older = number16 part (at + 4); count = number16 part (at + 6) }

-- Every edit, a step and a view start with the team.
abbrev pub team_in : Bytes → ℕ
team_in part = number16 part 0

-- Add: team p r h c from to M. M is what its fields are read as, at byte 14.
abbrev pub add_with : Measure → Bytes → Add
add_with measure part = record {
  passage = number16 part 2;
  leg = number16 part 4;
  newest = number16 part 6;
  count = number16 part 8;
  stations = stations_at part 10;
  measure = measure;
}

unfoldable pub add_in : Bytes → Add
add_in part = add_with (measure_at part 14) part

unfoldable pub add_in_minutes : Bytes → Add
add_in_minutes part = add_with (rounded (minutes_at part 14)) part

-- Correct: team p r from to, old M, new M. They start at byte 10, each of 8 bytes, in minutes of 14.
abbrev pub correct_with : Measure → Measure → Bytes → Correct
correct_with old new part = record {
  passage = number16 part 2;
  leg = number16 part 4;
  stations = stations_at part 6;
  old = old;
  new = new;
}

unfoldable pub correct_in : Bytes → Correct
correct_in part = correct_with (measure_at part 10) (measure_at part 18) part

unfoldable pub correct_in_minutes : Bytes → Correct
correct_in_minutes part = correct_with (rounded (minutes_at part 10)) (rounded (minutes_at part 24)) part

-- Strike: team p f r s c from to M.
unfoldable pub strike_in : Bytes → Strike
strike_in part = record {
  passage = number16 part 2;
  newer = number16 part 4;
  leg = number16 part 6;
  older = number16 part 8;
  count = number16 part 10;
  stations = stations_at part 12;
  measure = measure_at part 16;
}

-- Move: team p q f r s c h d from to.
unfoldable pub move_in : Bytes → Move
move_in part = record {
  passage = number16 part 2;
  into = number16 part 4;
  newer = number16 part 6;
  leg = number16 part 8;
  older = number16 part 10;
  count = number16 part 12;
  into_newest = number16 part 14;
  into_count = number16 part 16;
  stations = stations_at part 18;
}

-- The edit of a frame whose kind is an edit's: one in minutes is the edit in hundredths that it is rounded to.
unfoldable pub edit_of_kind : ℕ → Bytes → Edit
edit_of_kind kind part =
    cond (eqb kind add_kind) (Edit.Add (add_in part))
    (cond (eqb kind correct_kind) (Edit.Correct (correct_in part))
    (cond (eqb kind strike_kind) (Edit.Strike (strike_in part))
    (cond (eqb kind add_minutes_kind) (Edit.Add (add_in_minutes part))
    (cond (eqb kind correct_minutes_kind) (Edit.Correct (correct_in_minutes part))
    (Edit.Move (move_in part))))))

-- Whether the angles of a frame in minutes are in range as they are sent. Other frames have none in minutes.
unfoldable pub angles_of_kind : ℕ → Bytes → Bool
angles_of_kind kind part =
    cond (eqb kind add_minutes_kind) (angles_in_range (minutes_at part 14))
    (cond (eqb kind correct_minutes_kind) (all_hold (angles_in_range (minutes_at part 10) ∷ angles_in_range (minutes_at part 24) ∷ []))
    true)

-- View: team n, then words: as many as there are.
abbrev pub view_words_in : Bytes → List ℕ
view_words_in part = numbers16 ((length part - 4) / 2) part 4

-- What a frame asks for, by its kind. (A number that is no kind is refused before this is looked at.)
unfoldable pub request_of_kind : ℕ → Bytes → Request
request_of_kind kind part =
    cond (eqb kind step_kind) (Step (team_in part))
    (cond (eqb kind look_kind) (Look (number16 part 0))
    (cond (eqb kind view_kind) (View (team_in part) (number16 part 2) (view_words_in part))
    (Open (team_in part) (edit_of_kind kind part))))

unfoldable pub request_in : Bytes → Request
request_in frame = request_of_kind (kind_field frame) (part_after_kind frame)

-- Statement: the stations of every edit that is read from bytes are station numbers.
abbrev pub StationsFit : Type 0
StationsFit = (frame : Bytes) (team : ℕ) (edit : Edit) → are_bytes frame ≡ true → request_in frame ≡ Open team edit → edit_stations_in_range edit ≡ true
