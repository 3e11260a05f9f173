-- The compass and the clino of an M at a byte, in minutes or in hundredths: their answers.
use Rattle.std.specs.Prelude.{ℕ, ◌+◌, Bool, cond, leb, ℤ, Option}
use Rattle.legs.specs.Legs.{last_compass}
use Rattle.frames.specs.Numbers.{Bytes, number16, signed16}
use Rattle.frames.specs.Fields.{field_of, clino_field_of, compass_minutes_field_of, clino_minutes_field_of}

abbrev pub compass_field_at : Bool → Bytes → ℕ → Option ℕ
compass_field_at minutes part at =
    cond minutes
    (compass_minutes_field_of (number16 part (at + 4)) (number16 part (at + 6)))
    (field_of (leb (number16 part (at + 4)) last_compass) (number16 part (at + 4)))

abbrev pub clino_field_at : Bool → Bytes → ℕ → Option ℤ
clino_field_at minutes part at =
    cond minutes
    (clino_minutes_field_of (number16 part (at + 8)) (number16 part (at + 10)) (number16 part (at + 12)))
    (clino_field_of (signed16 part (at + 6)))
