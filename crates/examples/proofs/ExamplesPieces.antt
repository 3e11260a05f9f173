-- An input cut into pieces: at a frame's end, inside its length field, byte by byte; and torn, or with a bad length, in pieces.
use mathlib.Core.Path.{◌≡◌, refl}
use mathlib.Core.List.{List, [], ◌∷◌, ◌++◌, map}
use lib.ListN.{take, drop, replicate}
use Rattle.legs.specs.Positions.{fixed_ranks}
use Rattle.tickets.specs.declared.StepAnswer.TheVariants.{Claimed}
use Rattle.frames.specs.Request.{Open, Step}
use Rattle.frames.specs.declared.Answer.TheVariants.{Standing, Refused}
use Rattle.frames.specs.declared.Answer.TheVariants as Answer
use Rattle.frames.specs.Numbers.{Bytes}
use Rattle.frames.specs.Answers.{answer_frame}
use Rattle.frames.specs.Writing.{request_frame}
use Rattle.calls.specs.Bench.{that_measure, first_leg}
use Rattle.calls.specs.Stream.{next_at, stream_from, stream_of}
use Rattle.calls.specs.Pieces.{beginning, pieces_from}
use Rattle.calls.proofs.Computing.{everything}

unfoldable every_piece : Unit {0}
unfolding everything next_at stream_from stream_of pieces_from
every_piece = tt

-- An edit opened and a step of it.
abbrev opening : Bytes
opening = request_frame (Open 0 (first_leg 1 0 that_measure))

abbrev step : Bytes
step = request_frame (Step 0)

abbrev both_answers : Bytes
both_answers = answer_frame (Standing 5) ++ answer_frame (Answer.Step (Claimed 1))

abbrev written_for : List Bytes → Bytes
written_for pieces = pieces_from (beginning fixed_ranks (replicate 300 7)) pieces

at_once : written_for ((opening ++ step) ∷ []) ≡ both_answers
unfolding every_piece
at_once = refl

at_the_end_of_a_frame : written_for (opening ∷ step ∷ []) ≡ both_answers
unfolding every_piece
at_the_end_of_a_frame = refl

inside_a_length : written_for ((opening ++ take 1 step) ∷ drop 1 step ∷ []) ≡ both_answers
unfolding every_piece
inside_a_length = refl

byte_by_byte : written_for (opening ∷ map (λ byte. byte ∷ []) step) ≡ both_answers
unfolding every_piece
byte_by_byte = refl

torn_in_pieces : written_for (opening ∷ take 1 step ∷ take 2 (drop 1 step) ∷ []) ≡ answer_frame (Standing 5) ++ answer_frame (Refused 3)
unfolding every_piece
torn_in_pieces = refl

-- What comes behind a length field of 63 is not answered.
length_63_in_pieces : written_for (opening ∷ (63 ∷ []) ∷ (0 ∷ []) ∷ step ∷ []) ≡ answer_frame (Standing 5) ++ answer_frame (Refused 3)
unfolding every_piece
length_63_in_pieces = refl
