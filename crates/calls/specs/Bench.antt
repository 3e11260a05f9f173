-- "Bench examples": a table of twelve, with one property over it; and the whole case of "The program survey".
use Rattle.std.specs.Prelude.{ℕ, ◌≡◌, List, [], ◌∷◌, ◌++◌, map, replicate, ℤ, pos, negsuc}
use Rattle.words.specs.Tests.{Every}
use Rattle.words.specs.Words.{newer_word}
use Rattle.legs.specs.Positions.{position_of}
use Rattle.legs.specs.declared.Stations.{Stations}
use Rattle.legs.specs.declared.Measure.{Measure}
use Rattle.legs.specs.Legs.{clino_offset, place_of, measure_of}
use Rattle.frames.specs.declared.Answer.{Answer}
use Rattle.frames.specs.Numbers.{Bytes}
use Rattle.tickets.specs.declared.StepAnswer.TheVariants.{Claimed, Waiting, Found, Put, Granted, Stale}
use Rattle.edits.specs.declared.Edit.{Edit}
use Rattle.edits.specs.declared.Edit.TheVariants.{Add, Strike}
use Rattle.frames.specs.Request.{Request, Open, Step}
use Rattle.frames.specs.Writing.{request_frame}
use Rattle.frames.specs.Answers.{answer_frame}
use Rattle.calls.specs.Survey.{survey_of, joined}

-- An example: a figure and what it is; or what survey is asked from a fresh book, and what it answers.
pub data Example : Type 0 where
  figure : (found expected : ℕ) → Example
  stream : (asked : List Request) (answered : List Answer) → Example

-- The one property, of bytes where the example is a stream.
abbrev pub ExampleHolds : Example → Type 0
ExampleHolds (figure found expected) = found ≡ expected
ExampleHolds (stream asked answered) = survey_of (joined (map request_frame asked)) ≡ joined (map answer_frame answered)

-- "That leg", of the whole case: 1 to 2, 5,000 mm, 90.00°, −1.50°.
abbrev pub stations : Stations
stations = record { from = 1; to = 2 }

abbrev pub measured : ℕ → ℤ → Measure
measured distance clino = record { distance = distance; compass = 9000; clino = clino }

abbrev pub that_measure : Measure
that_measure = measured 5000 (negsuc 149)

-- Leg r to the front of passage 0, for h 0 and a count.
abbrev pub first_leg : ℕ → ℕ → Measure → Edit
first_leg leg count measure = Add (record { passage = 0; leg = leg; newest = 0; count = count; stations = stations; measure = measure })

abbrev pub strike_of : ℕ → ℕ → Edit
strike_of newer leg = Strike (record { passage = 0; newer = newer; leg = leg; older = 0; count = 1; stations = stations; measure = that_measure })

abbrev pub table : List Example
table =
    -- 1, 2: that leg's measure and place
    figure (measure_of that_measure) 76022100792200
    ∷ figure (place_of 0 stations) 8388673
    -- 3: leg 1,008 ends at word 4,095
    ∷ figure (newer_word 1008) 4095
    -- 4: clino −9,000 adds 0
    ∷ figure (clino_offset (negsuc 8999)) 0
    -- 5: clino 9,001
    ∷ stream (Open 0 (first_leg 1 0 (measured 5000 (pos 9001))) ∷ []) (Answer.Refused 10 ∷ [])
    -- 6, 7: distance 0, and 100,000
    ∷ stream (Open 0 (first_leg 1 0 (measured 0 (negsuc 149))) ∷ []) (Answer.Refused 10 ∷ [])
    ∷ stream (Open 0 (first_leg 1 0 (measured 100000 (negsuc 149))) ∷ []) (Answer.Standing 5 ∷ [])
    -- 8, 9: positions
    ∷ figure (position_of 50) 0
    ∷ figure (position_of 0) 6
    -- 10: fresh book, Add p 0, h 0, c 1
    ∷ stream
    (Open 0 (first_leg 1 1 that_measure) ∷ Step 0 ∷ Step 0 ∷ Step 0 ∷ [])
    (Answer.Standing 5 ∷ Answer.Step (Claimed 1) ∷ Answer.Step (Found 1) ∷ Answer.Step (Stale 1 3) ∷ [])
    -- 11: Strike with f = r
    ∷ stream (Open 0 (strike_of 1 1) ∷ []) (Answer.Refused 11 ∷ [])
    -- 12: teams 0 and 1 both add first legs to passage 0
    ∷ stream
    (
    Open 0 (first_leg 1 0 that_measure) ∷ Open 1 (first_leg 2 0 that_measure) ∷ Step 0 ∷ Step 1
    ∷ Step 0 ∷ Step 0 ∷ Step 0 ∷ Step 0 ∷ Step 0 ∷ Step 0 ∷ Step 0 ∷ Step 0 ∷ Step 0 ∷ Step 1 ∷ []
    )
    (
    Answer.Standing 5 ∷ Answer.Standing 5 ∷ Answer.Step (Claimed 1) ∷ Answer.Step (Waiting 0 0)
    ∷ Answer.Step (Claimed 2) ∷ Answer.Step (Claimed 3) ∷ Answer.Step (Claimed 4) ∷ Answer.Step (Claimed 5)
    ∷ Answer.Step (Put 1) ∷ Answer.Step (Put 2) ∷ Answer.Step (Put 3) ∷ Answer.Step (Put 4) ∷ Answer.Step (Granted 10)
    ∷ Answer.Step (Stale 0 2) ∷ []
    )
    ∷ []

-- Statement: the property, over the table.
abbrev pub BenchExamples : Type 0
BenchExamples = Every ExampleHolds table

-- "Whole case": the frame of the add, and of a step.
abbrev pub add_frame : Bytes
add_frame =
    0x18 ∷ 0x00 ∷ 0x01 ∷ 0x00 ∷ 0x00 ∷ 0x00 ∷ 0x00 ∷ 0x00 ∷ 0x01 ∷ 0x00 ∷ 0x00 ∷ 0x00 ∷ 0x00 ∷ 0x00
    ∷ 0x01 ∷ 0x00 ∷ 0x02 ∷ 0x00 ∷ 0x88 ∷ 0x13 ∷ 0x00 ∷ 0x00 ∷ 0x28 ∷ 0x23 ∷ 0x6A ∷ 0xFF ∷ []

abbrev pub step_frame : Bytes
step_frame = 0x04 ∷ 0x00 ∷ 0x05 ∷ 0x00 ∷ 0x00 ∷ 0x00 ∷ []

-- The add, "then ten times" the step.
abbrev pub whole_case_input : Bytes
whole_case_input = add_frame ++ joined (replicate 10 step_frame)

-- Standing 5; Claimed 1 to 5; Put 1 to 4; Granted, tries 10.
abbrev pub whole_case_output : Bytes
whole_case_output =
    0x04 ∷ 0x00 ∷ 0x80 ∷ 0x00 ∷ 0x05 ∷ 0x00
    ∷ 0x04 ∷ 0x00 ∷ 0x81 ∷ 0x00 ∷ 0x01 ∷ 0x00
    ∷ 0x04 ∷ 0x00 ∷ 0x81 ∷ 0x00 ∷ 0x02 ∷ 0x00
    ∷ 0x04 ∷ 0x00 ∷ 0x81 ∷ 0x00 ∷ 0x03 ∷ 0x00
    ∷ 0x04 ∷ 0x00 ∷ 0x81 ∷ 0x00 ∷ 0x04 ∷ 0x00
    ∷ 0x04 ∷ 0x00 ∷ 0x81 ∷ 0x00 ∷ 0x05 ∷ 0x00
    ∷ 0x04 ∷ 0x00 ∷ 0x84 ∷ 0x00 ∷ 0x01 ∷ 0x00
    ∷ 0x04 ∷ 0x00 ∷ 0x84 ∷ 0x00 ∷ 0x02 ∷ 0x00
    ∷ 0x04 ∷ 0x00 ∷ 0x84 ∷ 0x00 ∷ 0x03 ∷ 0x00
    ∷ 0x04 ∷ 0x00 ∷ 0x84 ∷ 0x00 ∷ 0x04 ∷ 0x00
    ∷ 0x06 ∷ 0x00 ∷ 0x86 ∷ 0x00 ∷ 0x0A ∷ 0x00 ∷ 0x00 ∷ 0x00
    ∷ []

-- Statement: survey writes the output of the whole case for its input.
abbrev pub WholeCase : Type 0
WholeCase = survey_of whole_case_input ≡ whole_case_output
