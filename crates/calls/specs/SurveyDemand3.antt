-- Demand 3 of the program survey: from the bytes that it reads.
use Rattle.std.specs.Prelude.{◌≡◌, true, [], ◌∷◌}
use Rattle.words.specs.Words.{Words}
use Rattle.legs.specs.Positions.{Ranks, Accepted}
use Rattle.frames.specs.Numbers.{Bytes, are_bytes}
use Rattle.calls.specs.Run.{loading, fresh, under_ranks, left_by, run}
use Rattle.calls.specs.Linearizable.{Linearizable}
use Rattle.calls.specs.Survey.{frames_in, calls_on}

-- Statement: on every input of bytes, the run of its whole frames, whose answers survey writes (`SurveyIsRun`), is as demand 3 has it.
abbrev pub SurveyLinearizable : Type 0
SurveyLinearizable = (input : Bytes) → are_bytes input ≡ true → Linearizable (run [] (calls_on (frames_in input)))

-- Statement: any ranks that are accepted may be in force at the start: those of a list that begins with their load.
abbrev pub LoadBegins : Type 0
LoadBegins = (store : Words) (ranks : Ranks) → Accepted ranks → left_by (fresh store) (loading ranks) ≡ under_ranks (fresh store) ranks

-- Statement: so under any such ranks, too.
abbrev pub SurveyLinearizableUnder : Type 0
SurveyLinearizableUnder = (ranks : Ranks) → Accepted ranks → (input : Bytes) → are_bytes input ≡ true → Linearizable (run [] (loading ranks ∷ calls_on (frames_in input)))
