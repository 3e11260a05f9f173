-- Short ways to write lists of calls for the examples; and every definition that a run, its order and its plain book come to, opened at once.
use Prim.Native.Nat.{ℕ, zero, suc}
use mathlib.Core.List.{List, [], ◌∷◌, map}
use mathlib.Core.Option.{Option}
use lib.ListN.{length, replicate}
use Rattle.legs.specs.declared.Measure.{Measure}
use Rattle.frames.specs.Request.{Request, Step}
use Rattle.frames.specs.declared.Answer.{Answer}
use Rattle.frames.specs.Numbers.{numbers64}
use Rattle.frames.specs.Answers.{answer_frame, longest_answer}
use Rattle.frames.specs.Reading.{answer_in}
use Rattle.frames.specs.Writing.{request_frame}
use Rattle.plain.specs.Plain.{Plain, NumberedLeg, find_below, word_in, word_of, legs_below}
use Rattle.plain.specs.Editing.{succeeds, perform, attempt}
use Rattle.calls.specs.Run.{Call, framed, Heard, answer_heard, run_from}
use Rattle.calls.specs.Order.{finished, was_filled, noted_below, notes_from, holds_from}
use Rattle.calls.specs.Linearizable.{play_from, granted_of, has_back, until_back, since_back, heard_on}
use Rattle.calls.specs.Bench.{stations}
use Rattle.calls.proofs.Computing.{everything}

unfoldable pub every_run : Unit {0}
unfolding everything numbers64 answer_in find_below word_in legs_below succeeds perform attempt answer_heard run_from finished was_filled noted_below notes_from holds_from play_from granted_of has_back until_back since_back
every_run = tt

-- A call for each request, with an output of 52 bytes.
abbrev pub calls : List Request → List Call
calls requests = map (λ request. framed (request_frame request) (replicate longest_answer 0)) requests

-- So many steps of a team.
abbrev pub steps : ℕ → ℕ → List Request
steps many team = replicate many (Step team)

-- The answers that were heard.
abbrev pub answers : List Call → List (Option Answer)
answers list = map answer_heard (heard_on [] list)

-- An answer to a request, heard.
abbrev pub heard_as : Request → Answer → Heard
heard_as request answer = record { call = framed (request_frame request) []; returned = length (answer_frame answer); output = answer_frame answer }

-- A leg from 1 to 2.
abbrev pub leg : ℕ → Measure → NumberedLeg
leg number measure = record { number = number; stations = stations; measure = measure }

-- So many words of a plain book, from a word on.
abbrev pub plain_words : ℕ → ℕ → Plain → List ℕ
plain_words zero first plain = []
plain_words (suc many) first plain = word_of plain first ∷ plain_words many (suc first) plain
