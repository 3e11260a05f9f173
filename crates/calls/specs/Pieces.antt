-- An input that comes in pieces, as reads give it: what is written for it, turn after turn.
use Rattle.std.specs.Prelude.{◌+◌, ◌≤◌, ◌≡◌, Bool, true, false, cond, List, [], ◌∷◌, ◌++◌, length, drop}
use Rattle.words.specs.Tests.{Every}
use Rattle.words.specs.Words.{Words}
use Rattle.legs.specs.Positions.{Ranks, Accepted}
use Rattle.tickets.specs.Tickets.{Tickets}
use Rattle.frames.specs.declared.Answer.TheVariants.{Refused}
use Rattle.frames.specs.Numbers.{Bytes}
use Rattle.frames.specs.Answers.{answer_frame}
use Rattle.frames.specs.Fields.{longest_frame}
use Rattle.calls.specs.declared.Stop.{Stop}
use Rattle.calls.specs.declared.Stop.TheVariants.{MoreInput, OutputFull, BadLength, NoBook, NoRanks}
use Rattle.calls.specs.Run.{fresh}
use Rattle.calls.specs.Survey.{joined, at_end, survey_under}
use Rattle.calls.specs.Stream.{Streamed, stream_of, room_for, Roomy, bytes_of}

-- It reads on unless a length field is above 62. (No book, and ranks that are not accepted, never come to it: it lends a book of 4,096 words and accepted ranks.)
abbrev pub goes_on : Stop → Bool
goes_on MoreInput = true
goes_on OutputFull = true
goes_on BadLength = false
goes_on NoBook = false
goes_on NoRanks = false

-- What one turn leaves to the next: the book and the tickets, the ranks, which stay, the bytes that are no whole frame yet, and the output, which is written over.
pub record Between : Type 0 where
  pub book : Words
  pub tickets : Tickets
  pub ranks : Ranks
  pub kept : Bytes
  pub out : Bytes

-- Before the first piece: a fresh book under some ranks, and nothing kept.
abbrev pub beginning : Ranks → Bytes → Between
beginning ranks out = record { book = (fresh []).book; tickets = (fresh []).tickets; ranks = ranks; kept = []; out = out }

-- A turn: a piece is put behind what was kept, and all whole frames are answered.
abbrev pub input_of : Between → Bytes → Bytes
input_of before piece = before.kept ++ piece

abbrev pub turn_of : Between → Bytes → Streamed × Words × Bytes
turn_of before piece = stream_of before.book before.tickets before.ranks (input_of before piece) before.out

-- What it leaves.
abbrev pub after_turn : Between → Bytes → Between
after_turn before piece =
    let turn = turn_of before piece in
    record { book = turn.1; tickets = turn.0.tickets; ranks = before.ranks; kept = drop turn.0.consumed (input_of before piece); out = turn.2 }

-- What is written for pieces, one after another: each turn's answers; Refused 3 at a stop, which ends it, and at the end of the pieces where something is kept.
unfoldable pub pieces_from : Between → List Bytes → Bytes
pieces_from before [] = at_end before.kept
pieces_from before (piece ∷ later) =
    let turn = turn_of before piece in
    bytes_of turn ++ cond (goes_on turn.0.stop) (pieces_from (after_turn before piece) later) (answer_frame (Refused 3))

-- Each turn that is made has room for every answer.
unfoldable pub RoomEachTurn : Between → List Bytes → Type 0
RoomEachTurn before [] = Unit {0}
RoomEachTurn before (piece ∷ later) =
    Roomy (input_of before piece) before.out
    × (goes_on (turn_of before piece).0.stop ≡ true → RoomEachTurn (after_turn before piece) later)

-- Statement: however an input is cut into pieces, what is written for them from a fresh book is what survey is to write for the whole of it, under any ranks that are accepted.
abbrev pub PiecesAreSurvey : Type 0
PiecesAreSurvey =
    (ranks : Ranks) → Accepted ranks → (out : Bytes) (pieces : List Bytes)
    → RoomEachTurn (beginning ranks out) pieces
    → pieces_from (beginning ranks out) pieces ≡ survey_under ranks (joined pieces)

-- Room for the answers to any one of the pieces, behind a frame of the longest kind.
abbrev pub RoomForPieces : Bytes → List Bytes → Type 0
RoomForPieces out pieces = Every (λ piece. room_for (longest_frame + length piece) ≤ length out) pieces

-- Statement: that is room at each turn, since less than such a frame is ever kept.
abbrev pub PiecesHaveRoom : Type 0
PiecesHaveRoom =
    (ranks : Ranks) → Accepted ranks → (out : Bytes) (pieces : List Bytes)
    → RoomForPieces out pieces
    → RoomEachTurn (beginning ranks out) pieces
