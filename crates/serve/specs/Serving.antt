-- What the program does between a read and a write: the frames answered, what is kept for the next read, and what is written, Refused 3 included; and what it writes so, turn after turn.
use Rattle.std.specs.Prelude.{ℕ, ◌+◌, ◌-◌, ◌<◌, ◌≤◌, ◌≡◌, List, [], ◌∷◌, ◌++◌, map, cond, length, take, drop, eqb, ltb, Option, None, Some, IsSome, is_some, unwrap_or}
use Rattle.words.specs.Tests.{Every}
use Rattle.words.specs.Words.{Words}
use Rattle.legs.specs.Positions.{Ranks, Accepted}
use Rattle.tickets.specs.Tickets.{Tickets}
use Rattle.tickets.specs.Table.{table_of}
use Rattle.frames.specs.declared.Answer.TheVariants.{Refused}
use Rattle.frames.specs.Numbers.{Bytes}
use Rattle.frames.specs.Answers.{answer_frame, written, room_in, with_room}
use Rattle.frames.specs.Fields.{longest_frame}
use Rattle.calls.specs.Run.{fresh}
use Rattle.calls.specs.Survey.{joined, survey_under}
use Rattle.calls.specs.Stream.{Streamed, stream_of, Roomy}
use Rattle.calls.specs.Pieces.{goes_on}
use Rattle.std.specs.declared.ops.ControlFlow.{ControlFlow}
use Rattle.std.specs.declared.ops.ControlFlow.TheVariants.{Continue, Break}
use Rattle.serve.specs.declared.Server as Code

-- The bytes from a place up to another moved to the front, over what stood there.
abbrev pub shifted : Bytes → ℕ → ℕ → Bytes
shifted buffer from have = take (have - from) (drop from buffer) ++ drop (have - from) buffer

-- What came of one read: the tickets, how many bytes of a frame not yet whole stand at the front, if the program goes on, and how many bytes to write.
pub record Served : Type 0 where
  pub tickets : Tickets
  pub have : Option ℕ
  pub written : ℕ

abbrev pub served : Tickets → Option ℕ → ℕ → Served
served tickets have written = record { tickets = tickets; have = have; written = written }

-- What the code's says: what it keeps, and how many bytes to write, if it goes on or not.
abbrev pub served_of : Code.Server → ControlFlow ℕ ℕ → Served
served_of server (Continue written) = served (table_of server.tickets) (Some server.input.have) written
served_of server (Break written) = served (table_of server.tickets) None written

-- The code's server still holds the references that it was made with, to as many bytes.
abbrev pub SameLoans : Code.Server → Code.Server → Type 0
SameLoans before after =
    (after.book.ghost_name ≡ before.book.ghost_name) × (after.ranks ≡ before.ranks)
    × (after.input.buffer.ghost_name ≡ before.input.buffer.ghost_name) × (length after.input.buffer.now ≡ length before.input.buffer.now)
    × (after.out.ghost_name ≡ before.out.ghost_name) × (length after.out.now ≡ length before.out.now)

-- Refused 3 put behind so many bytes of an output: how many there are with it, and the output.
abbrev pub refused_behind : Bytes → ℕ → ℕ × Bytes
refused_behind out at =
    let sent = written (room_in out at) (answer_frame (Refused 3)) in
    (at + sent.0, with_room out at sent.1)

-- At the end of the input: Refused 3 where bytes of a frame not yet whole are kept.
abbrev pub end_of : Bytes → ℕ → ℕ × Bytes
end_of out have = cond (ltb 0 have) (refused_behind out 0) (0, out)

abbrev pub ended_by : Words → Tickets → Bytes → ℕ × Bytes → Served × Words × Bytes × Bytes
ended_by words tickets buffer (count, out) = (served tickets None count, words, buffer, out)

-- What a stream over the first bytes of the buffer leaves: the bytes of a frame not yet whole, at the front; or none, where it stops, and Refused 3 behind the answers.
abbrev pub served_after : Bytes → ℕ → Streamed × Words × Bytes → Served × Words × Bytes × Bytes
served_after buffer have (answered, words, out) =
    let next = answered.tickets in
    cond (goes_on answered.stop)
    (served next (Some (have - answered.consumed)) answered.written, words, shifted buffer answered.consumed have, out)
    (ended_by words next buffer (refused_behind out answered.written))

-- After a read that brought so many bytes behind those kept, none at the end of the input: all whole frames answered, and what is kept.
unfoldable pub served_by : Words → Tickets → Ranks → Bytes → ℕ → ℕ → Bytes → Served × Words × Bytes × Bytes
served_by words tickets ranks buffer have got out =
    cond (eqb got 0)
    (ended_by words tickets buffer (end_of out have))
    (served_after buffer (have + got) (stream_of words tickets ranks (take (have + got) buffer) out))

-- What is written then: the front of the output.
abbrev pub wrote_by : Served × Words × Bytes × Bytes → Bytes
wrote_by turn = take turn.0.written turn.3

-- The program's server before a turn.
pub record Server : Type 0 where
  pub words : Words
  pub tickets : Tickets
  pub ranks : Ranks
  pub buffer : Bytes
  pub have : ℕ
  pub out : Bytes

-- At first a fresh book under some ranks, and no byte in the buffer.
abbrev pub starting : Ranks → Bytes → Bytes → Server
starting ranks buffer out = record { words = (fresh []).book; tickets = (fresh []).tickets; ranks = ranks; buffer = buffer; have = 0; out = out }

-- A read: the bytes that came, and the buffer after it.
pub record Read : Type 0 where
  pub came : Bytes
  pub buffer : Bytes

-- Something came, and it stands behind what was kept; the buffer keeps its length, and what its later bytes are is free.
pub record ReadInto (before : Server) (read : Read) : Type 0 where
  pub some : 0 < length read.came
  pub fits : before.have + length read.came ≤ length before.buffer
  pub front : take (before.have + length read.came) read.buffer ≡ take before.have before.buffer ++ read.came
  pub same_length : length read.buffer ≡ length before.buffer

-- Statement: no read gives less. Whatever buffer is left, as long as before and with the bytes that were kept, what came is what stands behind these.
abbrev pub EveryReadIsInto : Type 0
EveryReadIsInto =
    (before : Server) (buffer : Bytes) (got : ℕ)
    → 0 < got → before.have + got ≤ length before.buffer
    → take before.have buffer ≡ take before.have before.buffer → length buffer ≡ length before.buffer
    → ReadInto before (record { came = take got (drop before.have buffer); buffer = buffer })

-- A turn: one read, and what is done after it.
abbrev pub turn_by : Server → Read → Served × Words × Bytes × Bytes
turn_by before read = served_by before.words before.tickets before.ranks read.buffer before.have (length read.came) before.out

-- What it leaves to the next turn, no byte where it is the last; no turn writes the ranks.
abbrev pub memory_after : Ranks → Served × Words × Bytes × Bytes → Server
memory_after ranks (result, words, buffer, out) = record { words = words; tickets = result.tickets; ranks = ranks; buffer = buffer; have = unwrap_or result.have 0; out = out }

-- What it writes for reads, one after another, and a last one that brings nothing, until a turn says that it does not go on.
unfoldable pub written_in_turns : Server → List Read → Bytes → Bytes
written_in_turns before [] last = wrote_by (turn_by before (record { came = []; buffer = last }))
written_in_turns before (read ∷ later) last =
    let turn = turn_by before read in
    wrote_by turn ++ cond (is_some turn.0.have) (written_in_turns (memory_after before.ranks turn) later last) []

-- Each read that is made brings something behind what is kept.
unfoldable pub ReadsRight : Server → List Read → Type 0
ReadsRight before [] = Unit {0}
ReadsRight before (read ∷ later) =
    let turn = turn_by before read in
    ReadInto before read × (IsSome turn.0.have → ReadsRight (memory_after before.ranks turn) later)

-- Statement: however the input comes, with room for every answer and under any ranks that are accepted, these turns write what survey is to write for the whole of it.
abbrev pub TurnsAreSurvey : Type 0
TurnsAreSurvey =
    (ranks : Ranks) → Accepted ranks → (buffer out last : Bytes) (reads : List Read)
    → Roomy buffer out → ReadsRight (starting ranks buffer out) reads
    → written_in_turns (starting ranks buffer out) reads last ≡ survey_under ranks (joined (map (λ read. read.came) reads))

-- Reads that bring these pieces, one after another, and leave every other byte of the buffer.
abbrev pub read_into : Server → Bytes → Read
read_into before piece =
    let later = drop (before.have + length piece) before.buffer in
    record { came = piece; buffer = take before.have before.buffer ++ (piece ++ later) }

unfoldable pub reads_of : Server → List Bytes → List Read
reads_of before [] = []
reads_of before (piece ∷ later) = read_into before piece ∷ reads_of (memory_after before.ranks (turn_by before (read_into before piece))) later

-- Statement: any pieces can come so that leave room in the buffer for a frame of the longest kind, since less than such a frame is ever kept.
abbrev pub ReadsFit : Type 0
ReadsFit =
    (ranks : Ranks) → Accepted ranks → (buffer out : Bytes) (pieces : List Bytes)
    → Roomy buffer out → Every (λ piece. (0 < length piece) × (longest_frame + length piece ≤ length buffer)) pieces
    → ReadsRight (starting ranks buffer out) (reads_of (starting ranks buffer out) pieces)
