-- The stream: all whole frames in a part of the input, answered one after another into a part of the output.
use Rattle.std.specs.Prelude.{ℕ, zero, suc, ◌+◌, ◌*◌, ◌-◌, ◌<◌, ◌≤◌, ◌≡◌, ◌⊎◌, List, [], ◌∷◌, ◌++◌, cond, length, take, drop, eqb, ltb, Result, Ok, Err}
use Rattle.std.proofs.Math.Option.{Option, none, some}
use Rattle.words.specs.Tests.{Every}
use Rattle.words.specs.Words.{Words, words_in_book}
use Rattle.legs.specs.Positions.{Ranks, is_permutation, Accepted}
use Rattle.tickets.specs.Tickets.{Tickets}
use Rattle.tickets.specs.Table.{table_of}
use Rattle.frames.specs.Numbers.{Bytes, number16}
use Rattle.frames.specs.Requests.{length_field}
use Rattle.frames.specs.Answers.{longest_answer, room_in, with_room}
use Rattle.calls.specs.declared.Stop.{Stop}
use Rattle.calls.specs.declared.Stop.TheVariants.{MoreInput, OutputFull, BadLength, NoBook, NoRanks}
use Rattle.calls.specs.declared.Streamed as Code
use Rattle.calls.specs.Call.{book_length_wrong, ranks_wrong, Check, check, first_of, call_of}
use Rattle.calls.specs.Run.{Shared, Run, run_from, sharing}
use Rattle.frames.specs.Fields.{longest_frame}
use Rattle.calls.specs.Survey.{longest_field, joined, all_written, calls_on}

-- The bytes of the whole frame at a place of the input, or why there is none: a length field above 62, or bytes that are still to come.
unfoldable pub next_at : Bytes → ℕ → Result ℕ Stop
next_at input at =
    cond (ltb (length input - at) 2) (Err MoreInput)
    (cond (ltb longest_field (number16 input at)) (Err BadLength)
    (cond (ltb (length input - at) (2 + number16 input at)) (Err MoreInput) (Ok (2 + number16 input at))))

-- A whole frame lies inside the input.
abbrev pub NextInside : Bytes → ℕ → Result ℕ Stop → Type 0
NextInside input at (Err stop) = Unit {0}
NextInside input at (Ok size) = (2 ≤ size) × (at + size ≤ length input)

-- What a stream returns: the tickets, the bytes consumed and written, and why it stopped.
pub record Streamed : Type 0 where
  pub tickets : Tickets
  pub consumed : ℕ
  pub written : ℕ
  pub stop : Stop

-- What the code's says.
abbrev pub streamed_of : Code.Streamed → Streamed
streamed_of result = record { tickets = table_of result.tickets; consumed = result.consumed; written = result.written; stop = result.stop }

abbrev pub streamed : Tickets → ℕ → ℕ → Stop → Streamed
streamed tickets consumed written stop = record { tickets = tickets; consumed = consumed; written = written; stop = stop }

-- One of two, by the next frame.
abbrev pub stopped_or : {A : Type 0} → Result ℕ Stop → (Stop → A) → (ℕ → A) → A
stopped_or (Err stop) stopped go_on = stopped stop
stopped_or (Ok size) stopped go_on = go_on size

-- From a place of the input and one of the output on, for at most so many frames: each is one call, on what is left of the output, with the book and the tickets that the last one left, under the same ranks.
unfoldable pub stream_from : ℕ → Words → Tickets → Ranks → Bytes → Bytes → ℕ → ℕ → Streamed × Words × Bytes
stream_from zero words tickets ranks input out at filled = (streamed tickets at filled MoreInput, words, out)
stream_from (suc most) words tickets ranks input out at filled =
    stopped_or (next_at input at) (λ stop. (streamed tickets at filled stop, words, out)) (λ size.
    let call = call_of words tickets ranks (take size (drop at input)) (room_in out filled) in
    let later = stream_from most call.1 call.0.tickets ranks input (with_room out filled call.2) (at + size) (filled + call.0.written) in
    cond (ltb (length out - filled) longest_answer) (streamed tickets at filled OutputFull, words, out) later)

-- The whole of an input. Every frame has at least two bytes, so that there are no more frames than bytes. Over another book (1) and under ranks that are not accepted (13), in
-- this order, nothing is consumed and nothing is written.
unfoldable pub stream_of : Words → Tickets → Ranks → Bytes → Bytes → Streamed × Words × Bytes
stream_of words tickets ranks input out =
    cond (eqb (length words) words_in_book)
    (cond (is_permutation ranks) (stream_from (length input) words tickets ranks input out 0 0) (streamed tickets 0 0 NoRanks, words, out))
    (streamed tickets 0 0 NoBook, words, out)

-- "A definition gives this paper's number": of the checks of a call, those that a stream makes before its first frame, and the number of a stop by one.
abbrev pub stream_checks : Words → Ranks → List Check
stream_checks words ranks = check 1 (book_length_wrong words) ∷ check 13 (ranks_wrong ranks) ∷ []

abbrev pub stop_number : Stop → Option ℕ
stop_number NoBook = some 1
stop_number NoRanks = some 13
stop_number MoreInput = none
stop_number OutputFull = none
stop_number BadLength = none

-- Statement: a stream stops by the first of these that applies, and then consumes and writes nothing; else by none.
abbrev pub StreamRefuses : Type 0
StreamRefuses =
    (words : Words) (tickets : Tickets) (ranks : Ranks) (input out : Bytes)
    → let result = stream_of words tickets ranks input out in
    (stop_number result.0.stop ≡ first_of (stream_checks words ranks))
    × ((number : ℕ) → first_of (stream_checks words ranks) ≡ some number → result ≡ (streamed tickets 0 0 result.0.stop, words, out))

-- A whole frame: its length field is the count of bytes after it, and at most 62.
abbrev pub WholeFrame : Bytes → Type 0
WholeFrame frame = (length frame ≡ 2 + length_field frame) × (length_field frame ≤ longest_field)

-- Bytes that a whole frame starts.
abbrev pub StartsWhole : Bytes → Type 0
StartsWhole rest = (2 ≤ length rest) × (length_field rest ≤ longest_field) × (2 + length_field rest ≤ length rest)

-- When each stop is right, by what is left of the input and how many bytes of the output: nothing or the start of a frame; a whole frame, and no room for an answer; a length field above 62. A book of 4,096 words and accepted ranks are never refused.
abbrev pub StopRight : Stop → Bytes → ℕ → Type 0
StopRight MoreInput rest room = (length rest < 2) ⊎ ((length_field rest ≤ longest_field) × (length rest < 2 + length_field rest))
StopRight OutputFull rest room = StartsWhole rest × (room < longest_answer)
StopRight BadLength rest room = (2 ≤ length rest) × (longest_field < length_field rest)
StopRight NoBook rest room = ⊥
StopRight NoRanks rest room = ⊥

-- The single calls on frames, one after another.
abbrev pub run_on : Shared → List Bytes → Run
run_on shared frames = run_from shared (calls_on frames)

-- A stream is right: what it consumed is whole frames, one after another; book and tickets are those that the calls on these frames leave; the calls' answers stand at the front of the output, whose later bytes and length stay; and it stopped where it must.
pub record StreamRight (shared : Shared) (input out : Bytes) (result : Streamed × Words × Bytes) : Type 0 where
  pub frames : List Bytes
  pub all_whole : Every WholeFrame frames
  pub consumed : result.0.consumed ≡ length (joined frames)
  pub parts : joined frames ++ drop result.0.consumed input ≡ input
  pub left : sharing result.1 result.0.tickets shared.ranks ≡ (run_on shared frames).end
  pub written : result.0.written ≡ length (all_written (run_on shared frames).heard)
  pub output : result.2 ≡ all_written (run_on shared frames).heard ++ drop result.0.written out
  pub same_length : length result.2 ≡ length out
  pub stop_right : StopRight result.0.stop (drop result.0.consumed input) (length out - result.0.written)

-- Statement: a stream is the list of single calls.
abbrev pub StreamIsRun : Type 0
StreamIsRun =
    (words : Words) (tickets : Tickets) (ranks : Ranks) (input out : Bytes)
    → length words ≡ words_in_book → Accepted ranks
    → StreamRight (sharing words tickets ranks) input out (stream_of words tickets ranks input out)

-- So many bytes of answer at most for a byte of frame: a frame of fewer than six bytes is refused, which takes six bytes, and six bytes are enough for 52.
abbrev pub answer_ratio : ℕ
answer_ratio = 9

-- Statement: no call returns more than so many times the bytes of its frame.
abbrev pub AnswersWithinRatio : Type 0
AnswersWithinRatio =
    (words : Words) (tickets : Tickets) (ranks : Ranks) (frame out : Bytes) → 2 ≤ length frame
    → (call_of words tickets ranks frame out).0.written ≤ answer_ratio * length frame

-- Room for the answers to so many bytes of frames: a stream stops where there is less of it than the longest answer takes, however short the next one is.
abbrev pub room_for : ℕ → ℕ
room_for bytes = answer_ratio * bytes + longest_answer

-- Room for every answer.
abbrev pub Roomy : Bytes → Bytes → Type 0
Roomy input out = room_for (length input) ≤ length out

-- Statement: with such room a stream never stops for want of it: it stops at a length field above 62, or where more input is needed and less than a frame of the longest kind is left.
abbrev pub RoomSuffices : Type 0
RoomSuffices =
    (words : Words) (tickets : Tickets) (ranks : Ranks) (input out : Bytes)
    → length words ≡ words_in_book → Accepted ranks → Roomy input out
    → let result = stream_of words tickets ranks input out in
    (result.0.stop ≡ BadLength) ⊎ ((result.0.stop ≡ MoreInput) × (length (drop result.0.consumed input) < longest_frame))

-- What a stream wrote.
abbrev pub bytes_of : Streamed × Words × Bytes → Bytes
bytes_of result = take result.0.written result.2

-- Two streams, one after the other, are like one: in the bytes, the book, the tickets and the stop.
pub record Alike (first second whole : Streamed × Words × Bytes) : Type 0 where
  pub bytes : bytes_of first ++ bytes_of second ≡ bytes_of whole
  pub book : second.1 ≡ whole.1
  pub tickets : second.0.tickets ≡ whole.0.tickets
  pub consumed : first.0.consumed + second.0.consumed ≡ whole.0.consumed
  pub stop : second.0.stop ≡ whole.0.stop

-- Statement: input in pieces is answered alike, streaming one piece into any output and then what it left with the next, or both at once.
abbrev pub PiecesSuffice : Type 0
PiecesSuffice =
    (words : Words) (tickets : Tickets) (ranks : Ranks) (piece next out later both : Bytes)
    → length words ≡ words_in_book → Accepted ranks
    → let first = stream_of words tickets ranks piece out in
    let rest = drop first.0.consumed piece ++ next in
    Roomy rest later → Roomy (piece ++ next) both
    → Alike first (stream_of first.1 first.0.tickets ranks rest later) (stream_of words tickets ranks (piece ++ next) both)
