-- The program's turns are the turns of an input in pieces: the front of the buffer is what was kept.
use Rattle.std.specs.Prelude.{Some, IsSome, is_some}
use Prim.Native.Nat.{ℕ, zero, suc, ◌+◌, ◌-◌, ◌<◌, ◌≤◌}
use native.Mathlib.Nat.{not-suc-le-zero}
use native.Mathlib.Omega.{arith}
use mathlib.Core.Path.{◌≡◌, refl, sym, ap, subst, ◌∙◌}
use mathlib.Core.Bool.{Bool, true, false, cond, true≢false}
use mathlib.Core.List.{List, [], ◌∷◌, ◌++◌, map, append_assoc, append-nil}
use borrow.Author.Tests.{lt-ltb}
use lib.ListN.{length, take, drop, length-append, length-drop, length-replicate, take-append-drop}
use lib.Seq.{take_at, take-add, drop-append-le, length-take-le, length-slice}
use Rattle.calls.specs.Run.{sharing}
use Rattle.words.specs.Tests.{Every}
use Rattle.words.specs.Words.{Words, words_in_book}
use Rattle.legs.specs.Positions.{Ranks, Accepted}
use Rattle.frames.specs.declared.Answer.TheVariants.{Refused}
use Rattle.frames.specs.Numbers.{Bytes}
use Rattle.frames.specs.Answers.{answer_frame, room_in, with_room}
use Rattle.frames.specs.Fields.{longest_frame}
use Rattle.calls.specs.Survey.{joined, all_written, at_end}
use Rattle.calls.specs.Stream.{Streamed, stream_of, run_on, StreamRight, Roomy, bytes_of}
use Rattle.calls.specs.Pieces.{goes_on, Between, turn_of, after_turn, pieces_from, RoomEachTurn}
use Rattle.calls.proofs.StreamRun.{stream_is_run}
use Rattle.calls.proofs.StreamPieces.{left_length}
use Rattle.calls.proofs.SurveyPieces.{pieces_are_survey}
use Rattle.serve.specs.Serving.{Served, shifted, served, refused_behind, end_of, ended_by, served_after, served_by, wrote_by, Server, starting, Read, ReadInto, EveryReadIsInto, turn_by, memory_after, written_in_turns, ReadsRight, TurnsAreSurvey, read_into, reads_of, ReadsFit}
use Rattle.serve.proofs.Serving.{serves_read, serves_no_more, serves_on, few_kept}

-- Bytes put behind the first ones of an output come behind them.
put_front : (out bytes : Bytes) (at : ℕ) → at ≤ length out
    → take (at + length bytes) (with_room out at (bytes ++ drop (length bytes) (room_in out at))) ≡ take at out ++ bytes
put_front out bytes at inside =
    let rest = drop (length bytes) (room_in out at) in
    let over = drop (length out - at) (drop at out) in
    ap (λ (later : Bytes). take (at + length bytes) (take at out ++ later)) (append_assoc bytes rest over)
    ∙ ap (take (at + length bytes)) (sym (append_assoc (take at out) bytes (rest ++ over)))
    ∙ take_at (take at out ++ bytes) (rest ++ over) (at + length bytes) (omega (arith, length-append (take at out) bytes, length-take-le at out inside))

-- A read that leaves every other byte: what was kept and what came stand at the front of a buffer as long as before.
read_into_lem : (before : Server) (piece : Bytes) → 0 < length piece → before.have + length piece ≤ length before.buffer → ReadInto before (read_into before piece)
read_into_lem before piece some fits =
    let kept = take before.have before.buffer in
    let later = drop (before.have + length piece) before.buffer in
    let many = length-take-le before.have before.buffer (omega (arith, fits)) in
    record {
      some = some;
      fits = fits;
      front =
          ap (take (before.have + length piece)) (sym (append_assoc kept piece later))
          ∙ take_at (kept ++ piece) later (before.have + length piece) (omega (arith, length-append kept piece, many));
      same_length = omega (arith, fits, length-append kept (piece ++ later), length-append piece later, many, length-drop (before.have + length piece) before.buffer);
    }

-- So do those of any read, by what is said of it.
pub every_read_is_into : EveryReadIsInto
every_read_is_into before buffer got some fits kept long =
    let came = take got (drop before.have buffer) in
    let many : length came ≡ got = length-take-le got (drop before.have buffer) (omega (arith, fits, long, length-drop before.have buffer)) in
    record {
      some = omega (arith, some, many);
      fits = omega (arith, fits, many);
      front =
          ap (λ (n : ℕ). take (before.have + n) buffer) many
          ∙ take-add before.have got buffer
          ∙ ap (λ (front : Bytes). front ++ came) kept;
      same_length = long;
    }

-- A shift: what is left of the first bytes stands at the front of a buffer as long as before.
shift_front : (buffer : Bytes) (from have : ℕ) → from ≤ have → have ≤ length buffer → take (have - from) (shifted buffer from have) ≡ drop from (take have buffer)
shift_front buffer from have less inside =
    let left = drop from (take have buffer) in
    let many : length left ≡ have - from = length-slice from have buffer inside in
    let front : take (have - from) (drop from buffer) ≡ left =
    ap (λ (bytes : Bytes). take (have - from) (drop from bytes)) (sym (take-append-drop have buffer))
    ∙ ap (take (have - from)) (drop-append-le from (take have buffer) (drop have buffer) (omega (arith, less, length-take-le have buffer inside)))
    ∙ take_at left (drop have buffer) (have - from) many in
    ap (λ (bytes : Bytes). take (have - from) (bytes ++ drop (have - from) buffer)) front
    ∙ take_at left (drop (have - from) buffer) (have - from) many

shift_length : (buffer : Bytes) (from have : ℕ) → from ≤ have → have ≤ length buffer → length (shifted buffer from have) ≡ length buffer
shift_length buffer from have less inside =
    let front = take (have - from) (drop from buffer) in
    let many = length-take-le (have - from) (drop from buffer) (omega (arith, less, inside, length-drop from buffer)) in
    omega (arith, less, inside, many, length-append front (drop (have - from) buffer), length-drop (have - from) buffer)

-- What is written at the end: Refused 3 where a byte is kept.
at_end_lem : (out buffer : Bytes) (have : ℕ) → have ≤ length buffer → take (end_of out have).0 (end_of out have).1 ≡ at_end (take have buffer)
at_end_lem out buffer zero inside = refl
at_end_lem out [] (suc n) inside = absurd (not-suc-le-zero inside)
at_end_lem out (byte ∷ bytes) (suc n) inside =
    ap (λ (some : Bool). let end = cond some (refused_behind out 0) (0, out) in take end.0 end.1) (lt-ltb 0 (suc n) (omega arith))
    ∙ put_front out (answer_frame (Refused 3)) 0 (omega arith)

-- The program's server, as a turn of the pieces knows it.
abbrev known : Server → Between
known before = record { book = before.words; tickets = before.tickets; ranks = before.ranks; kept = take before.have before.buffer; out = before.out }

-- What is so before each turn.
record Ready (before : Server) : Type 0 where
  ranked : Accepted before.ranks
  whole : length before.words ≡ words_in_book
  inside : before.have ≤ length before.buffer
  roomy : Roomy before.buffer before.out

-- What the reads brought.
abbrev brought : List Read → List Bytes
brought reads = map (λ read. read.came) reads

record Same (before : Server) (reads : List Read) (last : Bytes) : Type 0 where
  bytes : written_in_turns before reads last ≡ pieces_from (known before) (brought reads)
  room : RoomEachTurn (known before) (brought reads)

-- One turn: it stops, or the next one is ready.
module _ (before : Server) (read : Read) (ready : Ready before) (into : ReadInto before read) where
  abbrev piece : Bytes
  piece = read.came

  abbrev buffer : Bytes
  buffer = read.buffer

  abbrev have : ℕ
  have = before.have + length piece

  abbrev turn : Streamed × Words × Bytes
  turn = turn_of (known before) piece

  inside : have ≤ length buffer
  inside = omega (arith, into.fits, into.same_length)

  same : (turn.0, turn.1, turn.2) ≡ stream_of before.words before.tickets before.ranks (take have buffer) before.out
  same = ap (λ (input : Bytes). stream_of before.words before.tickets before.ranks input before.out) (sym into.front)

  abbrev right : StreamRight (sharing before.words before.tickets before.ranks) (take before.have before.buffer ++ piece) before.out turn
  right = stream_is_run before.words before.tickets before.ranks (take before.have before.buffer ++ piece) before.out ready.whole ready.ranked

  consumed_less : turn.0.consumed ≤ have
  consumed_less =
      omega (arith, right.consumed, ap length right.parts, length-append (joined right.frames) (drop turn.0.consumed (take before.have before.buffer ++ piece)), ap length into.front, length-take-le have buffer inside)

  abbrev next : Server
  next = record { words = turn.1; tickets = turn.0.tickets; ranks = before.ranks; buffer = shifted buffer turn.0.consumed have; have = have - turn.0.consumed; out = turn.2 }

  next_length : length next.buffer ≡ length before.buffer
  next_length = shift_length buffer turn.0.consumed have consumed_less inside ∙ into.same_length

  next_ready : Ready next
  next_ready =
      record {
        ranked = ready.ranked;
        whole = left_length before.words before.tickets before.ranks (take before.have before.buffer ++ piece) before.out ready.whole ready.ranked;
        inside = omega (arith, next_length, into.fits);
        roomy = omega (arith, ready.roomy, next_length, right.same_length);
      }

  next_known : known next ≡ after_turn (known before) piece
  next_known =
      let kept = shift_front buffer turn.0.consumed have consumed_less inside ∙ ap (drop turn.0.consumed) into.front in
      λ i. record { book = turn.1; tickets = turn.0.tickets; ranks = before.ranks; kept = kept i; out = turn.2 }

  answers : served_after buffer have (stream_of before.words before.tickets before.ranks (take have buffer) before.out) ≡ turn_by before read
  answers = serves_read before.words before.tickets before.ranks buffer before.have (length piece) before.out (λ none. absurd (omega (arith, into.some, none)))

  goes : goes_on turn.0.stop ≡ true → (served turn.0.tickets (Some (have - turn.0.consumed)) turn.0.written, turn.1, shifted buffer turn.0.consumed have, turn.2) ≡ turn_by before read
  goes on =
      serves_on before.words before.tickets before.ranks buffer have before.out turn.0 turn.1 turn.2 same (have - turn.0.consumed) (shifted buffer turn.0.consumed have) refl refl on
      ∙ answers

  stops : goes_on turn.0.stop ≡ false → ended_by turn.1 turn.0.tickets buffer (refused_behind turn.2 turn.0.written) ≡ turn_by before read
  stops ends = serves_no_more before.words before.tickets before.ranks buffer have before.out turn.0 turn.1 turn.2 same refl ends ∙ answers

  -- What it writes where it stops.
  refused : take (refused_behind turn.2 turn.0.written).0 (refused_behind turn.2 turn.0.written).1 ≡ bytes_of turn ++ answer_frame (Refused 3)
  refused =
      let answers = all_written (run_on (sharing before.words before.tickets before.ranks) right.frames).heard in
      put_front turn.2 (answer_frame (Refused 3)) turn.0.written
      (omega (arith, right.written, ap length right.output, length-append answers (drop turn.0.written before.out)))

  next_few : goes_on turn.0.stop ≡ true → next.have < longest_frame
  next_few on =
      few_kept before.words before.tickets before.ranks buffer have before.out turn.0 turn.1 turn.2 same ready.whole inside
      (omega (arith, ready.roomy, into.same_length)) on

-- By whether it goes on.
either : (on : Bool) (goal : Type 0) → (on ≡ true → goal) → (on ≡ false → goal) → goal
either true goal going stopping = going refl
either false goal going stopping = stopping refl

same_turns : (reads : List Read) (last : Bytes) (before : Server) → Ready before → ReadsRight before reads → Same before reads last
unfolding served_by written_in_turns ReadsRight pieces_from RoomEachTurn
same_turns [] last before ready right = record { bytes = at_end_lem before.out before.buffer before.have ready.inside; room = tt }
same_turns (read ∷ later) last before ready right =
    let into = right.0 in
    let now = turn before read ready into in
    let after = next before read ready into in
    let done : goes_on now.0.stop ≡ true → Same after later last =
    λ on. same_turns later last after (next_ready before read ready into)
    (subst (λ (result : Served × Words × Bytes × Bytes). IsSome result.0.have → ReadsRight (memory_after before.ranks result) later) (sym (goes before read ready into on)) right.1 refl) in
    let is = next_known before read ready into in
    let wrote : Served × Words × Bytes × Bytes → Bytes = λ result. wrote_by result ++ cond (is_some result.0.have) (written_in_turns (memory_after before.ranks result) later last) [] in
    let in_pieces : Bool → Bytes = λ on. bytes_of now ++ cond on (pieces_from (after_turn (known before) read.came) (brought later)) (answer_frame (Refused 3)) in
    let going : goes_on now.0.stop ≡ true → wrote (turn_by before read) ≡ in_pieces (goes_on now.0.stop) =
    λ on. ap wrote (sym (goes before read ready into on))
    ∙ ap (λ (bytes : Bytes). bytes_of now ++ bytes) ((done on).bytes ∙ ap (λ (between : Between). pieces_from between (brought later)) is)
    ∙ ap in_pieces (sym on) in
    let stopping : goes_on now.0.stop ≡ false → wrote (turn_by before read) ≡ in_pieces (goes_on now.0.stop) =
    λ ends. ap wrote (sym (stops before read ready into ends)) ∙ append-nil _ ∙ refused before read ready into ∙ ap in_pieces (sym ends) in
    record {
      bytes = either (goes_on now.0.stop) (wrote (turn_by before read) ≡ in_pieces (goes_on now.0.stop)) going stopping;
      room = (
        omega (arith, ready.roomy, into.fits, length-append (take before.have before.buffer) read.came, length-take-le before.have before.buffer ready.inside),
        λ on. subst (λ (between : Between). RoomEachTurn between (brought later)) is (done on).room,
      );
    }

ready_at_first : (ranks : Ranks) → Accepted ranks → (buffer out : Bytes) → Roomy buffer out → Ready (starting ranks buffer out)
ready_at_first ranks accepted buffer out roomy = record { ranked = accepted; whole = length-replicate {A = ℕ} words_in_book 0; inside = omega arith; roomy = roomy }

pub turns_are_survey : TurnsAreSurvey
turns_are_survey ranks accepted buffer out last reads roomy right =
    let same = same_turns reads last (starting ranks buffer out) (ready_at_first ranks accepted buffer out roomy) right in
    same.bytes ∙ pieces_are_survey ranks accepted out (brought reads) same.room

-- Less than a frame of the longest kind is kept, so that a read with that much to spare fits.
right_each : (pieces : List Bytes) (before : Server) (room : ℕ) → Ready before → before.have < longest_frame → length before.buffer ≡ room
    → Every (λ piece. (0 < length piece) × (longest_frame + length piece ≤ room)) pieces → ReadsRight before (reads_of before pieces)
unfolding ReadsRight reads_of
right_each [] before room ready few long spare = tt
right_each (piece ∷ later) before room ready few long spare =
    let read = read_into before piece in
    let into = read_into_lem before piece spare.0.0 (omega (arith, few, long, spare.0.1)) in
    let onward : Served × Words × Bytes × Bytes → Type 0 = λ result. ReadsRight (memory_after before.ranks result) (reads_of (memory_after before.ranks result) later) in
    let going : Type 0 = IsSome (turn_by before read).0.have → onward (turn_by before read) in (
      into,
      either (goes_on (turn before read ready into).0.stop) going
          (λ on is_on. subst onward (goes before read ready into on)
          (right_each later (next before read ready into) room (next_ready before read ready into) (next_few before read ready into on) (next_length before read ready into ∙ long) spare.1))
          (λ ends is_on. absurd (true≢false (sym is_on ∙ ap (λ (result : Served × Words × Bytes × Bytes). is_some result.0.have) (sym (stops before read ready into ends))))),
    )

pub reads_fit : ReadsFit
reads_fit ranks accepted buffer out pieces roomy spare = right_each pieces (starting ranks buffer out) (length buffer) (ready_at_first ranks accepted buffer out roomy) (omega arith) refl spare
