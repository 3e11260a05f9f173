-- Input in pieces is answered as the whole of it is: both are split into the same whole frames.
use Prim.Native.Nat.{ℕ, ◌+◌, ◌*◌, ◌-◌, ◌<◌, ◌≤◌}
use native.Mathlib.Omega.{arith}
use mathlib.Core.Path.{◌≡◌, refl, sym, ap, subst, ◌∙◌}
use mathlib.Core.Logic.{◌⊎◌, inl, inr}
use mathlib.Core.Bool.{Bool, true, false, cond}
use mathlib.Core.List.{List, [], ◌∷◌, ◌++◌, append_assoc}
use borrow.Author.Tests.{lt-ltb, le-ltb}
use lib.Dec.{ltb}
use lib.ListN.{length, take, drop, replicate, get_or-append, length-append}
use lib.Seq.{take_at, drop_at}
use Rattle.words.specs.Tests.{Every}
use Rattle.words.specs.Words.{Words, words_in_book}
use Rattle.legs.specs.Positions.{Ranks, Accepted}
use Rattle.tickets.specs.Tickets.{Tickets}
use Rattle.frames.specs.Numbers.{Bytes}
use Rattle.frames.specs.Requests.{length_field}
use Rattle.frames.specs.Answers.{longest_answer}
use Rattle.calls.specs.declared.Stop.{Stop}
use Rattle.calls.specs.declared.Stop.TheVariants.{MoreInput, OutputFull, BadLength, NoBook, NoRanks}
use Rattle.calls.specs.Call.{Reply}
use Rattle.calls.specs.Way.{way_of}
use Rattle.calls.specs.Run.{Shared, heard_of, left_by, run_from, sharing}
use Rattle.frames.specs.Fields.{longest_frame}
use Rattle.calls.specs.Survey.{longest_field, joined, all_written, call_on, written_bytes}
use Rattle.calls.specs.Stream.{Streamed, WholeFrame, StartsWhole, StopRight, run_on, StreamRight, answer_ratio, Roomy, RoomSuffices, bytes_of, stream_of, PiecesSuffice}
use Rattle.calls.proofs.AnswerRatio.{answers_within_ratio}
use Rattle.calls.proofs.Sending.{call_way}
use Rattle.calls.proofs.StreamRun.{zeros_long, answer_of, left_of, way_length, run_left, run_wrote, stream_is_run}

-- Frames one after another: their bytes, that all are whole, and their run.
pub joined_append : (frames later : List Bytes) → joined (frames ++ later) ≡ joined frames ++ joined later
joined_append [] later = refl
joined_append (frame ∷ frames) later = ap (λ (bytes : Bytes). frame ++ bytes) (joined_append frames later) ∙ sym (append_assoc frame (joined frames) (joined later))

pub every_append : (frames later : List Bytes) → Every WholeFrame frames → Every WholeFrame later → Every WholeFrame (frames ++ later)
every_append [] later all all_later = all_later
every_append (frame ∷ frames) later all all_later = (all.0, every_append frames later all.1 all_later)

run_end : (shared : Shared) (frames later : List Bytes) → (run_on shared (frames ++ later)).end ≡ (run_on (run_on shared frames).end later).end
unfolding run_from
run_end shared [] later = refl
run_end shared (frame ∷ frames) later = run_end (left_by shared (call_on frame)) frames later

pub run_written : (shared : Shared) (frames later : List Bytes)
    → all_written (run_on shared (frames ++ later)).heard ≡ all_written (run_on shared frames).heard ++ all_written (run_on (run_on shared frames).end later).heard
unfolding run_from
run_written shared [] later = refl
run_written shared (frame ∷ frames) later =
    let own = written_bytes (heard_of shared (call_on frame)) in
    let left = left_by shared (call_on frame) in
    ap (λ (bytes : Bytes). own ++ bytes) (run_written left frames later)
    ∙ sym (append_assoc own (all_written (run_on left frames).heard) (all_written (run_on (run_on left frames).end later).heard))

-- A run keeps the book's length, and writes at most nine bytes for each that it read.
run_length : (words : Words) (tickets : Tickets) (ranks : Ranks) (frames : List Bytes) → length words ≡ words_in_book → Accepted ranks → length (run_on (sharing words tickets ranks) frames).end.book ≡ words_in_book
unfolding run_from
run_length words tickets ranks [] whole accepted = whole
run_length words tickets ranks (frame ∷ frames) whole accepted =
    ap (λ (shared : Shared). length shared.book) (run_left words tickets ranks frame whole accepted frames)
    ∙ run_length (way_of words tickets ranks frame).words (way_of words tickets ranks frame).tickets ranks frames (way_length words tickets ranks frame whole accepted) accepted

answer_short : (words : Words) (tickets : Tickets) (ranks : Ranks) (frame : Bytes) (whole : length words ≡ words_in_book) (accepted : Accepted ranks) → 2 ≤ length frame
    → length (answer_of words tickets ranks frame whole accepted) ≤ answer_ratio * length frame
answer_short words tickets ranks frame whole accepted least =
    let out : Bytes = replicate longest_answer 0 in
    let same = ap (λ (result : Reply × Words × Bytes). result.0.written) (call_way words tickets ranks frame out whole accepted zeros_long) in
    omega (arith, same, answers_within_ratio words tickets ranks frame out least)

run_short : (words : Words) (tickets : Tickets) (ranks : Ranks) (frames : List Bytes) → length words ≡ words_in_book → Accepted ranks → Every WholeFrame frames
    → length (all_written (run_on (sharing words tickets ranks) frames).heard) ≤ answer_ratio * length (joined frames)
unfolding run_from
run_short words tickets ranks [] whole accepted all = omega arith
run_short words tickets ranks (frame ∷ frames) whole accepted all =
    let later = all_written (run_on (left_of words tickets ranks frame whole accepted) frames).heard in
    let short = run_short (way_of words tickets ranks frame).words (way_of words tickets ranks frame).tickets ranks frames (way_length words tickets ranks frame whole accepted) accepted all.1 in
    let wrote = ap length (run_wrote words tickets ranks frame whole accepted frames) ∙ length-append (answer_of words tickets ranks frame whole accepted) later in
    omega (arith, short, wrote, length-append frame (joined frames), answer_short words tickets ranks frame whole accepted (omega (arith, all.0.0)))

-- A whole frame is known by its first bytes.
same_field : (frame later : Bytes) → WholeFrame frame → length_field (frame ++ later) ≡ length_field frame
same_field frame later whole = λ i. get_or-append frame later 0 0 (omega (arith, whole.0)) i + 256 * get_or-append frame later 0 1 (omega (arith, whole.0)) i

starts_whole : (frame later : Bytes) → WholeFrame frame → StartsWhole (frame ++ later)
starts_whole frame later whole =
    let field = same_field frame later whole in
    let long = length-append frame later in
    (omega (arith, field, long, whole.0), omega (arith, field, whole.1), omega (arith, field, long, whole.0))

same_size : (frame other later after : Bytes) → WholeFrame frame → WholeFrame other → frame ++ later ≡ other ++ after → length frame ≡ length other
same_size frame other later after whole whole_other same =
    omega (arith, whole.0, whole_other.0, same_field frame later whole, same_field other after whole_other, ap length_field same)

-- So bytes are split into whole frames, and a rest that no whole frame starts, in one way.
pub one_split : (frames others : List Bytes) (rest over : Bytes) → Every WholeFrame frames → Every WholeFrame others
    → (StartsWhole rest → ⊥) → (StartsWhole over → ⊥) → joined frames ++ rest ≡ joined others ++ over → (frames ≡ others) × (rest ≡ over)
one_split [] [] rest over all All-others none_starts none_over same = (refl, same)
one_split [] (other ∷ others) rest over all All-others none_starts none_over same =
    absurd (none_starts (subst StartsWhole (sym (same ∙ append_assoc other (joined others) over)) (starts_whole other (joined others ++ over) All-others.0)))
one_split (frame ∷ frames) [] rest over all All-others none_starts none_over same =
    absurd (none_over (subst StartsWhole (sym (append_assoc frame (joined frames) rest) ∙ same) (starts_whole frame (joined frames ++ rest) all.0)))
one_split (frame ∷ frames) (other ∷ others) rest over all All-others none_starts none_over same =
    let after = joined frames ++ rest in
    let after_other = joined others ++ over in
    let both : frame ++ after ≡ other ++ after_other = sym (append_assoc frame (joined frames) rest) ∙ same ∙ append_assoc other (joined others) over in
    let size = same_size frame other after after_other all.0 All-others.0 both in
    let frame_same : frame ≡ other = sym (take_at frame after (length other) size) ∙ ap (take (length other)) both ∙ take_at other after_other (length other) refl in
    let after_same : after ≡ after_other = sym (drop_at frame after (length other) size) ∙ ap (drop (length other)) both ∙ drop_at other after_other (length other) refl in
    let (frames_same, rest_same) = one_split frames others rest over all.1 All-others.1 none_starts none_over after_same in
    ((λ i. frame_same i ∷ frames_same i), rest_same)

-- Where there is room for an answer, a stream stops only where no whole frame is left, and what is left says how.
none_left : (stop : Stop) (rest : Bytes) (room : ℕ) → StopRight stop rest room → longest_answer ≤ room → StartsWhole rest → ⊥
none_left MoreInput rest room (inl few) roomy starts = omega (arith, starts.0)
none_left MoreInput rest room (inr begun) roomy starts = omega (arith, starts.2, begun.1)
none_left OutputFull rest room right roomy starts = omega (arith, right.1)
none_left BadLength rest room right roomy starts = omega (arith, starts.1, right.1)
none_left NoBook rest room right roomy starts = right
none_left NoRanks rest room right roomy starts = right

abbrev stop_at : Bytes → Stop
stop_at rest = cond (cond (ltb (length rest) 2) false (ltb longest_field (length_field rest))) BadLength MoreInput

stop_is : (stop : Stop) (rest : Bytes) (room : ℕ) → StopRight stop rest room → (StartsWhole rest → ⊥) → stop ≡ stop_at rest
stop_is MoreInput rest room (inl few) none_starts = rw (lt-ltb (length rest) 2 few)
stop_is MoreInput rest room (inr begun) none_starts = either (ltb (length rest) 2)
  where
    either : (short : Bool) → MoreInput ≡ cond (cond short false (ltb longest_field (length_field rest))) BadLength MoreInput
    either true = refl
    either false = rw (le-ltb longest_field (length_field rest) begun.0)
stop_is OutputFull rest room right none_starts = absurd (none_starts right.0)
stop_is BadLength rest room right none_starts = rw (le-ltb (length rest) 2 right.0, lt-ltb longest_field (length_field rest) right.1)
stop_is NoBook rest room right none_starts = absurd right
stop_is NoRanks rest room right none_starts = absurd right

-- Less than a whole frame is left, but for a bad length.
few_left : (stop : Stop) (rest : Bytes) (room : ℕ) → StopRight stop rest room → (StartsWhole rest → ⊥) → (stop ≡ BadLength) ⊎ ((stop ≡ MoreInput) × (length rest < longest_frame))
few_left MoreInput rest room (inl few) none_starts = inr (refl, omega (arith, few))
few_left MoreInput rest room (inr begun) none_starts = inr (refl, omega (arith, begun.0, begun.1))
few_left OutputFull rest room right none_starts = absurd (none_starts right.0)
few_left BadLength rest room right none_starts = inl refl
few_left NoBook rest room right none_starts = absurd right
few_left NoRanks rest room right none_starts = absurd right

-- What is known of a stream with room for every answer, and of what any stream wrote.
module _ (words : Words) (tickets : Tickets) (ranks : Ranks) (input out : Bytes) (whole : length words ≡ words_in_book) (accepted : Accepted ranks) where
  abbrev result : Streamed × Words × Bytes
  result = stream_of words tickets ranks input out

  abbrev right : StreamRight (sharing words tickets ranks) input out result
  right = stream_is_run words tickets ranks input out whole accepted

  -- There is room for one more answer,
  pub room_left : Roomy input out → longest_answer ≤ length out - result.0.written
  room_left roomy =
      let over = drop result.0.consumed input in
      let long = ap length right.parts in
      omega (arith, roomy, long, length-append (joined right.frames) over, right.written, run_short words tickets ranks right.frames whole accepted right.all_whole)

  -- so that no whole frame is left.
  pub rest_none : Roomy input out → StartsWhole (drop result.0.consumed input) → ⊥
  rest_none roomy = none_left result.0.stop (drop result.0.consumed input) (length out - result.0.written) right.stop_right (room_left roomy)

  few : (StartsWhole (drop result.0.consumed input) → ⊥) → (result.0.stop ≡ BadLength) ⊎ ((result.0.stop ≡ MoreInput) × (length (drop result.0.consumed input) < longest_frame))
  few = few_left result.0.stop (drop result.0.consumed input) (length out - result.0.written) right.stop_right

  pub wrote : bytes_of result ≡ all_written (run_on (sharing words tickets ranks) right.frames).heard
  wrote =
      let answers = all_written (run_on (sharing words tickets ranks) right.frames).heard in
      ap (take result.0.written) right.output ∙ take_at answers (drop result.0.written out) result.0.written (sym right.written)

  pub left_length : length result.1 ≡ words_in_book
  left_length = ap (λ (shared : Shared). length shared.book) right.left ∙ run_length words tickets ranks right.frames whole accepted

pub room_suffices : RoomSuffices
room_suffices words tickets ranks input out whole accepted roomy = few words tickets ranks input out whole accepted (rest_none words tickets ranks input out whole accepted roomy)

pub pieces_suffice : PiecesSuffice
pieces_suffice words tickets ranks piece next out later both whole accepted roomy roomy_both =
    let first = stream_of words tickets ranks piece out in
    let one = stream_is_run words tickets ranks piece out whole accepted in
    let over = drop first.0.consumed piece in
    let rest = over ++ next in
    let whole_left = left_length words tickets ranks piece out whole accepted in
    let second = stream_of first.1 first.0.tickets ranks rest later in
    let two = stream_is_run first.1 first.0.tickets ranks rest later whole_left accepted in
    let all = stream_of words tickets ranks (piece ++ next) both in
    let three = stream_is_run words tickets ranks (piece ++ next) both whole accepted in
    let frames = one.frames ++ two.frames in
    let rest_two = drop second.0.consumed rest in
    let rest_three = drop all.0.consumed (piece ++ next) in
    let none_two = rest_none first.1 first.0.tickets ranks rest later whole_left accepted roomy in
    let none_three = rest_none words tickets ranks (piece ++ next) both whole accepted roomy_both in
    let same : joined frames ++ rest_two ≡ joined three.frames ++ rest_three =
    ap (λ (bytes : Bytes). bytes ++ rest_two) (joined_append one.frames two.frames)
    ∙ append_assoc (joined one.frames) (joined two.frames) rest_two
    ∙ ap (λ (bytes : Bytes). joined one.frames ++ bytes) two.parts
    ∙ sym (append_assoc (joined one.frames) over next)
    ∙ ap (λ (bytes : Bytes). bytes ++ next) one.parts
    ∙ sym three.parts in
    let (frames_same, rest_same) = one_split frames three.frames rest_two rest_three (every_append one.frames two.frames one.all_whole two.all_whole) three.all_whole none_two none_three same in
    let shared = sharing words tickets ranks in
    let same_left : sharing second.1 second.0.tickets ranks ≡ sharing all.1 all.0.tickets ranks =
    two.left
    ∙ (λ i. (run_on (one.left i) two.frames).end)
    ∙ sym (run_end shared one.frames two.frames)
    ∙ (λ i. (run_on shared (frames_same i)).end)
    ∙ sym three.left in
    record {
      bytes = (λ i. wrote words tickets ranks piece out whole accepted i ++ wrote first.1 first.0.tickets ranks rest later whole_left accepted i)
          ∙ (λ i. all_written (run_on shared one.frames).heard ++ all_written (run_on (one.left i) two.frames).heard)
          ∙ sym (run_written shared one.frames two.frames)
          ∙ (λ i. all_written (run_on shared (frames_same i)).heard)
          ∙ sym (wrote words tickets ranks (piece ++ next) both whole accepted);
      book = ap (λ (shared : Shared). shared.book) same_left;
      tickets = ap (λ (shared : Shared). shared.tickets) same_left;
      consumed = (λ i. one.consumed i + two.consumed i)
          ∙ sym (ap length (joined_append one.frames two.frames) ∙ length-append (joined one.frames) (joined two.frames))
          ∙ (λ i. length (joined (frames_same i)))
          ∙ sym three.consumed;
      stop = stop_is second.0.stop rest_two (length later - second.0.written) two.stop_right none_two
          ∙ ap stop_at rest_same
          ∙ sym (stop_is all.0.stop rest_three (length both - all.0.written) three.stop_right none_three);
    }
