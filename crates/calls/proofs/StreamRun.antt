-- A stream is the list of single calls on the whole frames at the front of its input.
use Rattle.std.specs.Prelude.{Ok, Err}
use Prim.Native.Nat.{ℕ, zero, suc, ◌+◌, ◌*◌, ◌-◌, ◌≤◌}
use native.Mathlib.Omega.{arith}
use native.Mathlib.Decide.{dec_lt}
use mathlib.Core.Path.{◌≡◌, refl, sym, ap, subst, ◌∙◌}
use mathlib.Core.Bool.{Bool, true, false, not, cond, true≢false}
use mathlib.Core.Logic.{inl, inr}
use mathlib.Core.Option.{Option, none, some}
use mathlib.Core.List.{List, [], ◌∷◌, ◌++◌, append_assoc, append-nil}
use lib.ListN.{length, take, drop, get_or, replicate, length-append, length-drop, length-replicate, take-append-drop}
use lib.Seq.{take-append_seam, drop-append_seam, get_or-append-add, take-length, drop-length, length-take-le, drop-drop, drop_at, get_or-take}
use lib.Dec.{eqb}
use borrow.Author.Tests.{eqb-true}
use Rattle.words.specs.Tests.{Every}
use Rattle.words.specs.Words.{Words, words_in_book}
use Rattle.legs.specs.Positions.{Ranks, is_permutation, Accepted}
use Rattle.tickets.specs.Tickets.{Tickets, ticket_of}
use Rattle.tickets.proofs.Stepping.{length_kept}
use Rattle.frames.specs.Request.{Request, Open, Step, Look, View}
use Rattle.frames.specs.Numbers.{Bytes, number16}
use Rattle.frames.specs.Requests.{length_field, request_in}
use Rattle.frames.specs.Answers.{answer_frame, longest_answer, room_in, with_room}
use Rattle.frames.proofs.Framed.{answer_frames_sound}
use Rattle.calls.specs.declared.Stop.{Stop}
use Rattle.calls.specs.declared.Stop.TheVariants.{MoreInput, OutputFull, BadLength, NoBook, NoRanks}
use Rattle.calls.specs.Call.{Reply, check, first_of, refusal_of, request_done, refused_or, done_of, call_of}
use Rattle.calls.specs.Way.{way_of}
use Rattle.calls.specs.Run.{Shared, left_by, heard_of, run_from, sharing}
use Rattle.calls.specs.Survey.{longest_field, joined, all_written, call_on, written_bytes}
use Rattle.calls.specs.Stream.{Streamed, next_at, streamed, stream_from, WholeFrame, StopRight, stop_number, stream_of, run_on, StreamRight, StreamIsRun, StreamRefuses}
use Rattle.calls.proofs.Way.{way_is_call}
use Rattle.calls.proofs.Sending.{way_out, call_way}
use Rattle.calls.proofs.Streaming.{next_short, next_bad, next_torn, next_whole, stops, full, goes, after, stream_whole}

-- A call keeps the book's length.
request_length : (words : Words) (tickets : Tickets) (ranks : Ranks) (request : Request) → length (request_done words tickets ranks request).words ≡ length words
unfolding request_done
request_length words tickets ranks (Open team edit) = refl
request_length words tickets ranks (Step team) = length_kept words (ticket_of tickets team) team
request_length words tickets ranks (Look word) = refl
request_length words tickets ranks (View team n named) = refl

refused_length : (refusal : Option ℕ) (words : Words) (tickets : Tickets) (ranks : Ranks) (request : Request) → length (refused_or refusal words tickets ranks request).words ≡ length words
refused_length none words tickets ranks request = request_length words tickets ranks request
refused_length (some number) words tickets ranks request = refl

-- The output of a single call has room.
pub zeros_long : longest_answer ≤ length (replicate {A = ℕ} longest_answer 0)
zeros_long = omega (arith, length-replicate {A = ℕ} longest_answer 0)

-- A single call on a frame goes its way: the answer's bytes, the book and the tickets are those of any output that has room.
module _ (words : Words) (tickets : Tickets) (ranks : Ranks) (frame : Bytes) (whole : length words ≡ words_in_book) (accepted : Accepted ranks) where
  abbrev pub answer_of : Bytes
  answer_of = answer_frame (way_of words tickets ranks frame).answer

  abbrev pub left_of : Shared
  left_of = sharing (way_of words tickets ranks frame).words (way_of words tickets ranks frame).tickets ranks

  pub way_length : length (way_of words tickets ranks frame).words ≡ words_in_book
  unfolding done_of
  way_length =
      let out : Bytes = replicate longest_answer 0 in
      ap (λ (result : _). length result.words) (sym (way_is_call words tickets ranks frame out whole accepted zeros_long))
      ∙ refused_length (refusal_of words tickets ranks frame out) words tickets ranks (request_in frame)
      ∙ whole

  pub call_leaves : left_by (sharing words tickets ranks) (call_on frame) ≡ left_of
  call_leaves = ap (λ (result : Reply × Words × Bytes). sharing result.1 result.0.tickets ranks) (sym (call_way words tickets ranks frame (replicate longest_answer 0) whole accepted zeros_long))

  call_writes : written_bytes (heard_of (sharing words tickets ranks) (call_on frame)) ≡ answer_of
  call_writes =
      ap (λ (result : Reply × Words × Bytes). take result.0.written result.2) (sym (call_way words tickets ranks frame (replicate longest_answer 0) whole accepted zeros_long))
      ∙ take-append_seam answer_of (drop (length answer_of) (replicate longest_answer 0))

  -- The run of one frame more.
  module _ (frames : List Bytes) where
    pub run_left : (run_on (sharing words tickets ranks) (frame ∷ frames)).end ≡ (run_on left_of frames).end
    unfolding run_from
    run_left = ap (λ (shared : Shared). (run_on shared frames).end) call_leaves

    pub run_wrote : all_written (run_on (sharing words tickets ranks) (frame ∷ frames)).heard ≡ answer_of ++ all_written (run_on left_of frames).heard
    unfolding run_from
    run_wrote = λ i. call_writes i ++ all_written (run_on (call_leaves i) frames).heard

-- What is right from a place of the input and one of the output on: so many bytes are passed, and `rest` is to come; `front` is written, and `room` is left.
record RightFrom (shared : Shared) (passed : ℕ) (rest front room : Bytes) (result : Streamed × Words × Bytes) : Type 0 where
  frames : List Bytes
  all_whole : Every WholeFrame frames
  over : Bytes
  parts : joined frames ++ over ≡ rest
  consumed : result.0.consumed ≡ passed + length (joined frames)
  left : sharing result.1 result.0.tickets shared.ranks ≡ (run_on shared frames).end
  fits : length (all_written (run_on shared frames).heard) ≤ length room
  written : result.0.written ≡ length front + length (all_written (run_on shared frames).heard)
  output : result.2 ≡ front ++ (all_written (run_on shared frames).heard ++ drop (length (all_written (run_on shared frames).heard)) room)
  stop_right : StopRight result.0.stop over (length room - length (all_written (run_on shared frames).heard))

-- It stops at once.
stopped : (words : Words) (tickets : Tickets) (ranks : Ranks) (passed : ℕ) (rest front room : Bytes) (stop : Stop) → StopRight stop rest (length room)
    → RightFrom (sharing words tickets ranks) passed rest front room (streamed tickets passed (length front) stop, words, front ++ room)
unfolding run_from
stopped words tickets ranks passed rest front room stop right = record {
  frames = [];
  all_whole = tt;
  over = rest;
  parts = refl;
  consumed = omega arith;
  left = refl;
  fits = omega arith;
  written = omega arith;
  output = refl;
  stop_right = subst (StopRight stop rest) (omega arith) right;
}

-- Bytes at a seam: the length field and the part of the output there, and the output with that part written.
field_at : (passed rest : Bytes) → number16 (passed ++ rest) (length passed) ≡ length_field rest
field_at passed rest =
    let none_more : length passed ≡ length passed + 0 = omega arith in
    let low = ap (λ (at : ℕ). get_or (passed ++ rest) at 0) none_more ∙ get_or-append-add passed rest 0 0 in
    λ i. low i + 256 * get_or-append-add passed rest 1 0 i

rest_length : (passed rest : Bytes) → length (passed ++ rest) - length passed ≡ length rest
rest_length passed rest = omega (arith, length-append passed rest)

room_at : (front room : Bytes) → room_in (front ++ room) (length front) ≡ room
room_at front room =
    (λ i. take (rest_length front room i) (drop-append_seam front room i))
    ∙ take-length room

with_room_at : (front room now : Bytes) → with_room (front ++ room) (length front) now ≡ front ++ now
with_room_at front room now =
    let nothing : drop (length (front ++ room) - length front) (drop (length front) (front ++ room)) ≡ [] = (λ i. drop (rest_length front room i) (drop-append_seam front room i)) ∙ drop-length room in
    (λ i. take-append_seam front room i ++ (now ++ nothing i))
    ∙ ap (λ (bytes : Bytes). front ++ bytes) (append-nil now)

-- Two answers one after another at the front of what is left.
two_answers : (front answer answers room : Bytes)
    → (front ++ answer) ++ (answers ++ drop (length answers) (drop (length answer) room)) ≡ front ++ ((answer ++ answers) ++ drop (length (answer ++ answers)) room)
two_answers front answer answers room = simp (append_assoc, drop-drop, length-append)

-- It goes on behind one frame more, after one answer more.
module _ (words : Words) (tickets : Tickets) (ranks : Ranks) (passed rest front room : Bytes) (whole : length words ≡ words_in_book) (accepted : Accepted ranks)
    (least : 2 + length_field rest ≤ length rest)
    (small : length_field rest ≤ longest_field)
    (long : longest_answer ≤ length room) where
  abbrev size : ℕ
  size = 2 + length_field rest

  abbrev frame : Bytes
  frame = take size rest

  abbrev answer : Bytes
  answer = answer_of words tickets ranks frame whole accepted

  abbrev passed_now : Bytes
  passed_now = passed ++ frame

  abbrev front_now : Bytes
  front_now = front ++ answer

  abbrev rest_now : Bytes
  rest_now = drop size rest

  abbrev room_now : Bytes
  room_now = drop (length answer) room

  answer_short : length answer ≤ length room
  answer_short = omega (arith, (answer_frames_sound (way_of words tickets ranks frame).answer).most)

  frame_whole : WholeFrame frame
  frame_whole =
      let field : length_field frame ≡ length_field rest = λ i. get_or-take size rest 0 0 (omega arith) i + 256 * get_or-take size rest 1 0 (omega arith) i in
      (length-take-le size rest least ∙ ap (λ (field : ℕ). 2 + field) (sym field), omega arith)

  gone_on : (result : Streamed × Words × Bytes) → RightFrom (left_of words tickets ranks frame whole accepted) (length passed_now) rest_now front_now room_now result → RightFrom (sharing words tickets ranks) (length passed) rest front room result
  gone_on result later =
      let answers = all_written (run_on (left_of words tickets ranks frame whole accepted) later.frames).heard in
      let wrote = run_wrote words tickets ranks frame whole accepted later.frames in
      let long_now : length room_now ≡ length room - length answer = length-drop (length answer) room in
      let all : length (answer ++ answers) ≡ length answer + length answers = length-append answer answers in
      let wrote_length = ap length wrote in
      record {
        frames = frame ∷ later.frames;
        all_whole = (frame_whole, later.all_whole);
        over = later.over;
        parts = append_assoc frame (joined later.frames) later.over ∙ ap (λ (bytes : Bytes). frame ++ bytes) later.parts ∙ take-append-drop size rest;
        consumed = later.consumed ∙ omega (arith, length-append passed frame, length-append frame (joined later.frames));
        left = later.left ∙ sym (run_left words tickets ranks frame whole accepted later.frames);
        fits = omega (arith, wrote_length, all, long_now, answer_short, later.fits);
        written = later.written ∙ omega (arith, length-append front answer, wrote_length, all);
        output = later.output ∙ two_answers front answer answers room ∙ ap (λ (all : Bytes). front ++ (all ++ drop (length all) room)) (sym wrote);
        stop_right = subst (StopRight result.0.stop later.over) (omega (arith, long_now, all, wrote_length)) later.stop_right;
      }

  -- The turn itself: one call on what is left of the output.
  turn : (most : ℕ) → stream_from (suc most) words tickets ranks (passed ++ rest) (front ++ room) (length passed) (length front)
      ≡ stream_from most (way_of words tickets ranks frame).words (way_of words tickets ranks frame).tickets ranks (passed_now ++ rest_now) (front_now ++ room_now) (length passed_now) (length front_now)
  turn most =
      let input = passed ++ rest in
      let out = front ++ room in
      let at = length passed in
      let w = length front in
      let field = field_at passed rest in
      let bytes : length input - at ≡ length rest = rest_length passed rest in
      let next : next_at input at ≡ Ok size = sym (next_whole input at (omega arith) (omega arith) (omega arith)) ∙ ap (λ (field : ℕ). Ok (2 + field)) field in
      let frame_is : take size (drop at input) ≡ frame = ap (take size) (drop-append_seam passed rest) in
      let called : call_of words tickets ranks (take size (drop at input)) (room_in out w) ≡ way_out room (way_of words tickets ranks frame) =
      (λ i. call_of words tickets ranks (frame_is i) (room_at front room i)) ∙ sym (call_way words tickets ranks frame room whole accepted long) in
      let input_is : input ≡ passed_now ++ rest_now = sym (append_assoc passed frame rest_now ∙ ap (λ (bytes : Bytes). passed ++ bytes) (take-append-drop size rest)) in
      let out_is : with_room out w (answer ++ room_now) ≡ front_now ++ room_now = with_room_at front room (answer ++ room_now) ∙ sym (append_assoc front answer room_now) in
      let at_is : at + size ≡ length passed_now = omega (arith, length-append passed frame, length-take-le size rest least) in
      let one_less : suc most - 1 ≡ most = omega arith in
      let w_is : w + length answer ≡ length front_now = sym (length-append front answer) in
      goes words tickets ranks input out at w (suc most) size (omega arith) next (omega (arith, rest_length front room))
      ∙ ap (after words tickets ranks input out at w (suc most - 1) size) called
      ∙ (λ i. stream_from (one_less i) (way_of words tickets ranks frame).words (way_of words tickets ranks frame).tickets ranks (input_is i) (out_is i) (at_is i) (w_is i))

-- From any place on, for as many turns as there are bytes left: each turn stops, or makes one call.
right_from : (most : ℕ) (words : Words) (tickets : Tickets) (ranks : Ranks) (passed rest front room : Bytes) → length words ≡ words_in_book → Accepted ranks → length rest ≤ most
    → RightFrom (sharing words tickets ranks) (length passed) rest front room (stream_from most words tickets ranks (passed ++ rest) (front ++ room) (length passed) (length front))
unfolding stream_from
right_from zero words tickets ranks passed rest front room whole accepted short = stopped words tickets ranks (length passed) rest front room MoreInput (inl (omega arith))
right_from (suc most) words tickets ranks passed rest front room whole accepted short =
    let input = passed ++ rest in
    let out = front ++ room in
    let at = length passed in
    let w = length front in
    let field = field_at passed rest in
    let bytes : length input - at ≡ length rest = rest_length passed rest in
    let right : Streamed × Words × Bytes → Type 0 = RightFrom (sharing words tickets ranks) at rest front room in
    let stops_by : (stop : Stop) → next_at input at ≡ Err stop → StopRight stop rest (length room) → right (stream_from (suc most) words tickets ranks input out at w) =
    λ stop next right_stop. subst right (sym (stops words tickets ranks input out at w (suc most) stop (omega arith) next)) (stopped words tickets ranks at rest front room stop right_stop) in
    elim (dec_lt (length rest) 2) [
      | yes few ↦ stops_by MoreInput (sym (next_short input at (omega arith))) (inl few)
      | no more ↦ elim (dec_lt longest_field (length_field rest)) [
        | yes bad ↦ stops_by BadLength (sym (next_bad input at (omega arith) (omega arith))) (omega arith, bad)
        | no small ↦ elim (dec_lt (length rest) (2 + length_field rest)) [
          | yes begun ↦ stops_by MoreInput (sym (next_torn input at (omega arith) (omega arith) (omega arith))) (inr (omega arith, begun))
          | no least ↦ elim (dec_lt (length room) longest_answer) [
            | yes short_room ↦ subst right
                (sym (full words tickets ranks input out at w (suc most) (2 + number16 input at) (omega arith) (sym (next_whole input at (omega arith) (omega arith) (omega arith))) (omega (arith, rest_length front room))))
                (stopped words tickets ranks at rest front room OutputFull ((omega arith, omega arith, omega arith), short_room))
            | no long ↦
                let size = 2 + length_field rest in
                let frame = take size rest in
                let least : 2 + length_field rest ≤ length rest = omega arith in
                let small : length_field rest ≤ longest_field = omega arith in
                let long : longest_answer ≤ length room = omega arith in
                subst right (sym (turn words tickets ranks passed rest front room whole accepted least small long most))
                (gone_on words tickets ranks passed rest front room whole accepted least small long _
                (right_from most (way_of words tickets ranks frame).words (way_of words tickets ranks frame).tickets ranks (passed ++ frame) (drop size rest)
                (front ++ answer_of words tickets ranks frame whole accepted) (drop (length (answer_of words tickets ranks frame whole accepted)) room)
                (way_length words tickets ranks frame whole accepted) accepted (omega (arith, length-drop size rest))))
          ]
        ]
      ]
    ]

pub stream_is_run : StreamIsRun
stream_is_run words tickets ranks input out whole accepted =
    let right = right_from (length input) words tickets ranks [] input [] out whole accepted (omega arith) in
    subst (StreamRight (sharing words tickets ranks) input out) (stream_whole words tickets ranks input out whole accepted) (ended right)
  where
    ended : RightFrom (sharing words tickets ranks) 0 input [] out (stream_from (length input) words tickets ranks input out 0 0)
        → StreamRight (sharing words tickets ranks) input out (stream_from (length input) words tickets ranks input out 0 0)
    ended right =
        let result = stream_from (length input) words tickets ranks input out 0 0 in
        let frames = right.frames in
        let answers = all_written (run_on (sharing words tickets ranks) frames).heard in
        let consumed : result.0.consumed ≡ length (joined frames) = omega (arith, right.consumed) in
        let written : result.0.written ≡ length answers = omega (arith, right.written) in
        let over : right.over ≡ drop result.0.consumed input =
        sym (drop_at (joined frames) right.over result.0.consumed (sym consumed)) ∙ ap (drop result.0.consumed) right.parts in
        let output : result.2 ≡ answers ++ drop result.0.written out = right.output ∙ ap (λ (many : ℕ). answers ++ drop many out) (sym written) in
        record {
          frames = frames;
          all_whole = right.all_whole;
          consumed = consumed;
          parts = ap (λ (bytes : Bytes). joined frames ++ bytes) (sym over) ∙ right.parts;
          left = right.left;
          written = written;
          output = output;
          same_length = ap length output ∙ length-append answers (drop result.0.written out) ∙ omega (arith, length-drop result.0.written out, right.fits);
          stop_right = subst (StopRight result.0.stop (drop result.0.consumed input)) (omega arith)
              (subst (λ (over : Bytes). StopRight result.0.stop over (length out - length answers)) over right.stop_right);
        }

-- A stream is refused by its book or its ranks; one that is not stops by no number.
unnumbered : (stop : Stop) (rest : Bytes) (room : ℕ) → StopRight stop rest room → stop_number stop ≡ none
unnumbered MoreInput rest room right = refl
unnumbered OutputFull rest room right = refl
unnumbered BadLength rest room right = refl
unnumbered NoBook rest room right = absurd right
unnumbered NoRanks rest room right = absurd right

pub stream_refuses : StreamRefuses
unfolding stream_of
stream_refuses words tickets ranks input out = by (eqb (length words) words_in_book) (is_permutation ranks) refl refl
  where
    refused : Stop → Streamed × Words × Bytes
    refused stop = (streamed tickets 0 0 stop, words, out)

    result : Bool → Bool → Streamed × Words × Bytes
    result whole accepted = cond whole (cond accepted (stream_from (length input) words tickets ranks input out 0 0) (refused NoRanks)) (refused NoBook)

    refusal : Bool → Bool → Option ℕ
    refusal whole accepted = first_of (check 1 (not whole) ∷ check 13 (not accepted) ∷ [])

    by : (whole accepted : Bool) → eqb (length words) words_in_book ≡ whole → is_permutation ranks ≡ accepted
        → (stop_number (result whole accepted).0.stop ≡ refusal whole accepted)
        × ((number : ℕ) → refusal whole accepted ≡ some number → result whole accepted ≡ refused (result whole accepted).0.stop)
    by true true whole accepted =
        let right = stream_is_run words tickets ranks input out (eqb-true _ _ whole) accepted in
        let same = stream_whole words tickets ranks input out (eqb-true _ _ whole) accepted in
        let made = stream_of words tickets ranks input out in
        let none_given = unnumbered made.0.stop (drop made.0.consumed input) (length out - made.0.written) right.stop_right in
        (ap (λ (turn : Streamed × Words × Bytes). stop_number turn.0.stop) same ∙ none_given, λ number given. absurd (true≢false cc))
    by true false whole accepted = (refl, λ number given. refl)
    by false accepted whole is = (refl, λ number given. refl)
