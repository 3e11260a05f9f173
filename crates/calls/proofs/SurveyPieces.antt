-- What is written for an input in pieces is what survey is to write: both are the run of the same whole frames, and Refused 3 for the same rest.
use Prim.Native.Nat.{ℕ, zero, suc, ◌+◌, ◌*◌, ◌<◌, ◌≤◌}
use native.Mathlib.Nat.{not-suc-le-zero}
use native.Mathlib.Omega.{arith}
use mathlib.Core.Path.{◌≡◌, refl, sym, ap, subst, ◌∙◌}
use mathlib.Core.Logic.{◌⊎◌, inl, inr}
use mathlib.Core.Bool.{Bool, true, false, cond, true≢false, false≢true}
use mathlib.Core.List.{List, [], ◌∷◌, ◌++◌, append_assoc, append-nil}
use borrow.Author.Tests.{le-ltb, ltb-false}
use lib.Dec.{ltb}
use lib.ListN.{length, get_or-append, length-append, length-replicate}
use lib.Seq.{length-take-le, get_or-take}
use Rattle.words.specs.Tests.{some_holds, Every}
use Rattle.words.specs.Words.{words_in_book}
use Rattle.legs.specs.Positions.{Ranks, Accepted}
use Rattle.frames.specs.declared.Answer.TheVariants.{Refused}
use Rattle.frames.specs.Numbers.{Bytes}
use Rattle.frames.specs.Requests.{length_field}
use Rattle.frames.specs.Answers.{answer_frame}
use Rattle.frames.specs.Fields.{longest_frame}
use Rattle.calls.specs.declared.Stop.{Stop}
use Rattle.calls.specs.declared.Stop.TheVariants.{MoreInput, OutputFull, BadLength, NoBook, NoRanks}
use Rattle.calls.specs.Run.{Shared, fresh, under_ranks, run_from, sharing}
use Rattle.calls.specs.Survey.{longest_field, torn, first_frame, after_first_frame, survey_under, frames_from, frames_in, joined, all_written, rest_of, at_end}
use Rattle.calls.specs.Stream.{WholeFrame, StartsWhole, StopRight, run_on, room_for, Roomy}
use Rattle.calls.specs.Pieces.{goes_on, Between, beginning, input_of, turn_of, after_turn, pieces_from, RoomEachTurn, PiecesAreSurvey, PiecesHaveRoom}
use Rattle.calls.proofs.Refusing.{tests_fail}
use Rattle.calls.proofs.StreamRun.{stream_is_run}
use Rattle.calls.proofs.StreamPieces.{joined_append, every_append, run_written, one_split, rest_none, wrote, left_length, room_suffices}
use Rattle.calls.proofs.SurveyRun.{survey_is_run}

-- Bytes that answer an input: those of the run of its whole frames, and Refused 3 if a rest is left, which no whole frame starts.
record AnsweredBy (shared : Shared) (input bytes : Bytes) : Type 0 where
  frames : List Bytes
  rest : Bytes
  all_whole : Every WholeFrame frames
  none_starts : StartsWhole rest → ⊥
  parts : joined frames ++ rest ≡ input
  written : bytes ≡ all_written (run_on shared frames).heard ++ at_end rest

-- An input has one answer.
one_answer : (shared : Shared) (input bytes others : Bytes) → AnsweredBy shared input bytes → AnsweredBy shared input others → bytes ≡ others
one_answer shared input bytes others one two =
    let (frames_same, rest_same) = one_split one.frames two.frames one.rest two.rest one.all_whole two.all_whole one.none_starts two.none_starts (one.parts ∙ sym two.parts) in
    one.written
    ∙ (λ i. all_written (run_on shared (frames_same i)).heard ++ at_end (rest_same i))
    ∙ sym two.written

-- Nothing is left but bytes that start no whole frame.
only_rest : (shared : Shared) (rest : Bytes) → (StartsWhole rest → ⊥) → AnsweredBy shared rest (at_end rest)
unfolding run_from
only_rest shared rest none_starts = record {
  frames = [];
  rest = rest;
  all_whole = tt;
  none_starts = none_starts;
  parts = refl;
  written = refl;
}

-- Frames first, and what they leave answered after them.
frames_first : (shared : Shared) (frames : List Bytes) (after bytes input : Bytes) → Every WholeFrame frames → joined frames ++ after ≡ input
    → AnsweredBy (run_on shared frames).end after bytes → AnsweredBy shared input (all_written (run_on shared frames).heard ++ bytes)
frames_first shared frames after bytes input all parts later =
    let own = all_written (run_on shared frames).heard in
    let others = all_written (run_on (run_on shared frames).end later.frames).heard in
    record {
      frames = frames ++ later.frames;
      rest = later.rest;
      all_whole = every_append frames later.frames all later.all_whole;
      none_starts = later.none_starts;
      parts = ap (λ (bytes : Bytes). bytes ++ later.rest) (joined_append frames later.frames)
          ∙ append_assoc (joined frames) (joined later.frames) later.rest
          ∙ ap (λ (bytes : Bytes). joined frames ++ bytes) later.parts
          ∙ parts;
      written = ap (λ (bytes : Bytes). own ++ bytes) later.written
          ∙ sym (append_assoc own others (at_end later.rest))
          ∙ ap (λ (all : Bytes). all ++ at_end later.rest) (sym (run_written shared frames later.frames));
    }

-- A length field above 62 stays where more follows.
bad_stays : (over next : Bytes) → 2 ≤ length over → longest_field < length_field over → StartsWhole (over ++ next) → ⊥
bad_stays over next two bad starts =
    let field : length_field (over ++ next) ≡ length_field over = λ i. get_or-append over next 0 0 (omega (arith, two)) i + 256 * get_or-append over next 0 1 (omega (arith, two)) i in
    omega (arith, field, bad, starts.1)

some_left : (over next : Bytes) → 2 ≤ length over → at_end (over ++ next) ≡ answer_frame (Refused 3)
some_left [] next two = absurd (not-suc-le-zero two)
some_left (byte ∷ bytes) next two = refl

-- A stop at which it goes on no more is one at a bad length.
stop_answers : (stop : Stop) (shared : Shared) (over next : Bytes) (room : ℕ) → goes_on stop ≡ false → StopRight stop over room → AnsweredBy shared (over ++ next) (answer_frame (Refused 3))
stop_answers MoreInput shared over next room ends right = absurd (true≢false ends)
stop_answers OutputFull shared over next room ends right = absurd (true≢false ends)
stop_answers BadLength shared over next room ends right =
    subst (AnsweredBy shared (over ++ next)) (some_left over next right.0) (only_rest shared (over ++ next) (bad_stays over next right.0 right.1))
stop_answers NoBook shared over next room ends right = absurd right
stop_answers NoRanks shared over next room ends right = absurd right

-- Turn after turn.
in_pieces : (pieces : List Bytes) (before : Between) → length before.book ≡ words_in_book → Accepted before.ranks → (StartsWhole before.kept → ⊥) → RoomEachTurn before pieces
    → AnsweredBy (sharing before.book before.tickets before.ranks) (before.kept ++ joined pieces) (pieces_from before pieces)
unfolding pieces_from RoomEachTurn
in_pieces [] before whole accepted none_starts roomy =
    subst (λ (input : Bytes). AnsweredBy (sharing before.book before.tickets before.ranks) input (at_end before.kept)) (sym (append-nil before.kept)) (only_rest (sharing before.book before.tickets before.ranks) before.kept none_starts)
in_pieces (piece ∷ later) before whole accepted none_starts roomy =
    let words = before.book in
    let tickets = before.tickets in
    let ranks = before.ranks in
    let input = input_of before piece in
    let turn = turn_of before piece in
    let after = after_turn before piece in
    let right = stream_is_run words tickets ranks input before.out whole accepted in
    let over = after.kept in
    let end = (run_on (sharing before.book before.tickets before.ranks) right.frames).end in
    let parts : joined right.frames ++ (over ++ joined later) ≡ before.kept ++ (piece ++ joined later) =
    sym (append_assoc (joined right.frames) over (joined later))
    ∙ ap (λ (bytes : Bytes). bytes ++ joined later) right.parts
    ∙ append_assoc before.kept piece (joined later) in
    let goes : goes_on turn.0.stop ≡ true → AnsweredBy end (over ++ joined later) (pieces_from after later) =
    λ on. subst (λ (shared : Shared). AnsweredBy shared (over ++ joined later) (pieces_from after later)) right.left
    (in_pieces later after (left_length words tickets ranks input before.out whole accepted) accepted (rest_none words tickets ranks input before.out whole accepted roomy.0) (roomy.1 on)) in
    let stops : goes_on turn.0.stop ≡ false → AnsweredBy end (over ++ joined later) (answer_frame (Refused 3)) =
    λ ends. stop_answers turn.0.stop end over (joined later) _ ends right.stop_right in
    subst (λ (bytes : Bytes). AnsweredBy (sharing before.book before.tickets before.ranks) (before.kept ++ (piece ++ joined later)) (bytes ++ cond (goes_on turn.0.stop) (pieces_from after later) (answer_frame (Refused 3))))
    (sym (wrote words tickets ranks input before.out whole accepted))
    (frames_first (sharing before.book before.tickets before.ranks) right.frames (over ++ joined later) _ _ right.all_whole parts (either (goes_on turn.0.stop) end (over ++ joined later) (pieces_from after later) goes stops))
  where
    either : (on : Bool) (shared : Shared) (input bytes : Bytes) → (on ≡ true → AnsweredBy shared input bytes) → (on ≡ false → AnsweredBy shared input (answer_frame (Refused 3)))
        → AnsweredBy shared input (cond on bytes (answer_frame (Refused 3)))
    either true shared input bytes goes stops = goes refl
    either false shared input bytes goes stops = stops refl

-- A torn rest starts no whole frame; an input that is not torn starts with one.
starts_not_torn : (input : Bytes) → StartsWhole input → torn input ≡ false
unfolding some_holds
starts_not_torn input starts = rw (le-ltb (length input) 2 starts.0, le-ltb longest_field (length_field input) starts.1, le-ltb (length input) (length_field input + 2) (omega (arith, starts.2)))

first_whole : (input : Bytes) → torn input ≡ false → WholeFrame (first_frame input)
first_whole input is_whole =
    let tests = tests_fail (ltb (length input) 2) (ltb longest_field (length_field input)) (ltb (length input) (length_field input + 2)) is_whole in
    let size = length_field input + 2 in
    let small = ltb-false longest_field (length_field input) tests.1 in
    let least = ltb-false (length input) size tests.2 in
    let field : length_field (first_frame input) ≡ length_field input = λ i. get_or-take size input 0 0 (omega arith) i + 256 * get_or-take size input 1 0 (omega arith) i in
    (length-take-le size input least ∙ omega (arith, field), omega (arith, field, small))

whole_turn : (test : Bool) (first : Bytes) (frames : List Bytes) → (test ≡ false → WholeFrame first) → Every WholeFrame frames → Every WholeFrame (cond test [] (first ∷ frames))
whole_turn true first frames first_is later = tt
whole_turn false first frames first_is later = (first_is refl, later)

frames_whole : (most : ℕ) (input : Bytes) → Every WholeFrame (frames_from most input)
unfolding frames_from
frames_whole zero input = tt
frames_whole (suc most) [] = tt
frames_whole (suc most) (byte ∷ bytes) =
    let input = byte ∷ bytes in
    whole_turn (torn input) (first_frame input) (frames_from most (after_first_frame input)) (first_whole input) (frames_whole most (after_first_frame input))

-- So survey answers its input.
survey_answers : (ranks : Ranks) → Accepted ranks → (input : Bytes) → AnsweredBy (under_ranks (fresh []) ranks) input (survey_under ranks input)
survey_answers ranks accepted input =
    let right = survey_is_run ranks accepted input in
    record {
      frames = frames_in input;
      rest = rest_of input;
      all_whole = frames_whole (length input) input;
      none_starts = λ starts. true≢false (sym (right.rest_torn (λ none. omega (arith, starts.0, ap length none))) ∙ starts_not_torn (rest_of input) starts);
      parts = right.parts;
      written = right.answers;
    }

pub pieces_are_survey : PiecesAreSurvey
pieces_are_survey ranks accepted out pieces roomy =
    one_answer (under_ranks (fresh []) ranks) (joined pieces) (pieces_from (beginning ranks out) pieces) (survey_under ranks (joined pieces))
    (in_pieces pieces (beginning ranks out) (length-replicate {A = ℕ} words_in_book 0) accepted (λ starts. omega (arith, starts.0)) roomy)
    (survey_answers ranks accepted (joined pieces))

-- Where it goes on less than a frame of the longest kind is kept, and the output stays as long as it was.
kept_short : (stop : Stop) (left : ℕ) → (stop ≡ BadLength) ⊎ ((stop ≡ MoreInput) × (left < longest_frame)) → goes_on stop ≡ true → left < longest_frame
kept_short stop left (inl bad) on = absurd (false≢true (sym (ap goes_on bad) ∙ on))
kept_short stop left (inr more) on = more.1

room_each : (pieces : List Bytes) (before : Between) (room : ℕ) → length before.book ≡ words_in_book → Accepted before.ranks → length before.kept < longest_frame → length before.out ≡ room
    → Every (λ piece. room_for (longest_frame + length piece) ≤ room) pieces → RoomEachTurn before pieces
unfolding RoomEachTurn
room_each [] before room whole accepted short long enough = tt
room_each (piece ∷ later) before room whole accepted short long enough =
    let words = before.book in
    let tickets = before.tickets in
    let ranks = before.ranks in
    let input = input_of before piece in
    let roomy : Roomy input before.out = omega (arith, enough.0, short, long, length-append before.kept piece) in
    let stopped = room_suffices words tickets ranks input before.out whole accepted roomy in
    (roomy, λ on. room_each later (after_turn before piece) room (left_length words tickets ranks input before.out whole accepted) accepted (kept_short _ _ stopped on) ((stream_is_run words tickets ranks input before.out whole accepted).same_length ∙ long) enough.1)

pub pieces_have_room : PiecesHaveRoom
pieces_have_room ranks accepted out pieces enough = room_each pieces (beginning ranks out) (length out) (length-replicate {A = ℕ} words_in_book 0) accepted (omega arith) refl enough
