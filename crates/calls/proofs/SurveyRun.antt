-- The program survey is a run: its input is whole frames and a rest that is empty or torn, its output the answers of the calls on those frames, and Refused 3 for a rest.
use Prim.Native.Nat.{ℕ, zero, suc, ◌+◌, ◌≤◌}
use mathlib.Core.Path.{◌≡◌, refl, sym, ap, subst, ◌∙◌}
use mathlib.Core.Bool.{Bool, true, false, cond}
use mathlib.Core.List.{List, [], ◌∷◌, ◌++◌, append_assoc}
use native.Mathlib.Nat.{not-suc-le-zero}
use native.Mathlib.Omega.{arith}
use lib.ListN.{length, drop, length-drop, take-append-drop}
use lib.Seq.{drop-append_seam}
use Rattle.frames.specs.declared.Answer.TheVariants.{Refused}
use Rattle.frames.specs.Numbers.{Bytes}
use Rattle.frames.specs.Requests.{length_field}
use Rattle.frames.specs.Answers.{answer_frame}
use Rattle.calls.specs.Run.{Shared, fresh, under_ranks, heard_of, left_by, run_from}
use Rattle.calls.specs.Survey.{torn, first_frame, after_first_frame, call_on, written_bytes, survey_from, survey_under, frames_from, frames_in, joined, all_written, calls_on, rest_of, at_end, SurveyIsRun}

-- What is left behind the whole frames of an input of at most so many bytes.
unfoldable rest_from : ℕ → Bytes → Bytes
rest_from zero input = input
rest_from (suc most) [] = []
rest_from (suc most) (byte ∷ bytes) =
    let input = byte ∷ bytes in
    cond (torn input) input (rest_from most (after_first_frame input))

-- One turn: the rest is torn, or its first frame goes to the frames and what follows is left to the later turns.
parts_turn : (test : Bool) (input first after rest : Bytes) (frames : List Bytes) → first ++ after ≡ input → joined frames ++ rest ≡ after
    → joined (cond test [] (first ∷ frames)) ++ cond test input rest ≡ input
parts_turn true input first after rest frames split later = refl
parts_turn false input first after rest frames split later = append_assoc first (joined frames) rest ∙ ap (λ (after : Bytes). first ++ after) later ∙ split

torn_turn : (test : Bool) (input rest : Bytes) → torn input ≡ test → ((rest ≡ [] → ⊥) → torn rest ≡ true)
    → (cond test input rest ≡ [] → ⊥) → torn (cond test input rest) ≡ true
torn_turn true input rest is later some_left = is
torn_turn false input rest is later some_left = later some_left

answers_turn : (test : Bool) (shared : Shared) (frame : Bytes) (frames : List Bytes) (byte : ℕ) (bytes rest after : Bytes)
    → after ≡ all_written (run_from (left_by shared (call_on frame)) (calls_on frames)).heard ++ at_end rest
    → cond test (answer_frame (Refused 3)) (written_bytes (heard_of shared (call_on frame)) ++ after)
    ≡ all_written (run_from shared (calls_on (cond test [] (frame ∷ frames)))).heard ++ at_end (cond test (byte ∷ bytes) rest)
unfolding run_from
answers_turn true shared frame frames byte bytes rest after later = refl
answers_turn false shared frame frames byte bytes rest after later =
    let own = written_bytes (heard_of shared (call_on frame)) in
    ap (λ (after : Bytes). own ++ after) later ∙ sym (append_assoc own (all_written (run_from (left_by shared (call_on frame)) (calls_on frames)).heard) (at_end rest))

-- Whole frames and what is left make the input.
parts_from : (most : ℕ) (input : Bytes) → joined (frames_from most input) ++ rest_from most input ≡ input
unfolding frames_from rest_from
parts_from zero input = refl
parts_from (suc most) [] = refl
parts_from (suc most) (byte ∷ bytes) =
    let input = byte ∷ bytes in
    let after = after_first_frame input in
    parts_turn (torn input) input (first_frame input) after (rest_from most after) (frames_from most after)
    (take-append-drop (length_field input + 2) input) (parts_from most after)

-- An input of at most one byte more than so many has at most so many behind its first frame.
after_shorter : (most : ℕ) (input : Bytes) → length input ≤ suc most → length (after_first_frame input) ≤ most
after_shorter most input short = omega (arith, length-drop (length_field input + 2) input)

-- So many turns suffice: what is left is empty or torn,
torn_from : (most : ℕ) (input : Bytes) → length input ≤ most → (rest_from most input ≡ [] → ⊥) → torn (rest_from most input) ≡ true
unfolding rest_from
torn_from zero [] short some_left = absurd (some_left refl)
torn_from zero (byte ∷ bytes) short some_left = absurd (not-suc-le-zero short)
torn_from (suc most) [] short some_left = absurd (some_left refl)
torn_from (suc most) (byte ∷ bytes) short some_left =
    let input = byte ∷ bytes in
    let after = after_first_frame input in
    torn_turn (torn input) input (rest_from most after) refl (torn_from most after (after_shorter most input short)) some_left

-- and all answers are written.
answers_from : (most : ℕ) (shared : Shared) (input : Bytes) → length input ≤ most
    → survey_from most shared input ≡ all_written (run_from shared (calls_on (frames_from most input))).heard ++ at_end (rest_from most input)
unfolding survey_from frames_from rest_from run_from
answers_from zero shared [] short = refl
answers_from zero shared (byte ∷ bytes) short = absurd (not-suc-le-zero short)
answers_from (suc most) shared [] short = refl
answers_from (suc most) shared (byte ∷ bytes) short =
    let input = byte ∷ bytes in
    let after = after_first_frame input in
    let left = left_by shared (call_on (first_frame input)) in
    answers_turn (torn input) shared (first_frame input) (frames_from most after) byte bytes (rest_from most after) (survey_from most left after)
    (answers_from most left after (after_shorter most input short))

rest_is : (input : Bytes) → rest_of input ≡ rest_from (length input) input
rest_is input =
    ap (drop (length (joined (frames_in input)))) (sym (parts_from (length input) input))
    ∙ drop-append_seam (joined (frames_in input)) (rest_from (length input) input)

pub survey_is_run : SurveyIsRun
unfolding survey_under
survey_is_run ranks accepted input =
    let start = under_ranks (fresh []) ranks in
    record {
      parts = ap (λ (rest : Bytes). joined (frames_in input) ++ rest) (rest_is input) ∙ parts_from (length input) input;
      rest_torn = λ some_left. subst (λ (rest : Bytes). torn rest ≡ true) (sym (rest_is input))
          (torn_from (length input) input (omega arith) (λ none_left. some_left (rest_is input ∙ none_left)));
      answers = answers_from (length input) start input (omega arith)
          ∙ ap (λ (rest : Bytes). all_written (run_from start (calls_on (frames_in input))).heard ++ at_end rest) (sym (rest_is input));
    }
