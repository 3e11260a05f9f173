-- What is done after a read, by whether it brought something and whether the program goes on.
use Rattle.std.specs.Prelude.{Some}
use Prim.Native.Nat.{ℕ, ◌+◌, ◌-◌, ◌<◌, ◌≤◌}
use native.Mathlib.Omega.{arith}
use mathlib.Core.Path.{◌≡◌, refl, sym, ap, subst, ◌∙◌}
use mathlib.Core.Logic.{◌⊎◌, inl, inr}
use mathlib.Core.Bool.{Bool, true, false, cond, false≢true}
use borrow.Author.Tests.{eq-eqb, ne_eqb, lt-ltb, le-ltb}
use lib.ListN.{length, take, drop, length-drop}
use lib.Seq.{length-take-le}
use Rattle.words.specs.Words.{Words, words_in_book}
use Rattle.legs.specs.Positions.{Ranks, is_permutation}
use Rattle.tickets.specs.Tickets.{Tickets}
use Rattle.frames.specs.declared.Answer.TheVariants.{Refused}
use Rattle.frames.specs.Numbers.{Bytes}
use Rattle.frames.specs.Answers.{answer_frame, longest_answer, PutAt}
use Rattle.frames.specs.Fields.{longest_frame}
use Rattle.calls.specs.Stream.{Streamed, stream_of, Roomy}
use Rattle.calls.specs.Pieces.{goes_on}
use Rattle.calls.proofs.Streaming.{stream_no_ranks}
use Rattle.calls.proofs.StreamRun.{stream_is_run}
use Rattle.calls.proofs.StreamPieces.{room_left, room_suffices}
use Rattle.replies.specs.Leaving.{RoomAt}
use Rattle.serve.specs.Serving.{Served, shifted, served, refused_behind, end_of, ended_by, served_after, served_by}

-- Refused 3 as it is put.
pub refused_put : (out : Bytes) (at : ℕ) {place : ℕ} {output : Bytes} → PutAt out at (answer_frame (Refused 3)) place output → (place, output) ≡ refused_behind out at
refused_put out at put = λ i. (put.0.0 i, put.1.0 i)

-- What is written at the end, by whether bytes are kept.
module _ (out : Bytes) (have : ℕ) where
  abbrev ending_by : Bool → ℕ × Bytes
  ending_by some = cond some (refused_behind out 0) (0, out)

  pub ends_torn : {count : ℕ} {output : Bytes} → 0 < have → PutAt out 0 (answer_frame (Refused 3)) count output → (count, output) ≡ end_of out have
  ends_torn some put = refused_put out 0 put ∙ ap ending_by (sym (lt-ltb 0 have some))

  pub ends_whole : have ≤ 0 → (0, out) ≡ end_of out have
  ends_whole none = ap ending_by (sym (le-ltb 0 have none))

-- By what a read brought.
module _ (words : Words) (tickets : Tickets) (ranks : Ranks) (buffer : Bytes) (have got : ℕ) (out : Bytes) where
  abbrev ending : Served × Words × Bytes × Bytes
  ending = ended_by words tickets buffer (end_of out have)

  abbrev answering : Served × Words × Bytes × Bytes
  answering = served_after buffer (have + got) (stream_of words tickets ranks (take (have + got) buffer) out)

  pub serves_end : {count : ℕ} {output : Bytes} → got ≡ 0 → (count, output) ≡ end_of out have → ended_by words tickets buffer (count, output) ≡ served_by words tickets ranks buffer have got out
  unfolding served_by
  serves_end none is = ap (ended_by words tickets buffer) is ∙ ap (λ (test : Bool). cond test ending answering) (sym (eq-eqb got 0 none))

  pub serves_read : (got ≡ 0 → ⊥) → answering ≡ served_by words tickets ranks buffer have got out
  unfolding served_by
  serves_read some = ap (λ (test : Bool). cond test ending answering) (sym (ne_eqb got 0 some))

-- A stream keeps the length of the output, and leaves room for Refused 3: under ranks that are not accepted it writes nothing.
abbrev RoomKept : Bytes → Streamed × Words × Bytes → Type 0
RoomKept out result = (length result.2 ≡ length out) × (longest_answer ≤ length result.2 - result.0.written)

room_kept : (words : Words) (tickets : Tickets) (ranks : Ranks) (input out : Bytes) → length words ≡ words_in_book → Roomy input out → RoomKept out (stream_of words tickets ranks input out)
room_kept words tickets ranks input out whole roomy = go (is_permutation ranks) refl
  where
    go : (test : Bool) → is_permutation ranks ≡ test → RoomKept out (stream_of words tickets ranks input out)
    go true accepted =
        let long = (stream_is_run words tickets ranks input out whole accepted).same_length in
        (long, omega (arith, room_left words tickets ranks input out whole accepted roomy, long))
    go false wrong = subst (RoomKept out) (stream_no_ranks words tickets ranks input out whole wrong) (refl, omega (arith, roomy))

-- The program stops behind it, or less than a whole frame is left.
abbrev StopsOrFew : Bytes → Streamed × Words × Bytes → Type 0
StopsOrFew input result = (goes_on result.0.stop ≡ false) ⊎ (length (drop result.0.consumed input) < longest_frame)

stops_or_few : (words : Words) (tickets : Tickets) (ranks : Ranks) (input out : Bytes) → length words ≡ words_in_book → Roomy input out → StopsOrFew input (stream_of words tickets ranks input out)
stops_or_few words tickets ranks input out whole roomy = go (is_permutation ranks) refl
  where
    go : (test : Bool) → is_permutation ranks ≡ test → StopsOrFew input (stream_of words tickets ranks input out)
    go true accepted = elim (room_suffices words tickets ranks input out whole accepted roomy) [
      | inl bad ↦ inl (ap goes_on bad)
      | inr more ↦ inr more.1
    ]
    go false wrong = inl (ap (λ (result : Streamed × Words × Bytes). goes_on result.0.stop) (sym (stream_no_ranks words tickets ranks input out whole wrong)))

-- By what a stream over the first bytes left.
module _ (words : Words) (tickets : Tickets) (ranks : Ranks) (buffer : Bytes) (have : ℕ) (out : Bytes) (answered : Streamed) (after : Words) (filled : Bytes) (same : (answered, after, filled) ≡ stream_of words tickets ranks (take have buffer) out) where
  abbrev onward : Served × Words × Bytes × Bytes
  onward = (served answered.tickets (Some (have - answered.consumed)) answered.written, after, shifted buffer answered.consumed have, filled)

  abbrev halted : Served × Words × Bytes × Bytes
  halted = ended_by after answered.tickets buffer (refused_behind filled answered.written)

  pub serves_no_more :
      {count : ℕ} {output : Bytes} → (count, output) ≡ refused_behind filled answered.written → goes_on answered.stop ≡ false
      → ended_by after answered.tickets buffer (count, output) ≡ served_after buffer have (stream_of words tickets ranks (take have buffer) out)
  serves_no_more refused ends =
      ap (ended_by after answered.tickets buffer) refused
      ∙ ap (λ (on : Bool). cond on onward halted) (sym ends)
      ∙ ap (served_after buffer have) same

  pub serves_on :
      (left : ℕ) (front : Bytes) → left ≡ have - answered.consumed → front ≡ shifted buffer answered.consumed have
      → goes_on answered.stop ≡ true
      → (served answered.tickets (Some left) answered.written, after, front, filled) ≡ served_after buffer have (stream_of words tickets ranks (take have buffer) out)
  serves_on left front many moved goes =
      ap (λ (n : ℕ). (served answered.tickets (Some n) answered.written, after, front, filled)) many
      ∙ ap (λ (bytes : Bytes). (served answered.tickets (Some (have - answered.consumed)) answered.written, after, bytes, filled)) moved
      ∙ ap (λ (on : Bool). cond on onward halted) (sym goes)
      ∙ ap (served_after buffer have) same

  module _ (whole : length words ≡ words_in_book) (inside : have ≤ length buffer) (roomy : Roomy buffer out) where
    front_long : length (take have buffer) ≡ have
    front_long = length-take-le have buffer inside

    front_roomy : Roomy (take have buffer) out
    front_roomy = omega (arith, roomy, front_long, inside)

    kept : RoomKept out (answered, after, filled)
    kept = subst (RoomKept out) (sym same) (room_kept words tickets ranks (take have buffer) out whole front_roomy)

    -- There is room for Refused 3,
    pub room_to_refuse : RoomAt filled answered.written
    room_to_refuse = record { inside = omega (arith, kept.1); room = kept.1 }

    -- and less than a whole frame is kept where it goes on.
    pub few_kept : goes_on answered.stop ≡ true → have - answered.consumed < longest_frame
    few_kept goes = elim (subst (StopsOrFew (take have buffer)) (sym same) (stops_or_few words tickets ranks (take have buffer) out whole front_roomy)) [
      | inl stops ↦ absurd (false≢true (sym stops ∙ goes))
      | inr few ↦ omega (arith, few, front_long, left)
    ]
      where
        left : length (drop answered.consumed (take have buffer)) ≡ length (take have buffer) - answered.consumed
        left = length-drop answered.consumed (take have buffer)
