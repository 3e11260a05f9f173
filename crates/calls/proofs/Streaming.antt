-- One turn of the stream: it ends, it stops, it finds no room, or it goes on with one call.
use Rattle.std.specs.Prelude.{Result, Ok, Err}
use Prim.Native.Nat.{ℕ, zero, suc, ◌+◌, ◌-◌, ◌<◌, ◌≤◌}
use native.Mathlib.Nat.{not-suc-le-zero}
use native.Mathlib.Omega.{arith}
use mathlib.Core.Path.{◌≡◌, refl, sym, ap, ◌∙◌}
use mathlib.Core.Bool.{false}
use borrow.Author.Tests.{lt-ltb, le-ltb, eq-eqb, ne_eqb}
use lib.ListN.{length, take, drop, length-take, length-drop}
use Rattle.words.specs.Words.{Words, words_in_book}
use Rattle.legs.specs.Positions.{Ranks, is_permutation, Accepted}
use Rattle.tickets.specs.Tickets.{Tickets, ticket_of, with_ticket}
use Rattle.frames.specs.declared.Answer.{Answer}
use Rattle.frames.specs.Numbers.{Bytes, number16}
use Rattle.frames.specs.Answers.{answer_frame, longest_answer, written, room_in, with_room}
use Rattle.calls.specs.Way.{Aim}
use Rattle.calls.specs.declared.Stop.{Stop}
use Rattle.calls.specs.declared.Stop.TheVariants.{MoreInput, OutputFull, BadLength, NoBook, NoRanks}
use Rattle.calls.specs.Call.{Reply, call_of}
use Rattle.calls.specs.Way.{Settled, aim_of, slot_of, settled_by}
use Rattle.calls.specs.Survey.{longest_field}
use Rattle.calls.specs.Stream.{Streamed, next_at, streamed, stream_from, stream_of}
use Rattle.calls.proofs.Sending.{call_by}

-- The next frame, test by test.
pub next_short : (input : Bytes) (at : ℕ) → length input - at < 2 → Err MoreInput ≡ next_at input at
unfolding next_at
next_short input at short = rw (lt-ltb (length input - at) 2 short) refl

pub next_bad : (input : Bytes) (at : ℕ) → 2 ≤ length input - at → longest_field < number16 input at → Err BadLength ≡ next_at input at
unfolding next_at
next_bad input at long bad = rw (le-ltb (length input - at) 2 long, lt-ltb longest_field (number16 input at) bad) refl

pub next_torn : (input : Bytes) (at : ℕ) → 2 ≤ length input - at → number16 input at ≤ longest_field → length input - at < 2 + number16 input at → Err MoreInput ≡ next_at input at
unfolding next_at
next_torn input at long small short = rw (le-ltb (length input - at) 2 long, le-ltb longest_field (number16 input at) small, lt-ltb (length input - at) (2 + number16 input at) short) refl

pub next_whole : (input : Bytes) (at : ℕ) → 2 ≤ length input - at → number16 input at ≤ longest_field → 2 + number16 input at ≤ length input - at → Ok (2 + number16 input at) ≡ next_at input at
unfolding next_at
next_whole input at long small whole = rw (le-ltb (length input - at) 2 long, le-ltb longest_field (number16 input at) small, le-ltb (length input - at) (2 + number16 input at) whole) refl

module _ (words : Words) (tickets : Tickets) (ranks : Ranks) (input out : Bytes) (at w : ℕ) where
  pub ends : (most : ℕ) → most ≤ 0 → stream_from most words tickets ranks input out at w ≡ (streamed tickets at w MoreInput, words, out)
  unfolding stream_from
  ends zero none = refl
  ends (suc most) none = absurd (not-suc-le-zero none)

  pub stops : (most : ℕ) (stop : Stop) → 0 < most → next_at input at ≡ Err stop → stream_from most words tickets ranks input out at w ≡ (streamed tickets at w stop, words, out)
  unfolding stream_from
  stops zero stop some e = absurd (not-suc-le-zero some)
  stops (suc most) stop some e = rw e refl

  pub full : (most size : ℕ) → 0 < most → next_at input at ≡ Ok size → length out - w < longest_answer → stream_from most words tickets ranks input out at w ≡ (streamed tickets at w OutputFull, words, out)
  unfolding stream_from
  full zero size some e short = absurd (not-suc-le-zero some)
  full (suc most) size some e short = rw (e, lt-ltb (length out - w) longest_answer short) refl

  -- What is left after a call.
  abbrev pub after : ℕ → ℕ → Reply × Words × Bytes → Streamed × Words × Bytes
  after most size call = stream_from most call.1 call.0.tickets ranks input (with_room out w call.2) (at + size) (w + call.0.written)

  pub goes : (most size : ℕ) → 0 < most → next_at input at ≡ Ok size → longest_answer ≤ length out - w
      → stream_from most words tickets ranks input out at w ≡ after (most - 1) size (call_of words tickets ranks (take size (drop at input)) (room_in out w))
  unfolding stream_from
  goes zero size some e room = absurd (not-suc-le-zero some)
  goes (suc most) size some e room = let one_less : most ≡ suc most - 1 = omega arith in
      rw (e, le-ltb (length out - w) longest_answer room) (ap (λ (k : ℕ). after k size (call_of words tickets ranks (take size (drop at input)) (room_in out w))) one_less)

-- The room has what is left of the output.
pub room_long : (out : Bytes) (w : ℕ) → longest_answer ≤ length out - w → longest_answer ≤ length (room_in out w)
room_long out w long = simp (length-take, length-drop) (omega arith)

pub add_less : (a b : ℕ) → a + b - a ≡ b
add_less a b = omega arith

-- One turn, from what the code has: what the frame settled, the table with its ticket stored, the answer written at w.
pub turn : (words : Words) (tickets next : Tickets) (ranks : Ranks) (input out : Bytes) (at w most size : ℕ) (aim : Result Aim ℕ) (slot : ℕ) (result : Settled) (after_words : Words) (answer : Answer) (end_written : ℕ) (output : Bytes)
    → 0 < most → next_at input at ≡ Ok size → longest_answer ≤ length out - w → length words ≡ words_in_book → Accepted ranks
    → aim ≡ aim_of (take size (drop at input))
    → slot ≡ slot_of aim
    → ◌≡◌ {A = Settled × Words} (result, after_words) (settled_by words (ticket_of tickets slot) ranks (take size (drop at input)) aim)
    → next ≡ with_ticket tickets slot result.ticket
    → answer ≡ result.answer
    → end_written ≡ w + (written (room_in out w) (answer_frame answer)).0
    → output ≡ with_room out w (written (room_in out w) (answer_frame answer)).1
    → stream_from (most - 1) after_words next ranks input output (at + size) end_written ≡ stream_from most words tickets ranks input out at w
turn words tickets next ranks input out at w most size aim slot result after_words answer end_written output some whole_frame room whole accepted aimed slotted settles stored answered counted filled =
    let room_written : Answer → ℕ × Bytes = λ a. written (room_in out w) (answer_frame a) in
    (λ i. stream_from (most - 1) after_words (stored i) ranks input (filled i) (at + size) (counted i))
    ∙ (λ i. stream_from (most - 1) after_words (with_ticket tickets slot result.ticket) ranks input (with_room out w (room_written (answered i)).1) (at + size) (w + (room_written (answered i)).0))
    ∙ ap (after words tickets ranks input out at w (most - 1) size)
    (call_by words tickets ranks (take size (drop at input)) (room_in out w) aim slot result after_words (room_written result.answer).0 (room_written result.answer).1 aimed slotted settles refl whole accepted (room_long out w room))
    ∙ sym (goes words tickets ranks input out at w most size some whole_frame room)

-- The whole of an input, in a book of 4,096 words under accepted ranks; in another book; under other ranks.
pub stream_whole : (words : Words) (tickets : Tickets) (ranks : Ranks) (input out : Bytes) → length words ≡ words_in_book → Accepted ranks
    → stream_from (length input) words tickets ranks input out 0 0 ≡ stream_of words tickets ranks input out
unfolding stream_of
stream_whole words tickets ranks input out whole accepted = rw (eq-eqb (length words) words_in_book whole, accepted) refl

pub stream_no_book : (words : Words) (tickets : Tickets) (ranks : Ranks) (input out : Bytes) → (length words ≡ words_in_book → ⊥)
    → ◌≡◌ {A = Streamed × Words × Bytes} (streamed tickets 0 0 NoBook, words, out) (stream_of words tickets ranks input out)
unfolding stream_of
stream_no_book words tickets ranks input out other = rw (ne_eqb (length words) words_in_book other) refl

pub stream_no_ranks : (words : Words) (tickets : Tickets) (ranks : Ranks) (input out : Bytes) → length words ≡ words_in_book → is_permutation ranks ≡ false
    → ◌≡◌ {A = Streamed × Words × Bytes} (streamed tickets 0 0 NoRanks, words, out) (stream_of words tickets ranks input out)
unfolding stream_of
stream_no_ranks words tickets ranks input out whole wrong = rw (eq-eqb (length words) words_in_book whole, wrong) refl
