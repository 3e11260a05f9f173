-- An answer written at a place of an output, and ranks told to be accepted.
use Prim.Native.Nat.{ℕ, ◌+◌, ◌-◌, ◌≤◌}
use mathlib.Core.Path.{◌≡◌, refl, ap, ◌∙◌}
use mathlib.Core.Bool.{Bool, true, false, cond, false≢true}
use Rattle.std.specs.Prelude.{None, Some}
use mathlib.Core.List.{List, ◌++◌}
use native.Mathlib.Omega.{arith}
use lib.ListN.{length, take, drop, length-append, length-drop}
use Rattle.std.proofs.lemmas.List.{length-take-le}
use Rattle.words.specs.Words.{Words}
use Rattle.tickets.specs.declared.Target.{Target}
use Rattle.tickets.specs.declared.Ticket as Slot
use Rattle.tickets.specs.Table.{gathered}
use Rattle.frames.specs.Numbers.{Bytes}
use Rattle.frames.specs.Answers.{answer_frame, longest_answer, written, room_in, with_room, PutAt}
use Rattle.frames.specs.declared.Answer.{Answer}
use Rattle.calls.specs.Way.{Settled}
use Rattle.handlers.specs.Settling.{SettledAs}
use Rattle.handlers.proofs.Rooms.{fits_all}

-- An answer written at the front of the rest of an output, from a place on, is put at that place.
pub put_rest : (out : Bytes) (at : ℕ) (answer : Bytes) (count : ℕ) (rest output : Bytes) → length answer ≤ longest_answer → at + longest_answer ≤ length out
    → ◌≡◌ {A = ℕ × Bytes} (count, rest) (written (room_in out at) answer) → output ≡ with_room out at rest → PutAt out at answer (at + count) output
put_rest out at answer count rest output fits inside is stored =
    ((ap (λ (sent : ℕ × Bytes). at + sent.0) is, omega (arith, inside, fits, ap (λ (sent : ℕ × Bytes). sent.0) is)), (stored ∙ ap (λ (sent : ℕ × Bytes). with_room out at sent.1) is, ap length stored ∙ kept))
  where
    room : Bytes
    room = room_in out at

    many : length room ≡ length out - at
    many = length-take-le (length out - at) (drop at out) (omega (arith, length-drop at out))

    rest_long : length rest ≡ length out - at
    rest_long = omega (arith, ap (λ (sent : ℕ × Bytes). length sent.1) is, length-append answer (drop (length answer) room), length-drop (length answer) room, many, fits, inside)

    kept : length (with_room out at rest) ≡ length out
    kept = omega (
      arith,
      length-append (take at out) (rest ++ drop (length out - at) (drop at out)),
      length-append rest (drop (length out - at) (drop at out)),
      length-take-le at out (omega (arith, inside)),
      length-drop (length out - at) (drop at out),
      length-drop at out,
      rest_long,
      inside,
    )

pub answer_fits : (answer : Answer) (at long : ℕ) (room : Bytes) {count : ℕ} {rest : Bytes} → at + longest_answer ≤ long → ◌≡◌ {A = ℕ × Bytes} (count, rest) (written room (answer_frame answer)) → at + count ≤ long
answer_fits answer at long room inside is = omega (arith, inside, fits_all answer, ap (λ (sent : ℕ × Bytes). sent.0) is)

pub rest_fits : (out : Bytes) (at : ℕ) → at + longest_answer ≤ length out → longest_answer ≤ length (room_in out at)
rest_fits out at inside = omega (arith, length-take-le (length out - at) (drop at out) (omega (arith, length-drop at out)), inside)

-- What a step leaves, its answer put at a place of an output.
pub record SettledAt (result : Settled × Words) (targets : List Target) (slot : Slot.Ticket) (words : Words) (out : Bytes) (at place : ℕ) (output : Bytes) : Type 0 where
  pub ticket_left : gathered targets slot ≡ result.0.ticket
  pub words_left : words ≡ result.1
  pub answered : PutAt out at (answer_frame result.0.answer) place output

-- So it is where it was written at the front of the rest.
pub settled_at : {result : Settled × Words} {targets : List Target} {slot : Slot.Ticket} {words : Words} (out : Bytes) (at count : ℕ) (rest output : Bytes) → at + longest_answer ≤ length out
    → SettledAs result targets slot words (room_in out at) count rest → output ≡ with_room out at rest → SettledAt result targets slot words out at (at + count) output
settled_at {result} out at count rest output inside settled stored = record {
  ticket_left = settled.ticket_left;
  words_left = settled.words_left;
  answered = put_rest out at (answer_frame result.0.answer) count rest output (fits_all result.0.answer) inside settled.answered stored;
}

-- Ranks that are accepted, or not, as the library's option tells it.
pub not_accepted : {A : Type 0} (test : Bool) (x : A) → None ≡ cond test (Some x) None → test ≡ false
not_accepted true x is = cc
not_accepted false x is = refl

pub are_accepted : {A : Type 0} (test : Bool) (x y : A) → Some y ≡ cond test (Some x) None → (test ≡ true) × (y ≡ x)
are_accepted true x y is = (refl, cc)
are_accepted false x y is = absurd (false≢true cc)
