-- An answer written in the room for one at the front of an output is written there.
use Prim.Native.Nat.{ℕ, ◌≤◌}
use mathlib.Core.Path.{◌≡◌, refl, sym, ap, ◌∙◌}
use mathlib.Core.List.{List, [], ◌++◌, append_assoc}
use native.Mathlib.Omega.{arith}
use lib.ListN.{length, take, drop}
use Rattle.std.proofs.lemmas.List.{take-append-drop, drop-append-le, length-take-le}
use Rattle.tickets.specs.declared.Target.{Target}
use Rattle.tickets.specs.declared.Ticket as Slot
use Rattle.frames.specs.declared.Answer.{Answer}
use Rattle.frames.specs.Numbers.{Bytes}
use Rattle.frames.specs.Answers.{answer_frame, longest_answer, written}
use Rattle.frames.proofs.Framed.{fitted}
use Rattle.calls.specs.Way.{Settled}
use Rattle.handlers.specs.declared.Opened.{Opened}
use Rattle.handlers.specs.Settling.{OpenedAs}

-- Every answer fits.
pub fits_all : (answer : Answer) → length (answer_frame answer) ≤ longest_answer
fits_all answer = (fitted _ _ [] answer refl).1

-- Bytes written at the front of a part are written at the front of the whole.
front_written : (out answer : Bytes) (count : ℕ) (chunk : Bytes) → length answer ≤ longest_answer → longest_answer ≤ length out → ◌≡◌ {A = ℕ × Bytes} (count, chunk) (written (take longest_answer out) answer)
    → ◌≡◌ {A = ℕ × Bytes} (count, chunk ++ drop longest_answer out) (written out answer)
front_written out answer count chunk fits inside is = λ i. ((is i).0, (all i))
  where
    long : length (take longest_answer out) ≡ longest_answer
    long = length-take-le longest_answer out inside

    behind : drop (length answer) (take longest_answer out) ++ drop longest_answer out ≡ drop (length answer) out
    behind =
        sym (drop-append-le (length answer) (take longest_answer out) (drop longest_answer out) (omega (arith, fits, long)))
        ∙ ap (drop (length answer)) (take-append-drop longest_answer out)

    all : chunk ++ drop longest_answer out ≡ answer ++ drop (length answer) out
    all =
        ap (λ (sent : ℕ × Bytes). sent.1 ++ drop longest_answer out) is
        ∙ append_assoc answer (drop (length answer) (take longest_answer out)) (drop longest_answer out)
        ∙ ap (λ (rest : Bytes). answer ++ rest) behind

-- So is what a frame leaves that is no step.
pub opened_in_front : {result : Settled} {after : List Target} {slot : Slot.Ticket} {opened : Opened} (out : Bytes) {chunk : Bytes} → longest_answer ≤ length out
    → OpenedAs result after slot opened (take longest_answer out) chunk → OpenedAs result after slot opened out (chunk ++ drop longest_answer out)
opened_in_front {result} {opened = opened} out {chunk} inside by = record {
  ticket_left = by.ticket_left;
  answered = front_written out (answer_frame result.answer) opened.written chunk (fits_all result.answer) inside by.answered;
}
