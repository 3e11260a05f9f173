-- What is written in the bytes of the longest answer, which an output begins with, is written in the output.
use Prim.Native.Nat.{ℕ, ◌≤◌}
use mathlib.Core.Path.{◌≡◌, sym, ap, ◌∙◌}
use mathlib.Core.List.{◌++◌}
use native.Mathlib.Omega.{arith}
use lib.ListN.{length, length-take, take, drop}
use Rattle.std.specs.Array.{IsFirstChunk}
use Rattle.std.proofs.lemmas.List.{append_assoc, drop-append-le, take-append-drop}
use Rattle.frames.specs.declared.Answer.{Answer}
use Rattle.frames.specs.Numbers.{Bytes}
use Rattle.frames.specs.Answers.{answer_frame, longest_answer, written}
use Rattle.frames.proofs.Framed.{answer_frames_sound, fitted}

pub written_first : (out first last : Bytes) (count : ℕ) (answer : Answer) → IsFirstChunk out first longest_answer
    → (count, last) ≡ written first (answer_frame answer)
    → ((count, last ++ drop longest_answer out) ≡ written out (answer_frame answer)) × (count ≤ longest_answer)
written_first out first last count answer chunk e =
    let frame = answer_frame answer in
    let n = length frame in
    let short : n ≤ longest_answer = (answer_frames_sound answer).most in
    let enough : longest_answer ≤ length out = chunk.enough in
    let there : n ≤ length (take longest_answer out) = omega (arith, length-take longest_answer out) in
    let behind : drop n (take longest_answer out) ++ drop longest_answer out ≡ drop n out =
    sym (drop-append-le n (take longest_answer out) (drop longest_answer out) there) ∙ ap (λ (l : Bytes). drop n l) (take-append-drop longest_answer out) in
    let many : count ≡ n = ap (λ (w : ℕ × Bytes). w.0) e in
    let all : last ++ drop longest_answer out ≡ frame ++ drop n out =
    ap (λ (w : ℕ × Bytes). w.1 ++ drop longest_answer out) e
    ∙ ap (λ (l : Bytes). (frame ++ drop n l) ++ drop longest_answer out) chunk.same
    ∙ append_assoc frame (drop n (take longest_answer out)) (drop longest_answer out)
    ∙ ap (λ (l : Bytes). frame ++ l) behind in
    fitted count (last ++ drop longest_answer out) out answer (λ i. (many i, all i))
