-- `frames::numbers::put` meets its contract: the part written is the bytes.
use Prim.Native.Nat.{ℕ, ◌+◌, ◌-◌}
use mathlib.Core.Path.{◌≡◌, sym, ap, ◌∙◌}
use mathlib.Core.List.{◌++◌, append_assoc}
use native.Mathlib.Omega.{arith}
use lib.ListN.{length, take, drop, length-take, length-drop}
use lib.Seq.{drop-drop}
use Rattle.std.proofs.lemmas.List.Edits.{sets-eq}
use Rattle.frames.proofs.numbers.put.Goals as goal

pub returns : goal.returns
returns g c =
    let out = c.args.out.now in
    let at = c.args.at in
    let bytes = c.args.bytes in
    let part = c.copy_from_slice.ensures in
    let long : length bytes ≡ g.row.N = omega (arith, ap length part.after, part.len, length-take (at + g.row.N - at) (drop at out), length-drop at out, c.requires) in
    let rest : at + (at + g.row.N - at) ≡ at + length bytes = omega (arith, long) in
    ap (λ l. take at out ++ l) (λ i. part.after i ++ (drop-drop (at + g.row.N - at) at out ∙ ap (λ (n : ℕ). drop n out) rest) i)
    ∙ sym (append_assoc (take at out) bytes _)
    ∙ sym (sets-eq bytes out at (omega (arith, long, c.requires)))
