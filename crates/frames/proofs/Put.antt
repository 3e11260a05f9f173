-- Bytes put one after the other at the front of an output are the frame, and what stood behind it stays.
use Prim.Native.Nat.{ℕ, suc, ◌+◌, ◌*◌, ◌<◌, ◌≤◌}
use mathlib.Core.Path.{◌≡◌, refl, sym, ap, ◌∙◌}
use mathlib.Core.List.{List, [], ◌∷◌, ◌++◌}
use native.Mathlib.Omega.{arith}
use native.Mathlib.Numerals.{add-one}
use lib.ListN.{length, get_or, take, drop, set}
use lib.Seq.{sets, sets-eq, take-suc, length-take-le}
use Rattle.frames.specs.Numbers.{Bytes, bytes16, bytes64, fields64}
use Rattle.frames.specs.Answers.{frame_of, written}
use Rattle.frames.proofs.Bytes.{length_fields64}

-- Bytes put from the front on, with the count of them, are written.
pub all_written_lem : (out last bytes : Bytes) (count : ℕ) → count ≡ length bytes → last ≡ sets out 0 bytes → length bytes ≤ length out → (count, last) ≡ written out bytes
all_written_lem out last bytes count many put room =
    let there : 0 + length bytes ≡ length bytes = omega arith in
    λ i. (many i, (put ∙ sets-eq bytes out 0 (omega arith) ∙ ap (λ (k : ℕ). bytes ++ drop k out) there) i)

-- Bytes put behind those put before are put together with them.
puts_after : (first second out : Bytes) (at : ℕ) → sets (sets out at first) (at + length first) second ≡ sets out at (first ++ second)
puts_after [] second out at =
    let here : at + 0 ≡ at = omega arith in
    ap (λ (k : ℕ). sets out k second) here
puts_after (byte ∷ first) second out at =
    let next : at + suc (length first) ≡ suc at + length first = omega arith in
    ap (λ (k : ℕ). sets (sets out at (byte ∷ first)) k second) next ∙ puts_after first second (set out at byte) (suc at)

fields_after : (first second : List ℕ) → fields64 (first ++ second) ≡ fields64 first ++ fields64 second
unfolding fields64
fields_after [] second = refl
fields_after (number ∷ first) second = ap (λ (bytes : Bytes). bytes64 number ++ bytes) (fields_after first second)

-- One more value, put behind the first k of them.
pub next_put : (out last next : Bytes) (values : List ℕ) (at k : ℕ) → k < length values → last ≡ sets out at (fields64 (take k values)) → next ≡ sets last (at + 8 * k) (bytes64 (get_or values k 0)) → next ≡ sets out at (fields64 (take (k + 1) values))
unfolding fields64
next_put out last next values at k inside before put =
    let first = fields64 (take k values) in
    let value = get_or values k 0 in
    let here : at + 8 * k ≡ at + length first = omega (arith, length_fields64 (take k values), length-take-le k values (omega arith)) in
    let more : fields64 (take (k + 1) values) ≡ first ++ bytes64 value =
    ap (λ (many : ℕ). fields64 (take many values)) (add-one k) ∙ ap fields64 (take-suc values k 0 inside) ∙ fields_after (take k values) (value ∷ []) in
    put
    ∙ ap (λ (there : ℕ). sets last there (bytes64 value)) here
    ∙ ap (λ (bytes : Bytes). sets bytes (at + length first) (bytes64 value)) before
    ∙ puts_after first (bytes64 value) out at
    ∙ ap (λ (bytes : Bytes). sets out at bytes) (sym more)

-- All of them, behind the length and the kind.
pub values_written : (out head last : Bytes) (values : List ℕ) (kind count : ℕ) → 4 + 8 * length values ≤ length out
    → count ≡ 4 + 8 * length values
    → head ≡ sets out 0 (bytes16 (2 + 8 * length values) ++ bytes16 kind)
    → last ≡ sets head 4 (fields64 values)
    → (count, last) ≡ written out (frame_of kind (fields64 values))
values_written out head last values kind count room many first rest =
    let fields = fields64 values in
    let long : length fields ≡ 8 * length values = length_fields64 values in
    all_written_lem out last (frame_of kind fields) count (omega arith)
    (rest ∙ ap (λ (bytes : Bytes). sets bytes 4 fields) (first ∙ ap (λ (k : ℕ). sets out 0 (bytes16 (2 + k) ++ bytes16 kind)) (sym long)))
    (omega arith)
