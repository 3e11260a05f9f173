-- Numbers in bytes: what is put is read back, the low half of a number, and how large what is read can be.
use Prim.Native.Nat.{ℕ, zero, suc, ◌+◌, ◌*◌, ◌/◌, ◌%◌, ◌<◌, ◌^◌}
use mathlib.Core.Path.{◌≡◌, refl, sym, ap, ◌∙◌}
use mathlib.Core.List.{List, [], ◌∷◌, map}
use mathlib.Core.Bool.{Bool, true, false, cond, false≢true}
use native.Mathlib.Omega.{arith}
use native.Mathlib.Nat.{add-mul-mod_self_left}
use borrow.Author.Tests.{ltb-true}
use lib.Dec.{ltb}
use lib.ListN.{length, get_or, drop}
use lib.Seq.{get_or-drop}
use Rattle.words.proofs.Tests.{AllTrue}
use Rattle.frames.specs.Numbers.{Bytes, are_bytes, number16, number32, number64, numbers16, numbers64, bytes16, fields64, fits16, fits64, NumbersFit}
use Rattle.frames.specs.Writing.{fields16}

-- A number that fits is read back from its bytes.
pub back16 : (x : ℕ) → x < 65536 → x % 256 + 256 * (x / 256 % 256) ≡ x
back16 x l = omega arith

pub low32 : (x : ℕ) → (x % 256 + 256 * (x / 256 % 256)) + 65536 * (x / 65536 % 256 + 256 * (x / 65536 / 256 % 256)) ≡ x % 4294967296
low32 x =
    let a : x % 256 + 256 * (x / 256 % 256) ≡ x % 65536 = omega arith in
    let q = x / 65536 in
    let b : q % 256 + 256 * (q / 256 % 256) ≡ q % 65536 = omega arith in
    let c : x % 65536 + 65536 * (x / 65536 % 65536) ≡ x % 4294967296 = omega arith in
    omega arith

pub back32 : (x : ℕ) → x < 4294967296 → (x % 256 + 256 * (x / 256 % 256)) + 65536 * (x / 65536 % 256 + 256 * (x / 65536 / 256 % 256)) ≡ x
back32 x l = omega (arith, low32 x)

pub back64 : (x : ℕ) → x < 2 ^ 64
    → ((x % 256 + 256 * (x / 256 % 256)) + 65536 * (x / 65536 % 256 + 256 * (x / 65536 / 256 % 256)))
    + 4294967296 * ((x / 4294967296 % 256 + 256 * (x / 4294967296 / 256 % 256)) + 65536 * (x / 4294967296 / 65536 % 256 + 256 * (x / 4294967296 / 65536 / 256 % 256))) ≡ x
back64 x l =
    let a = low32 x in
    let b = back32 (x / 4294967296) (omega arith) in
    omega (arith, a, b)

-- The low half of a number has its first bytes.
low_byte : (x high low : ℕ) → x ≡ low + 256 * high → low % 256 ≡ x % 256
low_byte x high low e = sym (ap (λ (y : ℕ). y % 256) e ∙ add-mul-mod_self_left low 256 high)

pub half16 : (x : ℕ) → bytes16 (x % 65536) ≡ bytes16 x
half16 x =
    let q = x / 65536 in
    let a : x % 65536 % 256 ≡ x % 256 = low_byte x (256 * q) (x % 65536) (omega arith) in
    let b : x % 65536 / 256 % 256 ≡ x / 256 % 256 = low_byte (x / 256) q (x % 65536 / 256) (omega arith) in
    rw (a, b)

-- A byte of a list of bytes is below 256, and so are those of what is left of it.
pub first_byte : (byte : ℕ) (bytes : Bytes) → are_bytes (byte ∷ bytes) ≡ true → (byte < 256) × (are_bytes bytes ≡ true)
unfolding are_bytes
first_byte byte bytes h = by (ltb byte 256) (ltb-true byte 256) h
  where
    by : (test : Bool) → (test ≡ true → byte < 256) → cond test (are_bytes bytes) false ≡ true → (byte < 256) × (are_bytes bytes ≡ true)
    by true l h = (l refl, h)
    by false l h = absurd (false≢true h)

pub byte_at : (bytes : Bytes) → are_bytes bytes ≡ true → (at : ℕ) → get_or bytes at 0 < 256
byte_at [] h at = omega arith
byte_at (byte ∷ bytes) h zero = (first_byte byte bytes h).0
byte_at (byte ∷ bytes) h (suc at) = byte_at bytes (first_byte byte bytes h).1 at

pub bytes_after : (many : ℕ) (bytes : Bytes) → are_bytes bytes ≡ true → are_bytes (drop many bytes) ≡ true
bytes_after zero bytes h = h
bytes_after (suc many) [] h = h
bytes_after (suc many) (byte ∷ bytes) h = bytes_after many bytes (first_byte byte bytes h).1

pub numbers_fit : NumbersFit
numbers_fit bytes h at = omega (arith, byte_at bytes h at, byte_at bytes h (at + 1))

-- A number in what is left of some bytes stands as much further on in all of them.
further16 : (bytes : Bytes) (before at : ℕ) → number16 bytes (before + at) ≡ number16 (drop before bytes) at
further16 bytes before at =
    let next : before + at + 1 ≡ before + (at + 1) = omega arith in
    simp (get_or-drop, next)

further32 : (bytes : Bytes) (before at : ℕ) → number32 bytes (before + at) ≡ number32 (drop before bytes) at
further32 bytes before at =
    let next : before + at + 2 ≡ before + (at + 2) = omega arith in
    λ i. further16 bytes before at i + 65536 * (ap (λ (k : ℕ). number16 bytes k) next ∙ further16 bytes before (at + 2)) i

further64 : (bytes : Bytes) (before at : ℕ) → number64 bytes (before + at) ≡ number64 (drop before bytes) at
further64 bytes before at =
    let next : before + at + 4 ≡ before + (at + 4) = omega arith in
    λ i. further32 bytes before at i + 4294967296 * (ap (λ (k : ℕ). number32 bytes k) next ∙ further32 bytes before (at + 4)) i

pub numbers_further16 : (more : ℕ) (bytes : Bytes) (before at : ℕ) → numbers16 more bytes (before + at) ≡ numbers16 more (drop before bytes) at
unfolding numbers16
numbers_further16 zero bytes before at = refl
numbers_further16 (suc more) bytes before at =
    let next : before + at + 2 ≡ before + (at + 2) = omega arith in
    λ i. further16 bytes before at i ∷ (ap (λ (k : ℕ). numbers16 more bytes k) next ∙ numbers_further16 more bytes before (at + 2)) i

pub numbers_further64 : (more : ℕ) (bytes : Bytes) (before at : ℕ) → numbers64 more bytes (before + at) ≡ numbers64 more (drop before bytes) at
unfolding numbers64
numbers_further64 zero bytes before at = refl
numbers_further64 (suc more) bytes before at =
    let next : before + at + 8 ≡ before + (at + 8) = omega arith in
    λ i. further64 bytes before at i ∷ (ap (λ (k : ℕ). numbers64 more bytes k) next ∙ numbers_further64 more bytes before (at + 8)) i

-- So many are read.
pub length_numbers16 : (many : ℕ) (bytes : Bytes) (at : ℕ) → length (numbers16 many bytes at) ≡ many
unfolding numbers16
length_numbers16 zero bytes at = refl
length_numbers16 (suc many) bytes at = ap suc (length_numbers16 many bytes (at + 2))

-- Numbers put one after another are read back, and take two or eight bytes each.
pub numbers_back16 : (numbers : List ℕ) → AllTrue (map fits16 numbers) → numbers16 (length numbers) (fields16 numbers) 0 ≡ numbers
unfolding numbers16
numbers_back16 [] h = refl
numbers_back16 (number ∷ numbers) h =
    λ i. back16 number (ltb-true _ _ h.0) i ∷ (numbers_further16 (length numbers) (fields16 (number ∷ numbers)) 2 0 ∙ numbers_back16 numbers h.1) i

pub numbers_back64 : (numbers : List ℕ) → AllTrue (map fits64 numbers) → numbers64 (length numbers) (fields64 numbers) 0 ≡ numbers
unfolding numbers64 fields64
numbers_back64 [] h = refl
numbers_back64 (number ∷ numbers) h =
    λ i. back64 number (ltb-true _ _ h.0) i ∷ (numbers_further64 (length numbers) (fields64 (number ∷ numbers)) 8 0 ∙ numbers_back64 numbers h.1) i

pub length_fields16 : (numbers : List ℕ) → length (fields16 numbers) ≡ 2 * length numbers
length_fields16 [] = refl
length_fields16 (number ∷ numbers) = omega (arith, length_fields16 numbers)

pub length_fields64 : (numbers : List ℕ) → length (fields64 numbers) ≡ 8 * length numbers
unfolding fields64
length_fields64 [] = refl
length_fields64 (number ∷ numbers) = omega (arith, length_fields64 numbers)
