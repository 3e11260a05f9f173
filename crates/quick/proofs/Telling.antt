-- The answer told on the fast way: eight bytes stored, of which the last two are those that stood there where the answer has six.
use Prim.Native.Nat.{ℕ, suc, ◌+◌, ◌*◌, ◌/◌, ◌%◌, ◌≤◌, ◌<◌}
use mathlib.Core.Path.{◌≡◌, refl, sym, ap, subst, ◌∙◌}
use mathlib.Core.Bool.{Bool, true, false, cond}
use mathlib.Core.List.{[], ◌∷◌, ◌++◌, append_assoc}
use native.Mathlib.Omega.{arith}
use lib.ListN.{length, get_or, take, drop, length-append}
use lib.Seq.{sets, sets-eq, drop-cons}
use Rattle.tickets.specs.declared.StepAnswer.{StepAnswer}
use Rattle.tickets.specs.declared.StepAnswer.TheVariants.{Claimed, Put, Granted}
use Rattle.tickets.specs.declared.Ticket as Slot
use Rattle.frames.specs.Numbers.{Bytes, number16, bytes16, bytes32}
use Rattle.frames.specs.Answers.{frame_of, answer_frame}
use Rattle.frames.proofs.Bytes.{half16}
use Rattle.quick.specs.Quick.{ToldAt}
use Rattle.replies.proofs.Placing.{stored_at}

-- Four bytes stored behind four others are stored with them.
both_stored : (out half last : Bytes) (at first second : ℕ) → half ≡ sets out at (bytes32 first) → last ≡ sets half (at + 4) (bytes32 second) → last ≡ sets out at (bytes32 first ++ bytes32 second)
both_stored out half last at first second one two =
    let there : at + 4 ≡ suc (suc (suc (suc at))) = omega arith in
    two
    ∙ ap (λ (k : ℕ). sets half k (bytes32 second)) there
    ∙ ap (λ (bytes : Bytes). sets bytes (suc (suc (suc (suc at)))) (bytes32 second)) one

-- Bytes stored with the two that stand behind them leave those.
kept_stored : (out bytes : Bytes) (at : ℕ) → at + length bytes + 2 ≤ length out → sets out at (bytes ++ (get_or out (at + length bytes) 0 ∷ get_or out (at + length bytes + 1) 0 ∷ [])) ≡ sets out at bytes
kept_stored out bytes at inside =
    sets-eq (bytes ++ two) out at (omega (arith, inside, long))
    ∙ ap (λ (l : Bytes). l ++ drop (at + length (bytes ++ two)) out) (sym (append_assoc (take at out) bytes two))
    ∙ append_assoc (take at out ++ bytes) two (drop (at + length (bytes ++ two)) out)
    ∙ ap (λ (l : Bytes). take at out ++ bytes ++ l) behind
    ∙ sym (sets-eq bytes out at (omega (arith, inside)))
  where
    here : ℕ
    here = at + length bytes

    two : Bytes
    two = get_or out here 0 ∷ get_or out (here + 1) 0 ∷ []

    long : length (bytes ++ two) ≡ length bytes + 2
    long = length-append bytes two

    behind : two ++ drop (at + length (bytes ++ two)) out ≡ drop here out
    behind =
        let next : here + 1 ≡ suc here = omega arith in
        let rest : at + length (bytes ++ two) ≡ suc (here + 1) = omega (arith, long) in
        sym (drop-cons out here 0 (omega (arith, inside))
        ∙ ap (λ (k : ℕ). get_or out here 0 ∷ drop k out) (sym next)
        ∙ ap (λ (l : Bytes). get_or out here 0 ∷ l) (drop-cons out (here + 1) 0 (omega (arith, inside)))
        ∙ ap (λ (k : ℕ). two ++ drop k out) (sym rest))

-- The bytes of a number and of two more.
halves_read : (many low high : ℕ) → many < 65536 → low < 256 → high < 256 → bytes32 (many + 65536 * (low + 256 * high)) ≡ bytes16 many ++ (low ∷ high ∷ [])
halves_read many low high small l h =
    let x = many + 65536 * (low + 256 * high) in
    let first : x % 65536 ≡ many = omega arith in
    let second : x / 65536 ≡ low + 256 * high = omega arith in
    let c : (low + 256 * high) % 256 ≡ low = omega arith in
    let e : (low + 256 * high) / 256 ≡ high = omega arith in
    let f : high % 256 ≡ high = omega arith in
    let d : (low + 256 * high) / 256 % 256 ≡ high = ap (λ (y : ℕ). y % 256) e ∙ f in
    (λ i. (sym (half16 x) ∙ ap bytes16 first) i ++ bytes16 (second i)) ∙ (λ i. bytes16 many ++ (c i ∷ d i ∷ []))

-- The first four bytes, and what follows them, by whether the ticket is granted and whether it claimed.
abbrev head_by : Bool → Bool → ℕ
head_by granted claims = cond granted 8781830 (cond claims 8454148 8650756)

abbrev fields_by : Bool → ℕ → ℕ → ℕ → ℕ
fields_by granted tries many kept = cond granted tries (many + 65536 * kept)

abbrev answer_by : Bool → Bool → ℕ → ℕ → StepAnswer
answer_by granted claims tries many = cond granted (Granted tries) (cond claims (Claimed many) (Put many))

module _ (out half last : Bytes) (at many : ℕ) (inside : at + 8 ≤ length out) (small : many < 65536) (low : get_or out (at + 6) 0 < 256) (high : get_or out (at + 6 + 1) 0 < 256) where
  -- Six bytes, whatever their kind.
  short_told : (kind : ℕ) → half ≡ sets out at (bytes32 (4 + 65536 * kind)) → last ≡ sets half (at + 4) (bytes32 (many + 65536 * number16 out (at + 6)))
      → bytes32 (4 + 65536 * kind) ≡ bytes16 4 ++ bytes16 kind → last ≡ sets out at (frame_of kind (bytes16 many))
  short_told kind one two head =
      both_stored out half last at (4 + 65536 * kind) (many + 65536 * number16 out (at + 6)) one two
      ∙ (λ i. sets out at (head i ++ halves_read many (get_or out (at + 6) 0) (get_or out (at + 6 + 1) 0) small low high i))
      ∙ kept_stored out (frame_of kind (bytes16 many)) at (omega (arith, inside))

  pub told : (granted claims : Bool) (tries : ℕ)
      → half ≡ sets out at (bytes32 (head_by granted claims))
      → last ≡ sets half (at + 4) (bytes32 (fields_by granted tries many (number16 out (at + 6))))
      → ToldAt out at (answer_by granted claims tries many) (at + 2 + cond granted 6 4) last
  unfolding answer_frame
  told true claims tries one two =
      let long : at + 8 ≡ at + 2 + 6 = omega arith in
      subst (λ (place : ℕ). ToldAt out at (Granted tries) place last) long
      (stored_at out at (frame_of 134 (bytes32 tries)) last (omega (arith, inside)) (both_stored out half last at 8781830 tries one two))
  told false true tries one two =
      let long : at + 6 ≡ at + 2 + 4 = omega arith in
      subst (λ (place : ℕ). ToldAt out at (Claimed many) place last) long
      (stored_at out at (frame_of 129 (bytes16 many)) last (omega (arith, inside)) (short_told 129 one two refl))
  told false false tries one two =
      let long : at + 6 ≡ at + 2 + 4 = omega arith in
      subst (λ (place : ℕ). ToldAt out at (Put many) place last) long
      (stored_at out at (frame_of 132 (bytes16 many)) last (omega (arith, inside)) (short_told 132 one two refl))

-- As the code has it: how many is chosen first, and the two bytes behind are read.
pub told_by_lem : (out half last : Bytes) (at : ℕ) (granted claims : Bool) (after : Slot.Ticket) (kept many inner head fields long : ℕ)
    → at + 8 ≤ length out
    → ((k : ℕ) → get_or out k 0 < 256)
    → many < 65536
    → kept ≡ number16 out (at + 4 + 2)
    → many ≡ cond claims after.claimed after.done
    → inner ≡ cond claims 8454148 8650756
    → head ≡ cond granted 8781830 inner
    → fields ≡ cond granted after.tries (many + 65536 * kept)
    → half ≡ sets out at (bytes32 head)
    → last ≡ sets half (at + 4) (bytes32 fields)
    → long ≡ cond granted 6 4
    → ToldAt out at (cond granted (Granted after.tries) (cond claims (Claimed after.claimed) (Put after.done))) (at + 2 + long) last
told_by_lem out half last at granted claims after kept many inner head fields long inside bytes small reads chosen heads heads_all says one two counts =
    subst (λ (k : ℕ). ToldAt out at (cond granted (Granted after.tries) (cond claims (Claimed after.claimed) (Put after.done))) (at + 2 + k) last) (sym counts)
    (subst (λ answer. ToldAt out at (cond granted (Granted after.tries) answer) (at + 2 + cond granted 6 4) last) (either claims)
    (told out half last at (cond claims after.claimed after.done) inside (omega (arith, small, chosen)) (bytes (at + 6)) (bytes (at + 6 + 1)) granted claims after.tries
    (one ∙ ap (λ (h : ℕ). sets out at (bytes32 h)) (heads_all ∙ ap (cond granted 8781830) heads))
    (two ∙ ap (λ (f : ℕ). sets half (at + 4) (bytes32 f)) (says ∙ (λ i. cond granted after.tries (chosen i + 65536 * (reads ∙ ap (number16 out) there) i))))))
  where
    there : at + 4 + 2 ≡ at + 6
    there = omega arith

    either : (claims : Bool) → cond claims (Claimed (cond claims after.claimed after.done)) (Put (cond claims after.claimed after.done)) ≡ cond claims (Claimed after.claimed) (Put after.done)
    either true = refl
    either false = refl
