-- Each pair of passages that meet is listed once, and the pairs rise.
use Prim.Native.Nat.{ℕ, zero, suc, ◌+◌, ◌≤◌, ◌<◌}
use mathlib.Core.Path.{◌≡◌, refl, sym, ap, ◌∙◌}
use mathlib.Core.List.{List, [], ◌∷◌, ◌++◌, map}
use mathlib.Core.Bool.{Bool, true, false, cond, false≢true}
use mathlib.Core.Logic.{◌≢◌}
use native.Mathlib.Omega.{arith}
use native.Mathlib.Decide.{ℕ_discrete, dec_lt}
use lib.Dec.{eqb, ltb}
use lib.ListN.{get_or}
use borrow.Author.Tests.{eq-eqb, ne_eqb, lt-ltb, le-ltb}
use Rattle.words.specs.Tests.{all_hold, occurs}
use Rattle.plain.specs.Plain.{Plain, list_of}
use Rattle.meeting.specs.Meeting.{any_meets, passages_from, passages_at, Pair, pair, pairs_of}
use Rattle.meeting.specs.Statements.{times_paired, EachPairOnce}

-- Numbers that rise, from one on.
abbrev pub RiseFrom : ℕ → List ℕ → Type 0
RiseFrom least [] = Unit {0}
RiseFrom least (number ∷ later) = (least ≤ number) × RiseFrom (number + 1) later

rise_less : (least lower : ℕ) (numbers : List ℕ) → lower ≤ least → RiseFrom least numbers → RiseFrom lower numbers
rise_less least lower [] h rises = tt
rise_less least lower (number ∷ later) h rises = (omega (arith, rises.0), rises.1)

-- A number below them is not among them.
not_below : (least : ℕ) (numbers : List ℕ) (number : ℕ) → RiseFrom least numbers → number < least → occurs number numbers ≡ false
not_below least [] number rises below = refl
not_below least (first ∷ later) number rises below =
    rw (ne_eqb number first (λ e. omega (arith, rises.0, e))) (not_below (first + 1) later number rises.1 (omega (arith, rises.0)))

-- and one among them is not below them.
among : (least : ℕ) (numbers : List ℕ) (number : ℕ) → RiseFrom least numbers → occurs number numbers ≡ true → least ≤ number
among least numbers number rises there = elim (dec_lt number least) [
  | yes below ↦ absurd (false≢true (sym (not_below least numbers number rises below) ∙ there))
  | no above ↦ omega arith
]

times_append : (lower higher : ℕ) (a b : List Pair) → times_paired lower higher (a ++ b) ≡ times_paired lower higher a + times_paired lower higher b
times_append lower higher [] b = omega arith
times_append lower higher (two ∷ a) b = omega (arith, times_append lower higher a b)

-- The pairs of one passage with those after it.
times_with : (lower higher first least : ℕ) (later : List ℕ) → RiseFrom least later
    → times_paired lower higher (map (pair first) later) ≡ cond (eqb lower first) (cond (occurs higher later) 1 0) 0
unfolding all_hold
times_with lower higher first least [] rises = by (eqb lower first)
  where
    by : (b : Bool) → ◌≡◌ {A = ℕ} 0 (cond b 0 0)
    by true = refl
    by false = refl
times_with lower higher first least (next ∷ later) rises =
    by (eqb lower first) (times_with lower higher first (next + 1) later rises.1) (ℕ_discrete higher next)
  where
    by : (b : Bool) → times_paired lower higher (map (pair first) later) ≡ cond b (cond (occurs higher later) 1 0) 0 → Dec (higher ≡ next)
        → cond (cond b (cond (eqb higher next) true false) false) 1 0 + times_paired lower higher (map (pair first) later) ≡ cond b (cond (cond (eqb higher next) true (occurs higher later)) 1 0) 0
    by true rest (yes same) = rw (eq-eqb higher next same) (omega (arith, rest, ap {B = ℕ} (λ (b : Bool). cond b 1 0) (not_below (next + 1) later higher rises.1 (omega (arith, same)))))
    by true rest (no apart) = rw (ne_eqb higher next apart) (omega (arith, rest))
    by false rest d = omega (arith, rest)

-- Of passages that rise, each pair comes once.
once_paired : (lower higher least : ℕ) (numbers : List ℕ) → RiseFrom least numbers
    → times_paired lower higher (pairs_of numbers) ≡ cond (all_hold (ltb lower higher ∷ occurs lower numbers ∷ occurs higher numbers ∷ [])) 1 0
unfolding pairs_of all_hold
once_paired lower higher least [] rises = by (ltb lower higher)
  where
    by : (b : Bool) → ◌≡◌ {A = ℕ} 0 (cond (cond b false false) 1 0)
    by true = refl
    by false = refl
once_paired lower higher least (first ∷ later) rises =
    times_append lower higher (map (pair first) later) (pairs_of later)
    ∙ by (ℕ_discrete lower first) (ℕ_discrete higher first) (times_with lower higher first (first + 1) later rises.1) (once_paired lower higher (first + 1) later rises.1)
  where
    none_of : (b : Bool) → ◌≡◌ {A = ℕ} (cond (cond b false false) 1 0) 0
    none_of true = refl
    none_of false = refl

    -- Lower is the first.
    first_lower : lower ≡ first → higher ≢ first → (oh : Bool) → occurs higher later ≡ oh
        → ◌≡◌ {A = ℕ} (cond oh 1 0 + cond (cond (ltb lower higher) (cond (occurs lower later) (cond oh true false) false) false) 1 0) (cond (cond (ltb lower higher) (cond oh true false) false) 1 0)
    first_lower l h true e =
        rw (lt-ltb lower higher (omega (arith, among (first + 1) later higher rises.1 e, l)), not_below (first + 1) later lower rises.1 (omega (arith, l)))
    first_lower l h false e = rw (not_below (first + 1) later lower rises.1 (omega (arith, l)), none_of (ltb lower higher))

    -- Higher is the first.
    first_higher : higher ≡ first → (ol : Bool) → occurs lower later ≡ ol → ◌≡◌ {A = ℕ} (cond (cond (ltb lower higher) (cond ol false false) false) 1 0) (cond (cond (ltb lower higher) (cond ol true false) false) 1 0)
    first_higher h true e = rw (le-ltb lower higher (omega (arith, among (first + 1) later lower rises.1 e, h)))
    first_higher h false e = refl

    by : Dec (lower ≡ first) → Dec (higher ≡ first)
        → times_paired lower higher (map (pair first) later) ≡ cond (eqb lower first) (cond (occurs higher later) 1 0) 0
        → times_paired lower higher (pairs_of later) ≡ cond (cond (ltb lower higher) (cond (occurs lower later) (cond (occurs higher later) true false) false) false) 1 0
        → times_paired lower higher (map (pair first) later) + times_paired lower higher (pairs_of later)
        ≡ cond (cond (ltb lower higher) (cond (cond (eqb lower first) true (occurs lower later)) (cond (cond (eqb higher first) true (occurs higher later)) true false) false) false) 1 0
    by (yes l) (yes h) with_it rest =
        let apart = not_below (first + 1) later higher rises.1 (omega (arith, h)) in
        rw (le-ltb lower higher (omega (arith, l, h))) (omega (arith, rw (eq-eqb lower first l, apart) at with_it, rw (le-ltb lower higher (omega (arith, l, h))) at rest))
    by (yes l) (no h) with_it rest =
        rw (eq-eqb lower first l, ne_eqb higher first h) (omega (arith, rw (eq-eqb lower first l) at with_it, rest, first_lower l h (occurs higher later) refl))
    by (no l) (yes h) with_it rest =
        let apart = not_below (first + 1) later higher rises.1 (omega (arith, h)) in
        rw (ne_eqb lower first l, eq-eqb higher first h) (omega (arith, rw (ne_eqb lower first l) at with_it, rw apart at rest, first_higher h (occurs lower later) refl))
    by (no l) (no h) with_it rest = rw (ne_eqb lower first l, ne_eqb higher first h) (omega (arith, rw (ne_eqb lower first l) at with_it, rest))

-- The passages that have a leg there rise, and are those that have one.
pub passages_rise : (station p : ℕ) (lists : Plain) → RiseFrom p (passages_from station p lists)
unfolding passages_from
passages_rise station p [] = tt
passages_rise station p (legs ∷ lists) = by (any_meets station legs) (passages_rise station (p + 1) lists)
  where
    by : (b : Bool) → RiseFrom (p + 1) (passages_from station (p + 1) lists) → RiseFrom p (cond b (p ∷ passages_from station (p + 1) lists) (passages_from station (p + 1) lists))
    by true rest = (omega arith, rest)
    by false rest = rise_less (p + 1) p (passages_from station (p + 1) lists) (omega arith) rest

passage_there : (station p : ℕ) (lists : Plain) (k : ℕ) → occurs (p + k) (passages_from station p lists) ≡ any_meets station (get_or lists k [])
unfolding passages_from
passage_there station p [] k = refl
passage_there station p (legs ∷ lists) zero = by (any_meets station legs)
  where
    by : (b : Bool) → occurs (p + 0) (cond b (p ∷ passages_from station (p + 1) lists) (passages_from station (p + 1) lists)) ≡ b
    by true = rw (eq-eqb (p + 0) p (omega arith))
    by false = not_below (p + 1) (passages_from station (p + 1) lists) (p + 0) (passages_rise station (p + 1) lists) (omega arith)
passage_there station p (legs ∷ lists) (suc k) = by (any_meets station legs) (passage_there station (p + 1) lists k)
  where
    here : p + 1 + k ≡ p + suc k
    here = omega arith

    by : (b : Bool) → occurs (p + 1 + k) (passages_from station (p + 1) lists) ≡ any_meets station (get_or lists k [])
        → occurs (p + suc k) (cond b (p ∷ passages_from station (p + 1) lists) (passages_from station (p + 1) lists)) ≡ any_meets station (get_or lists k [])
    by true rest = rw (ne_eqb (p + suc k) p (λ e. omega (arith, e))) (ap (λ (n : ℕ). occurs n (passages_from station (p + 1) lists)) (sym here) ∙ rest)
    by false rest = ap (λ (n : ℕ). occurs n (passages_from station (p + 1) lists)) (sym here) ∙ rest

pub each_pair_once : EachPairOnce
each_pair_once station plain lower higher =
    let there : (p : ℕ) → occurs p (passages_at station plain) ≡ any_meets station (list_of plain p) = λ p.
    let here : 0 + p ≡ p = omega arith in ap (λ (n : ℕ). occurs n (passages_at station plain)) (sym here) ∙ passage_there station 0 plain p in
    once_paired lower higher 0 (passages_at station plain) (passages_rise station 0 plain)
    ∙ (λ i. cond (all_hold (ltb lower higher ∷ there lower i ∷ there higher i ∷ [])) 1 0)
