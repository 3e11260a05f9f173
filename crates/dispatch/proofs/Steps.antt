-- A step told by its first four bytes is the whole frame there, and no other frame is a step.
use Rattle.std.specs.Prelude.{Result, Ok, Err}
use Prim.Native.Nat.{ℕ, ◌+◌, ◌*◌, ◌-◌, ◌≤◌, ◌<◌}
use mathlib.Core.Path.{◌≡◌, refl, sym, ap, subst, ◌∙◌}
use mathlib.Core.Bool.{Bool, true, false, cond, not, false≢true}
use mathlib.Core.List.{[], ◌∷◌}
use native.Mathlib.Omega.{arith}
use native.Mathlib.Decide.{ℕ_discrete, dec_lt}
use borrow.Author.Tests.{eq-eqb, ne_eqb, lt-ltb, le-ltb, eqb-true, ltb-true, ltb-false, not-false}
use lib.Dec.{eqb, ltb}
use lib.ListN.{length, get_or, drop, length-take, length-drop}
use lib.Seq.{get_or-take, get_or-drop}
use Rattle.words.specs.Tests.{some_holds}
use Rattle.words.specs.Words.{team_count}
use Rattle.words.proofs.Tests.{join}
use Rattle.frames.specs.Numbers.{Bytes, number16, number32}
use Rattle.frames.specs.Requests.{head_bytes, length_field, kind_field, part_after_kind, step_kind, look_kind, length_fits, team_in}
use Rattle.frames.specs.Answers.{longest_answer}
use Rattle.frames.specs.Fields.{longest_frame, frame_torn, kind_unknown, length_wrong, header_of, Whole}
use Rattle.frames.proofs.Headers.{step_header, kind_tests}
use Rattle.calls.specs.Way.{Aim}
use Rattle.calls.specs.declared.Stop.{Stop}
use Rattle.calls.specs.declared.Stop.TheVariants.{MoreInput, OutputFull, BadLength}
use Rattle.calls.specs.Way.{aim_by, aim_of, AimKnown}
use Rattle.calls.specs.Survey.{longest_field}
use Rattle.calls.specs.Stream.{next_at, stopped_or}
use Rattle.calls.proofs.Streaming.{next_whole}
use Rattle.dispatch.specs.declared.Ahead.{Ahead}
use Rattle.dispatch.specs.Ahead.{step_bytes, step_head, step_at, frame_at, ahead_by, ahead_of, AheadInside}
use Rattle.dispatch.proofs.Aiming.{aim_team}

-- A field of the frame at a place is the field there of the input.
byte_there : (input : Bytes) (at size j : ℕ) → j < size → get_or (frame_at input at size) j 0 ≡ get_or input (at + j) 0
byte_there input at size j inside = get_or-take (at + size - at) (drop at input) j 0 (omega arith) ∙ get_or-drop at input j 0

pub field_there : (input : Bytes) (at size j : ℕ) → j + 1 < size → number16 (frame_at input at size) j ≡ number16 input (at + j)
field_there input at size j inside =
    let next : at + (j + 1) ≡ at + j + 1 = omega arith in
    λ i. byte_there input at size j (omega arith) i + 256 * (byte_there input at size (j + 1) inside ∙ ap (λ (k : ℕ). get_or input k 0) next) i

frame_long : (input : Bytes) (at size : ℕ) → at + size ≤ length input → length (frame_at input at size) ≡ size
frame_long input at size inside = simp (length-take, length-drop) (omega arith)

-- The team's field of a frame, and of the part after its kind.
team_there : (input : Bytes) (at size : ℕ) → 6 ≤ size → team_in (part_after_kind (frame_at input at size)) ≡ number16 input (at + head_bytes)
team_there input at size long =
    (λ i. get_or-drop head_bytes (frame_at input at size) 0 0 i + 256 * get_or-drop head_bytes (frame_at input at size) 1 0 i)
    ∙ field_there input at size head_bytes (omega arith)

-- What the two numbers say of a step.
pub record StepThere (input : Bytes) (at : ℕ) : Type 0 where
  pub inside : 6 ≤ length input - at
  pub long : number16 input at ≡ 4
  pub kind : number16 input (at + 2) ≡ 5
  pub team : number16 input (at + head_bytes) < team_count

module _ (input : Bytes) (at : ℕ) (there : StepThere input at) where
  abbrev step_there : Bytes
  step_there = frame_at input at step_bytes

  within : at + 6 ≤ length input
  within = omega (arith, there.inside)

  is_step_lem : (Ok step_kind ≡ header_of step_there) × Whole step_there step_kind
  is_step_lem =
      step_header step_there (join (eqb (length step_there) 6 ∷ eqb (length_field step_there) 4 ∷ eqb (kind_field step_there) 5 ∷ [])
      (eq-eqb _ _ (frame_long input at step_bytes within), (eq-eqb _ _ length_is, (eq-eqb _ _ (field_there input at step_bytes 2 (omega arith) ∙ there.kind), tt))))
    where
      length_is : length_field step_there ≡ 4
      length_is = field_there input at step_bytes 0 (omega arith) ∙ ap (number16 input) (omega arith) ∙ there.long

  pub step_found : next_at input at ≡ Ok step_bytes
  step_found =
      let inside = there.inside in
      let long = there.long in
      sym (next_whole input at (omega arith) (omega (arith, long)) (omega (arith, long))) ∙ ap (λ (n : ℕ). Ok (2 + n)) long

  pub step_aimed : aim_of step_there ≡ Ok (Aim.Team step_kind (number16 input (at + head_bytes)))
  unfolding aim_of
  step_aimed =
      let team = team_there input at step_bytes (omega arith) in
      ap (aim_by step_there) (sym is_step_lem.0)
      ∙ sym (aim_team step_there step_kind (λ e. omega (arith, e)) (subst (λ (t : ℕ). t < team_count) (sym team) there.team))
      ∙ ap (λ (t : ℕ). Ok (Aim.Team step_kind t)) team

  pub step_known : AimKnown step_there (Ok (Aim.Team step_kind (number16 input (at + head_bytes))))
  step_known = (is_step_lem.1, (λ e. omega (arith, e)), there.team)

  pub step_ahead : (room : ℕ) → longest_answer ≤ room → (Ok (Ahead.Step (number16 input (at + head_bytes))) ≡ ahead_of input at room) × AheadInside input at room (Ok (Ahead.Step (number16 input (at + head_bytes))))
  unfolding ahead_of
  step_ahead room enough = (
    sym
        (ap (λ n. stopped_or n Err (λ size. cond (ltb room longest_answer) (Err OutputFull) (ahead_by (aim_of (frame_at input at size)) size))) step_found
        ∙ ap (λ b. cond b (Err OutputFull) (ahead_by (aim_of step_there) step_bytes)) (le-ltb room longest_answer enough)
        ∙ ap (λ a. ahead_by a step_bytes) step_aimed),
    (record { found = step_found; least = omega arith; inside = within; answerable = enough }, step_aimed, step_known),
  )

-- Without room for an answer nothing is answered, whatever frame is there.
pub full_ahead : (input : Bytes) (at room size : ℕ) → next_at input at ≡ Ok size → room < longest_answer → Err OutputFull ≡ ahead_of input at room
unfolding ahead_of
full_ahead input at room size found short =
    sym
    (ap (λ n. stopped_or n Err (λ size. cond (ltb room longest_answer) (Err OutputFull) (ahead_by (aim_of (frame_at input at size)) size))) found
    ∙ ap (λ b. cond b (Err OutputFull) (ahead_by (aim_of (frame_at input at size)) size)) (lt-ltb room longest_answer short))

-- Nor where there is none.
pub end_ahead : (input : Bytes) (at room : ℕ) (stop : Stop) → next_at input at ≡ Err stop → Err stop ≡ ahead_of input at room
unfolding ahead_of
end_ahead input at room stop found =
    sym (ap (λ n. stopped_or n Err (λ size. cond (ltb room longest_answer) (Err OutputFull) (ahead_by (aim_of (frame_at input at size)) size))) found)

-- The tests one after another.
module _ (input : Bytes) (at : ℕ) where
  abbrev rest : Bool → Bool → Bool
  rest short head = cond short false (cond head (ltb (number16 input (at + head_bytes)) team_count) false)

  pub step_short : length input - at < step_bytes → false ≡ step_at input at
  step_short short = sym (ap (λ b. rest b (eqb (number32 input at) step_head)) (lt-ltb _ _ short))

  pub step_other : step_bytes ≤ length input - at → (number : ℕ) → number ≡ number32 input at → (number ≡ step_head → ⊥) → false ≡ step_at input at
  step_other long number is other =
      sym (ap (λ b. rest b (eqb (number32 input at) step_head)) (le-ltb _ _ long) ∙ ap (rest false) (ne_eqb (number32 input at) step_head (λ e. other (is ∙ e))))

  pub step_team : step_bytes ≤ length input - at → (number : ℕ) → number ≡ number32 input at → number ≡ step_head → (team : ℕ) → team ≡ number16 input (at + head_bytes) → ltb team team_count ≡ step_at input at
  step_team long number is head team there =
      ap (λ (t : ℕ). ltb t team_count) there
      ∙ sym (ap (λ b. rest b (eqb (number32 input at) step_head)) (le-ltb _ _ long) ∙ ap (rest false) (eq-eqb (number32 input at) step_head (sym is ∙ head)))

-- The test of the first four bytes, where each is a byte.
pub step_there_lem : (input : Bytes) (at : ℕ) → number16 input at < 65536 → step_at input at ≡ true → StepThere input at
step_there_lem input at low told = go (ltb (length input - at) step_bytes) (eqb (number32 input at) step_head) (ltb (number16 input (at + head_bytes)) team_count) refl refl refl told
  where
    go : (short head team : Bool) → ltb (length input - at) step_bytes ≡ short → eqb (number32 input at) step_head ≡ head → ltb (number16 input (at + head_bytes)) team_count ≡ team → cond short false (cond head team false) ≡ true → StepThere input at
    go true head team s h t told = absurd (false≢true told)
    go false false team s h t told = absurd (false≢true told)
    go false true false s h t told = absurd (false≢true told)
    go false true true s h t told =
        let number : number32 input at ≡ 327684 = eqb-true _ _ h in
        record {
          inside = long_enough;
          long = omega (arith, number, low);
          kind = omega (arith, number, low);
          team = ltb-true _ _ t;
        }
      where
        long_enough : 6 ≤ length input - at
        long_enough = elim (dec_lt (length input - at) step_bytes) [
          | yes less ↦ absurd (false≢true (sym s ∙ lt-ltb _ _ less))
          | no more ↦ omega (arith, more)
        ]

-- The size of a frame is what its length field says.
next_size : (input : Bytes) (at size : ℕ) → next_at input at ≡ Ok size → size ≡ 2 + number16 input at
unfolding next_at
next_size input at size found = go (ltb (length input - at) 2) (ltb longest_field (number16 input at)) (ltb (length input - at) (2 + number16 input at)) found
  where
    go : (short bad torn : Bool) → cond short (Err MoreInput) (cond bad (Err BadLength) (cond torn (Err MoreInput) (Ok (2 + number16 input at)))) ≡ Ok size → size ≡ 2 + number16 input at
    go true bad torn e = cc
    go false true torn e = cc
    go false false true e = cc
    go false false false e = sym (ap (λ n. stopped_or n (λ stop. 0) (λ k. k)) e)

-- A frame that is aimed at a team has a known kind, and the team is its first field.
team_aimed : (frame : Bytes) (kind team : ℕ) → aim_of frame ≡ Ok (Aim.Team kind team) → (header_of frame ≡ Ok kind) × (team_in (part_after_kind frame) < team_count)
unfolding aim_of
team_aimed frame kind team aimed = go (header_of frame) refl aimed
  where
    is_team : Result Aim ℕ → Bool
    is_team (Err number) = false
    is_team (Ok Aim.Look) = false
    is_team (Ok (Aim.Team k t)) = true

    no_team : {aim : Result Aim ℕ} → aim ≡ Ok (Aim.Team kind team) → is_team aim ≡ true
    no_team e = ap is_team e

    go : (header : Result ℕ ℕ) → header_of frame ≡ header → aim_by frame header ≡ Ok (Aim.Team kind team) → (header_of frame ≡ Ok kind) × (team_in (part_after_kind frame) < team_count)
    go (Err number) is e = absurd (false≢true (no_team e))
    go (Ok k) is e = by (eqb k look_kind) (ltb (team_in (part_after_kind frame)) team_count) refl e
      where
        kind_of : Result Aim ℕ → ℕ
        kind_of (Err number) = 0
        kind_of (Ok Aim.Look) = 0
        kind_of (Ok (Aim.Team k t)) = k

        by : (look known : Bool) → ltb (team_in (part_after_kind frame)) team_count ≡ known → cond {A = Result Aim ℕ} look (Ok Aim.Look) (cond known (Ok (Aim.Team k (team_in (part_after_kind frame)))) (Err 6)) ≡ Ok (Aim.Team kind team) → (header_of frame ≡ Ok kind) × (team_in (part_after_kind frame) < team_count)
        by true known l e = absurd (false≢true (no_team e))
        by false false l e = absurd (false≢true (no_team e))
        by false true l e = (is ∙ ap Ok (ap kind_of e), ltb-true _ _ l)

-- So it is a step by its first four bytes, if its kind is a step's.
step_told : (input : Bytes) (at size team : ℕ) → next_at input at ≡ Ok size → at + size ≤ length input → aim_of (frame_at input at size) ≡ Ok (Aim.Team step_kind team) → step_at input at ≡ true
unfolding some_holds length_fits
step_told input at size team found inside aimed =
    ap (λ b. cond b false (cond (eqb (number32 input at) step_head) (ltb (number16 input (at + head_bytes)) team_count) false)) (le-ltb (length input - at) step_bytes (omega (arith, six, inside)))
    ∙ ap (λ b. cond b (ltb (number16 input (at + head_bytes)) team_count) false) (eq-eqb (number32 input at) step_head (omega (arith, four, five)))
    ∙ lt-ltb (number16 input (at + head_bytes)) team_count (subst (λ (t : ℕ). t < team_count) (team_there input at size (omega (arith, six))) (team_aimed cut step_kind team aimed).1)
  where
    cut : Bytes
    cut = frame_at input at size

    tests : (frame_torn cut ≡ false) × (kind_unknown cut ≡ false) × (length_wrong cut ≡ false) × (kind_field cut ≡ step_kind)
    tests = kind_tests cut step_kind (team_aimed cut step_kind team aimed).0

    long : length cut ≡ size
    long = frame_long input at size inside

    head : 4 ≤ size
    head = go (ltb (length cut) head_bytes) refl tests.0
      where
        go : (short : Bool) → ltb (length cut) head_bytes ≡ short → some_holds (short ∷ ltb longest_frame (length cut) ∷ not (eqb (length_field cut + 2) (length cut)) ∷ []) ≡ false → 4 ≤ size
        go true is torn = absurd (false≢true (sym torn))
        go false is torn = let enough : head_bytes ≤ length cut = ltb-false _ _ is in omega (arith, long, enough)

    field : length_field cut ≡ number16 input at
    field = field_there input at size 0 (omega (arith, head)) ∙ ap (number16 input) (omega arith)

    fits : length_fits step_kind (length_field cut) ≡ true
    fits = ap (λ (k : ℕ). length_fits k (length_field cut)) (sym tests.3) ∙ not-false _ tests.2

    four : number16 input at ≡ 4
    four = sym field ∙ eqb-true (length_field cut) 4 fits

    five : number16 input (at + 2) ≡ 5
    five = sym (field_there input at size 2 (omega (arith, head))) ∙ tests.3

    six : size ≡ 6
    six = next_size input at size found ∙ ap (λ (n : ℕ). 2 + n) four

-- Any other whole frame is answered as such.
pub other_ahead : (input : Bytes) (at room size : ℕ) → step_at input at ≡ false → next_at input at ≡ Ok size → 2 ≤ size → at + size ≤ length input → longest_answer ≤ room
    → (Ok (Ahead.Other size) ≡ ahead_of input at room) × AheadInside input at room (Ok (Ahead.Other size))
unfolding ahead_of
other_ahead input at room size untold found least inside enough = (
  sym
      (ap (λ n. stopped_or n Err (λ size. cond (ltb room longest_answer) (Err OutputFull) (ahead_by (aim_of (frame_at input at size)) size))) found
      ∙ ap (λ b. cond b (Err OutputFull) (ahead_by (aim_of (frame_at input at size)) size)) (le-ltb room longest_answer enough)
      ∙ by (aim_of (frame_at input at size)) refl),
  record { found = found; least = least; inside = inside; answerable = enough },
)
  where
    by : (aim : Result Aim ℕ) → aim_of (frame_at input at size) ≡ aim → ahead_by aim size ≡ Ok (Ahead.Other size)
    by (Err number) is = refl
    by (Ok Aim.Look) is = refl
    by (Ok (Aim.Team kind team)) is = elim (ℕ_discrete kind step_kind) [
      | yes step ↦ absurd (false≢true (sym untold ∙ step_told input at size team found inside (is ∙ ap (λ (k : ℕ). Ok (Aim.Team k team)) step)))
      | no other ↦ ap (λ b. cond b (Ok (Ahead.Step team)) (Ok (Ahead.Other size))) (ne_eqb kind step_kind other)
    ]
