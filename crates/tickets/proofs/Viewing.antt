-- The ticket that a view's slot says, step by step: a value noted for a target, one more word claimed, one more given back.
use Prim.Native.Nat.{ℕ, zero, suc, ◌+◌, ◌-◌, ◌≤◌, ◌<◌, min}
use mathlib.Core.Path.{◌≡◌, refl, sym, ap, ◌∙◌}
use mathlib.Core.Bool.{Bool, true, false, cond}
use mathlib.Core.List.{List, ◌∷◌, ◌++◌}
use native.Mathlib.Omega.{arith}
use native.Mathlib.Nat.{le_of_suc-le-suc, not-suc-le-zero}
use native.Mathlib.Decide.{ℕ_discrete}
use borrow.Author.Tests.{eq-eqb, ne_eqb, lt-ltb, le-ltb}
use lib.ListN.{length, set, replicate, length-set}
use lib.Seq.{get_or-set_same, get_or-set_other, set-append_left}
use lib.Dec.{eqb, ltb}
use Rattle.words.specs.Words.{most_targets}
use Rattle.tickets.specs.declared.Target.{Target}
use Rattle.tickets.specs.declared.Phase.{Phase}
use Rattle.tickets.specs.declared.Phase.TheVariants.{Viewing, Viewed}
use Rattle.tickets.specs.declared.Kind.TheVariants.{View}
use Rattle.tickets.specs.declared.StepAnswer.TheVariants as Answer
use Rattle.tickets.specs.declared.Ticket as Slot
use Rattle.tickets.specs.Tickets.{Ticket, no_ticket, target, padded}
use Rattle.tickets.specs.Steps.{advanced, stepped, noting, values_seen, view_claimed, view_given_back}
use Rattle.tickets.specs.Table.{no_target, target_standing, noted_at, word_in, quoted_in, new_in, column, claims_in, phase_by, done_with_one, tried_slot, standing, gathered}
use Rattle.tickets.proofs.Gathering.{gathered_stands, gathered_gone, gathered_tried}
use Rattle.tickets.proofs.Tables.{column_same, length_column}

-- A target stored changes the number at its own place, and none of the others.
column_stored : (number : Target → ℕ) (targets : List Target) (first many k : ℕ) (one : Target) → k < many → first + k < length targets → column number (set targets (first + k) one) first many ≡ set (column number targets first many) k (number one)
unfolding column
column_stored number targets first zero k one below inside = absurd (not-suc-le-zero below)
column_stored number targets first (suc many) zero one below inside = λ i. here i ∷ later i
  where
    start : first + 0 ≡ first
    start = omega arith

    here : number (target_standing (set targets (first + 0) one) first) ≡ number one
    here = ap (λ (p : ℕ). number (target_standing (set targets p one) first)) start ∙ ap number (get_or-set_same targets first one no_target (omega (arith, inside)))

    later : column number (set targets (first + 0) one) (first + 1) many ≡ column number targets (first + 1) many
    later = column_same number targets (set targets (first + 0) one) (first + 1) many (λ j under. ap number (get_or-set_other targets (first + 0) (first + 1 + j) one no_target (λ e. omega (arith, e))))
column_stored number targets first (suc many) (suc k) one below inside =
    let there : first + suc k ≡ first + 1 + k = omega arith in
    let later = ap (λ (p : ℕ). column number (set targets p one) (first + 1) many) there ∙ column_stored number targets (first + 1) many k one (le_of_suc-le-suc below) (omega (arith, inside)) in
    λ i. number (get_or-set_other targets (first + suc k) first one no_target (λ e. omega (arith, e)) i) ∷ later i

-- A number stored where it stands already changes nothing.
column_kept : (number : Target → ℕ) (targets : List Target) (many k : ℕ) (one : Target) → k < length targets → number one ≡ number (target_standing targets k) → column number (set targets k one) 0 many ≡ column number targets 0 many
column_kept number targets many k one inside same = column_same number targets (set targets k one) 0 many (λ j under. each j (ℕ_discrete (0 + j) k))
  where
    each : (j : ℕ) → Dec (0 + j ≡ k) → number (target_standing (set targets k one) (0 + j)) ≡ number (target_standing targets (0 + j))
    each j (yes here) = ap (λ (p : ℕ). number (target_standing (set targets k one) p)) here ∙ ap number (get_or-set_same targets k one no_target inside) ∙ same ∙ ap (λ (p : ℕ). number (target_standing targets p)) (sym here)
    each j (no other) = ap number (get_or-set_other targets k (0 + j) one no_target other)

padded_noted : (numbers : List ℕ) (k value : ℕ) → k < length numbers → padded (set numbers k value) ≡ set (padded numbers) k value
padded_noted numbers k value below =
    ap (λ (n : ℕ). set numbers k value ++ replicate (most_targets - n) 0) (length-set numbers k value)
    ∙ sym (set-append_left numbers (replicate (most_targets - length numbers) 0) k value below)

module _ (targets : List Target) (slot : Slot.Ticket) (found : ℕ) (more : slot.claimed < slot.n) (most : slot.n ≤ most_targets) (inside : slot.claimed < length targets) where
  abbrev noted : List Target
  noted = noted_at targets slot.claimed found

  abbrev many : ℕ
  many = min slot.n most_targets

  -- Neither a word nor a name is changed, and the value found is quoted for the next target.
  quoted_noted : column quoted_in noted 0 many ≡ set (column quoted_in targets 0 many) slot.claimed found
  quoted_noted =
      let there : slot.claimed ≡ 0 + slot.claimed = omega arith in
      ap (λ (p : ℕ). column quoted_in (set targets p (target (target_standing targets slot.claimed).word found (target_standing targets slot.claimed).new)) 0 many) there
      ∙ column_stored quoted_in targets 0 many slot.claimed _ (omega (arith, more, most)) (omega (arith, inside))

  pub standing_noted : standing (noted_at targets slot.claimed found) slot ≡ noting (standing targets slot) found
  standing_noted = λ i. record {
    words = padded (column_kept word_in targets many slot.claimed (target (target_standing targets slot.claimed).word found (target_standing targets slot.claimed).new) inside refl i);
    quoted = (ap padded quoted_noted ∙ padded_noted (column quoted_in targets 0 many) slot.claimed found (omega (arith, more, most, length_column quoted_in targets 0 many))) i;
    new = padded (column_kept new_in targets many slot.claimed (target (target_standing targets slot.claimed).word found (target_standing targets slot.claimed).new) inside refl i);
    n = slot.n;
    tries = slot.tries;
    claimed = slot.claimed;
    done = slot.done;
    phase = (standing targets slot).phase;
  }

  -- One more word claimed by a view, its value noted.
  pub gathered_viewed : slot.kind ≡ View → slot.done ≡ 0 → gathered (noted_at targets slot.claimed found) (tried_slot slot slot.kind (slot.claimed + 1) slot.done) ≡ (view_claimed (gathered targets slot) found).ticket
  gathered_viewed view none =
      gathered_tried noted slot slot.kind (slot.claimed + 1) slot.done (omega (arith, none, more))
      ∙ ap (λ t. advanced t after (slot.claimed + 1) slot.done) standing_noted
      ∙ settles (ℕ_discrete (slot.claimed + 1) slot.n)
      ∙ sym (ap (λ t. (view_claimed t found).ticket) (gathered_stands targets slot (omega (arith, none, more))))
    where
      after : Phase
      after = phase_by slot.kind (claims_in (tried_slot slot slot.kind (slot.claimed + 1) slot.done))

      after_is : (claims : Bool) → ltb (slot.claimed + 1) slot.n ≡ claims → after ≡ cond claims Viewing Viewed
      after_is claims is =
          ap (λ k. phase_by k (cond (eqb slot.done 0) (ltb (slot.claimed + 1) slot.n) false)) view
          ∙ ap (λ b. cond (cond b (ltb (slot.claimed + 1) slot.n) false) Viewing Viewed) (eq-eqb slot.done 0 none)
          ∙ ap (λ b. cond b Viewing Viewed) is

      now : Phase → ℕ → Ticket
      now phase done = advanced (noting (standing targets slot) found) phase (slot.claimed + 1) done

      either : Bool → Ticket
      either all = cond all (now Viewed 0) (now Viewing slot.done)

      settles : Dec (slot.claimed + 1 ≡ slot.n) → now after slot.done ≡ either (eqb (slot.claimed + 1) slot.n)
      settles (yes all) =
          ap (λ p. now p slot.done) (after_is false (le-ltb (slot.claimed + 1) slot.n (omega (arith, all))))
          ∙ ap (now Viewed) none
          ∙ sym (ap either (eq-eqb _ _ all))
      settles (no some) =
          ap (λ p. now p slot.done) (after_is true (lt-ltb (slot.claimed + 1) slot.n (omega (arith, some, more))))
          ∙ sym (ap either (ne_eqb _ _ some))

-- One more word given back by a view.
pub gathered_seen : (targets : List Target) (slot : Slot.Ticket) → slot.kind ≡ View → slot.done < slot.claimed → slot.claimed ≤ slot.n → gathered targets (tried_slot slot slot.kind slot.claimed (done_with_one slot)) ≡ (view_given_back (gathered targets slot)).ticket
gathered_seen targets slot view below most =
    settles (ℕ_discrete (slot.done + 1) slot.claimed)
    ∙ sym (ap (λ t. (view_given_back t).ticket) (gathered_stands targets slot (omega (arith, below, most))))
  where
    after : ℕ → Slot.Ticket
    after done = tried_slot slot slot.kind slot.claimed done

    now : Phase → Ticket
    now phase = advanced (standing targets slot) phase slot.claimed (slot.done + 1)

    either : Bool → Ticket
    either all = (cond all (stepped no_ticket (Answer.Seen (values_seen (standing targets slot)))) (stepped (now Viewed) (Answer.Returned (slot.done + 1)))).ticket

    counted : Bool → ℕ
    counted all = cond all slot.n (slot.done + 1)

    phase_after : phase_by slot.kind (claims_in (after (slot.done + 1))) ≡ Viewed
    phase_after =
        ap (λ k. phase_by k (claims_in (after (slot.done + 1)))) view
        ∙ ap (λ b. cond (cond b (ltb slot.claimed slot.n) false) Viewing Viewed) (ne_eqb (slot.done + 1) 0 (λ e. omega (arith, e)))

    settles : Dec (slot.done + 1 ≡ slot.claimed) → gathered targets (after (done_with_one slot)) ≡ either (eqb (slot.done + 1) slot.claimed)
    settles (yes all) =
        ap (λ b. gathered targets (after (counted b))) (eq-eqb _ _ all)
        ∙ gathered_gone targets (after slot.n) (omega arith)
        ∙ sym (ap either (eq-eqb _ _ all))
    settles (no some) =
        ap (λ b. gathered targets (after (counted b))) (ne_eqb _ _ some)
        ∙ gathered_tried targets slot slot.kind slot.claimed (slot.done + 1) (omega (arith, some, below, most))
        ∙ ap now phase_after
        ∙ sym (ap either (ne_eqb _ _ some))
