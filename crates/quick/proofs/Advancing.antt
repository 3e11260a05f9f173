-- The fast way is the step: what a swap tried says, the ticket advanced and the answer told; and a claim that missed.
use Prim.Native.Nat.{ℕ, ◌+◌, ◌^◌, ◌≤◌, ◌<◌}
use mathlib.Core.Path.{◌≡◌, refl, sym, ap, subst, ◌∙◌}
use mathlib.Core.Bool.{Bool, true, false, cond, false≢true}
use mathlib.Core.List.{List}
use mathlib.Core.Logic.{◌⊎◌, inl, inr}
use native.Mathlib.Omega.{arith}
use native.Mathlib.Decide.{dec_lt}
use borrow.Author.Tests.{eqb-true, eqb-false, leb-true, ltb-true, ltb-false, eq-eqb, ne_eqb, le-leb, lt-leb}
use lib.Dec.{eqb, leb}
use Rattle.words.specs.Words.{Words, is_held, mark_of, swap_of}
use Rattle.tickets.specs.declared.Kind.{Kind}
use Rattle.tickets.specs.declared.Kind.TheVariants.{Edit, Stale, View}
use Rattle.tickets.specs.declared.Phase.{Phase}
use Rattle.tickets.specs.declared.Phase.TheVariants.{Claiming, Putting}
use Rattle.tickets.specs.declared.StepAnswer.TheVariants as Answer
use Rattle.tickets.specs.declared.SwapTried.{SwapTried}
use Rattle.tickets.specs.declared.Target.{Target}
use Rattle.tickets.specs.declared.Ticket as Slot
use Rattle.tickets.specs.Tickets.{Ticket, no_ticket, target_at}
use Rattle.tickets.specs.Steps.{Stepped, stepped, one_more_try, advanced, claimed, put, swap_tried, settled, settled_in, step_of}
use Rattle.tickets.specs.Table.{phase_of, standing, gathered}
use Rattle.tickets.proofs.Gathering.{gathered_claimed, gathered_put}
use Rattle.tickets.proofs.Settled.{settled_claimed, settled_in_lem}
use Rattle.replies.specs.Leaving.{LeftBy}
use Rattle.replies.proofs.Standing.{is_standing, standing_phase, target_fits_there, target_read}
use Rattle.claiming.specs.Missing.{missed_by, MissLeft}
use Rattle.quick.specs.declared.Tried.{Tried}
use Rattle.quick.specs.declared.Tried.TheVariants.{Went, Missed, Untried}
use Rattle.quick.specs.Quick.{Quick, is_plain, quick_if, quick_swaps, claims_quick, tried, quick_made, quick_tried, advanced_by, AdvancesBy, told_answer, QuickByCount, QuickKept, TriedSays, QuickSays, QuickIsStep, QuickMissed}
use Rattle.quick.proofs.Swapping.{claims_plain, phase_quick, next_below, swap_by_lem}
use Rattle.quick.proofs.Trying.{went_only, missed_only, some_tried, none_went, none_missed, went_by, not_tried, is_tried}

-- The test of an edit that claims wherever not all is claimed, both ways.
plain_test : (slot : Slot.Ticket) → (slot.done ≡ 0) ⊎ (slot.n ≤ slot.claimed) → is_plain slot ≡ true
plain_test slot (inl none) = ap (λ b. cond b true (leb slot.n slot.claimed)) (eq-eqb slot.done 0 none)
plain_test slot (inr all) = ap (λ b. cond (eqb slot.done 0) true b) (le-leb slot.n slot.claimed all) ∙ either (eqb slot.done 0)
  where
    either : (b : Bool) → cond b true true ≡ true
    either true = refl
    either false = refl

test_plain : (slot : Slot.Ticket) → is_plain slot ≡ true → (slot.done ≡ 0) ⊎ (slot.n ≤ slot.claimed)
test_plain slot is = each (eqb slot.done 0) refl is
  where
    each : (none : Bool) → eqb slot.done 0 ≡ none → cond none true (leb slot.n slot.claimed) ≡ true → (slot.done ≡ 0) ⊎ (slot.n ≤ slot.claimed)
    each true is plain = inl (eqb-true _ _ is)
    each false is plain = inr (leb-true _ _ plain)

pub quick_by_count : QuickByCount
quick_by_count targets slot few made = each slot.kind (is_plain slot) refl refl few
  where
    none : slot.done < 0 → ⊥
    none below = omega arith

    each : (kind : Kind) (plain : Bool) → slot.kind ≡ kind → is_plain slot ≡ plain → slot.done < quick_if kind plain slot.n → Quick targets slot
    each Edit true of_kind is below = record { edit = of_kind; stands = below; plain = test_plain slot is; made = made }
    each Edit false of_kind is below = absurd (none below)
    each Stale plain of_kind is below = absurd (none below)
    each View plain of_kind is below = absurd (none below)

-- Where words are left to claim, nothing is done.
claims_none : (slot : Slot.Ticket) → slot.claimed < slot.n → (slot.done ≡ 0) ⊎ (slot.n ≤ slot.claimed) → slot.done ≡ 0
claims_none slot more (inl none) = none
claims_none slot more (inr all) = omega (arith, more, all)

quick_number : (slot : Slot.Ticket) → slot.kind ≡ Edit → (slot.done ≡ 0) ⊎ (slot.n ≤ slot.claimed) → quick_swaps slot ≡ slot.n
quick_number slot edit plain = ap (λ k. quick_if k (is_plain slot) slot.n) edit ∙ ap (λ b. cond b slot.n 0) (plain_test slot plain)

pub quick_kept : QuickKept
quick_kept targets slot quick = each (claims_quick slot) refl ∙ sym (quick_number slot quick.edit quick.plain)
  where
    each : (claims : Bool) → claims_quick slot ≡ claims → quick_swaps (advanced_by claims slot) ≡ slot.n
    each true is = quick_number (advanced_by true slot) quick.edit (inl (claims_none slot (ltb-true _ _ is) quick.plain))
    each false is = quick_number (advanced_by false slot) quick.edit (inr (ltb-false _ _ is))

-- What the code asks of the ticket that it advances.
advances_by : (targets : List Target) (slot : Slot.Ticket) → Quick targets slot → (claims : Bool) → claims_quick slot ≡ claims → AdvancesBy claims slot
advances_by targets slot quick true is = record {
  to_claim = λ claims. (claims_none slot (ltb-true _ _ is) quick.plain, ltb-true _ _ is);
  to_put = λ puts. absurd (false≢true (sym puts));
}
advances_by targets slot quick false is = record {
  to_claim = λ claims. absurd (false≢true claims);
  to_put = λ puts. (quick.edit, quick.stands, claims_plain slot quick.plain ∙ is);
}

-- A swap that expected a value went through only where it found it, and one that expected a mark in any case.
went_value : (found expected : ℕ) → is_held expected ≡ false → went_by found expected ≡ true → found ≡ expected
went_value found expected value went = each (eqb found expected) refl went
  where
    each : (same : Bool) → eqb found expected ≡ same → cond same true (is_held expected) ≡ true → found ≡ expected
    each true is goes = eqb-true _ _ is
    each false is goes = absurd (false≢true (sym value ∙ goes))

missed_value : (found expected : ℕ) → went_by found expected ≡ false → (is_held expected ≡ false) × (found ≡ expected → ⊥)
missed_value found expected missed = each (eqb found expected) refl missed
  where
    each : (same : Bool) → eqb found expected ≡ same → cond same true (is_held expected) ≡ false → (is_held expected ≡ false) × (found ≡ expected → ⊥)
    each true is stays = absurd (false≢true (sym stays))
    each false is stays = (stays, eqb-false _ _ is)

module _ (targets : List Target) (team : ℕ) (slot : Slot.Ticket) (quick : Quick targets slot) where
  abbrev there : Ticket
  there = standing targets slot

  -- The ticket settles as the one that stands there, in its phase.
  settles_in : (phase : Phase) (found : ℕ) → cond (claims_quick slot) Claiming Putting ≡ phase → settled (gathered targets slot) found ≡ settled_in phase there found
  settles_in phase found is =
      ap (λ (t : Ticket). settled t found) (is_standing targets slot quick.made)
      ∙ settled_in_lem there found phase (standing_phase targets slot quick.made ∙ phase_quick targets team slot quick ∙ is)

  -- What is quoted for the next word, where one is claimed.
  quoted_next : claims_quick slot ≡ true → (words : Words) → (swap_tried words (gathered targets slot) team).expected ≡ (target_at there slot.claimed).quoted
  quoted_next is words =
      ap (λ (s : SwapTried). s.expected) (sym (swap_by_lem targets team slot quick words true is))
      ∙ sym (ap (λ t. t.quoted) (target_read targets slot quick.made slot.claimed (next_below targets team slot quick true is)))

  quoted_value : claims_quick slot ≡ true → is_held (target_at there slot.claimed).quoted ≡ false
  quoted_value is =
      let below = next_below targets team slot quick true is in
      ap (λ t. is_held t.quoted) (target_read targets slot quick.made slot.claimed below)
      ∙ lt-leb (2 ^ 63) _ (target_fits_there targets slot quick.made slot.claimed below).quoted_value

  -- A put expects the team's mark.
  mark_expected : claims_quick slot ≡ false → (words : Words) → is_held (swap_tried words (gathered targets slot) team).expected ≡ true
  mark_expected is words =
      ap (λ (s : SwapTried). is_held s.expected) (sym (swap_by_lem targets team slot quick words false is))
      ∙ le-leb (2 ^ 63) (mark_of team) (omega arith)

  -- One more claimed, and Claimed told.
  claim_settles : (found : ℕ) → claims_quick slot ≡ true → found ≡ (target_at there slot.claimed).quoted
      → settled (gathered targets slot) found ≡ stepped (gathered targets (advanced_by true slot)) (told_answer true (advanced_by true slot))
  claim_settles found is same =
      settles_in Claiming found (ap (λ b. cond b Claiming Putting) is)
      ∙ settled_claimed there found same
      ∙ (λ i. stepped (ticket i) (answer i))
    where
      ticket : (claimed there).ticket ≡ gathered targets (advanced_by true slot)
      ticket =
          ap (λ (t : Ticket). (claimed t).ticket) (sym (is_standing targets slot quick.made))
          ∙ sym (gathered_claimed targets slot quick.edit (claims_none slot (ltb-true _ _ is) quick.plain) (ltb-true _ _ is))

      answer : Answer.Claimed (slot.claimed + 1) ≡ told_answer true (advanced_by true slot)
      answer = sym (ap (λ b. cond b (Answer.Granted (one_more_try slot.tries)) (Answer.Claimed (slot.claimed + 1))) (ne_eqb slot.done slot.n (λ e. omega (arith, e, quick.stands))))

  -- One more put, and Put or Granted told.
  put_settles : (found : ℕ) → claims_quick slot ≡ false
      → settled (gathered targets slot) found ≡ stepped (gathered targets (advanced_by false slot)) (told_answer false (advanced_by false slot))
  put_settles found is =
      settles_in Putting found (ap (λ b. cond b Claiming Putting) is)
      ∙ each (eqb (slot.done + 1) slot.n)
      ∙ (λ i. stepped (ticket i) (told_answer false (advanced_by false slot)))
    where
      after : Bool → Stepped
      after last = cond last (stepped no_ticket (Answer.Granted (one_more_try slot.tries))) (stepped (advanced there Putting slot.claimed (slot.done + 1)) (Answer.Put (slot.done + 1)))

      each : (last : Bool) → after last ≡ stepped (after last).ticket (cond last (Answer.Granted (one_more_try slot.tries)) (Answer.Put (slot.done + 1)))
      each true = refl
      each false = refl

      ticket : (put there).ticket ≡ gathered targets (advanced_by false slot)
      ticket =
          ap (λ (t : Ticket). (put t).ticket) (sym (is_standing targets slot quick.made))
          ∙ sym (gathered_put targets slot quick.edit quick.stands)

  -- A claim that found something else.
  miss_settles : (found : ℕ) → claims_quick slot ≡ true → (found ≡ (target_at there slot.claimed).quoted → ⊥) → settled (gathered targets slot) found ≡ missed_by (gathered targets slot) found
  miss_settles found is other =
      settles_in Claiming found (ap (λ b. cond b Claiming Putting) is)
      ∙ ap (λ b. cond b (claimed there) (missed_by there found)) (ne_eqb found _ other)
      ∙ ap (λ (t : Ticket). missed_by t found) (sym (is_standing targets slot quick.made))

module _ (words : Words) (targets : List Target) (team : ℕ) (slot : Slot.Ticket) (quick : ℕ) (result : Tried) (after : Words)
    (may : slot.done < quick → Quick targets slot)
    (is : ◌≡◌ {A = Tried × Words} (result, after) (quick_tried words targets team slot quick)) where
  abbrev next : SwapTried
  next = swap_tried words (gathered targets slot) team

  -- What its swap found.
  abbrev found : ℕ
  found = (swap_of words next.word next.expected next.desired).found

  module _ (few : slot.done < quick) where
    made : ◌≡◌ {A = Tried × Words} (result, after) (quick_made words (gathered targets slot) team (claims_quick slot))
    made = is ∙ is_tried words targets team slot quick few

    result_is : result ≡ tried (claims_quick slot) found (went_by found next.expected)
    result_is = ap (λ (p : Tried × Words). p.0) made

    -- The step is its swap, and what that found settles.
    step_is : step_of words (gathered targets slot) team ≡ (settled (gathered targets slot) found, after)
    unfolding step_of
    step_is = sym (λ i. (settled (gathered targets slot) found, (made i).1))

    went_here : (claims : Bool) → result ≡ Went claims → (went_by found next.expected ≡ true) × (claims_quick slot ≡ claims)
    went_here claims went = went_only (claims_quick slot) found (went_by found next.expected) claims (sym result_is ∙ went)

    missed_here : (word : ℕ) → result ≡ Missed word → (went_by found next.expected ≡ false) × (found ≡ word)
    missed_here word missed = missed_only (claims_quick slot) found (went_by found next.expected) word (sym result_is ∙ missed)

    -- It was a claim, where it missed.
    missed_claims : went_by found next.expected ≡ false → claims_quick slot ≡ true
    missed_claims missed = each (claims_quick slot) refl
      where
        each : (claims : Bool) → claims_quick slot ≡ claims → claims ≡ true
        each true by = refl
        each false by = absurd (false≢true (sym (missed_value found next.expected missed).0 ∙ mark_expected targets team slot (may few) by words))

    phase_claims : claims_quick slot ≡ true → phase_of slot ≡ Claiming
    phase_claims claims = phase_quick targets team slot (may few) ∙ ap (λ b. cond b Claiming Putting) claims

  module _ (over : quick ≤ slot.done) where
    none : ◌≡◌ {A = Tried × Words} (result, after) (Untried, words)
    none = is ∙ not_tried words targets team slot quick over

    none_is : Untried ≡ result
    none_is = sym (ap (λ (p : Tried × Words). p.0) none)

  went_few : (claims : Bool) → result ≡ Went claims → slot.done < quick
  went_few claims went = elim (dec_lt slot.done quick) [
    | yes few ↦ few
    | no over ↦ absurd (none_went claims (none_is (omega (arith, over)) ∙ went))
  ]

  missed_few : (word : ℕ) → result ≡ Missed word → slot.done < quick
  missed_few word missed = elim (dec_lt slot.done quick) [
    | yes few ↦ few
    | no over ↦ absurd (none_missed word (none_is (omega (arith, over)) ∙ missed))
  ]

  says : TriedSays words targets team slot quick result after
  says = record {
    few_done = went_few;
    claims_is = λ claims went. sym (went_here (went_few claims went) claims went).1;
    advances = λ claims went. let few = went_few claims went in
        advances_by targets slot (may few) claims (went_here few claims went).1;
    claimed = λ went. let few = went_few true went in
        phase_claims few (went_here few true went).1;
    few_missed = missed_few;
    claiming = λ word missed. let few = missed_few word missed in
        phase_claims few (missed_claims few (missed_here few word missed).0);
    nothing_tried = λ untried. elim (dec_lt slot.done quick) [
      | yes few ↦ absurd (some_tried (claims_quick slot) found (went_by found next.expected) (sym (result_is few) ∙ untried))
      | no over ↦ ap (λ (p : Tried × Words). p.1) (none (omega (arith, over)))
    ];
  }

  -- By what was tried.
  goes : (few : slot.done < quick) → went_by found next.expected ≡ true → (claims : Bool) → claims_quick slot ≡ claims
      → settled (gathered targets slot) found ≡ stepped (gathered targets (advanced_by claims slot)) (told_answer claims (advanced_by claims slot))
  goes few went true by =
      let may_go = may few in
      let quoted = quoted_next targets team slot may_go by words in
      claim_settles targets team slot may_go found by
      (went_value found next.expected (ap is_held quoted ∙ quoted_value targets team slot may_go by) went ∙ quoted)
  goes few went false by = put_settles targets team slot (may few) found by

pub quick_says : QuickSays
quick_says = says

pub quick_is_step : QuickIsStep
quick_is_step words targets team slot quick result after claims may is went =
    let few = went_few words targets team slot quick result after may is claims went in
    let here = went_here words targets team slot quick result after may is few claims went in
    step_is words targets team slot quick result after may is few
    ∙ (λ i. (goes words targets team slot quick result after may is few here.0 claims here.1 i, after))

pub quick_missed : QuickMissed
quick_missed words targets team slot quick result after word left out count output may is missed leaves =
    let few = missed_few words targets team slot quick result after may is word missed in
    let here = missed_here words targets team slot quick result after may is few word missed in
    let claims = missed_claims words targets team slot quick result after may is few here.0 in
    let next = swap_tried words (gathered targets slot) team in
    let read = (swap_of words next.word next.expected next.desired).found in
    let other = (missed_value read next.expected here.0).1 in
    subst (λ step. LeftBy step targets left after out count output)
    (sym (step_is words targets team slot quick result after may is few
    ∙ (λ i. (miss_settles targets team slot (may few) read claims (λ same. other (same ∙ sym (quoted_next targets team slot (may few) claims words))) i, after))))
    (subst (λ (w : ℕ). MissLeft targets slot w left out count output) (sym here.1) leaves after)
