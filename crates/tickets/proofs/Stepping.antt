-- Every step of a standing ticket keeps the invariant, and every put and return finds its mark.
use Prim.Native.Nat.{ℕ, ◌+◌, ◌^◌, ◌≤◌, ◌<◌}
use mathlib.Core.Path.{◌≡◌, refl, sym, ap, subst, ◌∙◌}
use mathlib.Core.Bool.{Bool, true, false, cond, false≢true}
use mathlib.Core.Logic.{◌≢◌, ◌⊎◌, inl, inr}
use native.Mathlib.Omega.{arith}
use lib.Dec.{eqb}
use lib.ListN.{length, set, length-set}
use borrow.Author.Tests.{eq-eqb, ne_eqb, eqb-true, eqb-false, le-leb, lt-leb}
use Rattle.words.specs.Words.{Words, Swap, mark_of, holder_of, read_of, swap_of}
use Rattle.words.proofs.AnyValue.{value_expected, mark_unexpected}
use Rattle.tickets.specs.declared.Phase.{Phase}
use Rattle.tickets.specs.declared.Phase.TheVariants.{NoTicket, Claiming, Putting, GivingBack, Viewing, Viewed}
use Rattle.tickets.specs.Tickets.{Ticket}
use Rattle.tickets.specs.Tickets.{Tickets}
use Rattle.tickets.specs.declared.StepAnswer.{StepAnswer}
use Rattle.tickets.specs.declared.StepAnswer.TheVariants.{Waiting, Stale}
use Rattle.tickets.specs.Tickets.{no_ticket, ticket_of, with_ticket, target_at, targets_in, has_ticket, is_view, claims}
use Rattle.tickets.specs.Steps.{tries, swap_tried_in, swap_tried, one_more_try, advanced, stepped, noting, settled, step_of}
use Rattle.tickets.specs.Targets.{AllMatch, PutInto}
use Rattle.tickets.specs.Invariant.{with_slot, plain_value, Holds, Holder, FitTicket, Invariant, Leaves, StepKept, one_claimed, claimed_last, waiting, found_other, stale_at_once, put_one, put_last, returned_one, returned_last, viewed_one, viewed_last, view_waiting, view_returned_one, view_returned_last, StepKeeps, MarkFound, LengthKept}
use Rattle.tickets.proofs.Slots.{table_slots}
use Rattle.tickets.proofs.TargetLists.{length_targets, target_listed, claimable_at, at_match, put_at}
use Rattle.tickets.proofs.Changing.{HeldAlike}
use Rattle.tickets.proofs.Keeping.{claim_target, done_target, claimed_words, done_words, claims_counts, done_counts, standing_fit, claims_stand, claims_quoted, fit_claiming, fit_putting, fit_giving, fit_viewed, fit_done, nothing_held, same_held, holds_on, plain_quoted, claim_keeps, claim_keeps_plain, done_marked, done_keeps, last_keeps}
use Rattle.tickets.proofs.Noting.{noted_held, noted_quoted, noted_fit}
use Rattle.tickets.proofs.Outcomes.{Outcome, claims_one, claims_last, waits, differs_later, differs_first, puts_one, puts_last, returns_one, returns_last, notes_one, notes_last, view_waits, view_returns_one, view_returns_last, outcome}

-- The swap of a ticket in a phase.
abbrev swap_in : Phase → Words → Ticket → ℕ → Swap
swap_in phase words ticket team = let tried = swap_tried_in phase words ticket team in swap_of words tried.word tried.expected tried.desired

words_in_lem : (phase : Phase) (words : Words) (ticket : Ticket) (team : ℕ) → ticket.phase ≡ phase → (step_of words ticket team).1 ≡ (swap_in phase words ticket team).words
unfolding step_of swap_tried
words_in_lem phase words ticket team is = ap (λ phase. (swap_in phase words ticket team).words) is

-- What a step finds.
abbrev pub found_by : Words → Ticket → ℕ → ℕ
found_by words ticket team = read_of words (swap_tried words ticket team).word

found_in : (phase : Phase) (words : Words) (ticket : Ticket) (team : ℕ) → ticket.phase ≡ phase → found_by words ticket team ≡ (swap_in phase words ticket team).found
unfolding swap_tried
found_in phase words ticket team is = ap (λ phase. (swap_in phase words ticket team).found) is

-- A step's ticket and answer are settled by what it finds.
pub step_settled_lem : (words : Words) (ticket : Ticket) (team : ℕ) → (step_of words ticket team).0 ≡ settled ticket (found_by words ticket team)
unfolding step_of
step_settled_lem words ticket team = refl

-- A swap that finds what it expects stores, and another stores nothing.
swap_stores : (words : Words) (at expected desired : ℕ) → read_of words at ≡ expected → (swap_of words at expected desired).words ≡ set words at desired
swap_stores words at expected desired same = rw (eq-eqb (read_of words at) expected same)

swap_passes : (words : Words) (at expected desired : ℕ) → read_of words at ≢ expected → (swap_of words at expected desired).words ≡ words
swap_passes words at expected desired differs = rw (ne_eqb (read_of words at) expected differs)

-- A ticket that claims no more finds its mark and stores the plain value.
tried_done : (phase : Phase) (words : Words) (ticket : Ticket) (team : ℕ) → has_ticket phase ≡ true → claims phase ≡ false
    → swap_tried_in phase words ticket team ≡ tries (done_target ticket).word (mark_of team) (plain_value phase (done_target ticket))
tried_done NoTicket words ticket team stands over = absurd (false≢true stands)
tried_done Claiming words ticket team stands over = absurd (false≢true (sym over))
tried_done Putting words ticket team stands over = refl
tried_done GivingBack words ticket team stands over = refl
tried_done Viewing words ticket team stands over = absurd (false≢true (sym over))
tried_done Viewed words ticket team stands over = refl

pub length_kept : LengthKept
unfolding step_of
length_kept words ticket team = either (eqb (found_by words ticket team) (swap_tried words ticket team).expected)
  where
    either : (same : Bool) → length (cond same (set words (swap_tried words ticket team).word (swap_tried words ticket team).desired) words) ≡ length words
    either true = length-set words _ _
    either false = refl

module _ (words : Words) (tickets : ℕ → Ticket) (plain : ℕ → ℕ) (team : ℕ) (i : Invariant words tickets plain) where
  -- What a step settles, and the invariant of the words that it leaves.
  leaves : (after : ℕ → ℕ) (ticket : Ticket) (answer : StepAnswer) (words_after : Words)
      → settled (tickets team) (found_by words (tickets team) team) ≡ stepped ticket answer
      → (step_of words (tickets team) team).1 ≡ words_after
      → Invariant words_after (with_slot tickets team ticket) after
      → Leaves words tickets team after ticket answer
  leaves after ticket answer words_after settles words_are keeps = record {
    is = step_settled_lem words (tickets team) team ∙ settles;
    keeps = subst (λ book. Invariant book (with_slot tickets team ticket) after) (sym words_are) keeps;
  }

  module _ (fit : FitTicket (length words) (tickets team)) where
    -- Claiming, the word as quoted.
    module _ (claiming : (tickets team).phase ≡ Claiming) (same : found_by words (tickets team) team ≡ (claim_target (tickets team)).quoted) where
      claims_here : claims (tickets team).phase ≡ true
      claims_here = ap claims claiming

      itself : HeldAlike (tickets team) (tickets team)
      itself = record { held_before = λ word value holds. holds; held_after = λ word value holds. (value, holds) }

      quoted : read_of words (claim_target (tickets team)).word ≡ (claim_target (tickets team)).quoted
      quoted = sym (found_in Claiming words (tickets team) team claiming) ∙ same

      words_claimed : (step_of words (tickets team) team).1 ≡ claimed_words words (tickets team) team
      words_claimed = words_in_lem Claiming words (tickets team) team claiming ∙ swap_stores words _ _ (mark_of team) quoted

      claims_more : (tickets team).claimed + 1 < (tickets team).n
          → Invariant (claimed_words words (tickets team) team) (with_slot tickets team (advanced (tickets team) Claiming ((tickets team).claimed + 1) (tickets team).done)) plain
      claims_more more =
          claim_keeps_plain i team (tickets team) fit claims_here itself quoted Claiming (tickets team).done refl (fit.none_done claims_here) (λ k. refl)
          (fit_claiming (length words) (tickets team) fit ((tickets team).claimed + 1) (tickets team).done Claiming refl (λ view. absurd (false≢true view)) more (fit.none_done claims_here))

      module _ (last : (tickets team).claimed + 1 ≡ (tickets team).n) where
        all_match : AllMatch (targets_in (tickets team)) plain
        all_match = at_match (tickets team) plain (λ k below. plain_quoted i team (tickets team) fit claims_here itself quoted k (omega arith))

        claims_all : (after : ℕ → ℕ) → PutInto (targets_in (tickets team)) plain after
            → Invariant (claimed_words words (tickets team) team) (with_slot tickets team (advanced (tickets team) Putting ((tickets team).claimed + 1) 0)) after
        claims_all after put =
            claim_keeps i team (tickets team) fit claims_here itself quoted Putting 0 after refl refl
            (fit_putting (length words) (tickets team) fit ((tickets team).claimed + 1) 0 (omega arith) last)
            (λ k below. put_at (tickets team) plain after put k (omega arith)) elsewhere
          where
            elsewhere : (word : ℕ) → ((k : ℕ) × (k < (tickets team).claimed + 1) × ((target_at (tickets team) k).word ≡ word)) ⊎ (after word ≡ plain word)
            elsewhere word = elim (put.elsewhere word) [
              | inl one ↦
                  let below : one.0 < (tickets team).n = omega (arith, one.1, length_targets (tickets team)) in
                  inl (one.0, omega arith, sym (ap (λ listed. listed.word) (target_listed (tickets team) one.0 below)) ∙ one.2)
              | inr same ↦ inr same
            ]

    -- A view found a value: it is noted, and then claimed as quoted.
    module _ (viewing : (tickets team).phase ≡ Viewing) (small : found_by words (tickets team) team < 2 ^ 63) where
      abbrev noted : Ticket
      noted = noting (tickets team) (found_by words (tickets team) team)

      claims_view : claims (tickets team).phase ≡ true
      claims_view = ap claims viewing

      is_view_lem : is_view (tickets team).phase ≡ true
      is_view_lem = ap is_view viewing

      held_alike : HeldAlike (tickets team) noted
      held_alike = noted_held (tickets team) (found_by words (tickets team) team)

      found : read_of words (claim_target (tickets team)).word ≡ found_by words (tickets team) team
      found = sym (found_in Viewing words (tickets team) team viewing)

      fit_noted : FitTicket (length words) noted
      fit_noted = noted_fit (tickets team) (found_by words (tickets team) team) fit claims_view is_view_lem small

      quoted_now : read_of words (claim_target noted).word ≡ (claim_target noted).quoted
      quoted_now = found ∙ sym (noted_quoted (tickets team) (found_by words (tickets team) team) fit claims_view is_view_lem)

      words_viewed : (step_of words (tickets team) team).1 ≡ claimed_words words noted team
      words_viewed =
          let below : read_of words (claim_target (tickets team)).word < 2 ^ 63 = omega (arith, found) in
          words_in_lem Viewing words (tickets team) team viewing
          ∙ swap_stores words _ _ (mark_of team) (eqb-true _ _ (value_expected (read_of words (claim_target (tickets team)).word) (lt-leb (2 ^ 63) _ below)))

      value_plain : found_by words (tickets team) team ≡ plain (claim_target (tickets team)).word
      value_plain =
          let inside = (claimable_at (length words) (tickets team) fit.claimable).inside (tickets team).claimed (claims_counts (tickets team) fit claims_view) in
          sym found ∙ i.free _ inside (omega (arith, found))

      views_more : (tickets team).claimed + 1 < (tickets team).n
          → Invariant (claimed_words words noted team) (with_slot tickets team (advanced noted Viewing ((tickets team).claimed + 1) (tickets team).done)) plain
      views_more more =
          claim_keeps_plain i team noted fit_noted claims_view held_alike quoted_now Viewing (tickets team).done refl (fit.none_done claims_view) (λ k. refl)
          (fit_claiming (length words) noted fit_noted ((tickets team).claimed + 1) (tickets team).done Viewing refl (λ view. is_view_lem) more (fit.none_done claims_view))

      module _ (last : (tickets team).claimed + 1 ≡ (tickets team).n) where
        all_noted : AllMatch (targets_in noted) plain
        all_noted = at_match noted plain (λ k below. plain_quoted i team noted fit_noted claims_view held_alike quoted_now k (omega arith))

        views_all : Invariant (claimed_words words noted team) (with_slot tickets team (advanced noted Viewed ((tickets team).claimed + 1) 0)) plain
        views_all =
            claim_keeps_plain i team noted fit_noted claims_view held_alike quoted_now Viewed 0 refl refl (λ k. refl)
            (fit_viewed (length words) noted fit_noted ((tickets team).claimed + 1) 0 is_view_lem (omega arith) last)

    -- An edit or a view that claims, where nothing is stored: the words stay.
    module _ (claiming : claims (tickets team).phase ≡ true) where
      inside : (claim_target (tickets team)).word < length words
      inside = (claimable_at (length words) (tickets team) fit.claimable).inside (tickets team).claimed (claims_counts (tickets team) fit claiming)

      more_claims : (tickets team).claimed + 1 ≢ (tickets team).n → (tickets team).claimed + 1 < (tickets team).n
      more_claims more = omega (arith, claims_counts (tickets team) fit claiming)

      waits_keeps : (phase : Phase) → (tickets team).phase ≡ phase → Invariant words (with_slot tickets team (advanced (tickets team) phase (tickets team).claimed (tickets team).done)) plain
      waits_keeps phase is =
          let claims_now : claims phase ≡ true = ap claims (sym is) ∙ claiming in
          holds_on i team phase (tickets team).done claiming (fit.none_done claiming) (fit.none_done claiming) (claims_stand phase claims_now) (λ k. claims_quoted phase _ claims_now)
          (fit_claiming (length words) (tickets team) fit (tickets team).claimed (tickets team).done phase claims_now (λ view. ap is_view is ∙ view) (claims_counts (tickets team) fit claiming) (fit.none_done claiming))

      -- Who holds the word is another team: its own words are those before, and none is twice among its targets.
      not_mine : (value : ℕ) → Holds (tickets team) (claim_target (tickets team)).word value → ⊥
      not_mine value holds =
          let below = claims_counts (tickets team) fit claiming in
          let same = (claimable_at (length words) (tickets team) fit.claimable).once holds.at (tickets team).claimed (omega (arith, holds.claimed, below)) below holds.its_word in
          omega (arith, holds.claimed, same)

      another : (holder : Holder tickets (claim_target (tickets team)).word) → holder.team ≡ team → ⊥
      another holder same = not_mine holder.value (subst (λ other. Holds (tickets other) (claim_target (tickets team)).word holder.value) same holder.holds)

      -- The word found is the holder's mark.
      waits_on : (phase : Phase) → (tickets team).phase ≡ phase
          → (holder : Holder tickets (claim_target (tickets team)).word)
          → found_by words (tickets team) team ≡ read_of words (claim_target (tickets team)).word
          → settled (tickets team) (found_by words (tickets team) team)
          ≡ stepped (advanced (tickets team) phase (tickets team).claimed (tickets team).done) (Waiting (claim_target (tickets team)).word (holder_of (found_by words (tickets team) team)))
          → (step_of words (tickets team) team).1 ≡ words
          → Leaves words tickets team plain (advanced (tickets team) phase (tickets team).claimed (tickets team).done) (Waiting (claim_target (tickets team)).word (holder_of (mark_of holder.team)))
      waits_on phase is holder found settles words_are =
          let marked = found ∙ (i.held holder.team _ _ holder.holds).marked in
          leaves plain _ _ _
          (settles ∙ ap (λ mark. stepped (advanced (tickets team) phase (tickets team).claimed (tickets team).done) (Waiting (claim_target (tickets team)).word (holder_of mark))) marked)
          words_are (waits_keeps phase is)

      gives_keeps : (tickets team).claimed ≢ 0 → Invariant words (with_slot tickets team (advanced (tickets team) GivingBack (tickets team).claimed 0)) plain
      gives_keeps some = holds_on i team GivingBack 0 claiming (fit.none_done claiming) refl refl (λ k. refl)
          (fit_giving (length words) (tickets team) fit (tickets team).claimed 0 (omega arith) (claims_counts (tickets team) fit claiming))

      ends_keeps : (tickets team).claimed ≡ 0 → Invariant words (with_slot tickets team no_ticket) plain
      ends_keeps none = same_held i team no_ticket (inl refl)
          record { held_before = λ word value holds. nothing_held holds; held_after = λ word value holds. absurd (omega (arith, holds.claimed)) }

    -- Claiming, the word not as quoted.
    module _ (claiming : (tickets team).phase ≡ Claiming) (differs : found_by words (tickets team) team ≢ (claim_target (tickets team)).quoted) where
      words_same : (step_of words (tickets team) team).1 ≡ words
      words_same = words_in_lem Claiming words (tickets team) team claiming
          ∙ swap_passes words _ _ (mark_of team) (λ same. differs (found_in Claiming words (tickets team) team claiming ∙ same))

      not_plain : found_by words (tickets team) team < 2 ^ 63 → plain (claim_target (tickets team)).word ≡ (claim_target (tickets team)).quoted → ⊥
      not_plain small same =
          let found = found_in Claiming words (tickets team) team claiming in
          differs (found ∙ i.free _ (inside (ap claims claiming)) (omega arith) ∙ same)

    -- A view that found a mark.
    words_waited : (tickets team).phase ≡ Viewing → 2 ^ 63 ≤ read_of words (claim_target (tickets team)).word → (step_of words (tickets team) team).1 ≡ words
    words_waited viewing large = words_in_lem Viewing words (tickets team) team viewing
        ∙ swap_passes words _ _ (mark_of team) (eqb-false _ _ (mark_unexpected (read_of words (claim_target (tickets team)).word) (le-leb (2 ^ 63) _ large)))

    -- A ticket that is putting or giving back: the word is found marked, and gets its plain value.
    module _ (phase : Phase) (is : (tickets team).phase ≡ phase) (stands : has_ticket phase ≡ true) (over : claims phase ≡ false) where
      standing : has_ticket (tickets team).phase ≡ true
      standing = ap has_ticket is ∙ stands

      counted : ((tickets team).done < (tickets team).claimed) × ((tickets team).claimed ≤ (tickets team).n)
      counted = done_counts (tickets team) fit standing (ap claims is ∙ over)

      finds_mark : read_of words (done_target (tickets team)).word ≡ mark_of team
      finds_mark = done_marked i team fit standing counted.0 counted.1

      words_done : (step_of words (tickets team) team).1 ≡ done_words words (tickets team)
      words_done = words_in_lem phase words (tickets team) team is
          ∙ ap (λ tried. (swap_of words tried.word tried.expected tried.desired).words) (tried_done phase words (tickets team) team stands over)
          ∙ swap_stores words _ (mark_of team) _ finds_mark
          ∙ ap (λ phase. set words (done_target (tickets team)).word (plain_value phase (done_target (tickets team)))) (sym is)

      more_done : (tickets team).done + 1 ≢ (tickets team).claimed → (tickets team).done + 1 < (tickets team).claimed
      more_done more = omega (arith, counted.0)

      -- There is another, or it was the last.
      one_done : {answer : StepAnswer} → (tickets team).done + 1 < (tickets team).claimed
          → settled (tickets team) (found_by words (tickets team) team) ≡ stepped (advanced (tickets team) phase (tickets team).claimed ((tickets team).done + 1)) answer
          → Leaves words tickets team plain (advanced (tickets team) phase (tickets team).claimed ((tickets team).done + 1)) answer
      one_done more settles = leaves plain _ _ _ settles words_done
          (subst (λ phase. Invariant (done_words words (tickets team)) (with_slot tickets team (advanced (tickets team) phase (tickets team).claimed ((tickets team).done + 1))) plain) is
          (done_keeps i team fit standing counted.0 counted.1 (fit_done (tickets team) fit (ap claims is ∙ over) more)))

      all_done : {answer : StepAnswer} → (tickets team).done + 1 ≡ (tickets team).claimed
          → settled (tickets team) (found_by words (tickets team) team) ≡ stepped no_ticket answer
          → Leaves words tickets team plain no_ticket answer
      all_done last settles = leaves plain _ _ _ settles words_done (last_keeps i team fit standing counted.0 counted.1 last)

    kept_by_lem : Outcome (tickets team) (found_by words (tickets team) team) → StepKept words tickets plain team (tickets team)
    kept_by_lem (claims_one claiming same more settles) =
        let more_below = more_claims (ap claims claiming) more in
        one_claimed claiming more_below (leaves plain _ _ _ settles (words_claimed claiming same) (claims_more claiming same more_below))
    kept_by_lem (claims_last claiming same last settles) =
        claimed_last claiming last (all_match claiming same last) (λ after put. leaves after _ _ _ settles (words_claimed claiming same) (claims_all claiming same last after put))
    kept_by_lem (waits claiming differs large settles) =
        let found = found_in Claiming words (tickets team) team claiming in
        let holder = i.owned _ (inside (ap claims claiming)) (omega (arith, found)) in
        waiting claiming holder (another (ap claims claiming) holder) (waits_on (ap claims claiming) Claiming claiming holder found settles (words_same claiming differs))
    kept_by_lem (differs_later claiming differs small some settles) =
        found_other claiming (omega arith) (not_plain claiming differs small) (leaves plain _ _ _ settles (words_same claiming differs) (gives_keeps (ap claims claiming) some))
    kept_by_lem (differs_first claiming differs small none settles) =
        stale_at_once claiming none (not_plain claiming differs small)
        (leaves plain _ _ _ (settles ∙ ap (λ k. stepped no_ticket (Stale (target_at (tickets team) k).word (one_more_try (tickets team).tries))) none) (words_same claiming differs) (ends_keeps (ap claims claiming) none))
    kept_by_lem (puts_one putting more settles) =
        let all = fit.all_were_claimed putting in
        let more_below = more_done Putting putting refl refl (λ same. more (same ∙ all)) in
        put_one putting (omega arith) (one_done Putting putting refl refl more_below settles)
    kept_by_lem (puts_last putting last settles) = put_last putting last (all_done Putting putting refl refl (last ∙ sym (fit.all_were_claimed putting)) settles)
    kept_by_lem (returns_one giving more settles) = let more_below = more_done GivingBack giving refl refl more in returned_one giving more_below (one_done GivingBack giving refl refl more_below settles)
    kept_by_lem (returns_last giving last settles) = returned_last giving last (all_done GivingBack giving refl refl last settles)
    kept_by_lem (notes_one viewing small more settles) =
        let more_below = more_claims (ap claims viewing) more in
        viewed_one viewing more_below _ (value_plain viewing small) (leaves plain _ _ _ settles (words_viewed viewing small) (views_more viewing small more_below))
    kept_by_lem (notes_last viewing small last settles) =
        viewed_last viewing last _ (all_noted viewing small last) (leaves plain _ _ _ settles (words_viewed viewing small) (views_all viewing small last))
    kept_by_lem (view_waits viewing large settles) =
        let found = found_in Viewing words (tickets team) team viewing in
        let mark : 2 ^ 63 ≤ read_of words (claim_target (tickets team)).word = omega (arith, found) in
        let holder = i.owned _ (inside (ap claims viewing)) mark in
        view_waiting viewing holder (another (ap claims viewing) holder) (waits_on (ap claims viewing) Viewing viewing holder found settles (words_waited viewing mark))
    kept_by_lem (view_returns_one viewed more settles) = let more_below = more_done Viewed viewed refl refl more in view_returned_one viewed more_below (one_done Viewed viewed refl refl more_below settles)
    kept_by_lem (view_returns_last viewed last settles) = view_returned_last viewed last (all_done Viewed viewed refl refl last settles)

pub step_keeps : StepKeeps
step_keeps words tickets plain team i stands =
    kept_by_lem words tickets plain team i (standing_fit (length words) (tickets team) (i.fit team) stands) (outcome (tickets team) (found_by words (tickets team) team) stands)

-- The same of a table of tickets, into which the step's ticket is stored.
pub table_keeps : (words : Words) (table : Tickets) (team : ℕ) {plain : ℕ → ℕ} {ticket : Ticket} {answer : StepAnswer}
    → team < length table.slots
    → Leaves words (ticket_of table) team plain ticket answer
    → Invariant (step_of words (ticket_of table team) team).1 (ticket_of (with_ticket table team (step_of words (ticket_of table team) team).0.ticket)) plain
table_keeps words table team {plain} slot left =
    subst (λ slots. Invariant (step_of words (ticket_of table team) team).1 slots plain)
    (ap (with_slot (ticket_of table) team) (sym (ap (λ step. step.ticket) left.is)) ∙ sym (table_slots table team _ slot)) left.keeps

pub mark_found : MarkFound
unfolding swap_tried
mark_found words tickets plain team i stands over =
    let fit = standing_fit (length words) (tickets team) (i.fit team) stands in
    subst (λ tried. read_of words tried.word ≡ tried.expected) (sym (tried_done (tickets team).phase words (tickets team) team stands over))
    (finds_mark words tickets plain team i fit (tickets team).phase refl stands over)
