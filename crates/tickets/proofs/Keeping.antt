-- How a ticket's changes keep the invariant: nothing taken or left, one more word claimed, one more word put or given back.
use Prim.Native.Nat.{ℕ, ◌+◌, ◌^◌, ◌≤◌, ◌<◌}
use mathlib.Core.Path.{◌≡◌, refl, sym, ap, subst, subst₂, ◌∙◌}
use mathlib.Core.List.{[], ◌∷◌, map}
use mathlib.Core.Bool.{true, false, false≢true}
use mathlib.Core.Logic.{◌≢◌, ◌⊎◌, inl, inr}
use native.Mathlib.Omega.{arith}
use native.Mathlib.Decide.{ℕ_discrete}
use lib.Dec.{eqb, ltb}
use lib.ListN.{length, set, length-set}
use lib.Seq.{get_or-set_same, get_or-set_other}
use borrow.Author.Tests.{eqb-true, eq-eqb, ltb-true, lt-ltb}
use Rattle.words.specs.Words.{Words, mark_of, read_of}
use Rattle.words.proofs.Tests.{split, join}
use Rattle.tickets.specs.declared.Target.{Target}
use Rattle.tickets.specs.declared.Phase.{Phase}
use Rattle.tickets.specs.declared.Phase.TheVariants.{NoTicket, Claiming, Putting, GivingBack, Viewing, Viewed}
use Rattle.tickets.specs.Tickets.{Ticket}
use Rattle.tickets.specs.Tickets.{no_ticket, target_at, has_ticket, is_view, claims, counts_well_made, names_well_made}
use Rattle.tickets.specs.Steps.{advanced}
use Rattle.tickets.specs.Targets.{Claimable}
use Rattle.tickets.specs.Invariant.{with_slot, plain_value, Holds, FitTicket, FitSlot, HeldWord, Invariant}
use Rattle.tickets.proofs.TargetLists.{ClaimableAt, claimable_at, targets_advanced}
use Rattle.tickets.proofs.Changing.{HoldsSome, HeldAlike, NoOthers, Becomes, stays, kept, left, changed}

-- The target that a claiming ticket tries next, and the one that is put or given back next.
abbrev pub claim_target : Ticket → Target
claim_target ticket = target_at ticket ticket.claimed

abbrev pub done_target : Ticket → Target
done_target ticket = target_at ticket ticket.done

-- The words after one more is claimed, and after one more is put or given back: done, it has its plain value.
abbrev pub claimed_words : Words → Ticket → ℕ → Words
claimed_words words ticket team = set words (claim_target ticket).word (mark_of team)

abbrev pub done_words : Words → Ticket → Words
done_words words ticket = set words (done_target ticket).word (plain_value ticket.phase (done_target ticket))

-- The counts of a fit ticket, by its phase.
module _ {size : ℕ} (ticket : Ticket) (fit : FitTicket size ticket) where
  counts_in : (phase : Phase) → ticket.phase ≡ phase → counts_well_made phase ticket.n ticket.claimed ticket.done ≡ true
  counts_in phase is = subst (λ phase. counts_well_made phase ticket.n ticket.claimed ticket.done ≡ true) is fit.counts

  pub claiming_counts : ticket.phase ≡ Claiming → ticket.claimed < ticket.n
  claiming_counts claiming = ltb-true _ _ (counts_in Claiming claiming)

  pub putting_counts : ticket.phase ≡ Putting → ticket.done < ticket.n
  putting_counts putting = ltb-true _ _ (counts_in Putting putting)

  pub giving_counts : ticket.phase ≡ GivingBack → (ticket.done < ticket.claimed) × (ticket.claimed < ticket.n)
  giving_counts giving =
      let (below, (inside, u)) = split (ltb ticket.done ticket.claimed ∷ ltb ticket.claimed ticket.n ∷ []) (counts_in GivingBack giving) in
      (ltb-true _ _ below, ltb-true _ _ inside)

  pub viewed_counts : ticket.phase ≡ Viewed → (ticket.done < ticket.claimed) × (ticket.claimed ≡ ticket.n)
  viewed_counts viewed =
      let (below, (all, u)) = split (ltb ticket.done ticket.claimed ∷ eqb ticket.claimed ticket.n ∷ []) (counts_in Viewed viewed) in
      (ltb-true _ _ below, eqb-true _ _ all)

  -- While it claims there is one more to claim, an edit's or a view's.
  pub claims_counts : claims ticket.phase ≡ true → ticket.claimed < ticket.n
  claims_counts = in_phase ticket.phase refl
    where
      in_phase : (phase : Phase) → ticket.phase ≡ phase → claims phase ≡ true → ticket.claimed < ticket.n
      in_phase NoTicket is claiming = absurd (false≢true claiming)
      in_phase Claiming is claiming = claiming_counts is
      in_phase Putting is claiming = absurd (false≢true claiming)
      in_phase GivingBack is claiming = absurd (false≢true claiming)
      in_phase Viewing is claiming = ltb-true _ _ (counts_in Viewing is)
      in_phase Viewed is claiming = absurd (false≢true claiming)

  -- Later there is one more to put or to give back.
  pub done_counts : has_ticket ticket.phase ≡ true → claims ticket.phase ≡ false → (ticket.done < ticket.claimed) × (ticket.claimed ≤ ticket.n)
  done_counts = in_phase ticket.phase refl
    where
      in_phase : (phase : Phase) → ticket.phase ≡ phase → has_ticket phase ≡ true → claims phase ≡ false → (ticket.done < ticket.claimed) × (ticket.claimed ≤ ticket.n)
      in_phase NoTicket is stands over = absurd (false≢true stands)
      in_phase Claiming is stands over = absurd (false≢true (sym over))
      in_phase Putting is stands over = let below = putting_counts is in let all = fit.all_were_claimed is in (omega arith, omega arith)
      in_phase GivingBack is stands over = let (below, inside) = giving_counts is in (below, omega arith)
      in_phase Viewing is stands over = absurd (false≢true (sym over))
      in_phase Viewed is stands over = let (below, all) = viewed_counts is in (below, omega arith)

-- A standing slot's ticket is fit.
pub standing_fit : (size : ℕ) (ticket : Ticket) → FitSlot size ticket → has_ticket ticket.phase ≡ true → FitTicket size ticket
standing_fit size ticket (inl none) stands = absurd (false≢true (sym (ap has_ticket none) ∙ stands))
standing_fit size ticket (inr fit) stands = fit

-- A phase that claims: the ticket stands, a held word's plain value is the quoted one, and the counts are well made.
pub claims_stand : (phase : Phase) → claims phase ≡ true → has_ticket phase ≡ true
claims_stand NoTicket claiming = absurd (false≢true claiming)
claims_stand Claiming claiming = refl
claims_stand Putting claiming = refl
claims_stand GivingBack claiming = refl
claims_stand Viewing claiming = refl
claims_stand Viewed claiming = refl

pub claims_quoted : (phase : Phase) (target : Target) → claims phase ≡ true → plain_value phase target ≡ target.quoted
claims_quoted NoTicket target claiming = refl
claims_quoted Claiming target claiming = refl
claims_quoted Putting target claiming = absurd (false≢true claiming)
claims_quoted GivingBack target claiming = refl
claims_quoted Viewing target claiming = refl
claims_quoted Viewed target claiming = refl

pub claims_well_made : (phase : Phase) (n claimed done : ℕ) → claims phase ≡ true → claimed < n → counts_well_made phase n claimed done ≡ true
claims_well_made NoTicket n claimed done claiming below = absurd (false≢true claiming)
claims_well_made Claiming n claimed done claiming below = lt-ltb claimed n below
claims_well_made Putting n claimed done claiming below = absurd (false≢true claiming)
claims_well_made GivingBack n claimed done claiming below = absurd (false≢true claiming)
claims_well_made Viewing n claimed done claiming below = lt-ltb claimed n below
claims_well_made Viewed n claimed done claiming below = absurd (false≢true claiming)

-- A fit ticket that goes on with the same targets is fit, by the phase that it goes on in. A view stays a view.
module _ (size : ℕ) (ticket : Ticket) (fit : FitTicket size ticket) (claimed done : ℕ) where
  goes_on_lem : (phase : Phase)
      → counts_well_made phase ticket.n claimed done ≡ true
      → (claims phase ≡ true → done ≡ 0)
      → (phase ≡ Putting → claimed ≡ ticket.n)
      → (is_view phase ≡ true → is_view ticket.phase ≡ true)
      → FitTicket size (advanced ticket phase claimed done)
  goes_on_lem phase counts none_done all_were_claimed was_view = let same = sym (targets_advanced ticket phase claimed done) in record {
    claimable = subst (Claimable size) same fit.claimable;
    counts = counts;
    none_done = none_done;
    all_were_claimed = all_were_claimed;
    names = λ view. subst (λ targets. names_well_made (map (λ one. one.new) targets) (map (λ one. one.word) targets) ≡ true) same (fit.names (was_view view));
    few = λ view. fit.few (was_view view);
    room = λ view. fit.room (was_view view);
  }

  pub fit_claiming : (phase : Phase) → claims phase ≡ true → (is_view phase ≡ true → is_view ticket.phase ≡ true) → claimed < ticket.n → done ≡ 0 → FitTicket size (advanced ticket phase claimed done)
  fit_claiming phase claiming was_view below none_done =
      goes_on_lem phase (claims_well_made phase ticket.n claimed done claiming below) (λ same. none_done) (λ putting. absurd (false≢true (sym (ap claims putting) ∙ claiming))) was_view

  pub fit_putting : done < ticket.n → claimed ≡ ticket.n → FitTicket size (advanced ticket Putting claimed done)
  fit_putting below all_were_claimed =
      goes_on_lem Putting (lt-ltb done ticket.n below) (λ claiming. absurd (false≢true claiming)) (λ same. all_were_claimed) (λ view. absurd (false≢true view))

  pub fit_giving : done < claimed → claimed < ticket.n → FitTicket size (advanced ticket GivingBack claimed done)
  fit_giving below inside =
      goes_on_lem GivingBack (join (ltb done claimed ∷ ltb claimed ticket.n ∷ []) (lt-ltb done claimed below, (lt-ltb claimed ticket.n inside, tt)))
      (λ claiming. absurd (false≢true claiming)) (λ other. let impossible : ◌≡◌ {A = ℕ} 0 1 = cc in omega arith) (λ view. absurd (false≢true view))

  pub fit_viewed : is_view ticket.phase ≡ true → done < claimed → claimed ≡ ticket.n → FitTicket size (advanced ticket Viewed claimed done)
  fit_viewed was_view below all =
      goes_on_lem Viewed (join (ltb done claimed ∷ eqb claimed ticket.n ∷ []) (lt-ltb done claimed below, (eq-eqb claimed ticket.n all, tt)))
      (λ claiming. absurd (false≢true claiming)) (λ other. let impossible : ◌≡◌ {A = ℕ} 0 1 = cc in omega arith) (λ view. was_view)

-- Likewise with one more put or given back, and one left: the phase stays.
pub fit_done : {size : ℕ} (ticket : Ticket) → FitTicket size ticket → claims ticket.phase ≡ false → ticket.done + 1 < ticket.claimed
    → FitTicket size (advanced ticket ticket.phase ticket.claimed (ticket.done + 1))
fit_done {size} ticket fit over below = goes_on_lem size ticket fit ticket.claimed (ticket.done + 1) ticket.phase (counted ticket.phase refl)
    (λ claiming. absurd (false≢true (sym over ∙ claiming))) fit.all_were_claimed (λ view. view)
  where
    counted : (phase : Phase) → ticket.phase ≡ phase → counts_well_made phase ticket.n ticket.claimed (ticket.done + 1) ≡ true
    counted NoTicket is = counts_in ticket fit NoTicket is
    counted Claiming is = counts_in ticket fit Claiming is
    counted Putting is = lt-ltb (ticket.done + 1) ticket.n (omega (arith, fit.all_were_claimed is))
    counted GivingBack is = join (ltb (ticket.done + 1) ticket.claimed ∷ ltb ticket.claimed ticket.n ∷ []) (lt-ltb _ _ below, (lt-ltb _ _ (giving_counts ticket fit is).1, tt))
    counted Viewing is = counts_in ticket fit Viewing is
    counted Viewed is = join (ltb (ticket.done + 1) ticket.claimed ∷ eqb ticket.claimed ticket.n ∷ []) (lt-ltb _ _ below, (eq-eqb _ _ (viewed_counts ticket fit is).1, tt))

-- A finished ticket holds nothing.
pub nothing_held {ℓ} : {A : Type ℓ} {word value : ℕ} → Holds no_ticket word value → A
nothing_held holds = absurd (false≢true holds.stands)

-- Values of targets that can be claimed are no marks, new or quoted.
pub value_fits : {size : ℕ} (ticket : Ticket) → ClaimableAt size ticket → (phase : Phase) (k : ℕ) → k < ticket.n → plain_value phase (target_at ticket k) < 2 ^ 63
value_fits ticket apt NoTicket k below = apt.quoted k below
value_fits ticket apt Claiming k below = apt.quoted k below
value_fits ticket apt Putting k below = apt.new k below
value_fits ticket apt GivingBack k below = apt.quoted k below
value_fits ticket apt Viewing k below = apt.quoted k below
value_fits ticket apt Viewed k below = apt.quoted k below

-- An advanced ticket holds what it has claimed and not done.
pub holds_at : (ticket : Ticket) (phase : Phase) (claimed done k word : ℕ) → has_ticket phase ≡ true → done ≤ k → k < claimed → (target_at ticket k).word ≡ word → HoldsSome (advanced ticket phase claimed done) word
holds_at ticket phase claimed done k word stands not_done below its_word =
    (plain_value phase (target_at ticket k), record { stands = stands; at = k; not_done = not_done; claimed = below; its_word = its_word; its_value = refl })

module _ {words : Words} {tickets : ℕ → Ticket} {plain : ℕ → ℕ} (i : Invariant words tickets plain) (team : ℕ) where
  -- Nothing is taken and nothing is left.
  pub same_held : (new : Ticket) → FitSlot (length words) new → HeldAlike (tickets team) new → Invariant words (with_slot tickets team new) plain
  same_held new fit alike =
      changed i team words plain new refl fit (λ word value holds. i.held team word value (alike.held_before word value holds)) (λ word inside. stays refl refl (alike.held_after word))

  -- A ticket goes on, in a phase in which the plain values are the quoted ones, with all that is claimed held.
  pub holds_on : (phase : Phase) (done : ℕ) → claims (tickets team).phase ≡ true → (tickets team).done ≡ 0 → done ≡ 0 → has_ticket phase ≡ true
      → ((k : ℕ) → plain_value phase (target_at (tickets team) k) ≡ (target_at (tickets team) k).quoted)
      → FitTicket (length words) (advanced (tickets team) phase (tickets team).claimed done)
      → Invariant words (with_slot tickets team (advanced (tickets team) phase (tickets team).claimed done)) plain
  holds_on phase done claiming none_before none_done stands values fit_now = same_held _ (inr fit_now) record {
    held_before = λ word value holds. record {
      stands = claims_stand (tickets team).phase claiming;
      at = holds.at;
      not_done = omega arith;
      claimed = holds.claimed;
      its_word = holds.its_word;
      its_value = claims_quoted (tickets team).phase (target_at (tickets team) holds.at) claiming ∙ sym (values holds.at) ∙ holds.its_value;
    };
    held_after = λ word value holds. holds_at (tickets team) phase (tickets team).claimed done holds.at word stands (omega arith) holds.claimed holds.its_word;
  }

  -- One more word is claimed, which was as quoted. A view has noted before what it quotes then; it holds the same.
  module _ (ticket : Ticket) (fit : FitTicket (length words) ticket) (claiming : claims ticket.phase ≡ true) (alike : HeldAlike (tickets team) ticket)
      (quoted : read_of words (claim_target ticket).word ≡ (claim_target ticket).quoted) where
    apt : ClaimableAt (length words) ticket
    apt = claimable_at (length words) ticket fit.claimable

    below_n : ticket.claimed < ticket.n
    below_n = claims_counts ticket fit claiming

    -- What was claimed before.
    was_held : (k : ℕ) → k < ticket.claimed → HeldWord words plain team (target_at ticket k).word (target_at ticket k).quoted
    was_held k below = i.held team _ _ (alike.held_before _ _ record {
      stands = claims_stand ticket.phase claiming;
      at = k;
      not_done = omega (arith, fit.none_done claiming);
      claimed = below;
      its_word = refl;
      its_value = claims_quoted ticket.phase (target_at ticket k) claiming;
    })

    no_others : (k : ℕ) → k < ticket.claimed + 1 → NoOthers words team (target_at ticket k).word
    no_others k below = elim (ℕ_discrete k ticket.claimed) [
      | yes last ↦ inl (rw last (omega (arith, quoted, apt.quoted ticket.claimed below_n)))
      | no before ↦ inr (was_held k (omega arith)).marked
    ]

    -- All quoted values so far are the plain words.
    pub plain_quoted : (k : ℕ) → k < ticket.claimed + 1 → plain (target_at ticket k).word ≡ (target_at ticket k).quoted
    plain_quoted k below = elim (ℕ_discrete k ticket.claimed) [
      | yes last ↦ rw last (sym (i.free _ (apt.inside _ below_n) (omega (arith, quoted, apt.quoted ticket.claimed below_n))) ∙ quoted)
      | no before ↦ (was_held k (omega arith)).plain_is
    ]

    marked_now : (k : ℕ) → k < ticket.claimed + 1 → read_of (claimed_words words ticket team) (target_at ticket k).word ≡ mark_of team
    marked_now k below = elim (ℕ_discrete k ticket.claimed) [
      | yes last ↦ rw last (get_or-set_same words _ (mark_of team) 0 (apt.inside _ below_n))
      | no before ↦ get_or-set_other words _ _ (mark_of team) 0 (λ same. before (apt.once k ticket.claimed (omega (arith, below_n)) below_n same)) ∙ (was_held k (omega arith)).marked
    ]

    -- The plain words may change where the team holds them, if they become the values that the ticket gives them now.
    pub claim_keeps : (phase : Phase) (done : ℕ) (after : ℕ → ℕ)
        → has_ticket phase ≡ true
        → done ≡ 0
        → FitTicket (length words) (advanced ticket phase (ticket.claimed + 1) done)
        → ((k : ℕ) → k < ticket.claimed + 1 → after (target_at ticket k).word ≡ plain_value phase (target_at ticket k))
        → ((word : ℕ) → ((k : ℕ) × (k < ticket.claimed + 1) × ((target_at ticket k).word ≡ word)) ⊎ (after word ≡ plain word))
        → Invariant (claimed_words words ticket team) (with_slot tickets team (advanced ticket phase (ticket.claimed + 1) done)) after
    claim_keeps phase done after stands none_done fit_now values elsewhere =
        changed i team (claimed_words words ticket team) after new (length-set words _ (mark_of team)) (inr fit_now) mine each
      where
        new : Ticket
        new = advanced ticket phase (ticket.claimed + 1) done

        mine : (word value : ℕ) → Holds new word value → HeldWord (claimed_words words ticket team) after team word value
        mine word value holds =
            let inside_n : holds.at < ticket.n = omega (arith, holds.claimed, below_n) in
            subst₂ (λ word value. HeldWord (claimed_words words ticket team) after team word value) holds.its_word holds.its_value record {
              inside = rw length-set (apt.inside holds.at inside_n);
              marked = marked_now holds.at holds.claimed;
              plain_is = values holds.at holds.claimed;
              a_value = value_fits ticket apt phase holds.at inside_n;
            }

        now : (k word : ℕ) → k < ticket.claimed + 1 → (target_at ticket k).word ≡ word → Becomes words (claimed_words words ticket team) plain after team (tickets team) new word
        now k word below its_word = kept (subst (NoOthers words team) its_word (no_others k below)) (holds_at ticket phase (ticket.claimed + 1) done k word stands (omega arith) below its_word)

        holds_too : (word value : ℕ) → Holds (tickets team) word value → HoldsSome new word
        holds_too word value holds =
            let (plain_value_lem, before) = alike.held_after word value holds in
            holds_at ticket phase (ticket.claimed + 1) done before.at word stands (omega arith) (omega (arith, before.claimed)) before.its_word

        each : (word : ℕ) → word < length words → Becomes words (claimed_words words ticket team) plain after team (tickets team) new word
        each word inside = elim (elsewhere word) [
          | inl one ↦ now one.0 word one.1 one.2
          | inr same ↦ elim (ℕ_discrete word (claim_target ticket).word) [
            | yes it ↦ now ticket.claimed word (omega arith) (sym it)
            | no other ↦ stays (get_or-set_other words (claim_target ticket).word word (mark_of team) 0 other) same (holds_too word)
          ]
        ]

    -- The plain words stay, where the ticket goes on in a phase in which the plain values are the quoted ones.
    pub claim_keeps_plain : (phase : Phase) (done : ℕ)
        → has_ticket phase ≡ true
        → done ≡ 0
        → ((k : ℕ) → plain_value phase (target_at ticket k) ≡ (target_at ticket k).quoted)
        → FitTicket (length words) (advanced ticket phase (ticket.claimed + 1) done)
        → Invariant (claimed_words words ticket team) (with_slot tickets team (advanced ticket phase (ticket.claimed + 1) done)) plain
    claim_keeps_plain phase done stands none_done values fit_now =
        claim_keeps phase done plain stands none_done fit_now (λ k below. plain_quoted k below ∙ sym (values k)) (λ word. inr refl)

  -- One more word is put or given back: it gets its plain value, and is held no more.
  module _ (fit : FitTicket (length words) (tickets team)) (stands : has_ticket (tickets team).phase ≡ true)
      (below : (tickets team).done < (tickets team).claimed) (most : (tickets team).claimed ≤ (tickets team).n) where
    held_done : HeldWord words plain team (done_target (tickets team)).word (plain_value (tickets team).phase (done_target (tickets team)))
    held_done = i.held team _ _ record { stands = stands; at = (tickets team).done; not_done = omega arith; claimed = below; its_word = refl; its_value = refl }

    pub done_marked : read_of words (done_target (tickets team)).word ≡ mark_of team
    done_marked = held_done.marked

    leaves_one : (new : Ticket) → FitSlot (length words) new
        → ((word value : ℕ) → Holds new word value → Holds (tickets team) word value × (word ≢ (done_target (tickets team)).word))
        → ((word value : ℕ) → Holds (tickets team) word value → word ≢ (done_target (tickets team)).word → HoldsSome new word)
        → Invariant (done_words words (tickets team)) (with_slot tickets team new) plain
    leaves_one new fit_now to from = changed i team (done_words words (tickets team)) plain new (length-set words _ _) fit_now mine each
      where
        mine : (word value : ℕ) → Holds new word value → HeldWord (done_words words (tickets team)) plain team word value
        mine word value holds = let (before, other) = to word value holds in let held = i.held team word value before in record {
          inside = rw length-set held.inside;
          marked = get_or-set_other words _ word _ 0 other ∙ held.marked;
          plain_is = held.plain_is;
          a_value = held.a_value;
        }

        each : (word : ℕ) → word < length words → Becomes words (done_words words (tickets team)) plain plain team (tickets team) new word
        each word inside = elim (ℕ_discrete word (done_target (tickets team)).word) [
          | yes it ↦ left (inr (rw it held_done.marked)) (rw it (get_or-set_same words _ _ 0 held_done.inside ∙ sym held_done.plain_is)) (rw it (omega (arith, held_done.plain_is, held_done.a_value)))
          | no other ↦ stays (get_or-set_other words _ word _ 0 other) refl (λ value holds. from word value holds other)
        ]

    -- What is left to be done is elsewhere.
    later : (word value : ℕ) (holds : Holds (tickets team) word value) → word ≢ (done_target (tickets team)).word → (tickets team).done + 1 ≤ holds.at
    later word value holds other = elim (ℕ_discrete (tickets team).done holds.at) [
      | yes same ↦ absurd (other (sym holds.its_word ∙ ap (λ k. (target_at (tickets team) k).word) (sym same)))
      | no differs ↦ omega (arith, holds.not_done)
    ]

    -- There is another.
    pub done_keeps : FitTicket (length words) (advanced (tickets team) (tickets team).phase (tickets team).claimed ((tickets team).done + 1))
        → Invariant (done_words words (tickets team)) (with_slot tickets team (advanced (tickets team) (tickets team).phase (tickets team).claimed ((tickets team).done + 1))) plain
    done_keeps fit_now = leaves_one (advanced (tickets team) (tickets team).phase (tickets team).claimed ((tickets team).done + 1)) (inr fit_now) to from
      where
        to : (word value : ℕ) → Holds (advanced (tickets team) (tickets team).phase (tickets team).claimed ((tickets team).done + 1)) word value → Holds (tickets team) word value × (word ≢ (done_target (tickets team)).word)
        to word value holds = (
          record { stands = stands; at = holds.at; not_done = omega (arith, holds.not_done); claimed = holds.claimed; its_word = holds.its_word; its_value = holds.its_value },
          λ same. let k = (claimable_at (length words) (tickets team) fit.claimable).once holds.at (tickets team).done (omega (arith, holds.claimed)) (omega arith) (holds.its_word ∙ same) in omega (arith, holds.not_done),
        )

        from : (word value : ℕ) → Holds (tickets team) word value → word ≢ (done_target (tickets team)).word → HoldsSome (advanced (tickets team) (tickets team).phase (tickets team).claimed ((tickets team).done + 1)) word
        from word value holds other = holds_at (tickets team) (tickets team).phase (tickets team).claimed ((tickets team).done + 1) holds.at word stands (later word value holds other) holds.claimed holds.its_word

    -- It was the last.
    pub last_keeps : (tickets team).done + 1 ≡ (tickets team).claimed
        → Invariant (done_words words (tickets team)) (with_slot tickets team no_ticket) plain
    last_keeps last = leaves_one no_ticket (inl refl) (λ word value holds. nothing_held holds)
        (λ word value holds other. absurd (omega (arith, later word value holds other, holds.claimed)))
