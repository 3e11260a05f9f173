-- What was heard of a ticket, tied to the ticket; and that a team holds by what was heard what its ticket holds.
use mathlib.Core.Path.{◌≡◌, refl, sym, ap, subst, ◌∙◌}
use mathlib.Core.Bool.{Bool, true, false, cond, not, true≢false, false≢true}
use mathlib.Core.List.{List, [], ◌∷◌}
use mathlib.Core.Logic.{◌⊎◌, inl, inr}
use mathlib.Core.Option.{Option, none, some}
use Prim.Native.Nat.{ℕ, zero, suc, ◌+◌, ◌≤◌, ◌<◌, min, suc-le-suc, zero-le}
use native.Mathlib.Omega.{arith}
use native.Mathlib.Nat.{le_of_suc-le-suc, not-suc-le-zero}
use native.Mathlib.Decide.{ℕ_discrete, dec_lt}
use lib.Dec.{eqb}
use lib.ListN.{length, get_or, length-map, get_or-map}
use borrow.Author.Tests.{eqb-true, eq-eqb, not-true}
use Rattle.words.specs.Tests.{all_hold, some_holds, occurs}
use Rattle.words.proofs.Tests.{split, join, is_false}
use Rattle.legs.specs.Positions.{Ranks}
use Rattle.tickets.specs.declared.Phase.{Phase}
use Rattle.tickets.specs.declared.Phase.TheVariants.{NoTicket, Claiming, Putting, GivingBack, Viewing, Viewed}
use Rattle.tickets.specs.Tickets.{Ticket, target, target_at, targets_in, words_in, named_in, has_ticket, claims}
use Rattle.tickets.specs.Steps.{most_tries}
use Rattle.tickets.specs.Targets.{target_in, AllMatch}
use Rattle.tickets.specs.Invariant.{plain_value, Holds, FitTicket}
use Rattle.tickets.proofs.TargetLists.{length_targets, target_listed}
use Rattle.tickets.proofs.Keeping.{claims_counts, done_counts}
use Rattle.edits.specs.declared.Edit.{Edit}
use Rattle.edits.specs.Opened.{stored_targets}
use Rattle.edits.specs.Views.{FineView}
use Rattle.edits.proofs.Stored.{targets_counted}
use Rattle.plain.specs.Plain.{word_of}
use Rattle.calls.specs.Order.{Verdict, granted, stale, Event, Asked, an_edit, a_view, words_asked, count_asked, Decision, Noted, holds_target, holds_among, holds_word}
use Rattle.calls.specs.Linearizable.{PlainState, plain_from, DecisionRight, Differed, Undecided}
use Rattle.calls.proofs.Ordered.{Fine}

-- The numbers heard are those from 1 to so many, each once.
pub record UpTo (most : ℕ) (heard : List ℕ) : Type 0 where
  pub many : length heard ≡ most
  pub within : (k : ℕ) → occurs k heard ≡ true → (1 ≤ k) × (k ≤ most)
  pub all : (k : ℕ) → 1 ≤ k → k ≤ most → occurs k heard ≡ true

pub up_to_none : UpTo 0 []
up_to_none = record { many = refl; within = λ k e. absurd (false≢true e); all = λ k least most. absurd (omega arith) }

-- One of two tests holds.
either : (first second : Bool) → some_holds (first ∷ second ∷ []) ≡ true → (first ≡ true) ⊎ (second ≡ true)
unfolding some_holds
either true second e = inl refl
either false true e = inr refl
either false false e = absurd (false≢true e)

first_holds : (first second : Bool) → first ≡ true → some_holds (first ∷ second ∷ []) ≡ true
unfolding some_holds
first_holds first second e = rw e refl

second_holds : (first second : Bool) → second ≡ true → some_holds (first ∷ second ∷ []) ≡ true
unfolding some_holds
second_holds true second e = refl
second_holds false second e = rw e refl

-- A number is the first of a list, or a later one.
one_of : (first later : Bool) → cond first true later ≡ true → (first ≡ true) ⊎ (later ≡ true)
one_of true later e = inl refl
one_of false later e = inr e

later_one : (first later : Bool) → later ≡ true → cond first true later ≡ true
later_one true later e = refl
later_one false later e = e

pub up_to_more : (most : ℕ) (heard : List ℕ) → UpTo most heard → UpTo (most + 1) ((most + 1) ∷ heard)
up_to_more most heard known = record {
  many = omega (arith, known.many);
  within = λ k e. elim (one_of (eqb k (most + 1)) (occurs k heard) e) [
    | inl same ↦ let is : k ≡ most + 1 = eqb-true _ _ same in (omega arith, omega arith)
    | inr before ↦ let bounds = known.within k before in (bounds.0, omega (arith, bounds.1))
  ];
  all = λ k least below. elim (ℕ_discrete k (most + 1)) [
    | yes same ↦ rw (eq-eqb k (most + 1) same) refl
    | no differs ↦ later_one (eqb k (most + 1)) (occurs k heard) (known.all k least (omega arith))
  ];
}

-- Decided exactly once, with this verdict, as the plain book finds.
pub record Decided (start : PlainState) (edit : Edit) (verdict : Verdict) (noted : Noted) : Type 0 where
  pub decision : Decision
  pub once : noted.decisions ≡ decision ∷ []
  pub is : decision.verdict ≡ verdict
  pub right : DecisionRight start edit decision

-- Claiming: not decided; each step was a claim or a wait.
pub record HeardClaiming (ticket : Ticket) (noted : Noted) : Type 0 where
  pub undecided : Undecided noted
  pub swapped : noted.steps ≡ ticket.claimed + noted.waits

-- Putting: decided as granted; each step was a claim, a wait or a put.
pub record HeardPutting (start : PlainState) (edit : Edit) (ticket : Ticket) (noted : Noted) : Type 0 where
  pub decided : Decided start edit granted noted
  pub not_found : noted.found ≡ none
  pub swapped : noted.steps ≡ ticket.claimed + ticket.done + noted.waits

-- Giving back: decided as stale; Found named the word of the next target, which differed.
pub record HeardGivingBack (start : PlainState) (edit : Edit) (ticket : Ticket) (noted : Noted) : Type 0 where
  pub decided : Decided start edit stale noted
  pub found : noted.found ≡ some (target_at ticket ticket.claimed).word
  pub differed : Differed start edit noted decided.decision (target_at ticket ticket.claimed).word

abbrev pub HeardIn : PlainState → Edit → Phase → Ticket → Noted → Type 0
HeardIn start edit NoTicket ticket noted = ⊥
HeardIn start edit Claiming ticket noted = HeardClaiming ticket noted
HeardIn start edit Putting ticket noted = HeardPutting start edit ticket noted
HeardIn start edit GivingBack ticket noted = HeardGivingBack start edit ticket noted
HeardIn start edit Viewing ticket noted = ⊥
HeardIn start edit Viewed ticket noted = ⊥

-- What is known of an edit's ticket.
pub record KnownEdit (start : PlainState) (edit : Edit) (ticket : Ticket) (noted : Noted) : Type 0 where
  pub fine : Fine edit
  pub targets : targets_in ticket ≡ stored_targets noted.ranks edit
  pub phase : HeardIn start edit ticket.phase ticket noted

-- A view that gives back has its place, and the values noted are the plain book's words there.
pub record HeardViewed (start : PlainState) (ticket : Ticket) (noted : Noted) : Type 0 where
  pub before : List Event
  pub placed : noted.place ≡ some before
  pub shows : AllMatch (targets_in ticket) (word_of (plain_from start before))

abbrev pub ViewIn : PlainState → Phase → Ticket → Noted → Type 0
ViewIn start NoTicket ticket noted = ⊥
ViewIn start Claiming ticket noted = ⊥
ViewIn start Putting ticket noted = ⊥
ViewIn start GivingBack ticket noted = ⊥
ViewIn start Viewing ticket noted = noted.place ≡ none
ViewIn start Viewed ticket noted = HeardViewed start ticket noted

-- What is known of a view: it is never decided; each step was a claim, a wait or a return.
pub record KnownView (start : PlainState) (words : List ℕ) (ticket : Ticket) (noted : Noted) : Type 0 where
  pub fine : FineView words
  pub names : named_in ticket ≡ words
  pub undecided : Undecided noted
  pub swapped : noted.steps ≡ ticket.claimed + ticket.done + noted.waits
  pub phase : ViewIn start ticket.phase ticket noted

abbrev pub KnownAs : PlainState → Asked → Ticket → Noted → Type 0
KnownAs start (an_edit edit) ticket noted = KnownEdit start edit ticket noted
KnownAs start (a_view words) ticket noted = KnownView start words ticket noted

-- What is known of a ticket by what was heard of it, of an edit's and of a view, in every phase.
pub record Known (start : PlainState) (ticket : Ticket) (noted : Noted) : Type 0 where
  pub words : words_in ticket ≡ words_asked noted.ranks noted.asked
  pub spent : ticket.tries ≡ min noted.steps most_tries
  pub claimed : UpTo ticket.claimed noted.claimed
  pub released : UpTo ticket.done noted.released
  pub rest : KnownAs start noted.asked ticket noted

-- A team's slot and its note: neither has a ticket, or both have the same.
abbrev pub Tied : PlainState → Ticket → Option Noted → Type 0
Tied start ticket none = ticket.phase ≡ NoTicket
Tied start ticket (some noted) = Known start ticket noted

-- A ticket that is noted was opened under these ranks.
abbrev pub Under : Ranks → Option Noted → Type 0
Under ranks none = Unit {0}
Under ranks (some noted) = noted.ranks ≡ ranks

-- A ticket of which something is known stands.
edit_stands : (start : PlainState) (edit : Edit) (phase : Phase) (ticket : Ticket) (noted : Noted) → HeardIn start edit phase ticket noted → has_ticket phase ≡ true
edit_stands start edit NoTicket ticket noted heard = absurd heard
edit_stands start edit Claiming ticket noted heard = refl
edit_stands start edit Putting ticket noted heard = refl
edit_stands start edit GivingBack ticket noted heard = refl
edit_stands start edit Viewing ticket noted heard = refl
edit_stands start edit Viewed ticket noted heard = refl

view_stands : (start : PlainState) (phase : Phase) (ticket : Ticket) (noted : Noted) → ViewIn start phase ticket noted → has_ticket phase ≡ true
view_stands start NoTicket ticket noted heard = absurd heard
view_stands start Claiming ticket noted heard = refl
view_stands start Putting ticket noted heard = refl
view_stands start GivingBack ticket noted heard = refl
view_stands start Viewing ticket noted heard = refl
view_stands start Viewed ticket noted heard = refl

stands_as : (start : PlainState) (asked : Asked) (ticket : Ticket) (noted : Noted) → KnownAs start asked ticket noted → has_ticket ticket.phase ≡ true
stands_as start (an_edit edit) ticket noted known = edit_stands start edit ticket.phase ticket noted known.phase
stands_as start (a_view words) ticket noted known = view_stands start ticket.phase ticket noted known.phase

-- It has as many targets as were asked for.
count_as : (start : PlainState) (asked : Asked) (ticket : Ticket) (noted : Noted) → KnownAs start asked ticket noted → ticket.n ≡ count_asked asked
count_as start (an_edit edit) ticket noted known = sym (length_targets ticket) ∙ ap length known.targets ∙ (targets_counted noted.ranks edit).1
count_as start (a_view words) ticket noted known = sym (length_targets ticket) ∙ sym (length-map (targets_in ticket) (λ one. one.new)) ∙ ap length known.names

-- No more is claimed than there are targets.
claimed_most : (size : ℕ) (ticket : Ticket) → FitTicket size ticket → has_ticket ticket.phase ≡ true → ticket.claimed ≤ ticket.n
claimed_most size ticket fit stands = if_claims (claims ticket.phase) refl
  where
    if_claims : (test : Bool) → claims ticket.phase ≡ test → ticket.claimed ≤ ticket.n
    if_claims true is = omega (arith, claims_counts ticket fit is)
    if_claims false is = (done_counts ticket fit stands is).1

-- By what was heard a ticket holds a word: some target of it is held, and is that word.
module _ (noted : Noted) (word : ℕ) where
  among_of : (words : List ℕ) (first at : ℕ) → at < length words → get_or words at 0 ≡ word → holds_target noted (first + at) ≡ true → holds_among noted word first words ≡ true
  among_of [] first at below is held = absurd (not-suc-le-zero below)
  among_of (one ∷ words) first zero below is held =
      first_holds _ (holds_among noted word (first + 1) words)
      (join (eqb word one ∷ holds_target noted first ∷ []) (eq-eqb _ _ (sym is), (subst (λ k. holds_target noted k ≡ true) (omega arith) held, tt)))
  among_of (one ∷ words) first (suc at) below is held =
      second_holds _ (holds_among noted word (first + 1) words)
      (among_of words (first + 1) at (le_of_suc-le-suc below) is (subst (λ k. holds_target noted k ≡ true) (omega arith) held))

  of_among : (words : List ℕ) (first : ℕ) → holds_among noted word first words ≡ true
      → (at : ℕ) × (at < length words) × (get_or words at 0 ≡ word) × (holds_target noted (first + at) ≡ true)
  of_among [] first held = absurd (false≢true held)
  of_among (one ∷ words) first held = elim (either (all_hold (eqb word one ∷ holds_target noted first ∷ [])) (holds_among noted word (first + 1) words) held) [
    | inl here ↦ let (same, (holds, u)) = split (eqb word one ∷ holds_target noted first ∷ []) here in
        (0, suc-le-suc zero-le, sym (eqb-true _ _ same), subst (λ k. holds_target noted k ≡ true) (omega arith) holds)
    | inr later ↦ let (at, below, is, holds) = of_among words (first + 1) later in
        (suc at, suc-le-suc below, is, subst (λ k. holds_target noted k ≡ true) (omega arith) holds)
  ]

-- The target after those claimed.
pub known_next : {start : PlainState} {edit : Edit} {ticket : Ticket} {noted : Noted} → Known start ticket noted → KnownEdit start edit ticket noted → ticket.claimed < ticket.n
    → target_at ticket ticket.claimed ≡ target_in (stored_targets noted.ranks edit) (length noted.claimed)
known_next {edit} {ticket} {noted} known of_edit below =
    sym (target_listed ticket ticket.claimed below)
    ∙ ap (λ targets. target_in targets ticket.claimed) of_edit.targets
    ∙ ap (target_in (stored_targets noted.ranks edit)) (sym known.claimed.many)

module _ {start : PlainState} {ticket : Ticket} {noted : Noted} (known : Known start ticket noted) where
  pub known_stands : has_ticket ticket.phase ≡ true
  known_stands = stands_as start noted.asked ticket noted known.rest

  pub known_count : ticket.n ≡ count_asked noted.asked
  known_count = count_as start noted.asked ticket noted known.rest

  -- Its words are those asked for.
  known_many : ticket.n ≡ length (words_asked noted.ranks noted.asked)
  known_many = sym (length_targets ticket) ∙ sym (length-map (targets_in ticket) (λ one. one.word)) ∙ ap length known.words

  known_word : (k : ℕ) → k < ticket.n → (target_at ticket k).word ≡ get_or (words_asked noted.ranks noted.asked) k 0
  known_word k below =
      sym (ap (λ one. one.word) (target_listed ticket k below))
      ∙ sym (get_or-map (λ one. one.word) (targets_in ticket) k (target 0 0 0))
      ∙ ap (λ words. get_or words k 0) known.words

  module _ {size : ℕ} (fit : FitTicket size ticket) (word : ℕ) where
    pub holds_heard : (value : ℕ) → Holds ticket word value → holds_word (some noted) word ≡ true
    holds_heard value holds =
        let most = claimed_most size ticket fit known_stands in
        let below : holds.at < ticket.n = omega (arith, holds.claimed) in
        among_of noted word (words_asked noted.ranks noted.asked) 1 holds.at (omega (arith, known_many))
        (sym (known_word holds.at below) ∙ holds.its_word)
        (join (occurs (1 + holds.at) noted.claimed ∷ not (occurs (1 + holds.at) noted.released) ∷ []) (
          known.claimed.all (1 + holds.at) (omega arith) (omega (arith, holds.claimed)),
          (ap not (is_false (occurs (1 + holds.at) noted.released) (λ e. omega (arith, (known.released.within (1 + holds.at) e).1, holds.not_done))), tt),
        ))

    pub heard_holds : holds_word (some noted) word ≡ true → (value : ℕ) × Holds ticket word value
    heard_holds held =
        let (at, below, is, holds) = of_among noted word (words_asked noted.ranks noted.asked) 1 held in
        let (taken, (kept, u)) = split (occurs (1 + at) noted.claimed ∷ not (occurs (1 + at) noted.released) ∷ []) holds in
        let inside : at < ticket.n = omega (arith, known_many) in (
          plain_value ticket.phase (target_at ticket at),
          record {
            stands = known_stands;
            at = at;
            not_done = not_done at kept;
            claimed = omega (arith, (known.claimed.within (1 + at) taken).1);
            its_word = known_word at inside ∙ is;
            its_value = refl;
          },
        )
      where
        not_done : (at : ℕ) → not (occurs (1 + at) noted.released) ≡ true → ticket.done ≤ at
        not_done at kept = elim (dec_lt at ticket.done) [
          | yes below ↦ absurd (true≢false (sym (known.released.all (1 + at) (omega arith) (omega arith)) ∙ not-true _ kept))
          | no above ↦ omega arith
        ]
