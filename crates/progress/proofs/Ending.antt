-- A round in which a ticket stands leaves fewer swaps, and so rounds come to an end.
use Prim.Native.Nat.{ℕ, ◌*◌, ◌≤◌, ◌<◌}
use mathlib.Core.Path.{◌≡◌, refl, sym, ap, subst, subst₂, ◌∙◌}
use mathlib.Core.Bool.{Bool, true, false, cond, true≢false, false≢true}
use mathlib.Core.List.{List, [], ◌∷◌}
use mathlib.Core.Logic.{◌≢◌, ◌⊎◌, inl, inr}
use native.Mathlib.Omega.{arith}
use native.Mathlib.Decide.{ℕ_discrete}
use lib.ListN.{length, length-set}
use borrow.Author.Tests.{eq-eqb, ne_eqb}
use Rattle.words.specs.Tests.{occurs, distinct, Every}
use Rattle.words.specs.Words.{words_in_book, team_count}
use Rattle.words.proofs.Tests.{is_false}
use Rattle.legs.specs.Positions.{Accepted}
use Rattle.tickets.specs.Tickets.{Ticket, ticket_of, with_ticket, has_ticket}
use Rattle.tickets.specs.Steps.{step_of}
use Rattle.tickets.specs.Invariant.{with_slot, FitSlot}
use Rattle.tickets.proofs.Keeping.{standing_fit}
use Rattle.tickets.proofs.Slots.{slot_other, table_slots}
use Rattle.tickets.proofs.Stepping.{length_kept}
use Rattle.tickets.proofs.WellMade.{fit_well_made}
use Rattle.frames.specs.Answers.{longest_answer}
use Rattle.calls.specs.Run.{Shared, onward, left_by, run_from}
use Rattle.calls.proofs.Tables.{standing_inside}
use Rattle.progress.specs.Rounds.{Turn, step_call, teams_in, Stands, RoundFor, after_round, after_rounds, RoundsFrom, targets_standing, NoneStands, Waits}
use Rattle.progress.proofs.Chain.{not_all_wait}
use Rattle.progress.proofs.Measure.{swaps_some, Going, Moves, nearer, waited, Goes, step_goes}
use Rattle.progress.proofs.Totals.{total, total_with, total_none, total_most, no_ticket_no_round}
use Rattle.progress.proofs.Turning.{left_by_step}

-- What holds for each of a list, carried over with what else holds for each.
every_also : {A : Type 0} (P Q R : A → Type 0) → ((one : A) → P one → Q one → R one) → (all : List A) → Every P all → Every Q all → Every R all
every_also P Q R both [] p q = tt
every_also P Q R both (one ∷ all) p q = (both one p.0 q.0, every_also P Q R both all p.1 q.1)

-- What holds for each team of a round holds for a team that is in it.
every_team : (P : ℕ → Type 0) (turns : List Turn) (team : ℕ) → Every (λ turn. P turn.team) turns → occurs team (teams_in turns) ≡ true → P team
every_team P [] team all in_it = absurd (false≢true in_it)
every_team P (turn ∷ turns) team all in_it = elim (ℕ_discrete team turn.team) [
  | yes same ↦ subst P (sym same) all.0
  | no differs ↦ every_team P turns team all.1 (subst (λ first. cond first true (occurs team (teams_in turns)) ≡ true) (ne_eqb team turn.team differs) in_it)
]

-- Each later team of a round is another one.
others : (team : ℕ) (turns : List Turn) → occurs team (teams_in turns) ≡ false → Every (λ turn. turn.team ≢ team) turns
others team [] none = tt
others team (turn ∷ turns) none = elim (ℕ_discrete team turn.team) [
  | yes same ↦ absurd (true≢false (subst (λ first. cond first true (occurs team (teams_in turns)) ≡ false) (eq-eqb team turn.team same) none))
  | no differs ↦ (λ same. differs (sym same), others team turns (subst (λ first. cond first true (occurs team (teams_in turns)) ≡ false) (ne_eqb team turn.team differs) none))
]

-- The first team of a round is none of the later ones, and no later one comes twice.
first_once : (team : ℕ) (teams : List ℕ) → distinct (team ∷ teams) ≡ true → (occurs team teams ≡ false) × (distinct teams ≡ true)
unfolding distinct
first_once team teams once = by (occurs team teams) refl once
  where
    by : (twice : Bool) → occurs team teams ≡ twice → cond twice false (distinct teams) ≡ true → (occurs team teams ≡ false) × (distinct teams ≡ true)
    by true is once = absurd (false≢true once)
    by false is once = (is, once)

module _ (position : ℕ → ℕ) where
  -- What holds between the calls: the book and the table are whole, the ranks accepted, and the tickets go on.
  pub record Steady (shared : Shared) : Type 0 where
    pub whole : length shared.book ≡ words_in_book
    pub teams : length shared.tickets.slots ≡ team_count
    pub ranked : Accepted shared.ranks
    pub going : Going position shared.book (ticket_of shared.tickets)

  -- All the swaps left.
  abbrev pub left_of : Shared → ℕ
  left_of shared = total team_count (ticket_of shared.tickets)

  -- A turn: fewer swaps are left; or its ticket waited, the words stay and so do the others' tickets.
  pub record TurnTaken (shared : Shared) (team : ℕ) (after : Shared) : Type 0 where
    pub steady : Steady after
    pub others_stay : (other : ℕ) → other ≢ team → ticket_of after.tickets other ≡ ticket_of shared.tickets other
    pub moves : (left_of after < left_of shared) ⊎ (Waits shared.book (ticket_of shared.tickets team) × (after.book ≡ shared.book) × (left_of after ≡ left_of shared))

  -- The turn of a team with a ticket.
  module _ (shared : Shared) (steady : Steady shared) (turn : Turn) (stands : Stands shared.tickets turn.team) where
    abbrev team : ℕ
    team = turn.team

    abbrev tickets : ℕ → Ticket
    tickets = ticket_of shared.tickets

    abbrev after : Ticket
    after = (step_of shared.book (tickets team) team).0.ticket

    inside : team < team_count
    inside = standing_inside shared.tickets steady.teams team stands

    slots : ticket_of (with_ticket shared.tickets team after) ≡ with_slot tickets team after
    slots = table_slots shared.tickets team after (omega (arith, steady.teams, inside))

    goes : Goes position shared.book tickets team after
    goes = step_goes position shared.book tickets team steady.going stands

    moved : Moves position shared.book tickets team after
        → (left_of (onward shared (step_of shared.book (tickets team) team).1 (with_ticket shared.tickets team after)) < left_of shared)
        ⊎ (Waits shared.book (tickets team) × ((step_of shared.book (tickets team) team).1 ≡ shared.book)
        × (left_of (onward shared (step_of shared.book (tickets team) team).1 (with_ticket shared.tickets team after)) ≡ left_of shared))
    moved (nearer less) = inl (omega (arith, ap (total team_count) slots, total_with tickets team after team_count inside))
    moved (waited waits same as_many) = inr (waits, same, omega (arith, ap (total team_count) slots, total_with tickets team after team_count inside))

    step_taken : TurnTaken shared team (onward shared (step_of shared.book (tickets team) team).1 (with_ticket shared.tickets team after))
    step_taken = record {
      steady = record {
        whole = length_kept shared.book (tickets team) team ∙ steady.whole;
        teams = length-set shared.tickets.slots team after ∙ steady.teams;
        ranked = steady.ranked;
        going = subst (Going position (step_of shared.book (tickets team) team).1) (sym slots) goes.going;
      };
      others_stay = λ other differs. ap (λ slots. slots other) slots ∙ slot_other tickets team other after differs;
      moves = moved goes.moves;
    }

    pub turn_taken : longest_answer ≤ length turn.out → TurnTaken shared team (left_by shared (step_call turn))
    turn_taken room =
        let well = fit_well_made (tickets team) (subst (λ size. FitSlot size (tickets team)) steady.whole (steady.going.agree.fit team)) stands in
        subst (TurnTaken shared team) (sym (left_by_step shared turn steady.whole steady.ranked inside stands well room)) step_taken

  -- A round: fewer swaps are left; or each of its tickets waits at its beginning.
  pub record RoundTaken (shared : Shared) (turns : List Turn) (after : Shared) : Type 0 where
    pub steady : Steady after
    pub most : left_of after ≤ left_of shared
    pub moves : (left_of after < left_of shared) ⊎ Every (λ turn. Waits shared.book (ticket_of shared.tickets turn.team)) turns

  -- A turn, and the rest of its round.
  module _ (shared between after : Shared) (turn : Turn) (turns : List Turn) (taken : TurnTaken shared turn.team between) (rest : RoundTaken between turns after)
      (differ : Every (λ later. later.team ≢ turn.team) turns) where
    turn_and_rest : RoundTaken shared (turn ∷ turns) after
    turn_and_rest = by taken.moves rest.moves
      where
        taken_as : left_of after ≤ left_of shared → (left_of after < left_of shared) ⊎ Every (λ turn. Waits shared.book (ticket_of shared.tickets turn.team)) (turn ∷ turns)
            → RoundTaken shared (turn ∷ turns) after
        taken_as most moves = record { steady = rest.steady; most = most; moves = moves }

        by : (left_of between < left_of shared) ⊎ (Waits shared.book (ticket_of shared.tickets turn.team) × (between.book ≡ shared.book) × (left_of between ≡ left_of shared))
            → (left_of after < left_of between) ⊎ Every (λ turn. Waits between.book (ticket_of between.tickets turn.team)) turns
            → RoundTaken shared (turn ∷ turns) after
        by (inl less) later = let most = rest.most in taken_as (omega arith) (inl (omega arith))
        by (inr (waits, same, as_many)) (inl less) = taken_as (omega arith) (inl (omega arith))
        by (inr (waits, same, as_many)) (inr all) =
            let wait = every_also _ _ (λ one. Waits shared.book (ticket_of shared.tickets one.team)) (λ one waits differs. subst₂ Waits same (taken.others_stay one.team differs) waits) turns all differ in
            let most = rest.most in
            taken_as (omega arith) (inr (waits, wait))

  -- A round, turn by turn.
  round_taken : (turns : List Turn) (shared : Shared) → Steady shared
      → Every (λ turn. Stands shared.tickets turn.team) turns
      → Every (λ turn. longest_answer ≤ length turn.out) turns
      → distinct (teams_in turns) ≡ true
      → RoundTaken shared turns (after_round shared turns)
  unfolding run_from
  round_taken [] shared steady standing roomy once = record { steady = steady; most = omega arith; moves = inr tt }
  round_taken (turn ∷ turns) shared steady standing roomy once =
      let between = left_by shared (step_call turn) in
      let taken = turn_taken shared steady turn standing.0 roomy.0 in
      let (none, later_once) = first_once turn.team (teams_in turns) once in
      let differ = others turn.team turns none in
      let still = every_also _ _ (λ one. Stands between.tickets one.team) (λ one stands differs. subst (λ ticket. has_ticket ticket.phase ≡ true) (sym (taken.others_stay one.team differs)) stands) turns standing.1 differ in
      turn_and_rest shared between (after_round between turns) turn turns taken (round_taken turns between taken.steady still roomy.1 later_once) differ

  -- So a round leaves fewer, unless none is left.
  round_fewer : (turns : List Turn) (shared : Shared) → Steady shared → RoundFor shared.tickets turns → (left_of (after_round shared turns) < left_of shared) ⊎ (left_of shared ≡ 0)
  round_fewer [] shared steady round =
      let none = no_ticket_no_round shared.tickets (λ team. is_false (has_ticket (ticket_of shared.tickets team).phase) (λ stands. false≢true (round.all team stands))) in
      inr (omega (arith, total_most (length shared.book) shared.tickets steady.going.agree.fit team_count))
  round_fewer (turn ∷ turns) shared steady round = elim (round_taken (turn ∷ turns) shared steady round.standing round.roomy round.once).moves [
    | inl less ↦ inl less
    | inr all ↦
        let tickets = ticket_of shared.tickets in
        absurd (not_all_wait position shared.book tickets steady.going.plain turn.team steady.going.agree steady.going.rise round.standing.0
        (λ other stands. every_team (λ team. Waits shared.book (tickets team)) (turn ∷ turns) other all (round.all other stands)))
  ]

  -- Where no swap is left no ticket stands, and so rounds come to an end.
  none_left : (shared : Shared) → Steady shared → left_of shared ≡ 0 → NoneStands shared.tickets
  none_left shared steady none team = is_false (has_ticket (ticket_of shared.tickets team).phase) (λ stands.
      let ticket = ticket_of shared.tickets team in
      let gone = total_none team_count (ticket_of shared.tickets) team none (standing_inside shared.tickets steady.teams team stands) in
      omega (arith, swaps_some ticket (standing_fit (length shared.book) ticket (steady.going.agree.fit team) stands) stands))

  rounds_end : (rounds : List (List Turn)) (shared : Shared) → Steady shared → RoundsFrom shared rounds → left_of shared ≤ length rounds → NoneStands (after_rounds shared rounds).tickets
  rounds_end [] shared steady goes most = none_left shared steady (omega arith)
  rounds_end (round ∷ rounds) shared steady goes most =
      let taken = round_taken round shared steady goes.0.standing goes.0.roomy goes.0.once in
      rounds_end rounds (after_round shared round) taken.steady goes.1 (elim (round_fewer round shared steady goes.0) [
        | inl less ↦ omega arith
        | inr none ↦ omega (arith, taken.most)
      ])

  -- From every steady state, twice as many rounds as there are targets are enough.
  pub all_get_done : (shared : Shared) → Steady shared → (rounds : List (List Turn)) → RoundsFrom shared rounds → 2 * targets_standing shared.tickets ≤ length rounds
      → NoneStands (after_rounds shared rounds).tickets
  all_get_done shared steady rounds goes many =
      rounds_end rounds shared steady goes (omega (arith, total_most (length shared.book) shared.tickets steady.going.agree.fit team_count))
