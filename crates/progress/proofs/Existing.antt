-- There is a round for every table: each team with a ticket once, from the highest down.
use Prim.Native.Nat.{ℕ, zero, suc, ◌≤◌, ◌<◌}
use mathlib.Core.Path.{◌≡◌, refl, sym, ap, subst, ◌∙◌}
use mathlib.Core.Bool.{Bool, true, false, cond, false≢true}
use mathlib.Core.List.{List, ◌∷◌, map}
use native.Mathlib.Omega.{arith}
use native.Mathlib.Decide.{ℕ_discrete}
use lib.ListN.{length, replicate}
use borrow.Author.Tests.{eq-eqb, ne_eqb}
use Rattle.words.specs.Tests.{occurs, distinct, Every}
use Rattle.words.specs.Words.{team_count}
use Rattle.tickets.specs.Tickets.{Tickets, ticket_of, has_ticket}
use Rattle.frames.specs.Answers.{longest_answer}
use Rattle.calls.specs.Run.{Shared, run}
use Rattle.calls.specs.Demand1.{TableFits}
use Rattle.calls.proofs.Tables.{standing_inside}
use Rattle.calls.proofs.Demand3.{tables_run, run_table}
use Rattle.progress.specs.Rounds.{Turn, step_call, teams_in, Stands, turns_below, after_round, RoundsFrom, rounds_on, ThereIsARound, ThereAreRounds}

module _ (table : Tickets) where
  -- Such turns of the teams below n.
  record Below (n : ℕ) (turns : List Turn) : Type 0 where
    standing : Every (λ turn. Stands table turn.team) turns
    roomy : Every (λ turn. longest_answer ≤ length turn.out) turns
    once : distinct (teams_in turns) ≡ true
    none_above : (team : ℕ) → n ≤ team → occurs team (teams_in turns) ≡ false
    all : (team : ℕ) → team < n → Stands table team → occurs team (teams_in turns) ≡ true

  -- One team more, with a ticket or without one.
  one_more : (n : ℕ) (turns : List Turn) (has : Bool) → has_ticket (ticket_of table n).phase ≡ has → Below n turns
      → Below (suc n) (cond has (record { team = n; out = replicate longest_answer 0 } ∷ turns) turns)
  unfolding distinct
  one_more n turns true is below = record {
    standing = (is, below.standing);
    roomy = (omega arith, below.roomy);
    once = ap (λ again. cond again false (distinct (teams_in turns))) (below.none_above n (omega arith)) ∙ below.once;
    none_above = λ team above. ap (λ first. cond first true (occurs team (teams_in turns))) (ne_eqb team n (λ same. omega arith)) ∙ below.none_above team (omega arith);
    all = λ team inside stands. elim (ℕ_discrete team n) [
      | yes same ↦ ap (λ first. cond first true (occurs team (teams_in turns))) (eq-eqb team n same)
      | no differs ↦ ap (λ first. cond first true (occurs team (teams_in turns))) (ne_eqb team n differs) ∙ below.all team (omega arith) stands
    ];
  }
  one_more n turns false is below = record {
    standing = below.standing;
    roomy = below.roomy;
    once = below.once;
    none_above = λ team above. below.none_above team (omega arith);
    all = λ team inside stands. elim (ℕ_discrete team n) [
      | yes same ↦ absurd (false≢true (sym is ∙ subst (Stands table) same stands))
      | no differs ↦ below.all team (omega arith) stands
    ];
  }

  turns_below_lem : (n : ℕ) → Below n (turns_below n table)
  unfolding turns_below distinct
  turns_below_lem zero = record { standing = tt; roomy = tt; once = refl; none_above = λ team above. refl; all = λ team inside stands. absurd (omega arith) }
  turns_below_lem (suc n) = one_more n (turns_below n table) (has_ticket (ticket_of table n).phase) refl (turns_below_lem n)

pub there_is_a_round : ThereIsARound
there_is_a_round table teams =
    let below = turns_below_lem table team_count in
    record {
      standing = below.standing;
      roomy = below.roomy;
      once = below.once;
      all = λ team stands. below.all team (standing_inside table teams team stands) stands;
    }

-- A round leaves a table, so that there is another one after it.
rounds_on_lem : (many : ℕ) (shared : Shared) → TableFits shared.tickets → (length (rounds_on many shared) ≡ many) × RoundsFrom shared (rounds_on many shared)
unfolding rounds_on
rounds_on_lem zero shared table = (refl, tt)
rounds_on_lem (suc many) shared table =
    let round = turns_below team_count shared.tickets in
    let later = rounds_on_lem many (after_round shared round) (tables_run (map step_call round) shared table) in
    (ap suc later.0, (there_is_a_round shared.tickets table.teams, later.1))

pub there_are_rounds : ThereAreRounds
there_are_rounds store calls many = rounds_on_lem many (run store calls).end (run_table store calls)
