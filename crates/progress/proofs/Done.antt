-- Request 5: after every list of calls from a fresh book, rounds of steps come to an end.
use Prim.Native.Nat.{ℕ}
use mathlib.Core.Path.{◌≡◌, sym, ap, subst, ◌∙◌}
use mathlib.Core.Bool.{true, false≢true}
use mathlib.Core.List.{List}
use mathlib.Core.Option.{Option, none, some}
use native.Mathlib.Omega.{arith}
use lib.ListN.{length}
use Rattle.words.specs.Tests.{Every}
use Rattle.words.specs.Words.{words_in_book, team_count}
use Rattle.legs.specs.Positions.{Ranks, position_by, Accepted}
use Rattle.tickets.specs.Tickets.{Ticket, ticket_of, targets_in, words_in, has_ticket}
use Rattle.tickets.specs.Invariant.{Invariant}
use Rattle.edits.specs.Ordering.{RisesStrictly}
use Rattle.edits.specs.Views.{view_targets}
use Rattle.edits.proofs.Stored.{stored_targets_rise}
use Rattle.edits.proofs.Views.{view_targets_rise}
use Rattle.plain.specs.Plain.{Plain, fresh_plain}
use Rattle.calls.specs.Run.{Call, Admitted, Shared, fresh, run_from}
use Rattle.calls.specs.Order.{Asked, an_edit, a_view, words_asked, Noted, first_notes, notes_from}
use Rattle.calls.specs.Linearizable.{PlainState, start_of}
use Rattle.calls.specs.Demand3From.{Begins}
use Rattle.calls.proofs.Tied.{Tied, Under, KnownAs}
use Rattle.calls.proofs.Demand3.{fresh_begins, tables_run, good_from}
use Rattle.progress.specs.Rounds.{EveryTicketGetsDone, EveryTicketGetsDoneFrom, AllRise}
use Rattle.progress.proofs.Measure.{rises_alike}
use Rattle.progress.proofs.Ending.{Steady, all_get_done}

-- A ticket claims by rising position under the ranks of its Standing, whatever it was opened for.
rise_as : (start : PlainState) (asked : Asked) (ticket : Ticket) (noted : Noted) → Accepted noted.ranks → words_in ticket ≡ words_asked noted.ranks asked → KnownAs start asked ticket noted
    → RisesStrictly (position_by noted.ranks) (targets_in ticket)
rise_as start (an_edit edit) ticket noted accepted same known =
    subst (RisesStrictly (position_by noted.ranks)) (sym known.targets) (stored_targets_rise noted.ranks accepted edit known.fine.allowed)
rise_as start (a_view words) ticket noted accepted same known =
    rises_alike (position_by noted.ranks) (view_targets noted.ranks words) (targets_in ticket) same (view_targets_rise noted.ranks accepted words known.fine)

-- Those are the ranks in force: a load goes only while no ticket stands. So one position function orders the targets of all.
rise_of : (start : PlainState) (ranks : Ranks) → Accepted ranks → (ticket : Ticket) (note : Option Noted) → Tied start ticket note → Under ranks note → has_ticket ticket.phase ≡ true
    → RisesStrictly (position_by ranks) (targets_in ticket)
rise_of start ranks accepted ticket none absent under stands = absurd (false≢true (sym (ap has_ticket absent) ∙ stands))
rise_of start ranks accepted ticket (some noted) known under stands =
    subst (λ (ranks : Ranks). RisesStrictly (position_by ranks) (targets_in ticket)) under
    (rise_as start noted.asked ticket noted (subst Accepted (sym under) accepted) known.words known.rest)

-- What holds between the calls, whatever the plain words are.
steady_as : (position : ℕ → ℕ) (shared : Shared) {plain : ℕ → ℕ} → length shared.book ≡ words_in_book → length shared.tickets.slots ≡ team_count
    → Invariant shared.book (ticket_of shared.tickets) plain
    → AllRise position (ticket_of shared.tickets)
    → Accepted shared.ranks
    → Steady position shared
steady_as position shared {plain} whole teams agree rise accepted = record { whole = whole; teams = teams; ranked = accepted; going = record { plain = plain; agree = agree; rise = rise } }

run_steady : (begin : Shared) (plain : Plain) → Begins begin plain → (calls : List Call) → Every Admitted calls → Steady (position_by (run_from begin calls).end.ranks) (run_from begin calls).end
run_steady begin plain begins calls bytes =
    let good = good_from begin plain begins calls bytes in
    let shared = (run_from begin calls).end in
    let n = notes_from (first_notes begin.ranks) (run_from begin calls).heard in
    steady_as (position_by shared.ranks) shared good.whole (tables_run calls begin begins.fits).teams good.agree
    (λ team stands. rise_of (start_of plain) shared.ranks good.ranked (ticket_of shared.tickets team) (n.tickets team) (good.tied team)
    (subst (λ (ranks : Ranks). Under ranks (n.tickets team)) (sym good.heard_ranks) (good.under team)) stands)
    good.ranked

-- So every ticket gets done, views included.
pub every_ticket_gets_done_from : EveryTicketGetsDoneFrom
every_ticket_gets_done_from begin plain begins calls bytes rounds goes many =
    all_get_done (position_by (run_from begin calls).end.ranks) (run_from begin calls).end (run_steady begin plain begins calls bytes) rounds goes (omega arith)

pub every_ticket_gets_done : EveryTicketGetsDone
every_ticket_gets_done store = every_ticket_gets_done_from (fresh store) fresh_plain (fresh_begins store)
