-- The code's tables fit, and a call leaves a table so: sixteen slots, and tries of 32 bits.
use Prim.Native.Nat.{ℕ, suc, ◌+◌, ◌≤◌, ◌<◌}
use mathlib.Core.Path.{◌≡◌, refl, subst, sym, ◌∙◌, ap}
use mathlib.Core.Bool.{Bool, true, false, cond, false≢true}
use mathlib.Core.List.{List, [], ◌∷◌}
use mathlib.Core.Option.{Option, none, some}
use native.Mathlib.Decide.{ℕ_discrete, dec_lt}
use native.Mathlib.Omega.{arith}
use lib.ListN.{length, length-map, length-set, get_or-eq_default}
use lib.Seq.{get_or-set_same, get_or-set_other}
use borrow.Author.Tests.{lt-ltb, le-ltb, not-false}
use Rattle.words.specs.Words.{Words, most_targets, team_count}
use Rattle.tickets.specs.Tickets.{Ticket, Tickets, no_ticket, ticket_of, with_ticket, has_ticket}
use Rattle.tickets.specs.declared.StepAnswer.{StepAnswer}
use Rattle.tickets.specs.declared.StepAnswer.TheVariants.{Claimed, Waiting, Found, Put, Returned, Granted, Stale, Seen}
use Rattle.tickets.specs.Steps.{most_tries, one_more_try, step_of}
use Rattle.tickets.specs.declared.Slot as Kept
use Rattle.tickets.specs.Table.{stands_in, standing, gathered, ticket_said, slot_of}
use Rattle.tickets.specs.Invariant.{TriesTold}
use Rattle.tickets.proofs.Tables.{slot_gathered}
use Rattle.tickets.proofs.Tries.{tries_counted}
use Rattle.edits.specs.declared.Edit.{Edit}
use Rattle.edits.specs.Opened.{target_count, opened_ticket}
use Rattle.edits.specs.Ordering.{listed_count}
use Rattle.edits.specs.Views.{opened_view}
use Rattle.edits.proofs.Stored.{targets_counted, one_most}
use Rattle.legs.specs.Positions.{Ranks}
use Rattle.frames.specs.Request.{Request, Open, Step, Look, View}
use Rattle.frames.specs.Requests.{request_in}
use Rattle.calls.specs.Call.{step_without_ticket, refusal_of, request_done, refused_or, done_of, call_of}
use Rattle.calls.specs.Demand1.{TableFits, CodeTablesFit, TablesStay}
use Rattle.calls.proofs.Refusing.{passed}

-- Tries stay in 32 bits.
pub one_more_fits : (tries : ℕ) → tries ≤ most_tries → one_more_try tries ≤ most_tries
one_more_fits tries fits = elim (dec_lt tries most_tries) [
  | yes below ↦ rw (lt-ltb tries most_tries below) (omega arith)
  | no stopped ↦ rw (le-ltb tries most_tries (omega arith)) fits
]

-- A slot whose tries fit.
abbrev Fits : Ticket → Type 0
Fits ticket = ticket.tries ≤ most_tries

none_fits : Fits no_ticket
none_fits = omega arith

-- A step leaves a slot so: a finished ticket is gone, and another has one try more.
told_fits : (tries : ℕ) (answer : StepAnswer) (after : Ticket) → tries ≤ most_tries → TriesTold tries answer after → Fits after
told_fits tries (Claimed k) after fits told = omega (arith, told.1)
told_fits tries (Waiting word team) after fits told = omega (arith, told.1)
told_fits tries (Found word) after fits told = omega (arith, told.1)
told_fits tries (Put k) after fits told = omega (arith, told.1)
told_fits tries (Returned k) after fits told = omega (arith, told.1)
told_fits tries (Granted told_tries) after fits told = subst Fits (sym told.0) none_fits
told_fits tries (Stale word told_tries) after fits told = subst Fits (sym told.0) none_fits
told_fits tries (Seen values) after fits told = subst Fits (sym told) none_fits

step_fits : (words : Words) (ticket : Ticket) (team : ℕ) → has_ticket ticket.phase ≡ true → Fits ticket → Fits (step_of words ticket team).0.ticket
step_fits words ticket team stands fits =
    told_fits (one_more_try ticket.tries) (step_of words ticket team).0.answer (step_of words ticket team).0.ticket (one_more_fits ticket.tries fits) (tries_counted words ticket team stands)

-- No edit has more targets than a ticket has room for.
listed_most : (edit : Edit) → listed_count edit ≤ most_targets
listed_most (Edit.Add e) = omega (arith, one_most e.newest)
listed_most (Edit.Correct e) = omega arith
listed_most (Edit.Strike e) = omega (arith, one_most e.older)
listed_most (Edit.Move e) = omega (arith, one_most e.older, one_most e.into_newest)

pub count_most : (edit : Edit) → target_count edit ≤ most_targets
count_most edit = let (counted, stored) = targets_counted [] edit in omega (arith, listed_most edit)

-- A team with a ticket is one of the sixteen.
pub standing_inside : (table : Tickets) → length table.slots ≡ team_count → (team : ℕ) → has_ticket (ticket_of table team).phase ≡ true → team < team_count
standing_inside table teams team stands = elim (dec_lt team team_count) [
  | yes inside ↦ inside
  | no outside ↦ absurd (false≢true (sym (ap (λ (ticket : Ticket). has_ticket ticket.phase) (get_or-eq_default table.slots no_ticket {n = team} (omega arith))) ∙ stands))
]

-- A slot of the code's says a ticket with its tries, or none.
said_fits : (slot : Kept.Slot) → slot.ticket.tries ≤ most_tries → Fits (ticket_said slot)
unfolding gathered
said_fits slot fits = by (stands_in slot.ticket)
  where
    by : (stands : Bool) → Fits (cond stands (standing slot.targets slot.ticket) no_ticket)
    by true = fits
    by false = none_fits

pub code_tables_fit : CodeTablesFit
code_tables_fit table teams tries = record {
  teams = length-map table.slots ticket_said ∙ teams;
  tries = λ team inside. subst Fits (sym (slot_gathered table team)) (said_fits (slot_of table team) (tries team inside));
}

-- Another ticket in one slot.
with_fits : (tickets : Tickets) (team : ℕ) (ticket : Ticket) → TableFits tickets → (team < team_count → Fits ticket) → TableFits (with_ticket tickets team ticket)
with_fits tickets team ticket fits mine = record {
  teams = length-set tickets.slots team ticket ∙ fits.teams;
  tries = λ other inside. elim (ℕ_discrete other team) [
    | yes same ↦
        let here : team < team_count = omega arith in
        subst (λ at. Fits (ticket_of (with_ticket tickets team ticket) at)) (sym same)
        (subst Fits (sym (get_or-set_same tickets.slots team ticket no_ticket (omega (arith, fits.teams)))) (mine here))
    | no differs ↦ subst Fits (sym (get_or-set_other tickets.slots team other ticket no_ticket differs)) (fits.tries other inside)
  ];
}

request_stays : (words : Words) (tickets : Tickets) (ranks : Ranks) (request : Request) → TableFits tickets → step_without_ticket tickets request ≡ false → TableFits (request_done words tickets ranks request).tickets
unfolding request_done opened_ticket opened_view
request_stays words tickets ranks (Open team edit) fits allowed = with_fits tickets team (opened_ticket ranks edit) fits (λ inside. none_fits)
request_stays words tickets ranks (Step team) fits allowed =
    with_fits tickets team (step_of words (ticket_of tickets team) team).0.ticket fits
    (λ inside. step_fits words (ticket_of tickets team) team (not-false _ allowed) (fits.tries team inside))
request_stays words tickets ranks (Look word) fits allowed = fits
request_stays words tickets ranks (View team n named) fits allowed = with_fits tickets team (opened_view ranks named) fits (λ inside. none_fits)

done_stays : (refusal : Option ℕ) (words : Words) (tickets : Tickets) (ranks : Ranks) (request : Request) → TableFits tickets → (refusal ≡ none → step_without_ticket tickets request ≡ false) → TableFits (refused_or refusal words tickets ranks request).tickets
done_stays none words tickets ranks request fits allowed = request_stays words tickets ranks request fits (allowed refl)
done_stays (some number) words tickets ranks request fits allowed = fits

pub tables_stay : TablesStay
unfolding call_of done_of
tables_stay words tickets ranks frame out fits =
    done_stays (refusal_of words tickets ranks frame out) words tickets ranks (request_in frame) fits (λ none_given. (passed words tickets ranks frame out none_given).step_allowed)
