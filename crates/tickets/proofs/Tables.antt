-- The table gathered from the code's: slot by slot, target by target; a slot stored anew, and targets stored behind those of a ticket.
use Prim.Native.Nat.{ℕ, zero, suc, ◌+◌, ◌≤◌, ◌<◌, min}
use mathlib.Core.Path.{◌≡◌, refl, sym, ap, ◌∙◌}
use mathlib.Core.List.{List, [], ◌∷◌, ◌++◌, map}
use native.Mathlib.Omega.{arith}
use native.Mathlib.Decide.{dec_lt}
use native.Mathlib.Nat.{le_of_suc-le-suc, not-suc-le-zero}
use lib.ListN.{length, get_or, set, replicate, take}
use lib.Seq.{ext_get_or}
use Rattle.std.proofs.lemmas.List.{get_or-take, length-take-le}
use Rattle.words.specs.Words.{team_count, most_targets}
use Rattle.tickets.specs.declared.Target.{Target}
use Rattle.tickets.specs.declared.Kind.TheVariants.{Edit}
use Rattle.tickets.specs.declared.Ticket as Slot
use Rattle.tickets.specs.declared.Slot as Kept
use Rattle.tickets.specs.declared.Tickets as Table
use Rattle.tickets.specs.Tickets.{Ticket, no_ticket, fresh_tickets, ticket_of, with_ticket, target, target_at, targets_from, targets_in, padded}
use Rattle.tickets.specs.Table.{no_target, target_standing, opened_slot, word_in, quoted_in, new_in, column, no_slot, absent_slot, standing, targets_of, gathered, ticket_said, table_of, slot_of, NumbersBehindAreFree}
use Rattle.tickets.proofs.TargetLists.{length_targets, target_listed}
use Rattle.tickets.proofs.Gathering.{gathered_stands, gathered_gone}

-- Slots with no ticket say none, whatever targets stand in them.
abbrev unused : List Target → Kept.Slot
unused targets = record { ticket = no_slot; targets = targets }

unused_said : (targets : List Target) → ticket_said (unused targets) ≡ no_ticket
unfolding gathered
unused_said targets = refl

absent_said : ticket_said absent_slot ≡ no_ticket
absent_said = unused_said []

none_from : (rooms : List (List Target)) → map ticket_said (map unused rooms) ≡ replicate (length rooms) no_ticket
none_from [] = refl
none_from (room ∷ rooms) = λ i. unused_said room i ∷ none_from rooms i

pub fresh_table : (rooms : List (List Target)) → length rooms ≡ team_count → table_of record { slots = map unused rooms } ≡ fresh_tickets
fresh_table rooms many = λ i. record { slots = (none_from rooms ∙ ap (λ (n : ℕ). replicate n no_ticket) many) i }

-- A team's ticket in the gathered table is the one that its slot says.
slot_from : (k : ℕ) (slots : List Kept.Slot) → get_or (map ticket_said slots) k no_ticket ≡ ticket_said (get_or slots k absent_slot)
slot_from k [] = sym absent_said
slot_from zero (slot ∷ slots) = refl
slot_from (suc k) (slot ∷ slots) = slot_from k slots

pub slot_gathered : (table : Table.Tickets) (team : ℕ) → ticket_of (table_of table) team ≡ ticket_said (slot_of table team)
slot_gathered table team = slot_from team table.slots

-- A slot stored anew is another ticket for its team.
set_from : (k : ℕ) (slots : List Kept.Slot) (slot : Kept.Slot) → map ticket_said (set slots k slot) ≡ set (map ticket_said slots) k (ticket_said slot)
set_from k [] slot = refl
set_from zero (old ∷ slots) slot = refl
set_from (suc k) (old ∷ slots) slot = ap (λ (l : List Ticket). ticket_said old ∷ l) (set_from k slots slot)

pub slot_stored : (table : Table.Tickets) (team : ℕ) (slot : Kept.Slot) → table_of record { slots = set table.slots team slot } ≡ with_ticket (table_of table) team (ticket_said slot)
slot_stored table team slot = λ i. record { slots = set_from team table.slots slot i }

-- Numbers of targets are read by their places alone.
pub column_same : (number : Target → ℕ) (before after : List Target) (first many : ℕ) → ((k : ℕ) → k < many → number (target_standing after (first + k)) ≡ number (target_standing before (first + k))) → column number after first many ≡ column number before first many
unfolding column
column_same number before after first zero same = refl
column_same number before after first (suc many) same = λ i. here i ∷ column_same number before after (first + 1) many later i
  where
    start : first + 0 ≡ first
    start = omega arith

    here : number (target_standing after first) ≡ number (target_standing before first)
    here = ap (λ (k : ℕ). number (target_standing after k)) (sym start) ∙ same 0 (omega arith) ∙ ap (λ (k : ℕ). number (target_standing before k)) start

    later : (k : ℕ) → k < many → number (target_standing after (first + 1 + k)) ≡ number (target_standing before (first + 1 + k))
    later k below =
        let there : first + (k + 1) ≡ first + 1 + k = omega arith in
        ap (λ (p : ℕ). number (target_standing after p)) (sym there) ∙ same (k + 1) (omega arith) ∙ ap (λ (p : ℕ). number (target_standing before p)) there

pub length_column : (number : Target → ℕ) (targets : List Target) (first many : ℕ) → length (column number targets first many) ≡ many
unfolding column
length_column number targets first zero = refl
length_column number targets first (suc many) = ap suc (length_column number targets (first + 1) many)

in_column : (number : Target → ℕ) (targets : List Target) (first many k : ℕ) (rest : List ℕ) → k < many → get_or (column number targets first many ++ rest) k 0 ≡ number (target_standing targets (first + k))
unfolding column
in_column number targets first zero k rest below = absurd (not-suc-le-zero below)
in_column number targets first (suc many) zero rest below = ap (λ (p : ℕ). number (target_standing targets p)) (omega arith)
in_column number targets first (suc many) (suc k) rest below = in_column number targets (first + 1) many k rest (le_of_suc-le-suc below) ∙ ap (λ (p : ℕ). number (target_standing targets p)) (omega arith)

-- A standing ticket's target k is the one that stands there.
pub target_stands : (targets : List Target) (k : ℕ) (slot : Slot.Ticket) → k < slot.n → k < most_targets → target_at (standing targets slot) k ≡ target_standing targets k
target_stands targets k slot below room = λ i. target (read word_in i) (read quoted_in i) (read new_in i)
  where
    read : (number : Target → ℕ) → get_or (padded (column number targets 0 (min slot.n most_targets))) k 0 ≡ number (target_standing targets k)
    read number = in_column number targets 0 (min slot.n most_targets) k _ (omega arith) ∙ ap (λ (p : ℕ). number (target_standing targets p)) (omega arith)

-- Its targets hang on their number alone, and on no other count.
alike_from : (targets : List Target) (slot : Slot.Ticket) (k many : ℕ) → targets_from k many (standing targets slot) ≡ targets_from k many (targets_of targets slot.n)
alike_from targets slot k zero = refl
alike_from targets slot k (suc many) = ap (λ (l : List Target). target_at (standing targets slot) k ∷ l) (alike_from targets slot (k + 1) many)

pub targets_alike : (targets : List Target) (slot : Slot.Ticket) → targets_in (standing targets slot) ≡ targets_in (targets_of targets slot.n)
targets_alike targets slot = alike_from targets slot 0 slot.n

-- So many targets as they stand are a ticket's.
pub targets_taken : (targets : List Target) (n : ℕ) → n ≤ most_targets → n ≤ length targets → targets_in (targets_of targets n) ≡ take n targets
targets_taken targets n most inside =
    ext_get_or no_target (targets_in (targets_of targets n)) (take n targets) (length_targets (targets_of targets n) ∙ sym (length-take-le n targets inside))
    (λ k below.
    let under : k < n = omega (arith, below, length_targets (targets_of targets n)) in
    target_listed (targets_of targets n) k under
    ∙ target_stands targets k (opened_slot Edit n) under (omega (arith, under, most))
    ∙ sym (get_or-take n targets k no_target under))

-- What is gathered hangs on a standing ticket's targets alone.
standing_same : (before after : List Target) (slot : Slot.Ticket) → ((k : ℕ) → k < slot.n → k < most_targets → target_standing after k ≡ target_standing before k) → standing after slot ≡ standing before slot
standing_same before after slot same = λ i. record {
  words = padded (alike word_in i);
  quoted = padded (alike quoted_in i);
  new = padded (alike new_in i);
  n = slot.n;
  tries = slot.tries;
  claimed = slot.claimed;
  done = slot.done;
  phase = (standing before slot).phase;
}
  where
    alike : (number : Target → ℕ) → column number after 0 (min slot.n most_targets) ≡ column number before 0 (min slot.n most_targets)
    alike number = column_same number before after 0 (min slot.n most_targets) (λ k below.
        let there : k ≡ 0 + k = omega arith in
        ap (λ (p : ℕ). number (target_standing after p)) (sym there) ∙ ap number (same k (omega arith) (omega arith)) ∙ ap (λ (p : ℕ). number (target_standing before p)) there)

pub numbers_behind_are_free : NumbersBehindAreFree
numbers_behind_are_free before after slot same = elim (dec_lt slot.done slot.n) [
  | yes stands ↦ gathered_stands after slot stands ∙ standing_same before after slot (same stands) ∙ sym (gathered_stands before slot stands)
  | no gone ↦ gathered_gone after slot (omega (arith, gone)) ∙ sym (gathered_gone before slot (omega (arith, gone)))
]
