-- The values that a view shows, as they are read from the table: target by target, and name by name.
use Prim.Native.Nat.{ℕ, zero, suc, ◌+◌, ◌≤◌, ◌<◌}
use mathlib.Core.Path.{◌≡◌, refl, sym, ap, ◌∙◌}
use mathlib.Core.List.{List, [], ◌∷◌, map}
use native.Mathlib.Omega.{arith}
use borrow.Author.Tests.{eq-eqb, ne_eqb}
use lib.Dec.{eqb}
use native.Mathlib.Decide.{ℕ_discrete, dec_lt}
use native.Mathlib.Nat.{not-suc-le-zero}
use lib.ListN.{length, get_or, set, replicate, take, length-set, length-replicate}
use lib.Seq.{get_or-set_same, get_or-set_other}
use Rattle.std.specs.Option.{option_map_or}
use Rattle.std.specs.List.{find}
use Rattle.words.specs.Words.{most_targets, most_named}
use Rattle.tickets.specs.declared.Target.{Target}
use Rattle.tickets.specs.declared.Values.{Values}
use Rattle.tickets.specs.declared.Ticket as Slot
use Rattle.tickets.specs.Tickets.{Ticket, target_at}
use Rattle.tickets.specs.Steps.{value_noted, values_named, value_named, values_from, values_seen}
use Rattle.tickets.proofs.TargetLists.{target_listed}
use Rattle.tickets.proofs.Room.{in_room_by}
use Rattle.tickets.specs.Table.{no_target, quoted_in, standing, targets_of}
use Rattle.tickets.proofs.Tables.{targets_alike, targets_taken}
use Rattle.tickets.proofs.Passing.{shown_value, no_value_shown}

-- The value noted for a word, as the library finds it.
pub noted_found : (targets : List Target) (word : ℕ) → option_map_or quoted_in (find (λ target. eqb target.word word) targets) 0 ≡ value_noted targets word
unfolding value_noted
noted_found [] word = refl
noted_found (one ∷ later) word = elim (ℕ_discrete word one.word) [
  | yes same ↦ rw (eq-eqb word one.word same, eq-eqb one.word word (sym same)) refl
  | no other ↦ rw (ne_eqb word one.word other, ne_eqb one.word word (λ same. other (sym same))) (noted_found later word)
]

-- The k-th value shown is the one noted for the k-th name.
pub shown_read : (targets : List Target) (n k : ℕ) → k < n → n ≤ most_targets → n ≤ length targets → (value : ℕ) → value ≡ value_noted (take n targets) (get_or (take n targets) k no_target).new → value ≡ value_named (targets_of targets n) k
shown_read targets n k below most room value noted =
    noted
    ∙ (λ i. value_noted (sym (targets_taken targets n most room) i) (sym there i).new)
    ∙ sym (shown_value (targets_of targets n) k below)
  where
    there : target_at (targets_of targets n) k ≡ get_or (take n targets) k no_target
    there = sym (target_listed (targets_of targets n) k below) ∙ ap (λ l. get_or l k no_target) (targets_taken targets n most room)

-- The first k values are there, zeros behind them.
pub record ShownTo (values : List ℕ) (ticket : Ticket) (k : ℕ) : Type 0 where
  pub long : length values ≡ most_named
  pub shown : (j : ℕ) → j < k → get_or values j 0 ≡ value_named ticket j
  pub rest : (j : ℕ) → k ≤ j → get_or values j 0 ≡ 0

zeros : (n j : ℕ) → ◌≡◌ {A = ℕ} (get_or (replicate n 0) j 0) 0
zeros zero j = refl
zeros (suc n) zero = refl
zeros (suc n) (suc j) = zeros n j

pub shown_none : (ticket : Ticket) → ShownTo (replicate most_named 0) ticket 0
shown_none ticket = record { long = length-replicate {A = ℕ} most_named 0; shown = λ j below. absurd (not-suc-le-zero below); rest = λ j behind. zeros most_named j }

pub shown_next : (values : List ℕ) (ticket : Ticket) (k value : ℕ) → ShownTo values ticket k → k < most_named → value ≡ value_named ticket k → ShownTo (set values k value) ticket (k + 1)
shown_next values ticket k value so_far room is = record {
  long = length-set values k value ∙ so_far.long;
  shown = λ j below. elim (ℕ_discrete j k) [
    | yes here ↦
        ap (λ (i : ℕ). get_or (set values k value) i 0) here
        ∙ get_or-set_same values k value 0 (omega (arith, room, so_far.long))
        ∙ is
        ∙ ap (value_named ticket) (sym here)
    | no other ↦ get_or-set_other values k j value 0 other ∙ so_far.shown j (omega (arith, below, other))
  ];
  rest = λ j behind. get_or-set_other values k j value 0 (λ same. omega (arith, same, behind)) ∙ so_far.rest j (omega (arith, behind));
}

shown_all : (values : List ℕ) (ticket : Ticket) (k : ℕ) → ShownTo values ticket k → ticket.n ≤ k → (j : ℕ) → get_or values j 0 ≡ value_named ticket j
shown_all values ticket k so_far all j = elim (dec_lt j k) [
  | yes below ↦ so_far.shown j below
  | no behind ↦ so_far.rest j (omega (arith, behind)) ∙ sym (no_value_shown ticket j (omega (arith, behind, all)))
]

-- So they are the values seen.
pub values_seen_by : (values : List ℕ) (ticket : Ticket) (k : ℕ) → ShownTo values ticket k → ticket.n ≤ k → ◌≡◌ {A = Values} record { n = ticket.n; values = values } (values_seen ticket)
values_seen_by values ticket k so_far all =
    ap (λ (room : List ℕ). record { n = ticket.n; values = room }) (in_room_by (values_named ticket) values so_far.long (λ j _. shown_all values ticket k so_far all j))

-- Of a standing view, whose targets are those.
pub standing_seen : (targets : List Target) (slot : Slot.Ticket) → values_seen (targets_of targets slot.n) ≡ values_seen (standing targets slot)
standing_seen targets slot =
    ap (λ (l : List Target). values_from slot.n (map (value_noted l) (map (λ (one : Target). one.new) l))) (sym (targets_alike targets slot))
