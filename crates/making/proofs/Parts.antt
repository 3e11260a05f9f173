-- Whether the ticket that a slot says is well made, by the parts in which the code asks it.
use Prim.Native.Nat.{ℕ, zero, suc, ◌+◌, ◌≤◌, ◌<◌}
use mathlib.Core.Path.{◌≡◌, refl, sym, ap, subst, ◌∙◌}
use mathlib.Core.Bool.{Bool, true, false, cond}
use mathlib.Core.List.{List, [], ◌∷◌, ◌++◌, map}
use native.Mathlib.Omega.{arith}
use native.Mathlib.Nat.{le_trans}
use borrow.Author.Tests.{lt-ltb}
use denote.Param.Members.{Mut}
use lib.ListN.{length, get_or, take, length-append, length-map}
use lib.Seq.{ext_get_or, get_or-append_seam}
use Rattle.std.specs.Fn.{Called}
use Rattle.std.specs.Array.{MapsFrom}
use Rattle.std.specs.List.{list_any, list_all}
use Rattle.std.proofs.lemmas.List.{take_all, append_assoc}
use Rattle.std.proofs.lemmas.List.Folds.{list_any_more}
use Rattle.words.proofs.Tests.{both, all_is, second_or}
use Rattle.words.specs.Tests.{occurs, all_occur}
use Rattle.words.specs.Words.{team_count, most_targets, most_named}
use Rattle.tickets.specs.declared.Target.{Target}
use Rattle.tickets.specs.declared.Phase.TheVariants.{NoTicket}
use Rattle.tickets.specs.declared.Ticket as Slot
use Rattle.tickets.specs.declared.Slot as Kept
use Rattle.tickets.specs.Tickets.{no_ticket, ticket_of, has_ticket, stands_below, targets_in, words_in, named_in, is_view, most_of, target_well_made, all_well_made, counts_well_made, names_well_made, well_made, slot_well_made, well_made_from}
use Rattle.tickets.specs.Table.{no_target, absent_slot, ticket_said, table_of, table_with, stands_in, claims_in, phase_by, phase_of, standing, targets_of, gathered}
use Rattle.tickets.proofs.Made.{most_of_lem, too_few_lem, too_many_lem, bad_target, bad_counts, by_view}
use Rattle.tickets.proofs.Gathering.{gathered_stands, gathered_gone, gathered_has}
use Rattle.tickets.proofs.Tables.{slot_gathered, targets_alike, targets_taken}
use Rattle.making.proofs.Mapping.{mapped}

-- The most targets of a standing ticket, as the code asks it.
pub most_told : (slot : Slot.Ticket) (view : Bool) (most : ℕ) → view ≡ is_view (phase_by slot.kind (claims_in slot)) → most ≡ cond view most_named most_targets → most ≡ most_of (phase_by slot.kind (claims_in slot))
most_told slot view most is told = told ∙ ap (λ b. cond b most_named most_targets) is

pub within_most : (slot : Slot.Ticket) (view : Bool) (most : ℕ) → view ≡ is_view (phase_by slot.kind (claims_in slot)) → most ≡ cond view most_named most_targets → slot.n ≤ most → slot.n ≤ most_of (phase_by slot.kind (claims_in slot))
within_most slot view most is told below = subst (λ limit. slot.n ≤ limit) (most_told slot view most is told) below

module _ (targets : List Target) (slot : Slot.Ticket) where
  pub none_stands : slot.n ≤ slot.done → well_made (gathered targets slot) ≡ false
  none_stands over = ap well_made (gathered_gone targets slot over) ∙ too_few_lem no_ticket (omega arith)

  pub many_targets : slot.done < slot.n → most_of (phase_by slot.kind (claims_in slot)) < slot.n → well_made (gathered targets slot) ≡ false
  many_targets stands many = ap well_made (gathered_stands targets slot stands) ∙ too_many_lem (standing targets slot) (omega (arith, stands)) many

  pub one_bad : slot.done < slot.n → slot.n ≤ most_of (phase_by slot.kind (claims_in slot)) → all_well_made (targets_in (targets_of targets slot.n)) ≡ false → well_made (gathered targets slot) ≡ false
  one_bad stands most bad =
      ap well_made (gathered_stands targets slot stands)
      ∙ bad_target (standing targets slot) (omega (arith, stands)) most (ap all_well_made (targets_alike targets slot) ∙ bad)

  phase_stands : slot.done < slot.n → phase_of slot ≡ (standing targets slot).phase
  phase_stands stands = ap (λ b. cond b (phase_by slot.kind (claims_in slot)) NoTicket) (lt-ltb slot.done slot.n stands)

  pub counts_bad : slot.done < slot.n → slot.n ≤ most_of (phase_by slot.kind (claims_in slot)) → all_well_made (targets_in (targets_of targets slot.n)) ≡ true → counts_well_made (phase_of slot) slot.n slot.claimed slot.done ≡ false → well_made (gathered targets slot) ≡ false
  counts_bad stands most good bad =
      ap well_made (gathered_stands targets slot stands)
      ∙ bad_counts (standing targets slot) (omega (arith, stands)) most (ap all_well_made (targets_alike targets slot) ∙ good) (ap (λ p. counts_well_made p slot.n slot.claimed slot.done) (sym (phase_stands stands)) ∙ bad)

  pub by_names : slot.done < slot.n → slot.n ≤ most_of (phase_by slot.kind (claims_in slot)) → all_well_made (targets_in (targets_of targets slot.n)) ≡ true → counts_well_made (phase_of slot) slot.n slot.claimed slot.done ≡ true → well_made (gathered targets slot) ≡ cond (is_view (phase_by slot.kind (claims_in slot))) (names_well_made (named_in (targets_of targets slot.n)) (words_in (targets_of targets slot.n))) true
  by_names stands most good fit =
      ap well_made (gathered_stands targets slot stands)
      ∙ by_view (standing targets slot) (omega (arith, stands)) most (ap all_well_made (targets_alike targets slot) ∙ good) (ap (λ p. counts_well_made p slot.n slot.claimed slot.done) (sym (phase_stands stands)) ∙ fit)
      ∙ ap (λ (l : List Target). cond (is_view (phase_by slot.kind (claims_in slot))) (names_well_made (map (λ target. target.new) l) (map (λ target. target.word) l)) true) (targets_alike targets slot)

-- A slot that no ticket stands in passes, and any other by its ticket.
pub passes_by : (targets : List Target) (slot : Slot.Ticket) (stands : Bool) → stands ≡ stands_in slot → slot_well_made (gathered targets slot) ≡ cond stands (well_made (gathered targets slot)) true
passes_by targets slot stands is = ap (λ b. cond b (well_made (gathered targets slot)) true) (gathered_has targets slot ∙ sym is)

-- Some slot has a ticket: asked of the slots one after another, or of the tickets from the last one down.
abbrev pub any_in : Kept.Slot → Bool
any_in slot = stands_in slot.ticket

any_below : (slots : List Kept.Slot) (n : ℕ) → n ≤ length slots → list_any any_in (take n slots) ≡ stands_below n (table_of (table_with slots))
unfolding stands_below
any_below slots zero inside = refl
any_below slots (suc n) inside =
    ap (λ (k : ℕ). list_any any_in (take k slots)) next
    ∙ list_any_more any_in slots n absent_slot (omega (arith, inside))
    ∙ second_or (list_any any_in (take n slots)) (any_in (get_or slots n absent_slot))
    ∙ (λ i. cond (same i) true (any_below slots n (omega (arith, inside)) i))
  where
    next : suc n ≡ n + 1
    next = omega arith

    same : any_in (get_or slots n absent_slot) ≡ has_ticket (ticket_of (table_of (table_with slots)) n).phase
    same = sym (ap (λ t. has_ticket t.phase) (slot_gathered (table_with slots) n) ∙ gathered_has (get_or slots n absent_slot).targets (get_or slots n absent_slot).ticket)

pub any_stands_lem : (slots : List Kept.Slot) → length slots ≡ team_count → list_any any_in slots ≡ stands_below team_count (table_of (table_with slots))
any_stands_lem slots many =
    ap (list_any any_in) (sym (take_all team_count slots (omega (arith, many)))) ∙ any_below slots team_count (omega (arith, many))

-- All slots pass: asked of the slots one after another, or of the tickets from one on.
abbrev pub passes_in : Kept.Slot → Bool
passes_in slot = slot_well_made (ticket_said slot)

all_from : (before slots : List Kept.Slot) → list_all passes_in slots ≡ well_made_from (length before) (length slots) (table_of (table_with (before ++ slots)))
unfolding well_made_from
all_from before [] = refl
all_from before (slot ∷ slots) =
    both (passes_in slot) (list_all passes_in slots) ∙ (λ i. cond (here i) ((all_from (before ++ slot ∷ []) slots ∙ shifted) i) false)
  where
    here : passes_in slot ≡ slot_well_made (ticket_of (table_of (table_with (before ++ slot ∷ slots))) (length before))
    here = sym (ap slot_well_made (slot_gathered (table_with (before ++ slot ∷ slots)) (length before) ∙ ap ticket_said (get_or-append_seam before slot slots absent_slot)))

    shifted : well_made_from (length (before ++ slot ∷ [])) (length slots) (table_of (table_with ((before ++ slot ∷ []) ++ slots))) ≡ well_made_from (length before + 1) (length slots) (table_of (table_with (before ++ slot ∷ slots)))
    shifted = λ i. well_made_from (length-append before (slot ∷ []) i) (length slots) (table_of (table_with (append_assoc before (slot ∷ []) slots i)))

pub all_slots_lem : (slots : List Kept.Slot) → length slots ≡ team_count → list_all passes_in slots ≡ well_made_from 0 team_count (table_of (table_with slots))
all_slots_lem slots many = all_from [] slots ∙ ap (λ (n : ℕ). well_made_from 0 n (table_of (table_with slots))) many

-- The test of so many targets as they stand is that of a ticket.
pub targets_tested : (targets : List Target) (slot : Slot.Ticket) → length targets ≡ most_targets → slot.n ≤ most_of (phase_by slot.kind (claims_in slot)) → all_well_made (targets_in (targets_of targets slot.n)) ≡ all_well_made (take slot.n targets)
targets_tested targets slot long most =
    let room = le_trans most (most_of_lem (phase_by slot.kind (claims_in slot))) in
    ap all_well_made (targets_taken targets slot.n room (omega (arith, room, long)))

-- Whether all targets are well made, as the chain asks it.
pub all_targets_lem : (targets : List Target) → list_all target_well_made targets ≡ all_well_made targets
unfolding all_well_made
all_targets_lem targets = all_is target_well_made all_well_made refl (λ one later. refl) targets

-- Whether all names are among some words, as the chain asks it.
pub all_occur_lem : (names words : List ℕ) → list_all (λ name. occurs name words) names ≡ all_occur names words
unfolding all_occur
all_occur_lem names words = all_is (λ name. occurs name words) (λ all. all_occur all words) refl (λ name later. refl) names

-- So many numbers, one of each target, as an array's map gives them, are those of a ticket's targets.
map_at : (number : Target → ℕ) (targets : List Target) (k : ℕ) → k < length targets → get_or (map number targets) k 0 ≡ number (get_or targets k no_target)
map_at number [] k below = absurd (omega (arith, below))
map_at number (one ∷ later) zero below = refl
map_at number (one ∷ later) (suc k) below = map_at number later k (omega (arith, below))

take_map : (number : Target → ℕ) (targets : List Target) (n : ℕ) → take n (map number targets) ≡ map number (take n targets)
take_map number targets zero = refl
take_map number [] (suc n) = refl
take_map number (one ∷ later) (suc n) = ap (λ (l : List ℕ). number one ∷ l) (take_map number later n)

pub taken_mapped : (number : Target → ℕ) {F : Type 0} (g : Mut F (Target × Unit {0}) ℕ) (f : F) → ((x : Target) (y : ℕ) (q : F) → Called g f (x, tt) y q → (q ≡ f) × (y ≡ number x))
    → (targets : List Target) (numbers : List ℕ) (n : ℕ) → length targets ≡ most_targets → length numbers ≡ most_targets → MapsFrom g f targets numbers 0 most_targets → n ≤ most_targets
    → take n numbers ≡ map number (targets_in (targets_of targets n))
taken_mapped number g f same targets numbers n many as_many run most =
    ap (take n) all ∙ take_map number targets n ∙ ap (map number) (sym (targets_taken targets n most (omega (arith, most, many))))
  where
    all : numbers ≡ map number targets
    all =
        ext_get_or 0 numbers (map number targets) (as_many ∙ sym many ∙ sym (length-map targets number))
        (λ k below. mapped g number f same targets numbers 0 most_targets run k (omega arith) (omega (arith, below, as_many)) no_target 0 ∙ sym (map_at number targets k (omega (arith, below, as_many, many))))
