-- What is asked of a ticket's targets from target k on: the next one answers, or those after it do.
use Prim.Native.Nat.{ℕ, zero, suc, ◌+◌, ◌-◌, ◌≤◌, ◌<◌}
use mathlib.Core.Path.{◌≡◌, refl, sym, ap, ◌∙◌}
use mathlib.Core.List.{List, [], ◌∷◌, map}
use mathlib.Core.Bool.{Bool, true, false, cond}
use native.Mathlib.Omega.{arith}
use native.Mathlib.Nat.{le_of_suc-le-suc, not-suc-le-zero}
use borrow.Author.Tests.{eq-eqb, ne_eqb}
use lib.ListN.{length, get_or, length-map, get_or-eq_default}
use Rattle.words.specs.Tests.{occurs, all_occur, distinct}
use Rattle.tickets.specs.declared.Target.{Target}
use Rattle.tickets.specs.Tickets.{Ticket}
use Rattle.tickets.specs.Tickets.{target, target_at, targets_from, targets_in, named_in}
use Rattle.tickets.specs.Steps.{value_noted, values_named, value_named}
use Rattle.tickets.proofs.TargetLists.{next_target, no_target_left, length_targets, target_listed}

-- The words named by the targets from k on.
abbrev pub names_from : ℕ → ℕ → Ticket → List ℕ
names_from k many ticket = map (λ target. target.new) (targets_from k many ticket)

-- Whether a number is one of those that they have in one part.
module _ (part : Target → ℕ) (ticket : Ticket) (number n k : ℕ) where
  pub occurs_here : k < n → part (target_at ticket k) ≡ number → occurs number (map part (targets_from k (n - k) ticket)) ≡ true
  occurs_here inside here =
      ap (λ (l : List Target). occurs number (map part l)) (next_target ticket n k inside)
      ∙ ap (λ b. cond b true (occurs number (map part (targets_from (k + 1) (n - (k + 1)) ticket)))) (eq-eqb _ _ (sym here))

  pub occurs_later : k < n → (part (target_at ticket k) ≡ number → ⊥) → occurs number (map part (targets_from k (n - k) ticket)) ≡ occurs number (map part (targets_from (k + 1) (n - (k + 1)) ticket))
  occurs_later inside other =
      ap (λ (l : List Target). occurs number (map part l)) (next_target ticket n k inside)
      ∙ ap (λ b. cond b true (occurs number (map part (targets_from (k + 1) (n - (k + 1)) ticket)))) (ne_eqb _ _ (λ same. other (sym same)))

module _ (ticket : Ticket) (word n k : ℕ) where
  -- The value noted for a word.
  pub noted_here : k < n → (target_at ticket k).word ≡ word → value_noted (targets_from k (n - k) ticket) word ≡ (target_at ticket k).quoted
  unfolding value_noted
  noted_here inside here =
      ap (λ (l : List Target). value_noted l word) (next_target ticket n k inside)
      ∙ ap (λ b. cond b (target_at ticket k).quoted (value_noted (targets_from (k + 1) (n - (k + 1)) ticket) word)) (eq-eqb _ _ (sym here))

  pub noted_later : k < n → ((target_at ticket k).word ≡ word → ⊥) → value_noted (targets_from k (n - k) ticket) word ≡ value_noted (targets_from (k + 1) (n - (k + 1)) ticket) word
  unfolding value_noted
  noted_later inside other =
      ap (λ (l : List Target). value_noted l word) (next_target ticket n k inside)
      ∙ ap (λ b. cond b (target_at ticket k).quoted (value_noted (targets_from (k + 1) (n - (k + 1)) ticket) word)) (ne_eqb _ _ (λ same. other (sym same)))

  pub noted_none : n ≤ k → value_noted (targets_from k (n - k) ticket) word ≡ 0
  unfolding value_noted
  noted_none none = ap (λ (l : List Target). value_noted l word) (no_target_left ticket n k none)

-- Whether each word named is one of some words.
pub named_next : (ticket : Ticket) (words : List ℕ) (n k : ℕ) (is_one : Bool) → k < n → is_one ≡ occurs (target_at ticket k).new words
    → all_occur (names_from k (n - k) ticket) words ≡ cond is_one (all_occur (names_from (k + 1) (n - (k + 1)) ticket) words) false
unfolding all_occur
named_next ticket words n k is_one inside is =
    ap (λ (l : List Target). all_occur (map (λ target. target.new) l) words) (next_target ticket n k inside)
    ∙ ap (λ b. cond b (all_occur (names_from (k + 1) (n - (k + 1)) ticket) words) false) (sym is)

pub named_none : (ticket : Ticket) (words : List ℕ) (n k : ℕ) → n ≤ k → all_occur (names_from k (n - k) ticket) words ≡ true
unfolding all_occur
named_none ticket words n k none = ap (λ (l : List Target). all_occur (map (λ target. target.new) l) words) (no_target_left ticket n k none)

-- Whether no word is named twice.
pub distinct_next : (ticket : Ticket) (n k : ℕ) (again : Bool) → k < n → again ≡ occurs (target_at ticket k).new (names_from (k + 1) (n - (k + 1)) ticket)
    → distinct (names_from k (n - k) ticket) ≡ cond again false (distinct (names_from (k + 1) (n - (k + 1)) ticket))
unfolding distinct
distinct_next ticket n k again inside is =
    ap (λ (l : List Target). distinct (map (λ target. target.new) l)) (next_target ticket n k inside)
    ∙ ap (λ b. cond b false (distinct (names_from (k + 1) (n - (k + 1)) ticket))) (sym is)

pub distinct_none : (ticket : Ticket) (n k : ℕ) → n ≤ k → distinct (names_from k (n - k) ticket) ≡ true
unfolding distinct
distinct_none ticket n k none = ap (λ (l : List Target). distinct (map (λ target. target.new) l)) (no_target_left ticket n k none)

-- The value noted for the k-th word named.
map_at : {A : Type 0} (f : A → ℕ) (absent : A) (l : List A) (k : ℕ) → k < length l → get_or (map f l) k 0 ≡ f (get_or l k absent)
map_at f absent [] k inside = absurd (not-suc-le-zero inside)
map_at f absent (a ∷ l) zero inside = refl
map_at f absent (a ∷ l) (suc k) inside = map_at f absent l k (le_of_suc-le-suc inside)

pub shown_value : (ticket : Ticket) (k : ℕ) → k < ticket.n → value_named ticket k ≡ value_noted (targets_in ticket) (target_at ticket k).new
shown_value ticket k inside =
    let all = targets_in ticket in
    let listed : k < length all = omega (arith, length_targets ticket) in
    let named : k < length (named_in ticket) = omega (arith, listed, length-map all (λ target. target.new)) in
    map_at (value_noted all) 0 (named_in ticket) k named ∙ ap (value_noted all) (map_at (λ target. target.new) (target 0 0 0) all k listed ∙ ap (λ target. target.new) (target_listed ticket k inside))

pub no_value_shown : (ticket : Ticket) (k : ℕ) → ticket.n ≤ k → value_named ticket k ≡ 0
no_value_shown ticket k none =
    let few : length (values_named ticket) ≤ k = omega (arith, length-map (named_in ticket) (value_noted (targets_in ticket)), length-map (targets_in ticket) (λ target. target.new), length_targets ticket) in
    get_or-eq_default (values_named ticket) 0 few
