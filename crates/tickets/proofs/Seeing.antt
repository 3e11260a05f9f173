-- The values that a view shows are the plain words of the words named, in that order.
use Prim.Native.Nat.{ℕ, suc, suc-le-suc, zero-le}
use mathlib.Core.Path.{◌≡◌, refl, sym, ap, ◌∙◌}
use mathlib.Core.List.{List, [], ◌∷◌, map}
use mathlib.Core.Bool.{Bool, true, false, cond, false≢true}
use lib.Dec.{eqb}
use borrow.Author.Tests.{eqb-true}
use Rattle.words.specs.Tests.{occurs, all_occur, distinct}
use Rattle.words.proofs.Tests.{split}
use Rattle.tickets.specs.declared.Target.{Target}
use Rattle.tickets.specs.Tickets.{targets_in, words_in, named_in}
use Rattle.tickets.specs.Steps.{value_noted}
use Rattle.tickets.specs.Targets.{AllMatch}
use Rattle.tickets.specs.Invariant.{ValuesNamed}

-- The value noted for a target's word is the plain word, where all quoted values are.
value_plain : (targets : List Target) (plain : ℕ → ℕ) (word : ℕ) → occurs word (map (λ one. one.word) targets) ≡ true → AllMatch targets plain → value_noted targets word ≡ plain word
unfolding value_noted
value_plain [] plain word among all = absurd (false≢true among)
value_plain (target ∷ targets) plain word among all = first (eqb word target.word) refl among (λ later. value_plain targets plain word later (λ k below. all (suc k) (suc-le-suc below)))
  where
    first : (same : Bool) → eqb word target.word ≡ same → cond same true (occurs word (map (λ one. one.word) targets)) ≡ true
        → (occurs word (map (λ one. one.word) targets) ≡ true → value_noted targets word ≡ plain word)
        → cond same target.quoted (value_noted targets word) ≡ plain word
    first true is here later = sym (all 0 (suc-le-suc zero-le)) ∙ ap plain (sym (eqb-true _ _ is))
    first false is here later = later here

-- So it is of all names that are among the targets' words.
values_plain : (names : List ℕ) (targets : List Target) (plain : ℕ → ℕ) → all_occur names (map (λ one. one.word) targets) ≡ true → AllMatch targets plain → map (value_noted targets) names ≡ map plain names
unfolding all_occur
values_plain [] targets plain among all = refl
values_plain (name ∷ names) targets plain among all =
    let (here, later) = both (occurs name (map (λ one. one.word) targets)) (all_occur names (map (λ one. one.word) targets)) among in
    λ i. value_plain targets plain name here all i ∷ values_plain names targets plain later all i
  where
    both : (here later : Bool) → cond here later false ≡ true → (here ≡ true) × (later ≡ true)
    both true later e = (refl, e)
    both false later e = absurd (false≢true e)

pub values_named_lem : ValuesNamed
values_named_lem size ticket plain fit view all =
    let (once, (among, u)) = split (distinct (named_in ticket) ∷ all_occur (named_in ticket) (words_in ticket) ∷ []) (fit.names view) in
    values_plain (named_in ticket) (targets_in ticket) plain among all
