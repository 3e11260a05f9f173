-- The load by its three checks.
use Prim.Native.Nat.{ℕ}
use mathlib.Core.Path.{◌≡◌, sym, ap, ◌∙◌}
use mathlib.Core.Bool.{Bool, true, false, not, false≢true}
use mathlib.Core.List.{List, [], ◌∷◌}
use native.Mathlib.Decide.{ℕ_discrete}
use lib.ListN.{length}
use borrow.Author.Tests.{eq-eqb, ne_eqb}
use Rattle.words.specs.Words.{Words, words_in_book, passage_count}
use Rattle.legs.specs.Positions.{Ranks, is_permutation}
use Rattle.tickets.specs.Tickets.{Tickets}
use Rattle.calls.specs.Outcomes.{Outcome}
use Rattle.calls.specs.Call.{book_length_wrong, check, first_of}
use Rattle.calls.specs.Outcomes.{ticket_stands}
use Rattle.calls.specs.Loading.{load_checks, load_refusal, loaded_by, load_of}
use Rattle.ranks.proofs.Marking.{permutation_other}

-- What a load comes to, by whether each check applies.
abbrev pub load_by : Bool → Bool → Bool → Ranks → List ℕ → Outcome × Ranks
load_by wrong fine stands ranks loaded = loaded_by (first_of (check 1 wrong ∷ check 13 (not fine) ∷ check 14 stands ∷ [])) ranks loaded

pub load_is : (words : Words) (tickets : Tickets) (ranks : Ranks) (loaded : List ℕ) (wrong fine stands : Bool)
    → book_length_wrong words ≡ wrong → is_permutation loaded ≡ fine → ticket_stands tickets ≡ stands
    → load_of words tickets ranks loaded ≡ load_by wrong fine stands ranks loaded
unfolding load_of load_refusal load_checks
load_is words tickets ranks loaded wrong fine stands is_wrong is_fine is_standing =
    ap (λ b. load_by b (is_permutation loaded) (ticket_stands tickets) ranks loaded) is_wrong
    ∙ ap (λ b. load_by wrong b (ticket_stands tickets) ranks loaded) is_fine
    ∙ ap (λ b. load_by wrong fine b ranks loaded) is_standing

pub book_wrong_lem : (words : Words) → (length words ≡ words_in_book → ⊥) → book_length_wrong words ≡ true
book_wrong_lem words other = ap not (ne_eqb (length words) words_in_book other)

pub book_right : (words : Words) → length words ≡ words_in_book → book_length_wrong words ≡ false
book_right words whole = ap not (eq-eqb (length words) words_in_book whole)

-- A permutation has 32 entries.
pub permutation_long : (ranks : List ℕ) → is_permutation ranks ≡ true → length ranks ≡ passage_count
permutation_long ranks fine = elim (ℕ_discrete (length ranks) passage_count) [
  | yes same ↦ same
  | no other ↦ absurd (false≢true (sym (permutation_other ranks other) ∙ fine))
]
