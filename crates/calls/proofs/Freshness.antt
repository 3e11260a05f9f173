-- The fresh plain book: its words are zeros, it has no legs; and the fresh table of tickets has none and fits.
use mathlib.Core.Path.{◌≡◌, refl, ap, ◌∙◌}
use mathlib.Core.Bool.{Bool, true, false, cond}
use mathlib.Core.List.{List, []}
use mathlib.Core.Option.{none}
use Prim.Native.Nat.{ℕ, zero, suc, ◌+◌, ◌-◌, ◌/◌, ◌%◌, ◌≤◌, zero-le}
use native.Mathlib.Omega.{arith}
use lib.Dec.{eqb, ltb}
use lib.ListN.{get_or, replicate, length-replicate}
use Rattle.words.specs.declared.LegLayout.TheVariants.{FourWords}
use Rattle.words.specs.Words.{first_leg_word, leg_words, passage_count, team_count}
use Rattle.tickets.specs.Tickets.{no_ticket, ticket_of, fresh_tickets}
use Rattle.tickets.specs.declared.Phase.TheVariants.{NoTicket}
use Rattle.plain.specs.Plain.{Plain, NumberedLeg, fresh_plain, list_of, find_below, find, passage_word, leg_word, word_in, word_of, legs_below, legs_in_book}
use Rattle.tickets.specs.Steps.{most_tries}
use Rattle.calls.specs.Demand1.{TableFits}

either_way : {A : Type 0} (test : Bool) (a : A) → cond test a a ≡ a
either_way true a = refl
either_way false a = refl

-- A plain book whose lists are all empty.
module _ (plain : Plain) (empty : (passage : ℕ) → list_of plain passage ≡ []) where
  none_found : (n r : ℕ) → find_below n plain r ≡ none
  unfolding find_below
  none_found zero r = refl
  none_found (suc n) r = rw (empty n) (none_found n r)

  passage_zero : (which passage : ℕ) → passage_word which (list_of plain passage) ≡ 0
  passage_zero which passage = rw (empty passage) (either_way (eqb which 0) 0)

  leg_zero : (which r : ℕ) → leg_word which (find plain r) ≡ 0
  leg_zero which r = ap (leg_word which) (none_found passage_count r) ∙ ap (λ (rest : ℕ). cond (eqb which 0) 0 (cond (eqb which 1) 0 rest)) (either_way (eqb which 2) 0) ∙ ap (cond (eqb which 0) 0) (either_way (eqb which 1) 0) ∙ either_way (eqb which 0) 0

  pub words_zero : (word : ℕ) → word_of plain word ≡ 0
  unfolding word_in
  words_zero word = rw (passage_zero (word % 2) (word / 2), leg_zero ((word - first_leg_word) % leg_words FourWords) ((word - first_leg_word) / leg_words FourWords + 1)) (either_way (ltb word first_leg_word) 0)

  pub no_legs : (n : ℕ) → legs_below n plain ≡ 0
  unfolding legs_below
  no_legs zero = refl
  no_legs (suc n) = rw (empty n) (omega (arith, no_legs n))

fresh_list : (n passage : ℕ) → get_or {A = List NumberedLeg} (replicate n []) passage [] ≡ []
fresh_list zero passage = refl
fresh_list (suc n) zero = refl
fresh_list (suc n) (suc passage) = fresh_list n passage

pub fresh_words : (word : ℕ) → word_of fresh_plain word ≡ 0
fresh_words = words_zero fresh_plain (fresh_list passage_count)

pub fresh_legs : legs_in_book fresh_plain ≡ 0
fresh_legs = no_legs fresh_plain (fresh_list passage_count) passage_count

-- So many empty slots.
empty_slot : (n team : ℕ) → (get_or (replicate n no_ticket) team no_ticket).phase ≡ NoTicket
empty_slot zero team = refl
empty_slot (suc n) zero = refl
empty_slot (suc n) (suc team) = empty_slot n team

tries_fit : (n team : ℕ) → (get_or (replicate n no_ticket) team no_ticket).tries ≤ most_tries
tries_fit zero team = zero-le
tries_fit (suc n) zero = zero-le
tries_fit (suc n) (suc team) = tries_fit n team

pub fresh_slots : (team : ℕ) → (ticket_of fresh_tickets team).phase ≡ NoTicket
fresh_slots = empty_slot team_count

pub fresh_table : TableFits fresh_tickets
fresh_table = record { teams = length-replicate team_count no_ticket; tries = λ team inside. tries_fit team_count team }
