-- Small books, stepped by computation: a ticket alone, two that meet on a word, one that gives back, and views.
use Prim.Native.Nat.{ℕ, zero, suc}
use mathlib.Core.Path.{◌≡◌, refl}
use mathlib.Core.List.{List, [], ◌∷◌, map}
use mathlib.Core.Bool.{true, false}
use lib.ListN.{length, replicate}
use Rattle.words.specs.Words.{Words}
use Rattle.words.specs.Tests.{all_hold, all_occur, distinct}
use Rattle.tickets.specs.declared.Target.{Target}
use Rattle.tickets.specs.declared.Phase.TheVariants.{Claiming, Viewing}
use Rattle.tickets.specs.Tickets.{Ticket}
use Rattle.tickets.specs.declared.StepAnswer.{StepAnswer}
use Rattle.tickets.specs.declared.StepAnswer.TheVariants.{Claimed, Waiting, Found, Put, Returned, Granted, Stale, Seen}
use Rattle.std.specs.Prelude.{None, Some}
use Rattle.tickets.specs.Tickets.{target, no_ticket, all_well_made, well_made}
use Rattle.tickets.specs.Steps.{swap_tried, settled, value_noted, step_of, look_of}
use Rattle.tickets.specs.Invariant.{with_slot}

-- A ticket that claims these targets, nothing claimed and nothing done.
abbrev opened : List Target → Ticket
opened targets = record {
  quoted = map (λ one. one.quoted) targets;
  new = map (λ one. one.new) targets;
  words = map (λ one. one.word) targets;
  n = length targets;
  tries = 0;
  claimed = 0;
  done = 0;
  phase = Claiming;
}

-- What steps of these teams, one after another, answer and leave.
record Ran : Type 0 where
  answers : List StepAnswer
  words : Words

unfoldable steps : Words → (ℕ → Ticket) → List ℕ → Ran
steps words tickets [] = record { answers = []; words = words }
steps words tickets (team ∷ teams) =
    let (step, after) = step_of words (tickets team) team in
    let rest = steps after (with_slot tickets team step.ticket) teams in
    record { answers = step.answer ∷ rest.answers; words = rest.words }

-- Eight zero words.
abbrev book : Words
book = replicate 8 0

abbrev no_tickets : ℕ → Ticket
no_tickets team = no_ticket

-- Three targets, alone: claimed in turn, then put in turn, in 2n steps.
abbrev three : Ticket
three = opened (target 3 0 7 ∷ target 5 0 9 ∷ target 1 0 4 ∷ [])

three_well_made : well_made three ≡ true
unfolding well_made all_well_made all_hold
three_well_made = refl

alone : steps book (with_slot no_tickets 2 three) (replicate 6 2)
    ≡ record {
      answers = Claimed 1 ∷ Claimed 2 ∷ Claimed 3 ∷ Put 1 ∷ Put 2 ∷ Granted 6 ∷ [];
      words = 0 ∷ 4 ∷ 0 ∷ 7 ∷ 0 ∷ 9 ∷ 0 ∷ 0 ∷ [];
    }
unfolding steps step_of settled swap_tried
alone = refl

-- Team 1 waits on a word that team 0 holds; once that is granted, the word is not as team 1 quoted it.
abbrev meeting : ℕ → Ticket
meeting = with_slot (with_slot no_tickets 0 (opened (target 3 0 7 ∷ target 5 0 9 ∷ []))) 1 (opened (target 3 0 8 ∷ []))

meet : steps book meeting (0 ∷ 1 ∷ 0 ∷ 0 ∷ 0 ∷ 1 ∷ [])
    ≡ record {
      answers = Claimed 1 ∷ Waiting 3 0 ∷ Claimed 2 ∷ Put 1 ∷ Granted 4 ∷ Stale 3 2 ∷ [];
      words = 0 ∷ 0 ∷ 0 ∷ 7 ∷ 0 ∷ 9 ∷ 0 ∷ 0 ∷ [];
    }
unfolding steps step_of settled swap_tried
meet = refl

-- The third word is not as quoted: the two that are claimed are given back, and the book is as it was.
abbrev giving : ℕ → Ticket
giving = with_slot no_tickets 0 (opened (target 3 0 7 ∷ target 5 0 9 ∷ target 1 1 4 ∷ []))

gives_back : steps book giving (replicate 5 0) ≡ record { answers = Claimed 1 ∷ Claimed 2 ∷ Found 1 ∷ Returned 1 ∷ Stale 1 5 ∷ []; words = book }
unfolding steps step_of settled swap_tried
gives_back = refl

-- While a word is claimed a look shows it as held, and others as they are.
look_held : look_of (steps book giving (0 ∷ [])).words 3 ≡ None
unfolding steps step_of settled swap_tried
look_held = refl

look_value : look_of (steps book giving (0 ∷ [])).words 5 ≡ Some 0
unfolding steps step_of settled swap_tried
look_value = refl

-- A view of these words, in the order that it claims them in and in the order named.
abbrev viewing : List ℕ → List ℕ → Ticket
viewing words names = record {
  quoted = replicate (length words) 0;
  new = names;
  words = words;
  n = length words;
  tries = 0;
  claimed = 0;
  done = 0;
  phase = Viewing;
}

-- What a view of one word and one of two words have seen.
abbrev seen_one : ℕ → StepAnswer
seen_one first = Seen record { n = 1; values = first ∷ 0 ∷ 0 ∷ 0 ∷ 0 ∷ 0 ∷ [] }

abbrev seen_two : ℕ → ℕ → StepAnswer
seen_two first second = Seen record { n = 2; values = first ∷ second ∷ 0 ∷ 0 ∷ 0 ∷ 0 ∷ [] }

-- A book in which word 3 is 7 and word 5 is 9.
abbrev written : Words
written = 0 ∷ 0 ∷ 0 ∷ 7 ∷ 0 ∷ 9 ∷ 0 ∷ 0 ∷ []

-- Words 5 and 3, named in that order: they are claimed in the other one.
abbrev both : Ticket
both = viewing (3 ∷ 5 ∷ []) (5 ∷ 3 ∷ [])

both_well_made : well_made both ≡ true
unfolding well_made all_well_made all_hold all_occur distinct
both_well_made = refl

-- A view names no word twice, and only words that it claims.
named_twice_lem : well_made (viewing (3 ∷ 5 ∷ []) (3 ∷ 3 ∷ [])) ≡ false
unfolding well_made all_well_made all_hold all_occur distinct
named_twice_lem = refl

named_elsewhere : well_made (viewing (3 ∷ 5 ∷ []) (3 ∷ 4 ∷ [])) ≡ false
unfolding well_made all_well_made all_hold all_occur distinct
named_elsewhere = refl

-- "An edit's ticket has up to 9 targets, a view's up to 6 as before."
abbrev up_to : ℕ → List ℕ
up_to zero = []
up_to (suc n) = n ∷ up_to n

edits_of_many : map (λ n. well_made (opened (map (λ word. target word 0 1) (up_to n)))) (0 ∷ 1 ∷ 7 ∷ 9 ∷ 10 ∷ []) ≡ false ∷ true ∷ true ∷ true ∷ false ∷ []
unfolding well_made all_well_made all_hold
edits_of_many = refl

views_of_many : map (λ n. well_made (viewing (up_to n) (up_to n))) (0 ∷ 1 ∷ 6 ∷ 7 ∷ 9 ∷ []) ≡ false ∷ true ∷ true ∷ false ∷ false ∷ []
unfolding well_made all_well_made all_hold all_occur distinct
views_of_many = refl

-- A view alone: both claimed, both given back, the values in the order named, and the book as it was.
view_alone : steps written (with_slot no_tickets 2 both) (replicate 4 2) ≡ record { answers = Claimed 1 ∷ Claimed 2 ∷ Returned 1 ∷ seen_two 9 7 ∷ []; words = written }
unfolding steps step_of settled swap_tried value_noted
view_alone = refl

-- The value found is noted, and the word is held.
view_notes : (step_of written both 2).0.ticket.quoted ≡ 7 ∷ 0 ∷ []
unfolding step_of settled swap_tried
view_notes = refl

view_holds : look_of (steps written (with_slot no_tickets 2 both) (2 ∷ [])).words 3 ≡ None
unfolding steps step_of settled swap_tried
view_holds = refl

-- Team 1's view waits on a word that team 0 holds, and sees the value that team 0 puts.
abbrev viewing_last : ℕ → Ticket
viewing_last = with_slot (with_slot no_tickets 0 (opened (target 3 7 8 ∷ []))) 1 (viewing (3 ∷ []) (3 ∷ []))

view_waits : steps written viewing_last (0 ∷ 1 ∷ 0 ∷ 1 ∷ 1 ∷ [])
    ≡ record {
      answers = Claimed 1 ∷ Waiting 3 0 ∷ Granted 2 ∷ Claimed 1 ∷ seen_one 8 ∷ [];
      words = 0 ∷ 0 ∷ 0 ∷ 8 ∷ 0 ∷ 9 ∷ 0 ∷ 0 ∷ [];
    }
unfolding steps step_of settled swap_tried value_noted
view_waits = refl

-- Team 0's edit waits on a word that team 1's view holds: the view's words don't change between its steps, and what is put later is not seen.
abbrev viewing_first : ℕ → Ticket
viewing_first = with_slot (with_slot no_tickets 0 (opened (target 3 7 8 ∷ []))) 1 both

edit_waits : steps written viewing_first (1 ∷ 0 ∷ 1 ∷ 0 ∷ 1 ∷ 0 ∷ 0 ∷ 1 ∷ [])
    ≡ record {
      answers = Claimed 1 ∷ Waiting 3 1 ∷ Claimed 2 ∷ Waiting 3 1 ∷ Returned 1 ∷ Claimed 1 ∷ Granted 4 ∷ seen_two 9 7 ∷ [];
      words = 0 ∷ 0 ∷ 0 ∷ 8 ∷ 0 ∷ 9 ∷ 0 ∷ 0 ∷ [];
    }
unfolding steps step_of settled swap_tried value_noted
edit_waits = refl

-- Two views of one word: the second waits, and both see its value.
abbrev two_views : ℕ → Ticket
two_views = with_slot (with_slot no_tickets 0 (viewing (5 ∷ []) (5 ∷ []))) 1 (viewing (5 ∷ []) (5 ∷ []))

views_meet : steps written two_views (0 ∷ 1 ∷ 0 ∷ 1 ∷ 1 ∷ []) ≡ record { answers = Claimed 1 ∷ Waiting 5 0 ∷ seen_one 9 ∷ Claimed 1 ∷ seen_one 9 ∷ []; words = written }
unfolding steps step_of settled swap_tried value_noted
views_meet = refl
