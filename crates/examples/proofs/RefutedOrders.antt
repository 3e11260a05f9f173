-- Runs of wrong programs, for which demand 3 does not hold: what was heard does not come out so on the plain book, or the words left are not its words.
use Prim.Native.Nat.{ℕ, ◌^◌}
use native.Mathlib.Omega.{arith}
use mathlib.Core.Path.{◌≡◌, refl, ap}
use mathlib.Core.Bool.{true, false≢true}
use mathlib.Core.List.{List, [], ◌∷◌, map}
use lib.Dec.{eqb}
use lib.ListN.{replicate, get_or}
use Rattle.words.specs.Words.{Words, words_in_book}
use Rattle.legs.specs.Legs.{place_in_range}
use Rattle.tickets.specs.declared.Phase.{Phase}
use Rattle.tickets.specs.declared.Phase.TheVariants.{Claiming, Putting}
use Rattle.tickets.specs.declared.StepAnswer.{StepAnswer}
use Rattle.tickets.specs.declared.StepAnswer.TheVariants.{Claimed, Found, Put, Granted, Stale, Seen}
use Rattle.std.specs.Prelude.{None, Some}
use Rattle.tickets.specs.Tickets.{Tickets, fresh_tickets, with_ticket}
use Rattle.tickets.specs.Steps.{advanced}
use Rattle.edits.specs.declared.Edit.{Edit}
use Rattle.edits.specs.declared.Edit.TheVariants.{Add}
use Rattle.legs.specs.Positions.{fixed_ranks}
use Rattle.edits.specs.Opened.{opened_ticket}
use Rattle.frames.specs.declared.Answer.TheVariants as Answer
use Rattle.frames.specs.Request.{Open, Step, Look, View}
use Rattle.calls.specs.Run.{Heard, Run, sharing}
use Rattle.calls.specs.Order.{Verdict, granted, stale, holds_word, HeldBy}
use Rattle.calls.specs.Linearizable.{Linearizable}
use Rattle.calls.specs.Bench.{that_measure, first_leg}
use Rattle.calls.proofs.ExampleCalls.{every_run, heard_as}
use Rattle.examples.proofs.OneTeam.{noted_by, whoever}

-- A run: the book and tickets that it leaves, and what was heard.
abbrev pub running : Words → Tickets → List Heard → Run
running book tickets heard = record { end = sharing book tickets fixed_ranks; heard = heard }

abbrev pub fresh_book : Words
fresh_book = replicate words_in_book 0

-- Team 0 opens an edit, and its steps are answered like this.
abbrev pub edited : Edit → List StepAnswer → List Heard
edited edit answers = heard_as (Open 0 edit) (Answer.Standing 5) ∷ map (λ answer. heard_as (Step 0) (Answer.Step answer)) answers

-- A first leg, which succeeds on the fresh book; and one that counts a leg too many, and does not.
abbrev pub adding : Edit
adding = first_leg 1 0 that_measure

abbrev pub miscounted : Edit
miscounted = first_leg 1 1 that_measure

-- The table in which team 0's edit stands, in a phase.
abbrev pub standing : Edit → Phase → ℕ → Tickets
standing edit phase claimed = with_ticket fresh_tickets 0 (advanced (opened_ticket fixed_ranks edit) phase claimed 0)

-- granted_succeed: one always Stale, though the add succeeds.
abbrev pub verdict_number : Verdict → ℕ
verdict_number granted = 0
verdict_number stale = 1

always_stale : Linearizable (running fresh_book fresh_tickets (edited adding (Stale 0 1 ∷ []))) → ⊥
unfolding every_run
always_stale right = let number : ◌≡◌ {A = ℕ} 1 0 = ap verdict_number (right.granted_succeed [] [] stale adding refl) in omega arith

-- looks_agree: a look that shows a mark.
shows_mark : Linearizable (running (2 ^ 63 ∷ replicate 4095 0) fresh_tickets (heard_as (Look 0) (Answer.Look (Some (2 ^ 63))) ∷ [])) → ⊥
unfolding every_run
shows_mark right = let shown : ◌≡◌ {A = ℕ} (2 ^ 63) 0 = right.looks_agree [] [] 0 (2 ^ 63) refl in omega arith

-- views_agree: a view that shows what its word never was.
abbrev seeing : List Heard
seeing =
    heard_as (View 0 1 (2 ∷ [])) (Answer.Standing 1) ∷ heard_as (Step 0) (Answer.Step (Claimed 1))
    ∷ heard_as (Step 0) (Answer.Step (Seen (record { n = 1; values = 7 ∷ 0 ∷ 0 ∷ 0 ∷ 0 ∷ 0 ∷ [] }))) ∷ []

shows_another_value : Linearizable (running fresh_book fresh_tickets seeing) → ⊥
unfolding every_run
shows_another_value right =
    let shown : ◌≡◌ {A = ℕ} 7 0 = ap (λ values. get_or values 0 9) (right.views_agree [] [] (2 ∷ []) (7 ∷ []) refl) in
    omega arith

-- words_agree: one that gives back the new value. Nothing is held, and word 0 is 1.
abbrev returning : List Heard
returning = edited miscounted (Claimed 1 ∷ Found 1 ∷ Stale 1 3 ∷ [])

none_holds : (team : ℕ) → HeldBy returning team 0 → ⊥
unfolding every_run
none_holds team = whoever (λ mine. holds_word (noted_by returning 4 mine) 0 ≡ true → ⊥) false≢true false≢true (eqb team 0)

gives_back_new : Linearizable (running (1 ∷ replicate 4095 0) fresh_tickets returning) → ⊥
unfolding every_run
gives_back_new right = let left : ◌≡◌ {A = ℕ} 1 0 = right.words_agree 0 (omega arith) none_holds in omega arith

-- counts_add_up: one that claims whatever stands there. One add is granted, and no leg is in the plain book.
claims_anything : Linearizable (running fresh_book (standing miscounted Putting 5) (edited miscounted (map Claimed (1 ∷ 2 ∷ 3 ∷ 4 ∷ 5 ∷ [])))) → ⊥
unfolding every_run
claims_anything right = let counted : ◌≡◌ {A = ℕ} 0 1 = right.counts_add_up in omega arith

-- held_marked: one that claims the first word and merely reports the rest. Word 1 is held, and not marked.
reports_only : Linearizable (running (2 ^ 63 ∷ replicate 4095 0) (standing adding Claiming 2) (edited adding (Claimed 1 ∷ Claimed 2 ∷ []))) → ⊥
unfolding every_run
reports_only right = let marked : ◌≡◌ {A = ℕ} 0 (2 ^ 63) = right.held_marked 0 1 refl in omega arith

-- words_agree stops it too, once it is granted: word 1 is to count a leg.
abbrev granting : List Heard
granting = edited adding (Claimed 1 ∷ Claimed 2 ∷ Claimed 3 ∷ Claimed 4 ∷ Claimed 5 ∷ Put 1 ∷ Put 2 ∷ Put 3 ∷ Put 4 ∷ Granted 10 ∷ [])

none_left : (team : ℕ) → HeldBy granting team 1 → ⊥
unfolding every_run
none_left team = whoever (λ mine. holds_word (noted_by granting 11 mine) 1 ≡ true → ⊥) false≢true false≢true (eqb team 0)

reports_all : Linearizable (running (1 ∷ replicate 4095 0) fresh_tickets granting) → ⊥
unfolding every_run
reports_all right = let left : ◌≡◌ {A = ℕ} 0 1 = right.words_agree 1 (omega arith) none_left in omega arith

-- plain_sound: one that lets through a leg from a station to itself.
abbrev to_itself : Edit
to_itself = Add (record { passage = 0; leg = 1; newest = 0; count = 0; stations = record { from = 4; to = 4 }; measure = that_measure })

same_station_lem : Linearizable (running fresh_book (standing to_itself Putting 5) (edited to_itself (map Claimed (1 ∷ 2 ∷ 3 ∷ 4 ∷ 5 ∷ [])))) → ⊥
unfolding every_run place_in_range
same_station_lem right = false≢true (right.plain_sound.each_in_range 0 (omega arith))
