-- Chains that run both ways: a move with all nine targets, the words that it leaves, a strike that quotes an outdated newer leg; and runs of wrong programs that leave newer words alone.
use Prim.Native.Nat.{ℕ}
use native.Mathlib.Omega.{arith}
use mathlib.Core.Path.{◌≡◌, refl}
use mathlib.Core.Bool.{true, false≢true}
use mathlib.Core.List.{List, [], ◌∷◌, ◌++◌, map}
use mathlib.Core.Option.{some}
use lib.Dec.{eqb}
use lib.ListN.{drop, replicate}
use Rattle.words.specs.Words.{read_of}
use Rattle.tickets.specs.declared.StepAnswer.{StepAnswer}
use Rattle.tickets.specs.declared.StepAnswer.TheVariants.{Claimed, Found, Put, Returned, Granted, Stale}
use Rattle.tickets.specs.Tickets.{fresh_tickets}
use Rattle.edits.specs.declared.Edit.{Edit}
use Rattle.edits.specs.declared.Edit.TheVariants.{Strike, Move}
use Rattle.frames.specs.declared.Answer.{Answer}
use Rattle.frames.specs.Request.{Request, Open, Step}
use Rattle.plain.specs.Plain.{Plain, word_of}
use Rattle.calls.specs.Run.{Heard}
use Rattle.calls.specs.Order.{granted, Event, decided, holds_word, HeldBy}
use Rattle.calls.specs.Linearizable.{Linearizable, play, order_of, book_after}
use Rattle.calls.specs.Bench.{stations, that_measure}
use Rattle.calls.proofs.ExampleCalls.{every_run, calls, steps, answers, heard_as, leg}
use Rattle.examples.proofs.OneTeam.{noted_by, whoever}
use Rattle.examples.proofs.ExamplesMoves.{adding}
use Rattle.examples.proofs.RefutedOrders.{running, fresh_book, edited}

-- Legs 1, 2 and 3 are added to passage 0, and leg 4 to passage 1.
abbrev setting : List Request
setting =
    (Open 0 (adding 0 1 0 0) ∷ steps 10 0) ++ (Open 0 (adding 0 2 1 1) ∷ steps 12 0)
    ++ (Open 0 (adding 0 3 2 2) ∷ steps 12 0) ++ (Open 0 (adding 1 4 0 0) ∷ steps 10 0)

-- Leg 2, between legs 3 and 1, goes to passage 1 in front of leg 4: nine targets.
abbrev move_middle : Edit
move_middle = Move (record { passage = 0; into = 1; newer = 3; leg = 2; older = 1; count = 3; into_newest = 4; into_count = 1; stations = stations })

abbrev moved : List Request
moved = setting ++ (Open 0 move_middle ∷ steps 18 0)

abbrev told : List StepAnswer → List Answer
told stepped = map Answer.Step stepped

nine_answers : drop 48 (answers (calls moved))
    ≡ map some (Answer.Standing 9 ∷ told (map Claimed (1 ∷ 2 ∷ 3 ∷ 4 ∷ 5 ∷ 6 ∷ 7 ∷ 8 ∷ 9 ∷ []) ++ (map Put (1 ∷ 2 ∷ 3 ∷ 4 ∷ 5 ∷ 6 ∷ 7 ∷ 8 ∷ []) ++ (Granted 18 ∷ []))))
unfolding every_run
nine_answers = refl

abbrev events : List Event
events = map (decided granted) (adding 0 1 0 0 ∷ adding 0 2 1 1 ∷ adding 0 3 2 2 ∷ adding 1 4 0 0 ∷ move_middle ∷ [])

moved_order : order_of [] (calls moved) ≡ events
unfolding every_run
moved_order = refl

abbrev moved_plain : Plain
moved_plain = (leg 3 that_measure ∷ leg 1 that_measure ∷ []) ∷ (leg 2 that_measure ∷ leg 4 that_measure ∷ []) ∷ replicate 30 []

moved_plain_lem : play events ≡ moved_plain
unfolding every_run
moved_plain_lem = refl

-- The next newer of legs 1, 2, 3 and 4: leg 1 names leg 3, and leg 4 names leg 2.
abbrev newer_words : List ℕ
newer_words = 67 ∷ 71 ∷ 75 ∷ 79 ∷ []

newer_in_book : map (read_of (book_after [] (calls moved))) newer_words ≡ 3 ∷ 0 ∷ 0 ∷ 2 ∷ []
unfolding every_run
newer_in_book = refl

-- Their links.
abbrev link_words : List ℕ
link_words = 64 ∷ 68 ∷ 72 ∷ 76 ∷ []

links_in_book : map (read_of (book_after [] (calls moved))) link_words ≡ 0 ∷ 4 ∷ 1 ∷ 0 ∷ []
unfolding every_run
links_in_book = refl

-- The plain book's words are the same; its passages' newest legs and counts.
in_plain : map (word_of moved_plain) (newer_words ++ link_words ++ (0 ∷ 1 ∷ 2 ∷ 3 ∷ [])) ≡ 3 ∷ 0 ∷ 0 ∷ 2 ∷ 0 ∷ 4 ∷ 1 ∷ 0 ∷ 3 ∷ 2 ∷ 2 ∷ 2 ∷ []
unfolding every_run
in_plain = refl

-- A strike of leg 1 that counts right, but quotes leg 2 as the next newer one: word 67, which is leg 1's own newer word, differs.
abbrev outdated : Edit
outdated = Strike (record { passage = 0; newer = 2; leg = 1; older = 0; count = 2; stations = stations; measure = that_measure })

outdated_answers : drop 67 (answers (calls (moved ++ (Open 5 outdated ∷ steps 9 5))))
    ≡ map some (Answer.Standing 6 ∷ told (map Claimed (1 ∷ 2 ∷ 3 ∷ 4 ∷ []) ++ (Found 67 ∷ Returned 1 ∷ Returned 2 ∷ Returned 3 ∷ Stale 67 9 ∷ [])))
unfolding every_run
outdated_answers = refl

-- One that leaves h's newer word alone and answers as if it had set it: two legs are added, nothing is held, and word 67 is 0.
abbrev first_granted : List Heard
first_granted = edited (adding 0 1 0 0) (map Claimed (1 ∷ 2 ∷ 3 ∷ 4 ∷ 5 ∷ []) ++ (map Put (1 ∷ 2 ∷ 3 ∷ 4 ∷ []) ++ (Granted 10 ∷ [])))

abbrev answered : ℕ → List StepAnswer → List Heard
answered targets stepped = first_granted ++ (heard_as (Open 0 (adding 0 2 1 1)) (Answer.Standing targets) ∷ map (λ answer. heard_as (Step 0) (Answer.Step answer)) stepped)

abbrev both_granted : List Heard
both_granted = answered 6 (map Claimed (1 ∷ 2 ∷ 3 ∷ 4 ∷ 5 ∷ 6 ∷ []) ++ (map Put (1 ∷ 2 ∷ 3 ∷ 4 ∷ 5 ∷ []) ++ (Granted 12 ∷ [])))

none_holds : (team : ℕ) → HeldBy both_granted team 67 → ⊥
unfolding every_run
none_holds team = whoever (λ mine. holds_word (noted_by both_granted 24 mine) 67 ≡ true → ⊥) false≢true false≢true (eqb team 0)

leaves_newer_word : Linearizable (running fresh_book fresh_tickets both_granted) → ⊥
unfolding every_run
leaves_newer_word right = let left : ◌≡◌ {A = ℕ} 0 2 = right.words_agree 67 (omega arith) none_holds in omega arith

-- One that has no such target, and says so: Standing with five is out of turn, and so is each step's answer after it.
abbrev five_targets : List Heard
five_targets = answered 5 (map Claimed (1 ∷ 2 ∷ 3 ∷ 4 ∷ 5 ∷ []) ++ (map Put (1 ∷ 2 ∷ 3 ∷ 4 ∷ []) ++ (Granted 10 ∷ [])))

without_newer_target : Linearizable (running fresh_book fresh_tickets five_targets) → ⊥
unfolding every_run
without_newer_target right = let counted : ◌≡◌ {A = ℕ} 11 0 = right.in_turn in omega arith
