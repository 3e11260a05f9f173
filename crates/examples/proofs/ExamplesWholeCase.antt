-- The whole case of document 01 as a list of calls: the bytes written, the order, the plain book, and what is held on the way.
use Prim.Native.Nat.{ℕ}
use mathlib.Core.Path.{◌≡◌, refl}
use mathlib.Core.Bool.{Bool, true, false}
use mathlib.Core.List.{List, [], ◌∷◌, ◌++◌}
use lib.ListN.{replicate, take}
use Rattle.frames.specs.Request.{Open}
use Rattle.frames.specs.Answers.{longest_answer}
use Rattle.frames.specs.Writing.{request_frame}
use Rattle.plain.specs.Plain.{Plain}
use Rattle.calls.specs.Run.{Call, framed}
use Rattle.calls.specs.Order.{granted, Event, decided, was_granted, Last, Ended, ended, holds}
use Rattle.calls.specs.Linearizable.{play, book_after, heard_on, order_of}
use Rattle.calls.specs.Survey.{all_written}
use Rattle.calls.specs.Bench.{that_measure, first_leg, add_frame, step_frame, whole_case_output}
use Rattle.calls.proofs.ExampleCalls.{every_run, leg, plain_words}

-- The add's frame is that of its fields.
add_frame_lem : request_frame (Open 0 (first_leg 1 0 that_measure)) ≡ add_frame
unfolding every_run
add_frame_lem = refl

-- The add and so many steps.
abbrev part_of_case : ℕ → List Call
part_of_case many = framed add_frame (replicate longest_answer 0) ∷ replicate many (framed step_frame (replicate longest_answer 0))

written_10 : all_written (heard_on [] (part_of_case 10)) ≡ whole_case_output
unfolding every_run
written_10 = refl

abbrev events : List Event
events = decided granted (first_leg 1 0 that_measure) ∷ []

-- It is decided at the fifth step, and not before.
order_4 : order_of [] (part_of_case 4) ≡ []
unfolding every_run
order_4 = refl

order_5 : order_of [] (part_of_case 5) ≡ events
unfolding every_run
order_5 = refl

order_10 : order_of [] (part_of_case 10) ≡ events
unfolding every_run
order_10 = refl

-- Its last answer comes with the tenth.
abbrev lasts : List Ended → List Last
lasts [] = []
lasts (end ∷ ends) = end.last ∷ lasts ends

ended_9 : ended (heard_on [] (part_of_case 9)) ≡ []
unfolding every_run
ended_9 = refl

ended_10 : lasts (ended (heard_on [] (part_of_case 10))) ≡ was_granted 10 ∷ []
unfolding every_run
ended_10 = refl

abbrev plain_book : Plain
plain_book = (leg 1 that_measure ∷ []) ∷ replicate 31 []

plain_book_lem : play events ≡ plain_book
unfolding every_run
plain_book_lem = refl

-- The book's first words, and the plain book's.
abbrev first_words : List ℕ
first_words = 1 ∷ 1 ∷ replicate 63 0 ++ (8388673 ∷ 76022100792200 ∷ 0 ∷ [])

words_10 : take 68 (book_after [] (part_of_case 10)) ≡ first_words
unfolding every_run
words_10 = refl

plain_words_lem : plain_words 68 0 plain_book ≡ first_words
unfolding every_run
plain_words_lem = refl

-- Held on the way, of words 0, 1, 64, 65 and 66, whose positions are 6, 7, 64, 65 and 66.
abbrev held : ℕ → List Bool
held many =
    let heard = heard_on [] (part_of_case many) in
    holds heard 0 0 ∷ holds heard 0 1 ∷ holds heard 0 64 ∷ holds heard 0 65 ∷ holds heard 0 66 ∷ []

held_0 : held 0 ≡ false ∷ false ∷ false ∷ false ∷ false ∷ []
unfolding every_run
held_0 = refl

held_2 : held 2 ≡ true ∷ true ∷ false ∷ false ∷ false ∷ []
unfolding every_run
held_2 = refl

held_5 : held 5 ≡ true ∷ true ∷ true ∷ true ∷ true ∷ []
unfolding every_run
held_5 = refl

held_8 : held 8 ≡ false ∷ false ∷ false ∷ true ∷ true ∷ []
unfolding every_run
held_8 = refl

held_10 : held 10 ≡ false ∷ false ∷ false ∷ false ∷ false ∷ []
unfolding every_run
held_10 = refl
