-- A carried book goes on, computed: leg 1 is carried over, a run begins there under ranks of the cave's own, and a correction of that leg is granted.
use Rattle.std.specs.Prelude.{Ok}
use mathlib.Core.Path.{◌≡◌, refl, subst, ◌∙◌}
use mathlib.Core.Bool.{true, false}
use mathlib.Core.List.{List, [], ◌∷◌, map}
use mathlib.Core.Option.{some}
use lib.IntN.{pos}
use lib.ListN.{replicate}
use Rattle.words.specs.Words.{Words}
use Rattle.words.specs.declared.LegLayout.TheVariants.{ThreeWords, FourWords}
use Rattle.legs.specs.Positions.{Accepted}
use Rattle.legs.proofs.Examples.{turned}
use Rattle.tickets.specs.declared.StepAnswer.TheVariants.{Claimed, Put, Granted}
use Rattle.tickets.specs.Tickets.{fresh_tickets}
use Rattle.edits.specs.declared.Edit.{Edit}
use Rattle.edits.specs.declared.Edit.TheVariants.{Correct}
use Rattle.frames.specs.declared.Answer.TheVariants as Answer
use Rattle.frames.specs.Request.{Open}
use Rattle.plain.specs.Plain.{list_of, all_in_range, legs_in_book}
use Rattle.calls.specs.Run.{Call, Shared, Heard, answer_heard, run_from}
use Rattle.calls.specs.Order.{granted, decided, first_notes, order_from}
use Rattle.calls.specs.Linearizable.{start_of, plain_from}
use Rattle.calls.specs.Demand3From.{Begins}
use Rattle.calls.specs.Bench.{stations, that_measure, measured}
use Rattle.calls.proofs.ExampleCalls.{every_run, calls, steps, leg}
use Rattle.calls.proofs.Freshness.{fresh_table}
use Rattle.soundness.specs.InWords.{plain_in}
use Rattle.soundness.proofs.Telling.{words_tell_lists}
use Rattle.carrying.specs.Carrying.{leg_above, words_from, laid_out, carry_of, going_on}
use Rattle.carrying.proofs.Carrying.{length_laid_out, laid_out_words, carries_laid_out_books}
use Rattle.carrying.proofs.Answers.{carry_answers}
use Rattle.carrying.proofs.GoingOn.{carried_books_go_on}
use Rattle.carrying.proofs.Examples.{everything, second, none_stands, alone, alone_sound}

-- The old book, with leg 1 in passage 0.
abbrev old_book : Words
old_book = laid_out ThreeWords (alone 1)

leg_fits : all_in_range ThreeWords 0 (list_of (alone 1) 0) ≡ true
unfolding everything
leg_fits = refl

leg_low : leg_above (alone 1) ≡ false
unfolding everything
leg_low = refl

carried_over : (carry_of old_book second fresh_tickets).0 ≡ Ok tt
carried_over =
    (carry_answers old_book second fresh_tickets).done.1
    (((length_laid_out ThreeWords (alone 1), refl), none_stands), (alone 1, alone_sound 1 leg_fits, laid_out_words ThreeWords (alone 1), leg_low))

-- What the calls share from there on.
abbrev start : Shared
start = going_on (laid_out FourWords (alone 1)) fresh_tickets turned []

accepted : Accepted turned
unfolding every_run
accepted = refl

begins : Begins start (alone 1)
begins =
    subst (Begins start) (words_tell_lists ThreeWords old_book (alone 1) (alone_sound 1 leg_fits) (laid_out_words ThreeWords (alone 1)))
    (subst (λ book. Begins (going_on book fresh_tickets turned []) (plain_in ThreeWords old_book))
    ((carry_answers old_book second fresh_tickets).written carried_over ∙ carries_laid_out_books (alone 1) (alone_sound 1 leg_fits))
    (carried_books_go_on old_book second fresh_tickets carried_over fresh_tickets fresh_table none_stands turned accepted []))

-- The correction.
abbrev correcting : Edit
correcting = Correct (record { passage = 0; leg = 1; stations = stations; old = that_measure; new = measured 6000 (pos 20) })

abbrev corrected : List Call
corrected = calls (Open 0 correcting ∷ steps 4 0)

abbrev heard : List Heard
heard = (run_from start corrected).heard

corrected_answers : map answer_heard heard ≡ map some (Answer.Standing 2 ∷ Answer.Step (Claimed 1) ∷ Answer.Step (Claimed 2) ∷ Answer.Step (Put 1) ∷ Answer.Step (Granted 4) ∷ [])
unfolding every_run laid_out words_from
corrected_answers = refl

corrected_order : order_from (first_notes turned) heard ≡ decided granted correcting ∷ []
unfolding every_run laid_out words_from
corrected_order = refl

-- The plain book has the leg as corrected, and as many legs as the start.
corrected_plain : plain_from (start_of (alone 1)) (decided granted correcting ∷ []) ≡ (leg 1 (measured 6000 (pos 20)) ∷ []) ∷ replicate 31 []
unfolding every_run
corrected_plain = refl

one_leg : legs_in_book (alone 1) ≡ 1
unfolding every_run
one_leg = refl
