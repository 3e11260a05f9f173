-- A carried book is a start: its words are those of the plain book of the old words, which keeps the rules of four words a leg.
use Rattle.std.specs.Prelude.{Ok}
use mathlib.Core.Path.{◌≡◌, refl, sym, ap, subst, ◌∙◌}
use lib.ListN.{length}
use Rattle.words.specs.declared.LegLayout.TheVariants.{ThreeWords, FourWords}
use Rattle.words.specs.Words.{Words, words_in_book}
use Rattle.tickets.specs.Tickets.{Tickets}
use Rattle.plain.specs.Plain.{Sound}
use Rattle.soundness.specs.InWords.{plain_in}
use Rattle.soundness.specs.Soundness.{WordsOf}
use Rattle.soundness.proofs.Telling.{words_tell_lists}
use Rattle.carrying.specs.Carrying.{carried, carry_of, CarriedBooksGoOn}
use Rattle.carrying.proofs.Carrying.{carries_the_lists}
use Rattle.carrying.proofs.Answers.{carry_answers}

-- What is known of the second book where the carry-over is done.
done_lists : (old second : Words) (tickets : Tickets) → (carry_of old second tickets).0 ≡ Ok tt
    → Sound (plain_in ThreeWords old) × (length (carry_of old second tickets).1 ≡ words_in_book) × WordsOf FourWords (carry_of old second tickets).1 (plain_in ThreeWords old)
done_lists old second tickets done =
    let answered = carry_answers old second tickets in
    let (ready, (plain, keeps, agree, low)) = answered.done.0 done in
    let (sound, whole, words) = carries_the_lists old plain keeps agree low in
    let same : plain_in ThreeWords old ≡ plain = words_tell_lists ThreeWords old plain keeps agree in
    let is = answered.written done in (
      subst Sound (sym same) sound,
      ap length is ∙ whole,
      subst (λ book. WordsOf FourWords book (plain_in ThreeWords old)) (sym is) (subst (WordsOf FourWords (carried old)) (sym same) words),
    )

pub carried_books_go_on : CarriedBooksGoOn
carried_books_go_on old second tickets done table fits none_stands ranks accepted store =
    let (sound, whole, words) = done_lists old second tickets done in
    record { whole = whole; fits = fits; none_stands = none_stands; sound = sound; words = words; ranked = accepted; no_shelf_filled = refl }
