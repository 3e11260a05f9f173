-- "A check answers yes exactly when the words are those of some plain book."
use Rattle.std.specs.Prelude.{ℕ, ◌+◌, ◌*◌, ◌/◌, ◌≤◌, ◌<◌, ◌≡◌, List, true, ◌↔◌, ◌≢◌, length, ℤ, Ok, false}
use Rattle.words.specs.Tests.{Every}
use Rattle.words.specs.declared.LegLayout.{LegLayout}
use Rattle.words.specs.declared.LegLayout.TheVariants.{FourWords}
use Rattle.words.specs.Words.{Words, words_in_book, last_leg, measure_word, read_of}
use Rattle.legs.specs.Legs.{compass_unit, clino_unit, clino_offset, is_plumb}
use Rattle.plain.specs.Plain.{Plain, word_in, SoundIn}
use Rattle.calls.specs.Run.{Call, Admitted, Shared, run_from}
use Rattle.calls.specs.Order.{first_notes, HeldBy, HeldFrom}
use Rattle.calls.specs.Linearizable.{heard_on, book_after}
use Rattle.calls.specs.Demand3From.{Begins}
use Rattle.soundness.specs.Checking.{is_sound_in}
use Rattle.soundness.specs.InWords.{plain_in}
use Rattle.soundness.specs.Answering.{scratch_bytes, check_of}

-- The words are those of a plain book in a layout.
abbrev pub WordsOf : LegLayout → Words → Plain → Type 0
WordsOf layout words plain = (word : ℕ) → word < words_in_book → read_of words word ≡ word_in layout plain word

-- The words are those of some plain book that keeps its rules.
abbrev pub OfSomePlainBook : LegLayout → Words → Type 0
OfSomePlainBook layout words = (plain : Plain) × SoundIn layout plain × WordsOf layout words plain

-- Statement: in either layout the check is yes exactly to the words of some plain book.
abbrev pub SoundExactly : Type 0
SoundExactly = (layout : LegLayout) (words : Words) → (is_sound_in layout words ≡ true) ↔ OfSomePlainBook layout words

-- Statement: the words tell which plain book they are of: it is the one that stands in them.
abbrev pub WordsTellLists : Type 0
WordsTellLists =
    (layout : LegLayout) (words : Words) (plain : Plain) → SoundIn layout plain → WordsOf layout words plain
    → plain_in layout words ≡ plain

-- Statement: the answer is yes exactly when the book is whole, the scratch has room, and the words are those of some plain book.
abbrev pub YesExactlyToPlainBooks : Type 0
YesExactlyToPlainBooks =
    (words : Words) (room : ℕ)
    → (check_of words room ≡ Ok true) ↔ ((length words ≡ words_in_book) × (scratch_bytes ≤ room) × OfSomePlainBook FourWords words)

-- Statement: "a plumb leg with another compass reads as no leg, and the book check says no to it", whichever leg it is and whatever else the book holds.
abbrev pub PlumbCompassIsUnsound : Type 0
PlumbCompassIsUnsound =
    (words : Words) (room leg distance compass : ℕ) (clino : ℤ)
    → length words ≡ words_in_book → scratch_bytes ≤ room → 1 ≤ leg → leg ≤ last_leg
    → distance < compass_unit → compass < clino_unit / compass_unit → is_plumb clino ≡ true → compass ≢ 0
    → read_of words (measure_word leg) ≡ distance + compass_unit * compass + clino_unit * clino_offset clino
    → check_of words room ≡ Ok false

-- No team holds any word after a list of calls.
abbrev pub NothingHeld : Words → List Call → Type 0
NothingHeld store calls = (team word : ℕ) → ¬ HeldBy (heard_on store calls) team word

-- Statement: after every list of calls from a fresh book, where no team holds any word, the answer is yes.
abbrev pub UnheldBooksAreSound : Type 0
UnheldBooksAreSound =
    (store : Words) (calls : List Call) → Every Admitted calls → NothingHeld store calls
    → (room : ℕ) → scratch_bytes ≤ room
    → check_of (book_after store calls) room ≡ Ok true

-- Statement: so it is from wherever a run may begin.
abbrev pub UnheldBooksAreSoundFrom : Type 0
UnheldBooksAreSoundFrom =
    (shared : Shared) (plain : Plain) → Begins shared plain
    → (calls : List Call) → Every Admitted calls
    → ((team word : ℕ) → ¬ HeldFrom (first_notes shared.ranks) (run_from shared calls).heard team word)
    → (room : ℕ) → scratch_bytes ≤ room
    → check_of (run_from shared calls).end.book room ≡ Ok true
