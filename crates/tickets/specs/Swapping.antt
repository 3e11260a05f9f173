-- What the one swap of a step does to the words, and what the step tells of it.
use Rattle.std.specs.Prelude.{ℕ, ◌<◌, ◌≡◌, true, false, length, set}
use Rattle.words.specs.Words.{Words, Swap, is_held, mark_of, read_of, swap_of}
use Rattle.tickets.specs.Tickets.{target_at}
use Rattle.tickets.specs.Steps.{swap_tried, view_claimed, view_waited, step_of}
use Rattle.tickets.specs.declared.Phase.TheVariants.{Viewing}
use Rattle.tickets.specs.Tickets.{Ticket}
use Rattle.tickets.specs.declared.SwapTried.{SwapTried}
use Rattle.tickets.specs.declared.StepAnswer.{StepAnswer}
use Rattle.tickets.specs.declared.StepAnswer.TheVariants.{Claimed, Waiting, Found, Put, Returned, Granted, Stale, Seen}

-- Words after one swap: every other word stays; this one becomes the desired value where it is as expected, and else all stay.
pub record SwapsOne (words : Words) (tried : SwapTried) (after : Words) : Type 0 where
  pub elsewhere : (word : ℕ) → (word ≡ tried.word → ⊥) → read_of after word ≡ read_of words word
  pub as_expected : tried.word < length words → read_of words tried.word ≡ tried.expected → read_of after tried.word ≡ tried.desired
  pub otherwise : (read_of words tried.word ≡ tried.expected → ⊥) → after ≡ words

-- Statement: a step leaves every word but the one that it swaps, and that one is swapped exactly where it is as expected.
abbrev pub StepSwapsOneWord : Type 0
StepSwapsOneWord = (words : Words) (ticket : Ticket) (team : ℕ) → SwapsOne words (swap_tried words ticket team) (step_of words ticket team).1

-- Statement, of request 1: a view's claiming swap "takes any value below 2^63 and else waits".
abbrev pub ViewsTakeAnyValue : Type 0
ViewsTakeAnyValue =
    (words : Words) (ticket : Ticket) (team : ℕ) → ticket.phase ≡ Viewing
    → let word = (target_at ticket ticket.claimed).word in
    let found = read_of words word in
    (is_held found ≡ false → step_of words ticket team ≡ (view_claimed ticket found, set words word (mark_of team)))
    × (is_held found ≡ true → step_of words ticket team ≡ (view_waited ticket found, words))

-- What an answer tells of the holder that the swap reported: Waiting tells it, the others nothing.
abbrev pub TellsHolder : Swap → StepAnswer → Type 0
TellsHolder swap (Claimed many) = Unit {0}
TellsHolder swap (Waiting word team) = team ≡ swap.holder
TellsHolder swap (Found word) = Unit {0}
TellsHolder swap (Put many) = Unit {0}
TellsHolder swap (Returned many) = Unit {0}
TellsHolder swap (Granted tries) = Unit {0}
TellsHolder swap (Stale word tries) = Unit {0}
TellsHolder swap (Seen values) = Unit {0}

-- Statement, of request 3: the team that Waiting tells is the holder that the step's swap reports.
abbrev pub WaitingTellsHolder : Type 0
WaitingTellsHolder =
    (words : Words) (ticket : Ticket) (team : ℕ)
    → let tried = swap_tried words ticket team in
    TellsHolder (swap_of words tried.word tried.expected tried.desired) (step_of words ticket team).0.answer
