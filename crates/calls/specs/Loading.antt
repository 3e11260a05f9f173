-- Request 8, "The cave's own ranks": a load of ranks, a call without a frame.
use Rattle.std.specs.Prelude.{ℕ, ◌<◌, ◌≡◌, List, [], ◌∷◌, true, false, ◌↔◌, length, Ok}
use Rattle.std.proofs.Math.Option.{Option, none, some}
use Rattle.words.specs.Tests.{occurs}
use Rattle.words.specs.Words.{Words, words_in_book, team_count, passage_count}
use Rattle.legs.specs.Positions.{Ranks}
use Rattle.tickets.specs.Tickets.{Tickets, ticket_of, has_ticket}
use Rattle.calls.specs.Outcomes.{Outcome}
use Rattle.calls.specs.Call.{Check, check, first_of, book_length_wrong, ranks_wrong}
use Rattle.calls.specs.Outcomes.{outcome_of, ticket_stands}

-- "Checks: 13, not 32 ranks or not each of 0 to 31, after 1; 14, a ticket stands, after 13." What the ranks in force are does not matter.
unfoldable pub load_checks : Words → Tickets → Ranks → List Check
load_checks words tickets loaded =
    check 1 (book_length_wrong words)
    ∷ check 13 (ranks_wrong loaded)
    ∷ check 14 (ticket_stands tickets)
    ∷ []

unfoldable pub load_refusal : Words → Tickets → Ranks → Option ℕ
load_refusal words tickets loaded = first_of (load_checks words tickets loaded)

-- What a load returns, and the ranks in force after it: "a refused load keeps the old ranks". It writes no word and no ticket.
abbrev pub loaded_by : Option ℕ → Ranks → Ranks → Outcome × Ranks
loaded_by none ranks loaded = (outcome_of none, loaded)
loaded_by (some refusal) ranks loaded = (outcome_of (some refusal), ranks)

unfoldable pub load_of : Words → Tickets → Ranks → Ranks → Outcome × Ranks
load_of words tickets ranks loaded = loaded_by (load_refusal words tickets loaded) ranks loaded

-- "Each number 0 to 31 occurs", and there are 32.
abbrev pub EachOccurs : Ranks → Type 0
EachOccurs ranks = (length ranks ≡ passage_count) × ((number : ℕ) → number < passage_count → occurs number ranks ≡ true)

-- Statement: "They are accepted exactly when each number 0 to 31 occurs and no ticket stands", over a book of 4,096 words.
abbrev pub AcceptedExactly : Type 0
AcceptedExactly =
    (words : Words) (tickets : Tickets) (ranks loaded : Ranks)
    → ((load_of words tickets ranks loaded).0 ≡ Ok tt)
    ↔ ((length words ≡ words_in_book) × EachOccurs loaded × ((team : ℕ) → team < team_count → has_ticket (ticket_of tickets team).phase ≡ false))
