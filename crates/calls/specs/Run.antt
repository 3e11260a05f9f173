-- "The list of demand 3 is one of calls": a list of calls, run from a fresh book.
use Rattle.std.specs.Prelude.{ℕ, ◌≡◌, List, [], ◌∷◌, true, cond, take, replicate}
use Rattle.std.proofs.Math.Option.{Option, some}
use Rattle.words.specs.Words.{Words, words_in_book}
use Rattle.legs.specs.Positions.{Ranks, fixed_ranks}
use Rattle.tickets.specs.Tickets.{Tickets, fresh_tickets}
use Rattle.frames.specs.declared.Answer.{Answer}
use Rattle.frames.specs.declared.Answer.TheVariants.{Refused}
use Rattle.frames.specs.Numbers.{Bytes, are_bytes}
use Rattle.frames.specs.Reading.{answer_in}
use Rattle.calls.specs.Call.{is_returned, call_of}
use Rattle.calls.specs.Outcomes.{number_of}
use Rattle.calls.specs.Loading.{load_of}
use Rattle.calls.specs.Shelves.{Filled, none_filled, store_length_wrong, fill_of, back_of}

-- The store that a call lends: the one store; or another, "a call that 19 refuses may lend any".
pub data Lent : Type 0 where
  the_store : Lent
  another : (store : Words) → Lent

-- A call: a frame of any bytes, and an output of its own of any length; a load of any ranks; or a shelf that is filled or come back to.
pub data Call : Type 0 where
  framed : (frame out : Bytes) → Call
  loading : (ranks : Ranks) → Call
  filling : (shelf : ℕ) (lent : Lent) → Call
  coming_back : (shelf : ℕ) (lent : Lent) → Call

-- Another store is of another length.
abbrev pub LentRight : Lent → Type 0
LentRight the_store = Unit {0}
LentRight (another store) = store_length_wrong store ≡ true

-- What a list may hold: a call's frame is bytes (what stands in the output beforehand does not matter), and it lends the one store throughout.
abbrev pub Admitted : Call → Type 0
Admitted (framed frame out) = are_bytes frame ≡ true
Admitted (loading ranks) = Unit {0}
Admitted (filling shelf lent) = LentRight lent
Admitted (coming_back shelf lent) = LentRight lent

-- What the calls share: the book, the tickets, the ranks in force, the one store, and which of its shelves are filled.
pub record Shared : Type 0 where
  pub book : Words
  pub tickets : Tickets
  pub ranks : Ranks
  pub store : Words
  pub filled : Filled

-- "The first call gets 4,096 zero words and no ticket"; the fixed ranks are in force, and no shelf is filled, whatever the store holds.
abbrev pub fresh : Words → Shared
fresh store = record { book = replicate words_in_book 0; tickets = fresh_tickets; ranks = fixed_ranks; store = store; filled = none_filled }

-- With another book and other tickets.
abbrev pub onward : Shared → Words → Tickets → Shared
onward shared book tickets = record { book = book; tickets = tickets; ranks = shared.ranks; store = shared.store; filled = shared.filled }

-- With other ranks in force.
abbrev pub under_ranks : Shared → Ranks → Shared
under_ranks shared ranks = record { book = shared.book; tickets = shared.tickets; ranks = ranks; store = shared.store; filled = shared.filled }

-- What calls share that lend no store, as a stream's do.
abbrev pub sharing : Words → Tickets → Ranks → Shared
sharing words tickets ranks = record { book = words; tickets = tickets; ranks = ranks; store = []; filled = none_filled }

-- The store that a call lends, and the one store after it: another one is no part of what the calls share.
abbrev pub lent_by : Shared → Lent → Words
lent_by shared the_store = shared.store
lent_by shared (another store) = store

abbrev pub store_after : Shared → Lent → Words → Words
store_after shared the_store left = left
store_after shared (another store) left = shared.store

-- What a bystander hears of a call: the call, the number that it returned, and its output afterwards.
pub record Heard : Type 0 where
  pub call : Call
  pub returned : ℕ
  pub output : Bytes

-- The answer that was heard, read from the bytes written; the number of a refusal that writes nothing is that refusal. None where it is no answer.
unfoldable pub answer_heard : Heard → Option Answer
answer_heard one = cond (is_returned one.returned) (some (Refused one.returned)) (answer_in (take one.returned one.output))

abbrev pub heard_of : Shared → Call → Heard
heard_of shared (framed frame out) =
    let result = call_of shared.book shared.tickets shared.ranks frame out in
    record { call = framed frame out; returned = result.0.written; output = result.2 }
heard_of shared (loading ranks) =
    let result = load_of shared.book shared.tickets shared.ranks ranks in
    record { call = loading ranks; returned = number_of result.0; output = [] }
heard_of shared (filling shelf lent) =
    let result = fill_of shared.book shared.tickets (lent_by shared lent) shared.filled shelf in
    record { call = filling shelf lent; returned = number_of result.0; output = [] }
heard_of shared (coming_back shelf lent) =
    let result = back_of shared.book shared.tickets (lent_by shared lent) shared.filled shelf in
    record { call = coming_back shelf lent; returned = number_of result.0; output = [] }

-- What a call leaves. A frame changes no rank and no shelf, a load the ranks alone, a filling no word, no ticket and no rank, a coming back the book alone.
abbrev pub left_by : Shared → Call → Shared
left_by shared (framed frame out) =
    let result = call_of shared.book shared.tickets shared.ranks frame out in
    onward shared result.1 result.0.tickets
left_by shared (loading ranks) =
    let result = load_of shared.book shared.tickets shared.ranks ranks in
    under_ranks shared result.1
left_by shared (filling shelf lent) =
    let result = fill_of shared.book shared.tickets (lent_by shared lent) shared.filled shelf in
    record { book = shared.book; tickets = shared.tickets; ranks = shared.ranks; store = store_after shared lent result.1; filled = result.2 }
left_by shared (coming_back shelf lent) =
    let result = back_of shared.book shared.tickets (lent_by shared lent) shared.filled shelf in
    onward shared result.1 shared.tickets

-- "Each later one the book and tickets that the last one left", and the ranks and shelves.
pub record Run : Type 0 where
  pub end : Shared
  pub heard : List Heard

unfoldable pub run_from : Shared → List Call → Run
run_from shared [] = record { end = shared; heard = [] }
run_from shared (call ∷ calls) =
    let later = run_from (left_by shared call) calls in
    record { end = later.end; heard = heard_of shared call ∷ later.heard }

abbrev pub run : Words → List Call → Run
run store calls = run_from (fresh store) calls
