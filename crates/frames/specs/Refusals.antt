-- The number that the papers give each refusal.
use Rattle.std.specs.Prelude.{ℕ, Result, Ok, Err}
use Rattle.std.proofs.Math.Option.{Option, none, some}
use Rattle.frames.specs.declared.Refusal.{Refusal}
use Rattle.frames.specs.declared.Refusal.TheVariants.{Book, Ranks, Output, Torn, Kind, Length, Team, Ticket, Standing, NoTicket, Range, Repeated, Scratch, TicketStands, Unsound, LegAbove, Store, Shelf, List}

abbrev pub refusal_number : Refusal → ℕ
refusal_number Book = 1
refusal_number Ranks = 13
refusal_number Output = 2
refusal_number Torn = 3
refusal_number Kind = 4
refusal_number Length = 5
refusal_number Team = 6
refusal_number Ticket = 7
refusal_number Standing = 8
refusal_number NoTicket = 9
refusal_number Range = 10
refusal_number Repeated = 11
refusal_number Scratch = 12
refusal_number TicketStands = 14
refusal_number Unsound = 15
refusal_number LegAbove = 16
refusal_number Store = 19
refusal_number Shelf = 20
refusal_number List = 21

-- What the code gives, with the number of the refusal where it is one: the definitions say the numbers, as the papers do.
abbrev pub numbered : {A : Type 0} → Result A Refusal → Result A ℕ
numbered (Ok given) = Ok given
numbered (Err refusal) = Err (refusal_number refusal)

-- The number of the refusal, where it is one.
abbrev pub refusal_in : {A : Type 0} → Result A ℕ → Option ℕ
refusal_in (Ok given) = none
refusal_in (Err number) = some number
