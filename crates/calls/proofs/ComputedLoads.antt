-- Loads of ranks, computed: which are refused and by which number, the ranks that they leave, and what is noted of them; and a frame under bad ranks.
use Rattle.std.specs.Prelude.{Ok, Err}
use Prim.Native.Nat.{ℕ}
use mathlib.Core.Path.{◌≡◌, refl}
use mathlib.Core.List.{List, [], ◌∷◌, ◌++◌, map}
use mathlib.Core.Option.{Option, none, some}
use lib.ListN.{get_or, drop}
use Rattle.legs.specs.Positions.{Ranks, fixed_ranks}
use Rattle.legs.proofs.Examples.{turned}
use Rattle.tickets.specs.Tickets.{Tickets, fresh_tickets, with_ticket, stands_below}
use Rattle.edits.specs.declared.Edit.{Edit}
use Rattle.edits.specs.declared.Edit.TheVariants.{Move}
use Rattle.edits.specs.Opened.{opened_ticket}
use Rattle.frames.specs.Request.{Request, Open, Step, Look, View}
use Rattle.frames.specs.declared.Answer.TheVariants as Answer
use Rattle.frames.specs.Writing.{request_frame}
use Rattle.calls.specs.Call.{refusal_of, call_of}
use Rattle.calls.specs.Loading.{load_refusal, load_of}
use Rattle.calls.specs.Run.{Call, loading, Heard, run}
use Rattle.calls.specs.Order.{notes_on}
use Rattle.calls.specs.Linearizable.{heard_on}
use Rattle.calls.specs.Bench.{stations}
use Rattle.calls.proofs.ExampleCalls.{every_run, calls, heard_as}
use Rattle.calls.proofs.RefusalOrder.{book, out}

unfoldable every_load : Unit {0}
unfolding every_run stands_below
every_load = tt

-- 32 ranks, but 31 twice and 3 not at all; 31 of them; and 33.
abbrev pub twice : Ranks
twice = 31 ∷ drop 1 fixed_ranks

abbrev pub too_few : Ranks
too_few = drop 1 turned

abbrev pub too_many : Ranks
too_many = 0 ∷ turned

-- 32 ranks, but the first is 32, which is none.
abbrev pub above : Ranks
above = 32 ∷ drop 1 turned

-- Leg 1 from passage 0 to 1, over a fresh book.
abbrev pub moving : Edit
moving = Move (record { passage = 0; into = 1; newer = 0; leg = 1; older = 0; count = 1; into_newest = 0; into_count = 0; stations = stations })

-- The checks of a load in their order, two and more applying at once: another book, bad ranks, and a ticket of the last team.
abbrev pub standing : Tickets
standing = with_ticket fresh_tickets 15 (opened_ticket fixed_ranks moving)

load_refusals :
    load_refusal [] standing twice
    ∷ load_refusal book standing twice
    ∷ load_refusal book standing turned
    ∷ load_refusal book fresh_tickets []
    ∷ load_refusal book fresh_tickets too_few
    ∷ load_refusal book fresh_tickets too_many
    ∷ load_refusal book fresh_tickets above
    ∷ load_refusal book fresh_tickets turned
    ∷ []
    ≡ some 1 ∷ some 13 ∷ some 14 ∷ some 13 ∷ some 13 ∷ some 13 ∷ some 13 ∷ none ∷ []
unfolding every_load
load_refusals = refl

-- A book of a word too few, and of one too many.
load_lengths : load_refusal (drop 1 book) fresh_tickets turned ∷ load_refusal (0 ∷ book) fresh_tickets turned ∷ [] ≡ some 1 ∷ some 1 ∷ []
unfolding every_load
load_lengths = refl

-- Ranks in force that are damaged do not stop a load; a refused load leaves them.
load_repairs : load_of book fresh_tickets [] turned ≡ (Ok tt, turned)
unfolding every_load
load_repairs = refl

load_refused : load_of book standing twice turned ≡ (Err 14, twice)
unfolding every_load
load_refused = refl

-- A frame under bad ranks: 1 goes before 13, and 13 before 2 and 3.
refused_1 : refusal_of [] fresh_tickets twice [] [] ≡ some 1
unfolding every_load
refused_1 = refl

refused_13 : refusal_of book fresh_tickets twice [] [] ≡ some 13
unfolding every_load
refused_13 = refl

-- No ranks, 31 and 33 of them; and each kind of frame.
abbrev under : Ranks → Request → Option ℕ
under ranks request = refusal_of book fresh_tickets ranks (request_frame request) out

refused_13_too :
    map (λ ranks. under ranks (Look 0)) ([] ∷ too_few ∷ too_many ∷ turned ∷ [])
    ++ map (under twice) (Open 0 moving ∷ Step 0 ∷ Look 4096 ∷ View 0 1 (3 ∷ []) ∷ [])
    ≡ some 13 ∷ some 13 ∷ some 13 ∷ none ∷ map some (13 ∷ 13 ∷ 13 ∷ 13 ∷ [])
unfolding every_load
refused_13_too = refl

-- It returns 13; book, tickets and output stay.
returned_13 : call_of book standing twice (request_frame (Look 0)) out ≡ (record { written = 13; tickets = standing }, book, out)
unfolding every_load
returned_13 = refl

-- Two loads are refused, by 13, and one goes; then one is refused over a ticket, by 14, and another, whose ranks are bad too, by 13.
abbrev pub list : List Call
list =
    loading twice ∷ loading too_many ∷ loading turned ∷ calls (Open 3 moving ∷ Step 3 ∷ [])
    ++ (loading fixed_ranks ∷ loading twice ∷ [])

numbers_returned : map (λ (k : ℕ). get_or (map (λ one. one.returned) (heard_on [] list)) k 99) (0 ∷ 1 ∷ 2 ∷ 5 ∷ 6 ∷ []) ≡ 13 ∷ 13 ∷ 0 ∷ 14 ∷ 13 ∷ []
unfolding every_load
numbers_returned = refl

-- The ranks of the one load that went are in force, and noted.
ranks_kept : (run [] list).end.ranks ≡ turned
unfolding every_load
ranks_kept = refl

ranks_noted : (notes_on (heard_on [] list)).ranks ≡ turned
unfolding every_load
ranks_noted = refl

in_turn : (notes_on (heard_on [] list)).out_of_turn ≡ 0
unfolding every_load
in_turn = refl

-- Heard by hand: a load that went while a ticket is noted is out of turn, and one that was refused is passed over.
abbrev heard_load : ℕ → List Heard
heard_load number = heard_as (Open 0 moving) (Answer.Standing 7) ∷ record { call = loading turned; returned = number; output = [] } ∷ []

out_of_turn_lem : (notes_on (heard_load 0)).out_of_turn ∷ (notes_on (heard_load 14)).out_of_turn ∷ [] ≡ 1 ∷ 0 ∷ []
unfolding every_load
out_of_turn_lem = refl
