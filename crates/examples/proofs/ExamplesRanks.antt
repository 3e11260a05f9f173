-- Ranks loaded: words are claimed by them; a stream under bad ranks; the same two opposite moves before and after a load, and in rounds. (Loads themselves: ComputedLoads of calls.)
use Prim.Native.Nat.{ℕ}
use mathlib.Core.Path.{◌≡◌, refl}
use mathlib.Core.Bool.{Bool, true, false}
use mathlib.Core.List.{List, [], ◌∷◌, ◌++◌, map}
use mathlib.Core.Option.{Option, some}
use lib.ListN.{take, drop, replicate}
use Rattle.words.specs.Words.{Words, words_in_store, team_count}
use Rattle.legs.proofs.Examples.{turned}
use Rattle.tickets.specs.declared.StepAnswer.TheVariants.{Claimed, Waiting, Put, Granted, Stale}
use Rattle.std.specs.Prelude.{None, Some}
use Rattle.tickets.specs.Tickets.{fresh_tickets, stands_below}
use Rattle.frames.specs.Request.{Request, Open, Step, Look}
use Rattle.frames.specs.declared.Answer.{Answer}
use Rattle.frames.specs.Numbers.{Bytes}
use Rattle.frames.specs.Writing.{request_frame}
use Rattle.frames.specs.Answers.{answer_frame}
use Rattle.calls.specs.declared.Stop.TheVariants.{NoBook, NoRanks}
use Rattle.calls.specs.Shelves.{fill_refusal, back_refusal, fill_of, back_of}
use Rattle.calls.specs.Run.{Call, loading, filling, coming_back, the_store, answer_heard, run}
use Rattle.calls.specs.Order.{granted, stale, decided, looked, filled, came_back, holds, notes_on}
use Rattle.calls.specs.Linearizable.{heard_on, order_of}
use Rattle.calls.specs.Stream.{streamed, next_at, stream_from, stream_of}
use Rattle.calls.specs.Survey.{survey_under}
use Rattle.calls.proofs.ExampleCalls.{every_run, calls, steps, answers}
use Rattle.calls.proofs.ComputedLoads.{twice, moving, list}
use Rattle.calls.proofs.RefusalOrder.{book, out}
use Rattle.progress.specs.Rounds.{turns_below}
use Rattle.examples.proofs.ExamplesMoves.{move_first, move_second, setting}
use Rattle.examples.proofs.ExamplesRounds.{standing_below, played_on}

unfoldable every_rank : Unit {0}
unfolding every_run stands_below fill_refusal back_refusal fill_of back_of next_at stream_from stream_of turns_below
every_rank = tt

-- Word 2, of passage 1, is claimed first, and not word 0.
abbrev held_first : List Bool
held_first = map (λ (word : ℕ). holds (heard_on [] list) 3 word) (0 ∷ 1 ∷ 2 ∷ 3 ∷ [])

held_first_lem : held_first ≡ false ∷ false ∷ true ∷ false ∷ []
unfolding every_rank
held_first_lem = refl

-- Under the fixed ranks word 0 is claimed first, which is 0 and not 1.
fixed_first : answers (calls (Open 3 moving ∷ Step 3 ∷ [])) ≡ map some (Answer.Standing 7 ∷ Answer.Step (Stale 0 1) ∷ [])
unfolding every_rank
fixed_first = refl

-- A stream under bad ranks consumes nothing; 1 goes before that.
stream_stopped : stream_of book fresh_tickets twice (request_frame (Look 0)) out ≡ (streamed fresh_tickets 0 0 NoRanks, book, out)
unfolding every_rank
stream_stopped = refl

stream_no_book : stream_of [] fresh_tickets twice (request_frame (Look 0)) out ≡ (streamed fresh_tickets 0 0 NoBook, [], out)
unfolding every_rank
stream_no_book = refl

-- A stream under ranks that are loaded claims by them, and so would survey: two steps of the move.
abbrev moved : Bytes
moved = request_frame (Open 3 moving) ++ request_frame (Step 3)

abbrev moved_answers : Bytes
moved_answers = answer_frame (Answer.Standing 7) ++ answer_frame (Answer.Step (Claimed 1))

stream_ranked : (stream_of book fresh_tickets turned moved (replicate 64 0)).2 ≡ moved_answers ++ replicate 52 0
unfolding every_rank
stream_ranked = refl

survey_ranked : survey_under turned moved ≡ moved_answers
unfolding every_rank
survey_ranked = refl

-- The same two opposite moves before and after a load: leg 1 from passage 0 to 1, leg 2 from passage 1 to 0, over the book with these two, which is kept on a shelf between.
abbrev store : Words
store = replicate words_in_store 0

abbrev opposite : List Request
opposite =
    Open 0 move_first ∷ Open 1 move_second ∷ Step 1 ∷ Step 0 ∷ Look 0 ∷ Look 2
    ∷ steps 15 1 ++ (Step 0 ∷ [])

abbrev both : List Call
both = calls setting ++ (filling 0 the_store ∷ calls opposite) ++ (loading turned ∷ coming_back 0 the_store ∷ calls opposite)

-- Team 1 claims word 0, where passage 0 has the lower rank, and word 2, where passage 1 has; team 0 waits for that word, and is stale by it.
abbrev told : ℕ → Answer → Answer → List (Option Answer)
told word first second =
    map some (Answer.Standing 8 ∷ Answer.Standing 8 ∷ Answer.Step (Claimed 1) ∷ Answer.Step (Waiting word 1) ∷ first ∷ second
    ∷ Answer.Step (Claimed 2) ∷ Answer.Step (Claimed 3) ∷ Answer.Step (Claimed 4) ∷ Answer.Step (Claimed 5) ∷ Answer.Step (Claimed 6) ∷ Answer.Step (Claimed 7) ∷ Answer.Step (Claimed 8)
    ∷ Answer.Step (Put 1) ∷ Answer.Step (Put 2) ∷ Answer.Step (Put 3) ∷ Answer.Step (Put 4) ∷ Answer.Step (Put 5) ∷ Answer.Step (Put 6) ∷ Answer.Step (Put 7) ∷ Answer.Step (Granted 16)
    ∷ Answer.Step (Stale word 2) ∷ [])

abbrev answers_in : List (Option Answer)
answers_in = map answer_heard (heard_on store both)

before_load : take 22 (drop 23 answers_in) ≡ told 0 (Answer.Look None) (Answer.Look (Some 2))
unfolding every_rank
before_load = refl

after_load : drop 47 answers_in ≡ told 2 (Answer.Look (Some 1)) (Answer.Look None)
unfolding every_rank
after_load = refl

both_order : drop 2 (order_of store both)
    ≡ filled 0 ∷ looked 2 2 ∷ decided granted move_second ∷ decided stale move_first
    ∷ came_back 0 ∷ looked 0 1 ∷ decided granted move_second ∷ decided stale move_first ∷ []
unfolding every_rank
both_order = refl

-- Each ticket is told by the ranks of its Standing: the load comes after the first two have ended.
both_in_turn : (notes_on (heard_on store both)).out_of_turn ≡ 0
unfolding every_rank
both_in_turn = refl

-- In rounds of steps the two moves get done under the loaded ranks as well, in sixteen of thirty-two rounds.
abbrev contended : List Call
contended = loading turned ∷ calls (setting ++ (Open 0 move_first ∷ Open 1 move_second ∷ []))

contended_standing : map (λ many. standing_below team_count (played_on many (run [] contended).end).tickets) (0 ∷ 8 ∷ 9 ∷ 15 ∷ 16 ∷ [])
    ≡ (1 ∷ 0 ∷ []) ∷ (1 ∷ 0 ∷ []) ∷ (1 ∷ []) ∷ (1 ∷ []) ∷ [] ∷ []
unfolding every_rank
contended_standing = refl
