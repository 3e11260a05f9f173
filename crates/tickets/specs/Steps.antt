-- "Tickets and steps": one step is one conditional swap; a look is one read.
use Rattle.std.specs.Prelude.{ℕ, ◌+◌, ◌-◌, cond, List, [], ◌∷◌, ◌++◌, map, length, take, get_or, set, replicate, Option, None, Some, eqb, ltb}
use Rattle.words.specs.Words.{Words, is_held, mark_of, most_named, holder_of, read_of, swap_of, any_value}
use Rattle.tickets.specs.Tickets.{Ticket, no_ticket, target_at, targets_in, named_in}
use Rattle.tickets.specs.declared.Target.{Target}
use Rattle.tickets.specs.declared.Phase.{Phase}
use Rattle.tickets.specs.declared.Phase.TheVariants.{NoTicket, Claiming, Putting, GivingBack, Viewing, Viewed}
use Rattle.tickets.specs.declared.SwapTried.{SwapTried}
use Rattle.tickets.specs.declared.StepAnswer.{StepAnswer}
use Rattle.tickets.specs.declared.StepAnswer.TheVariants.{Claimed, Waiting, Found, Put, Returned, Granted, Stale, Seen}
use Rattle.tickets.specs.declared.Values.{Values}

-- A conditional swap of a word, from an expected to a desired value.
abbrev pub tries : ℕ → ℕ → ℕ → SwapTried
tries word expected desired = record { word = word; expected = expected; desired = desired }

-- The swap that a step tries: one of the three CAS of the source document's Figure 7, of one target t of the descriptor (Figure 6), which is the ticket; d_addr is the team's mark, t.addr the word, t.expected the quoted value and t.desired the new one. (A team without a ticket takes no step: its case makes the definition total, with a swap that changes nothing.)
abbrev pub swap_tried_in : Phase → Words → Ticket → ℕ → SwapTried
-- Claiming, next target, line 5, CAS(t.addr, t.expected, d_addr): if the word is the quoted value it becomes the team's mark.
swap_tried_in Claiming words ticket team = let next = target_at ticket ticket.claimed in tries next.word next.quoted (mark_of team)
-- Putting, line 12, CAS(t.addr, d_addr, t.desired): the next target gets its new value if it holds the team's mark and stays if not.
swap_tried_in Putting words ticket team = let next = target_at ticket ticket.done in tries next.word (mark_of team) next.new
-- Giving back, line 14, CAS(t.addr, d_addr, t.expected): likewise with the quoted value.
swap_tried_in GivingBack words ticket team = let next = target_at ticket ticket.done in tries next.word (mark_of team) next.quoted
-- A view claiming, line 5 with the value that the word has for t.expected: any value below 2^63 becomes the team's mark. Giving back, line 14: as an edit.
swap_tried_in Viewing words ticket team = let next = target_at ticket ticket.claimed in tries next.word (any_value (read_of words next.word)) (mark_of team)
swap_tried_in Viewed words ticket team = let next = target_at ticket ticket.done in tries next.word (mark_of team) next.quoted
swap_tried_in NoTicket words ticket team = tries 0 0 0

unfoldable pub swap_tried : Words → Ticket → ℕ → SwapTried
swap_tried words ticket team = swap_tried_in ticket.phase words ticket team

-- Tries counts the swaps tried, waits included.
abbrev pub most_tries : ℕ
most_tries = 4294967295

-- It stops rising at 4,294,967,295.
abbrev pub one_more_try : ℕ → ℕ
one_more_try tries = cond (ltb tries most_tries) (tries + 1) tries

-- The ticket after one more try, in a phase, with so many claimed and so many done.
abbrev pub advanced : Ticket → Phase → ℕ → ℕ → Ticket
advanced ticket phase claimed done = record {
  quoted = ticket.quoted;
  new = ticket.new;
  words = ticket.words;
  n = ticket.n;
  tries = one_more_try ticket.tries;
  claimed = claimed;
  done = done;
  phase = phase;
}

-- A ticket after a step, and the step's answer.
pub record Stepped : Type 0 where
  pub ticket : Ticket
  pub answer : StepAnswer

abbrev pub stepped : Ticket → StepAnswer → Stepped
stepped ticket answer = record { ticket = ticket; answer = answer }

-- The word is the quoted value (Claimed; with the n-th the ticket also goes over to putting, nothing done yet): in Figure 7 the next t of line 3, and after the last one line 10 with success true.
abbrev pub claimed : Ticket → Stepped
claimed ticket =
    let more = ticket.claimed + 1 in
    stepped (cond (eqb more ticket.n) (advanced ticket Putting more 0) (advanced ticket Claiming more ticket.done)) (Claimed more)

-- It is 2^63 or more: nothing changes but tries (Waiting, with the holder that the swap reported: `WaitingTellsHolder`). In Figure 7 the loop of lines 4 to 6: the next step tries the same swap again.
abbrev pub waited : Ticket → ℕ → Stepped
waited ticket found = stepped (advanced ticket Claiming ticket.claimed ticket.done) (Waiting (target_at ticket ticket.claimed).word (holder_of found))

-- Otherwise the ticket is stale, lines 7 to 9: giving back, nothing done yet, if any word is claimed (Found), else finished (Stale).
abbrev pub differed : Ticket → Stepped
differed ticket =
    let word = (target_at ticket ticket.claimed).word in
    cond (eqb ticket.claimed 0)
    (stepped no_ticket (Stale word (one_more_try ticket.tries)))
    (stepped (advanced ticket GivingBack ticket.claimed 0) (Found word))

-- Putting: either way it counts as done (Put; the last: Granted). The loop of lines 10 to 12, and line 15 with the last.
abbrev pub put : Ticket → Stepped
put ticket =
    let more = ticket.done + 1 in
    cond (eqb more ticket.n)
    (stepped no_ticket (Granted (one_more_try ticket.tries)))
    (stepped (advanced ticket Putting ticket.claimed more) (Put more))

-- Giving back: likewise (Returned; the last: Stale, naming the word that differed, which is the first not claimed). The loop of lines 10, 13 and 14, over the claimed targets alone, and line 15.
abbrev pub given_back : Ticket → Stepped
given_back ticket =
    let more = ticket.done + 1 in
    cond (eqb more ticket.claimed)
    (stepped no_ticket (Stale (target_at ticket ticket.claimed).word (one_more_try ticket.tries)))
    (stepped (advanced ticket GivingBack ticket.claimed more) (Returned more))

-- A view with the value found noted: it takes the place of a quoted one.
abbrev pub noting : Ticket → ℕ → Ticket
noting ticket found = record {
  quoted = set ticket.quoted ticket.claimed found;
  new = ticket.new;
  words = ticket.words;
  n = ticket.n;
  tries = ticket.tries;
  claimed = ticket.claimed;
  done = ticket.done;
  phase = ticket.phase;
}

-- A view found a value: it is noted (Claimed; with the n-th the view gives back, nothing done yet).
abbrev pub view_claimed : Ticket → ℕ → Stepped
view_claimed ticket found =
    let more = ticket.claimed + 1 in
    let noted = noting ticket found in
    stepped (cond (eqb more ticket.n) (advanced noted Viewed more 0) (advanced noted Viewing more ticket.done)) (Claimed more)

-- A view found a mark: it waits, as an edit does.
abbrev pub view_waited : Ticket → ℕ → Stepped
view_waited ticket found = stepped (advanced ticket Viewing ticket.claimed ticket.done) (Waiting (target_at ticket ticket.claimed).word (holder_of found))

-- The value noted for a word.
unfoldable pub value_noted : List Target → ℕ → ℕ
value_noted [] word = 0
value_noted (target ∷ targets) word = cond (eqb word target.word) target.quoted (value_noted targets word)

-- Numbers in room for as many as a view may name: the first of them, and zeros behind.
abbrev pub in_room : List ℕ → List ℕ
in_room numbers = take most_named numbers ++ replicate (most_named - length numbers) 0

-- Values in the order named, in their room.
abbrev pub values_from : ℕ → List ℕ → Values
values_from n values = record { n = n; values = in_room values }

-- "The values in the order named",
abbrev pub values_named : Ticket → List ℕ
values_named ticket = map (value_noted (targets_in ticket)) (named_in ticket)

-- value k of them, counted from 0; 0 for one that there is not,
abbrev pub value_named : Ticket → ℕ → ℕ
value_named ticket k = get_or (values_named ticket) k 0

-- and all.
abbrev pub values_seen : Ticket → Values
values_seen ticket = values_from ticket.n (values_named ticket)

-- A view gives back (Returned; the last: Seen, with the values).
abbrev pub view_given_back : Ticket → Stepped
view_given_back ticket =
    let more = ticket.done + 1 in
    cond (eqb more ticket.claimed)
    (stepped no_ticket (Seen (values_seen ticket)))
    (stepped (advanced ticket Viewed ticket.claimed more) (Returned more))

-- The ticket and the answer after the swap, by the phase and the word found. (No ticket takes no step: its case makes the definition total, and leaves the slot as it is.)
abbrev pub settled_in : Phase → Ticket → ℕ → Stepped
settled_in Claiming ticket found =
    cond (eqb found (target_at ticket ticket.claimed).quoted) (claimed ticket)
    (cond (is_held found) (waited ticket found)
    (differed ticket))
settled_in Putting ticket found = put ticket
settled_in GivingBack ticket found = given_back ticket
settled_in Viewing ticket found = cond (is_held found) (view_waited ticket found) (view_claimed ticket found)
settled_in Viewed ticket found = view_given_back ticket
settled_in NoTicket ticket found = stepped ticket (Returned ticket.done)

unfoldable pub settled : Ticket → ℕ → Stepped
settled ticket found = settled_in ticket.phase ticket found

-- A step is one conditional swap: the one that the ticket tries. What it found settles the ticket and the answer.
unfoldable pub step_of : Words → Ticket → ℕ → Stepped × Words
step_of words ticket team =
    let tried = swap_tried words ticket team in
    let swap = swap_of words tried.word tried.expected tried.desired in
    (settled ticket swap.found, swap.words)

-- What a look shows: Value, or Held, which is none.
abbrev pub Looked : Type 0
Looked = Option ℕ

-- A look is one read, line 2 of Figure 8, without the loop: Value, or Held if 2^63 or more.
abbrev pub look_of : Words → ℕ → Looked
look_of words word =
    let found = read_of words word in
    cond (is_held found) None (Some found)
