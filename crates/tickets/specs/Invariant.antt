-- The book's words beside the plain words: what a ticket holds, what is true of words, tickets and plain words at all times, and what each step does to it.
use Rattle.std.specs.Prelude.{ℕ, ◌+◌, ◌^◌, ◌≤◌, ◌<◌, min, ◌≡◌, true, false, cond, map, ◌⊎◌, ◌↔◌, length, None, Some, eqb}
use Rattle.words.specs.Words.{Words, words_in_book, most_named, mark_of, holder_of, read_of}
use Rattle.tickets.specs.declared.Target.{Target}
use Rattle.tickets.specs.declared.Phase.{Phase}
use Rattle.tickets.specs.declared.Phase.TheVariants.{NoTicket, Claiming, Putting, GivingBack, Viewing, Viewed}
use Rattle.tickets.specs.Tickets.{Ticket}
use Rattle.tickets.specs.declared.StepAnswer.{StepAnswer}
use Rattle.tickets.specs.declared.StepAnswer.TheVariants.{Claimed, Waiting, Found, Put, Returned, Granted, Stale, Seen}
use Rattle.tickets.specs.Tickets.{no_ticket, target_at, targets_in, words_in, named_in, has_ticket, is_view, claims, counts_well_made, names_well_made, well_made}
use Rattle.tickets.specs.Steps.{swap_tried, most_tries, one_more_try, advanced, stepped, noting, values_named, values_seen, step_of, Looked, look_of}
use Rattle.tickets.specs.Targets.{Claimable, AllMatch, PutInto}

-- Tickets are given as a function from teams to slots. This is it with another ticket in one team's slot.
abbrev pub with_slot : (ℕ → Ticket) → ℕ → Ticket → ℕ → Ticket
with_slot tickets team ticket other = cond (eqb other team) ticket (tickets other)

-- The plain value of a held word: the new one from the last claim on, while it is put; else the quoted one.
abbrev pub plain_value : Phase → Target → ℕ
plain_value NoTicket target = target.quoted
plain_value Claiming target = target.quoted
plain_value Putting target = target.new
plain_value GivingBack target = target.quoted
plain_value Viewing target = target.quoted
plain_value Viewed target = target.quoted

-- A ticket holds a word, whose plain value is this: the word of a target that is claimed and not done, "from Claimed k until Put k, Returned k".
pub record Holds (ticket : Ticket) (word value : ℕ) : Type 0 where
  pub stands : has_ticket ticket.phase ≡ true
  pub at : ℕ
  pub not_done : ticket.done ≤ at
  pub claimed : at < ticket.claimed
  pub its_word : (target_at ticket at).word ≡ word
  pub its_value : plain_value ticket.phase (target_at ticket at) ≡ value

-- Some team holds a word.
pub record Holder (tickets : ℕ → Ticket) (word : ℕ) : Type 0 where
  pub team : ℕ
  pub value : ℕ
  pub holds : Holds (tickets team) word value

-- A standing ticket that is fit for a book of so many words: its targets can be claimed, its counts are those of its phase, nothing is done while it claims, all is claimed while it is putting, a view's named words are its targets, not more than a view may name, and it has room for their values.
pub record FitTicket (size : ℕ) (ticket : Ticket) : Type 0 where
  pub claimable : Claimable size (targets_in ticket)
  pub counts : counts_well_made ticket.phase ticket.n ticket.claimed ticket.done ≡ true
  pub none_done : claims ticket.phase ≡ true → ticket.done ≡ 0
  pub all_were_claimed : ticket.phase ≡ Putting → ticket.claimed ≡ ticket.n
  pub names : is_view ticket.phase ≡ true → names_well_made (named_in ticket) (words_in ticket) ≡ true
  pub few : is_view ticket.phase ≡ true → ticket.n ≤ most_named
  pub room : is_view ticket.phase ≡ true → ticket.n ≤ length ticket.quoted

-- Which targets, counted from 0, a ticket holds, phase by phase.
abbrev pub HeldTarget : Phase → Ticket → ℕ → Type 0
HeldTarget NoTicket ticket k = ⊥
HeldTarget Claiming ticket k = k < ticket.claimed
HeldTarget Putting ticket k = (ticket.done ≤ k) × (k < ticket.n)
HeldTarget GivingBack ticket k = (ticket.done ≤ k) × (k < ticket.claimed)
HeldTarget Viewing ticket k = k < ticket.claimed
HeldTarget Viewed ticket k = (ticket.done ≤ k) × (k < ticket.claimed)

-- Statement: of a fit ticket these are the targets that are claimed and not done.
abbrev pub HeldByPhase : Type 0
HeldByPhase = (size : ℕ) (ticket : Ticket) (k : ℕ)
    → FitTicket size ticket
    → HeldTarget ticket.phase ticket k ↔ ((ticket.done ≤ k) × (k < ticket.claimed))

-- A slot is empty, or its ticket is fit.
abbrev pub FitSlot : ℕ → Ticket → Type 0
FitSlot size ticket = (ticket.phase ≡ NoTicket) ⊎ FitTicket size ticket

-- What is true of a held word: it is one of the book's words, its holder's mark, and its plain word is the value that the ticket gives it, which is no mark.
pub record HeldWord (words : Words) (plain : ℕ → ℕ) (team word value : ℕ) : Type 0 where
  pub inside : word < length words
  pub marked : read_of words word ≡ mark_of team
  pub plain_is : plain word ≡ value
  pub a_value : value < 2 ^ 63

-- At all times: every slot is fit; what a team holds is held as above; a word that is no mark is the plain word; and a word that is one is held by some team.
pub record Invariant (words : Words) (tickets : ℕ → Ticket) (plain : ℕ → ℕ) : Type 0 where
  pub fit : (team : ℕ) → FitSlot (length words) (tickets team)
  pub held : (team word value : ℕ) → Holds (tickets team) word value → HeldWord words plain team word value
  pub free : (word : ℕ) → word < length words → read_of words word < 2 ^ 63 → read_of words word ≡ plain word
  pub owned : (word : ℕ) → word < length words → 2 ^ 63 ≤ read_of words word → Holder tickets word

-- Statement: so no two teams hold one word.
abbrev pub OneHolder : Type 0
OneHolder = (words : Words) (tickets : ℕ → Ticket) (plain : ℕ → ℕ) (team other word value another : ℕ)
    → Invariant words tickets plain
    → Holds (tickets team) word value
    → Holds (tickets other) word another
    → team ≡ other

-- Statement: only the plain words of the book's words matter.
abbrev pub PlainAlike : Type 0
PlainAlike = (words : Words) (tickets : ℕ → Ticket) (plain alike : ℕ → ℕ)
    → Invariant words tickets plain
    → ((word : ℕ) → word < length words → alike word ≡ plain word)
    → Invariant words tickets alike

-- Statement: it holds at a start: no ticket, and the words are the plain words, none of them a mark.
abbrev pub HoldsAtStart : Type 0
HoldsAtStart = (words : Words) (tickets : ℕ → Ticket) (plain : ℕ → ℕ)
    → ((team : ℕ) → (tickets team).phase ≡ NoTicket)
    → ((word : ℕ) → word < length words → read_of words word ≡ plain word)
    → ((word : ℕ) → word < length words → plain word < 2 ^ 63)
    → Invariant words tickets plain

-- A ticket as an edit or a view opens it: it claims targets that can be claimed, nothing claimed and nothing done.
pub record OpenedTicket (size : ℕ) (ticket : Ticket) : Type 0 where
  pub opens : claims ticket.phase ≡ true
  pub none_claimed : ticket.claimed ≡ 0
  pub none_done : ticket.done ≡ 0
  pub claimable : Claimable size (targets_in ticket)
  pub names : is_view ticket.phase ≡ true → names_well_made (named_in ticket) (words_in ticket) ≡ true
  pub few : is_view ticket.phase ≡ true → ticket.n ≤ most_named
  pub room : is_view ticket.phase ≡ true → ticket.n ≤ length ticket.quoted

-- Statement: opening a ticket for a team that has none keeps it, with the same words and the same plain words.
abbrev pub OpeningKeeps : Type 0
OpeningKeeps = (words : Words) (tickets : ℕ → Ticket) (plain : ℕ → ℕ) (team : ℕ) (opened : Ticket)
    → Invariant words tickets plain
    → has_ticket (tickets team).phase ≡ false
    → OpenedTicket (length words) opened
    → Invariant words (with_slot tickets team opened) plain

-- A step of a team's ticket leaves this ticket, this answer and, with these plain words, the invariant.
pub record Leaves (words : Words) (tickets : ℕ → Ticket) (team : ℕ) (plain : ℕ → ℕ) (ticket : Ticket) (answer : StepAnswer) : Type 0 where
  pub is : (step_of words (tickets team) team).0 ≡ stepped ticket answer
  pub keeps : Invariant (step_of words (tickets team) team).1 (with_slot tickets team ticket) plain

-- What one step of a team's ticket does, by its answer. The plain words stay, except with the last claim: there they change, all targets at once.
pub data StepKept (words : Words) (tickets : ℕ → Ticket) (plain : ℕ → ℕ) (team : ℕ) (ticket : Ticket) : Type 0 where
  -- Claimed, and not the last.
  one_claimed : ticket.phase ≡ Claiming
      → ticket.claimed + 1 < ticket.n
      → Leaves words tickets team plain (advanced ticket Claiming (ticket.claimed + 1) ticket.done) (Claimed (ticket.claimed + 1))
      → StepKept words tickets plain team ticket
  -- Claimed n: all quoted values are the plain words, and the plain words may become any with exactly the new values put in.
  claimed_last : ticket.phase ≡ Claiming
      → ticket.claimed + 1 ≡ ticket.n
      → AllMatch (targets_in ticket) plain
      → ((after : ℕ → ℕ) → PutInto (targets_in ticket) plain after → Leaves words tickets team after (advanced ticket Putting (ticket.claimed + 1) 0) (Claimed (ticket.claimed + 1)))
      → StepKept words tickets plain team ticket
  -- Waiting: the word is some other team's, and it is named by its mark.
  waiting : ticket.phase ≡ Claiming
      → (holder : Holder tickets (target_at ticket ticket.claimed).word)
      → (holder.team ≡ team → ⊥)
      → Leaves words tickets team plain (advanced ticket Claiming ticket.claimed ticket.done) (Waiting (target_at ticket ticket.claimed).word (holder_of (mark_of holder.team)))
      → StepKept words tickets plain team ticket
  -- Found: the word named differs, its plain word is not the quoted value. What is claimed is to be given back.
  found_other : ticket.phase ≡ Claiming
      → 0 < ticket.claimed
      → (plain (target_at ticket ticket.claimed).word ≡ (target_at ticket ticket.claimed).quoted → ⊥)
      → Leaves words tickets team plain (advanced ticket GivingBack ticket.claimed 0) (Found (target_at ticket ticket.claimed).word)
      → StepKept words tickets plain team ticket
  -- Stale with nothing claimed: likewise, and the ticket is gone.
  stale_at_once : ticket.phase ≡ Claiming
      → ticket.claimed ≡ 0
      → (plain (target_at ticket ticket.claimed).word ≡ (target_at ticket ticket.claimed).quoted → ⊥)
      → Leaves words tickets team plain no_ticket (Stale (target_at ticket 0).word (one_more_try ticket.tries))
      → StepKept words tickets plain team ticket
  -- Put, and not the last.
  put_one : ticket.phase ≡ Putting
      → ticket.done + 1 < ticket.n
      → Leaves words tickets team plain (advanced ticket Putting ticket.claimed (ticket.done + 1)) (Put (ticket.done + 1))
      → StepKept words tickets plain team ticket
  -- Granted.
  put_last : ticket.phase ≡ Putting
      → ticket.done + 1 ≡ ticket.n
      → Leaves words tickets team plain no_ticket (Granted (one_more_try ticket.tries))
      → StepKept words tickets plain team ticket
  -- Returned, and not the last.
  returned_one : ticket.phase ≡ GivingBack
      → ticket.done + 1 < ticket.claimed
      → Leaves words tickets team plain (advanced ticket GivingBack ticket.claimed (ticket.done + 1)) (Returned (ticket.done + 1))
      → StepKept words tickets plain team ticket
  -- Stale after giving back: the word is that of the first target not claimed, which Found named.
  returned_last : ticket.phase ≡ GivingBack
      → ticket.done + 1 ≡ ticket.claimed
      → Leaves words tickets team plain no_ticket (Stale (target_at ticket ticket.claimed).word (one_more_try ticket.tries))
      → StepKept words tickets plain team ticket
  -- A view claimed, and not its last word: it noted the plain word.
  viewed_one : ticket.phase ≡ Viewing
      → ticket.claimed + 1 < ticket.n
      → (value : ℕ) → value ≡ plain (target_at ticket ticket.claimed).word
      → Leaves words tickets team plain (advanced (noting ticket value) Viewing (ticket.claimed + 1) ticket.done) (Claimed (ticket.claimed + 1))
      → StepKept words tickets plain team ticket
  -- A view's Claimed n: all values noted are the plain words.
  viewed_last : ticket.phase ≡ Viewing
      → ticket.claimed + 1 ≡ ticket.n
      → (value : ℕ) → AllMatch (targets_in (noting ticket value)) plain
      → Leaves words tickets team plain (advanced (noting ticket value) Viewed (ticket.claimed + 1) 0) (Claimed (ticket.claimed + 1))
      → StepKept words tickets plain team ticket
  -- A view is Waiting: likewise.
  view_waiting : ticket.phase ≡ Viewing
      → (holder : Holder tickets (target_at ticket ticket.claimed).word)
      → (holder.team ≡ team → ⊥)
      → Leaves words tickets team plain (advanced ticket Viewing ticket.claimed ticket.done) (Waiting (target_at ticket ticket.claimed).word (holder_of (mark_of holder.team)))
      → StepKept words tickets plain team ticket
  -- A view Returned, and not the last word.
  view_returned_one : ticket.phase ≡ Viewed
      → ticket.done + 1 < ticket.claimed
      → Leaves words tickets team plain (advanced ticket Viewed ticket.claimed (ticket.done + 1)) (Returned (ticket.done + 1))
      → StepKept words tickets plain team ticket
  -- Seen: the view has given all back.
  view_returned_last : ticket.phase ≡ Viewed
      → ticket.done + 1 ≡ ticket.claimed
      → Leaves words tickets team plain no_ticket (Seen (values_seen ticket))
      → StepKept words tickets plain team ticket

-- Statement: every step of a standing ticket does one of these.
abbrev pub StepKeeps : Type 0
StepKeeps = (words : Words) (tickets : ℕ → Ticket) (plain : ℕ → ℕ) (team : ℕ)
    → Invariant words tickets plain
    → has_ticket (tickets team).phase ≡ true
    → StepKept words tickets plain team (tickets team)

-- Statement: where the values that a view noted are plain words, it shows the plain words of the words named, in that order.
abbrev pub ValuesNamed : Type 0
ValuesNamed = (size : ℕ) (ticket : Ticket) (plain : ℕ → ℕ)
    → FitTicket size ticket
    → is_view ticket.phase ≡ true
    → AllMatch (targets_in ticket) plain
    → values_named ticket ≡ map plain (named_in ticket)

-- A value that a look shows is the plain word; a word that it shows as held is some team's.
abbrev pub LookRight : (ℕ → Ticket) → (ℕ → ℕ) → ℕ → Looked → Type 0
LookRight tickets plain word (Some value) = value ≡ plain word
LookRight tickets plain word None = Holder tickets word

-- Statement: every look is right.
abbrev pub LooksRight : Type 0
LooksRight = (words : Words) (tickets : ℕ → Ticket) (plain : ℕ → ℕ) (word : ℕ)
    → Invariant words tickets plain
    → word < length words
    → LookRight tickets plain word (look_of words word)

-- Statement: a word that nobody holds is the plain word.
abbrev pub UnheldPlain : Type 0
UnheldPlain = (words : Words) (tickets : ℕ → Ticket) (plain : ℕ → ℕ) (word : ℕ)
    → Invariant words tickets plain
    → word < length words
    → (Holder tickets word → ⊥)
    → read_of words word ≡ plain word

-- Statement: every put and every return finds its team's mark, so that its swap is done.
abbrev pub MarkFound : Type 0
MarkFound = (words : Words) (tickets : ℕ → Ticket) (plain : ℕ → ℕ) (team : ℕ)
    → Invariant words tickets plain
    → has_ticket (tickets team).phase ≡ true
    → claims (tickets team).phase ≡ false
    → read_of words (swap_tried words (tickets team) team).word ≡ (swap_tried words (tickets team) team).expected

-- Statement: in a book of 4,096 words every standing ticket is well made.
abbrev pub FitWellMade : Type 0
FitWellMade = (ticket : Ticket) → FitSlot words_in_book ticket → has_ticket ticket.phase ≡ true → well_made ticket ≡ true

-- Statement: of any words, not only those of the invariant, a step keeps the number of words,
abbrev pub LengthKept : Type 0
LengthKept = (words : Words) (ticket : Ticket) (team : ℕ) → length (step_of words ticket team).1 ≡ length words

-- Statement: and leaves a well-made ticket well made, or gone.
abbrev pub WellMadeKept : Type 0
WellMadeKept = (words : Words) (ticket : Ticket) (team : ℕ)
    → well_made ticket ≡ true
    → (well_made (step_of words ticket team).0.ticket ≡ true) ⊎ ((step_of words ticket team).0.ticket ≡ no_ticket)

-- What an answer says of the ticket after it, and of tries: a finished ticket is gone and its answer tells the tries; another ticket stands and has them.
abbrev pub TriesTold : ℕ → StepAnswer → Ticket → Type 0
TriesTold tries (Claimed k) after = (has_ticket after.phase ≡ true) × (after.tries ≡ tries)
TriesTold tries (Waiting word holder) after = (has_ticket after.phase ≡ true) × (after.tries ≡ tries)
TriesTold tries (Found word) after = (has_ticket after.phase ≡ true) × (after.tries ≡ tries)
TriesTold tries (Put k) after = (has_ticket after.phase ≡ true) × (after.tries ≡ tries)
TriesTold tries (Returned k) after = (has_ticket after.phase ≡ true) × (after.tries ≡ tries)
TriesTold tries (Granted told) after = (after ≡ no_ticket) × (told ≡ tries)
TriesTold tries (Stale word told) after = (after ≡ no_ticket) × (told ≡ tries)
-- A view tells no tries.
TriesTold tries (Seen values) after = after ≡ no_ticket

-- Statement: every step counts one try more.
abbrev pub TriesCounted : Type 0
TriesCounted = (words : Words) (ticket : Ticket) (team : ℕ)
    → has_ticket ticket.phase ≡ true
    → TriesTold (one_more_try ticket.tries) (step_of words ticket team).0.answer (step_of words ticket team).0.ticket

-- Statement: where the tries are the steps so far, up to the stop, they are so after one step more.
abbrev pub TriesStop : Type 0
TriesStop = (tries steps : ℕ) → tries ≡ min steps most_tries → one_more_try tries ≡ min (steps + 1) most_tries
