-- The fast way: the claims and puts of an edit that go through, told with no branch on the phase.
use Rattle.std.specs.Prelude.{ℕ, ◌+◌, ◌≤◌, ◌<◌, ◌≡◌, Bool, true, false, cond, List, ◌⊎◌, eqb, ltb, leb}
use Rattle.words.specs.Words.{Words, is_held, swap_of}
use Rattle.tickets.specs.declared.Kind.{Kind}
use Rattle.tickets.specs.declared.Kind.TheVariants.{Edit, Stale, View}
use Rattle.tickets.specs.declared.Phase.TheVariants.{Claiming}
use Rattle.tickets.specs.declared.Target.{Target}
use Rattle.tickets.specs.declared.Ticket as Slot
use Rattle.tickets.specs.declared.StepAnswer.{StepAnswer}
use Rattle.tickets.specs.declared.StepAnswer.TheVariants as Answer
use Rattle.tickets.specs.Tickets.{Ticket, well_made}
use Rattle.tickets.specs.Steps.{Stepped, stepped, swap_tried, step_of}
use Rattle.tickets.specs.Table.{claims_in, phase_of, tried_slot, gathered}
use Rattle.frames.specs.Numbers.{Bytes}
use Rattle.frames.specs.Answers.{answer_frame, PutAt}
use Rattle.frames.specs.declared.Answer.TheVariants as Told
use Rattle.replies.specs.Leaving.{LeftBy}
use Rattle.claiming.specs.Missing.{MissLeft}
use Rattle.quick.specs.declared.Tried.{Tried}
use Rattle.quick.specs.declared.Tried.TheVariants.{Went, Missed, Untried}

-- Where an edit's ticket may go the fast way: it is an edit's, stands, is well made, and claims wherever not all is claimed.
pub record Quick (targets : List Target) (slot : Slot.Ticket) : Type 0 where
  pub edit : slot.kind ≡ Edit
  pub stands : slot.done < slot.n
  pub plain : (slot.done ≡ 0) ⊎ (slot.n ≤ slot.claimed)
  pub made : well_made (gathered targets slot) ≡ true

-- Whether it claims wherever not all is claimed, as a test.
abbrev pub is_plain : Slot.Ticket → Bool
is_plain slot = cond (eqb slot.done 0) true (leb slot.n slot.claimed)

-- How many targets a ticket may have done and still go the fast way: all of an edit's that claims so; else none.
abbrev pub quick_if : Kind → Bool → ℕ → ℕ
quick_if Edit plain n = cond plain n 0
quick_if Stale plain n = 0
quick_if View plain n = 0

abbrev pub quick_swaps : Slot.Ticket → ℕ
quick_swaps slot = quick_if slot.kind (is_plain slot) slot.n

-- Whether an edit on the fast way claims: not all is claimed.
abbrev pub claims_quick : Slot.Ticket → Bool
claims_quick slot = ltb slot.claimed slot.n

-- The number of its next target: to claim, or to put.
abbrev pub next_of : Bool → Slot.Ticket → ℕ
next_of claims slot = cond claims slot.claimed slot.done

-- What came of a swap that was tried.
abbrev pub tried : Bool → ℕ → Bool → Tried
tried claims found went = cond went (Went claims) (Missed found)

-- A claim goes through where the word is as quoted; a put does in any case: it expects a mark, and "either way it counts as done".
abbrev pub quick_made : Words → Ticket → ℕ → Bool → Tried × Words
quick_made words ticket team claims =
    let next = swap_tried words ticket team in
    let swap = swap_of words next.word next.expected next.desired in
    (tried claims swap.found (cond (eqb swap.found next.expected) true (is_held next.expected)), swap.words)

-- The next swap of a ticket with fewer done than may be on the fast way; else none.
unfoldable pub quick_tried : Words → List Target → ℕ → Slot.Ticket → ℕ → Tried × Words
quick_tried words targets team slot quick =
    cond (leb quick slot.done)
    (Untried, words)
    (quick_made words (gathered targets slot) team (claims_quick slot))

-- The ticket after a claim or a put that went through.
abbrev pub advanced_by : Bool → Slot.Ticket → Slot.Ticket
advanced_by claims slot =
    cond claims
    (tried_slot slot slot.kind (slot.claimed + 1) slot.done)
    (tried_slot slot slot.kind slot.claimed (slot.done + 1))

-- Where it may be advanced so.
pub record AdvancesBy (claims : Bool) (slot : Slot.Ticket) : Type 0 where
  pub to_claim : claims ≡ true → (slot.done ≡ 0) × (slot.claimed < slot.n)
  pub to_put : claims ≡ false → (slot.kind ≡ Edit) × (slot.done < slot.n) × (claims_in slot ≡ false)

-- Its answer, by the ticket after it.
abbrev pub told_answer : Bool → Slot.Ticket → StepAnswer
told_answer claims after =
    cond (eqb after.done after.n) (Answer.Granted after.tries)
    (cond claims (Answer.Claimed after.claimed) (Answer.Put after.done))

-- The answer to a step, put at a place of an output.
abbrev pub ToldAt : Bytes → ℕ → StepAnswer → ℕ → Bytes → Type 0
ToldAt out at answer place output = PutAt out at (answer_frame (Told.Step answer)) place output

-- Statement: a well-made ticket with fewer done than `quick_swaps` may go the fast way,
abbrev pub QuickByCount : Type 0
QuickByCount =
    (targets : List Target) (slot : Slot.Ticket)
    → slot.done < quick_swaps slot
    → well_made (gathered targets slot) ≡ true
    → Quick targets slot

-- and the fast way keeps that number.
abbrev pub QuickKept : Type 0
QuickKept =
    (targets : List Target) (slot : Slot.Ticket)
    → Quick targets slot
    → quick_swaps (advanced_by (claims_quick slot) slot) ≡ quick_swaps slot

-- What a swap tried on the fast way says: where it went through the ticket may be advanced; where it missed it was a claim;
-- and else none was tried.
pub record TriedSays (words : Words) (targets : List Target) (team : ℕ) (slot : Slot.Ticket) (quick : ℕ) (result : Tried) (after : Words) : Type 0 where
  pub few_done : (claims : Bool) → result ≡ Went claims → slot.done < quick
  pub claims_is : (claims : Bool) → result ≡ Went claims → claims ≡ claims_quick slot
  pub advances : (claims : Bool) → result ≡ Went claims → AdvancesBy claims slot
  pub claimed : result ≡ Went true → phase_of slot ≡ Claiming
  pub few_missed : (found : ℕ) → result ≡ Missed found → slot.done < quick
  pub claiming : (found : ℕ) → result ≡ Missed found → phase_of slot ≡ Claiming
  pub nothing_tried : result ≡ Untried → after ≡ words

abbrev pub QuickSays : Type 0
QuickSays =
    (words : Words) (targets : List Target) (team : ℕ) (slot : Slot.Ticket) (quick : ℕ) (result : Tried) (after : Words)
    → (slot.done < quick → Quick targets slot)
    → ◌≡◌ {A = Tried × Words} (result, after) (quick_tried words targets team slot quick)
    → TriedSays words targets team slot quick result after

-- Statement: where the swap went through, it is the step: the ticket advanced, and the answer told.
abbrev pub QuickIsStep : Type 0
QuickIsStep =
    (words : Words) (targets : List Target) (team : ℕ) (slot : Slot.Ticket) (quick : ℕ) (result : Tried) (after : Words) (claims : Bool)
    → (slot.done < quick → Quick targets slot)
    → ◌≡◌ {A = Tried × Words} (result, after) (quick_tried words targets team slot quick)
    → result ≡ Went claims
    → let next = advanced_by claims slot in
    ◌≡◌ {A = Stepped × Words} (step_of words (gathered targets slot) team) (stepped (gathered targets next) (told_answer claims next), after)

-- Statement: where a claim was tried and missed, the step is what `missed` leaves.
abbrev pub QuickMissed : Type 0
QuickMissed =
    (words : Words) (targets : List Target) (team : ℕ) (slot : Slot.Ticket) (quick : ℕ) (result : Tried) (after : Words) (found : ℕ) (left : Slot.Ticket) (out : Bytes) (count : ℕ) (output : Bytes)
    → (slot.done < quick → Quick targets slot)
    → ◌≡◌ {A = Tried × Words} (result, after) (quick_tried words targets team slot quick)
    → result ≡ Missed found
    → MissLeft targets slot found left out count output
    → LeftBy (step_of words (gathered targets slot) team) targets left after out count output
