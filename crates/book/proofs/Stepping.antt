-- A turn of the stream, by the way that its frame goes: a step on the fast way, any other step, and any other frame.
use Rattle.std.specs.Prelude.{Option, None, Some, unwrap_or, Result, Ok, Err}
use native.Mathlib.Omega.{arith}
use native.Mathlib.Decide.{ℕ_discrete, dec_lt}
use Prim.Native.Nat.{ℕ, ◌+◌, ◌-◌, ◌<◌, ◌≤◌}
use mathlib.Core.Path.{◌≡◌, refl, sym, ap, subst, ◌∙◌}
use mathlib.Core.Bool.{Bool, true, false, cond, false≢true}
use mathlib.Core.List.{List}
use borrow.Author.Tests.{lt-ltb, le-ltb}
use lib.Dec.{eqb, ltb}
use lib.ListN.{length, get_or, set, length-set}
use lib.Seq.{get_or-set_same, get_or-set_other, set-get_or}
use Rattle.words.specs.Words.{Words, words_in_book, team_count}
use Rattle.legs.specs.Positions.{Ranks}
use Rattle.tickets.specs.declared.Kind.{Kind}
use Rattle.tickets.specs.declared.Kind.TheVariants.{Edit, Stale, View}
use Rattle.tickets.specs.declared.Target.{Target}
use Rattle.tickets.specs.declared.Ticket as Slot
use Rattle.tickets.specs.declared.Slot as Kept
use Rattle.tickets.specs.declared.Tickets as Table
use Rattle.tickets.specs.Tickets.{Ticket, has_ticket, well_made, SlotWellMade}
use Rattle.tickets.specs.Steps.{Stepped, step_of}
use Rattle.tickets.specs.Table.{absent_slot, gathered, ticket_said, table_with, table_of, slot_of}
use Rattle.tickets.proofs.Gathering.{gathered_has}
use Rattle.frames.specs.declared.Answer.TheVariants as Answer
use Rattle.frames.specs.Numbers.{Bytes}
use Rattle.frames.specs.Requests.{step_kind}
use Rattle.frames.specs.Answers.{answer_frame, longest_answer, room_in, with_room, PutAt}
use Rattle.calls.specs.Way.{Aim}
use Rattle.calls.specs.Way.{Settled, AimKnown, aim_of, settled_by}
use Rattle.calls.specs.Way as way
use Rattle.calls.specs.declared.Stop.{Stop}
use Rattle.calls.specs.declared.Stop.TheVariants.{MoreInput, OutputFull}
use Rattle.calls.specs.Stream.{next_at, stopped_or, streamed, stream_from}
use Rattle.calls.proofs.Streaming.{stops, full}
use Rattle.dispatch.specs.declared.Ahead.{Ahead}
use Rattle.dispatch.specs.Ahead.{frame_at, ahead_by, ahead_of}
use Rattle.replies.specs.Leaving.{LeftBy}
use Rattle.quick.specs.declared.Tried.{Tried}
use Rattle.quick.specs.declared.Tried.TheVariants.{Went, Missed, Untried}
use Rattle.quick.proofs.Trying.{none_missed}
use Rattle.quick.proofs.Advancing.{quick_by_count, quick_kept, quick_says, quick_is_step, quick_missed}
use Rattle.quick.specs.Quick.{Quick, is_plain, quick_if, quick_swaps, quick_tried, advanced_by, told_answer, TriedSays}
use Rattle.handlers.specs.declared.Opened.{Opened}
use Rattle.handlers.specs.Settling.{step_by, NoStep, SettledAs, StepLeft, slot_after, OpenedAs}
use Rattle.handlers.proofs.Cases.{step_by_lem, steps_made, no_word}
use Rattle.book.specs.Quickly.{quick_for, QuickSlots}
use Rattle.book.proofs.Stored.{slot_with}
use Rattle.handlers.proofs.Rooms.{fits_all}
use Rattle.book.proofs.Rooms.{put_rest, answer_fits, SettledAt, settled_at}
use Rattle.book.proofs.Turning.{Goes, Turn, next_none, ended, frame_in, team_of, ticket_in, settled_in, slot_known_made, turned}

-- The point of the code at which something is to be shown.
abbrev pub Point : {A : Type 0} {B : A → Type 0} → ((c : A) → B c) → Type 0
Point {A} shown = A

-- Where nothing is ahead to be answered, the stream ends.
pub ends_ahead : (words : Words) (table : Table.Tickets) (ranks : Ranks) (input out : Bytes) (at filled most : ℕ) (stop : Stop) → length input - at ≤ most → ahead_of input at (length out - filled) ≡ Err stop
    → stream_from most words (table_of table) ranks input out at filled ≡ (streamed (table_of table) at filled stop, words, out)
unfolding ahead_of
ends_ahead words table ranks input out at filled most stop enough ahead = elim (dec_lt at (length input)) [
  | yes more ↦ by (omega (arith, enough, more)) (next_at input at) refl ahead
  | no none ↦
      let over : length input ≤ at = omega (arith, none) in
      ended most words table ranks input out at filled over
      ∙ (λ i. (streamed (table_of table) at filled (ap stop_in (ap (λ (n : Result ℕ Stop). stopped_or n Err answered_if) (sym (next_none input at over)) ∙ ahead) i), words, out))
]
  where
    stop_in : Result Ahead Stop → Stop
    stop_in (Err stop) = stop
    stop_in (Ok (Ahead.Step team)) = MoreInput
    stop_in (Ok (Ahead.Other size)) = MoreInput

    ends : Result Ahead Stop → Bool
    ends (Err stop) = true
    ends (Ok (Ahead.Step team)) = false
    ends (Ok (Ahead.Other size)) = false

    answered : (aim : Result Aim ℕ) (size : ℕ) → ahead_by aim size ≡ Err stop → ⊥
    answered (Err number) size e = false≢true (ap ends e)
    answered (Ok Aim.Look) size e = false≢true (ap ends e)
    answered (Ok (Aim.Team kind team)) size e = go (eqb kind step_kind) e
      where
        go : (step : Bool) → cond step (Ok (Ahead.Step team)) (Ok (Ahead.Other size)) ≡ Err stop → ⊥
        go true e = false≢true (ap ends e)
        go false e = false≢true (ap ends e)

    answered_if : ℕ → Result Ahead Stop
    answered_if size = cond (ltb (length out - filled) longest_answer) (Err OutputFull) (ahead_by (aim_of (frame_at input at size)) size)

    by : 0 < most → (next : Result ℕ Stop) → next_at input at ≡ next → stopped_or next Err answered_if ≡ Err stop
        → stream_from most words (table_of table) ranks input out at filled ≡ (streamed (table_of table) at filled stop, words, out)
    by some (Err found) is e = stops words (table_of table) ranks input out at filled most found some is ∙ (λ i. (streamed (table_of table) at filled (ap stop_in e i), words, out))
    by some (Ok size) is e = full_or (dec_lt (length out - filled) longest_answer)
      where
        full_or : Dec (length out - filled < longest_answer) → stream_from most words (table_of table) ranks input out at filled ≡ (streamed (table_of table) at filled stop, words, out)
        full_or (yes short) =
            full words (table_of table) ranks input out at filled most size some is short
            ∙ (λ i. (streamed (table_of table) at filled (ap stop_in (ap (λ b. cond b (Err OutputFull) (ahead_by (aim_of (frame_at input at size)) size)) (sym (lt-ltb (length out - filled) longest_answer short)) ∙ e) i), words, out))
        full_or (no room) = absurd (answered (aim_of (frame_at input at size)) size (ap (λ b. cond b (Err OutputFull) (ahead_by (aim_of (frame_at input at size)) size)) (sym (le-ltb (length out - filled) longest_answer (omega (arith, room)))) ∙ e))

-- A frame that is ahead as no step is none.
pub other_than_step : (input : Bytes) (at room size : ℕ) (aim : Result Aim ℕ) → ahead_of input at room ≡ Ok (Ahead.Other size) → aim ≡ aim_of (frame_at input at size) → NoStep aim
unfolding ahead_of
other_than_step input at room size aim ahead aimed = by (next_at input at) ahead
  where
    others : Result Ahead Stop → Bool
    others (Err stop) = false
    others (Ok (Ahead.Step team)) = false
    others (Ok (Ahead.Other size)) = true

    size_in : Result Ahead Stop → ℕ
    size_in (Err stop) = 0
    size_in (Ok (Ahead.Step team)) = 0
    size_in (Ok (Ahead.Other size)) = size

    told : (aim : Result Aim ℕ) (found : ℕ) → ahead_by aim found ≡ Ok (Ahead.Other size) → NoStep aim × (found ≡ size)
    told (Err number) found e = (tt, ap size_in e)
    told (Ok Aim.Look) found e = (tt, ap size_in e)
    told (Ok (Aim.Team kind team)) found e = go (eqb kind step_kind) refl e
      where
        go : (step : Bool) → eqb kind step_kind ≡ step → cond {A = Result Ahead Stop} step (Ok (Ahead.Step team)) (Ok (Ahead.Other found)) ≡ Ok (Ahead.Other size) → (eqb kind step_kind ≡ false) × (found ≡ size)
        go true is e = absurd (false≢true (ap others e))
        go false is e = (is, ap size_in e)

    by : (next : Result ℕ Stop) → stopped_or next Err (λ size. cond (ltb room longest_answer) (Err OutputFull) (ahead_by (aim_of (frame_at input at size)) size)) ≡ Ok (Ahead.Other size) → NoStep aim
    by (Err stop) e = absurd (false≢true (ap others e))
    by (Ok found) e = go (ltb room longest_answer) e
      where
        go : (short : Bool) → cond short (Err OutputFull) (ahead_by (aim_of (frame_at input at found)) found) ≡ Ok (Ahead.Other size) → NoStep aim
        go true e = absurd (false≢true (ap others e))
        go false e =
            let (no_step, same) = told (aim_of (frame_at input at found)) found e in
            subst NoStep (sym (aimed ∙ ap (λ (k : ℕ). aim_of (frame_at input at k)) (sym same))) no_step

-- What the stream keeps beside its table, after a slot is stored anew: its own number, or the same one.
pub quick_stored : (known : Bool) (slots : List Kept.Slot) (quick : List ℕ) (team value : ℕ) (slot : Kept.Slot) → team < team_count → QuickSlots known slots quick → value ≡ quick_for known slot.ticket → QuickSlots known (set slots team slot) (set quick team value)
quick_stored known slots quick team value slot inside before is = record {
  slots_room = length-set slots team slot ∙ before.slots_room;
  room = length-set quick team value ∙ before.room;
  each = λ k below. elim (ℕ_discrete k team) [
    | yes same ↦
        ap (λ (j : ℕ). get_or (set quick team value) j 0) same ∙ get_or-set_same quick team value 0 (omega (arith, inside, before.room)) ∙ is
        ∙ ap (λ (s : Kept.Slot). quick_for known s.ticket) (sym (ap (λ (j : ℕ). get_or (set slots team slot) j absent_slot) same ∙ get_or-set_same slots team slot absent_slot (omega (arith, inside, before.slots_room))))
    | no other ↦
        get_or-set_other quick team k value 0 other ∙ before.each k below ∙ ap (λ (s : Kept.Slot). quick_for known s.ticket) (sym (get_or-set_other slots team k slot absent_slot other))
  ];
}

pub quick_same : (known : Bool) (slots : List Kept.Slot) (quick : List ℕ) (team : ℕ) (slot : Kept.Slot) → team < team_count → QuickSlots known slots quick → quick_for known slot.ticket ≡ quick_for known (get_or slots team absent_slot).ticket → QuickSlots known (set slots team slot) quick
quick_same known slots quick team slot inside before is =
    subst (QuickSlots known (set slots team slot)) (set-get_or quick team 0)
    (quick_stored known slots quick team (get_or quick team 0) slot inside before (before.each team inside ∙ sym is))

-- A ticket with fewer done than may be on the fast way stands.
few_stand : (slot : Slot.Ticket) → slot.done < quick_swaps slot → slot.done < slot.n
few_stand slot few = go slot.kind (is_plain slot) few
  where
    go : (kind : Kind) (plain : Bool) → slot.done < quick_if kind plain slot.n → slot.done < slot.n
    go Edit true few = few
    go Edit false few = omega (arith, few)
    go Stale plain few = omega (arith, few)
    go View plain few = omega (arith, few)

pub stands_made : (targets : List Target) (slot : Slot.Ticket) → slot.done < slot.n → SlotWellMade (gathered targets slot) → (has_ticket (gathered targets slot).phase ≡ true) × (well_made (gathered targets slot) ≡ true)
stands_made targets slot below made = let has = gathered_has targets slot ∙ lt-ltb slot.done slot.n below in (has, made has)

module _ (turn : Turn) (team : ℕ) (is_step_lem : turn.aim ≡ Ok (Aim.Team step_kind team)) (quick : List ℕ) (kept : QuickSlots turn.known turn.table.slots quick) where
  abbrev slot : Slot.Ticket
  slot = (slot_of turn.table team).ticket

  abbrev targets : List Target
  targets = (slot_of turn.table team).targets

  abbrev ticket : Ticket
  ticket = gathered targets slot

  team_known : team < team_count
  team_known = (subst (AimKnown (frame_in turn)) is_step_lem turn.aim_known).2

  team_is : team_of turn ≡ team
  team_is = ap way.slot_of is_step_lem

  made : turn.known ≡ true → SlotWellMade ticket
  made known = subst (λ (t : ℕ). SlotWellMade (ticket_said (slot_of turn.table t))) team_is (slot_known_made turn known)

  -- Where fewer are done than the stream keeps beside the slot, the ticket may go the fast way.
  pub quick_at : slot.done < get_or quick team 0 → Quick targets slot
  quick_at few = go turn.known made (subst (λ (q : ℕ). slot.done < q) (kept.each team team_known) few)
    where
      go : (known : Bool) → (known ≡ true → SlotWellMade ticket) → slot.done < quick_for known slot → Quick targets slot
      go true passes few = quick_by_count targets slot few (stands_made targets slot (few_stand slot few) (passes refl)).1
      go false passes few = absurd (no_less few)
        where
          no_less : slot.done < 0 → ⊥
          no_less l = omega (arith, l)

  -- What the frame settles is the step.
  settles : settled_in turn ≡ step_by turn.words ticket team
  settles =
      ap (λ (a : Result Aim ℕ). settled_by turn.words (ticket_said (slot_of turn.table (way.slot_of a))) turn.ranks (frame_in turn) a) is_step_lem
      ∙ step_by_lem turn.words ticket turn.ranks (frame_in turn) team

  -- What a step leaves, as the turn has it.
  step_turned : (left : Slot.Ticket) (targets_after : List Target) (after : Words) (place : ℕ) (output : Bytes)
      → SettledAt (step_by turn.words ticket team) targets_after left after turn.out turn.filled place output
      → length after ≡ words_in_book
      → Goes turn.ranks turn.input turn.long turn.all turn.known after output (table_with (set turn.table.slots team (slot_with left targets_after))) (turn.at + turn.size) place
  step_turned left targets_after after place output settled_as whole =
      subst (λ (t : ℕ). Goes turn.ranks turn.input turn.long turn.all turn.known after output (table_with (set turn.table.slots t (slot_with left targets_after))) (turn.at + turn.size) place) team_is
      (turned turn left targets_after after place output
      (settled_as.ticket_left ∙ ap (λ (r : Settled × Words). r.0.ticket) (sym settles))
      (settled_as.words_left ∙ ap (λ (r : Settled × Words). r.1) (sym settles))
      whole
      (subst (λ (r : Settled × Words). PutAt turn.out turn.filled (answer_frame r.0.answer) place output) (sym settles) settled_as.answered))

  -- By a step of a ticket that stands and is well made.
  by_step : (left : Slot.Ticket) (targets_after : List Target) (after : Words) (out : Bytes) (count : ℕ) (output : Bytes) → (has_ticket ticket.phase ≡ true) × (well_made ticket ≡ true)
      → LeftBy (step_of turn.words ticket team) targets_after left after out count output
      → SettledAs (step_by turn.words ticket team) targets_after left after out count output
  by_step left targets_after after out count output (stands, well) by =
      subst (λ (r : Settled × Words). SettledAs r targets_after left after out count output) (steps_made turn.words ticket team stands well)
      record { ticket_left = by.ticket_left; words_left = by.words_left; answered = by.answered }

  -- There is room for its answer.
  pub room_there : turn.filled + longest_answer ≤ length turn.out
  room_there = omega (arith, turn.goes.fits, turn.ahead.answerable)

-- A swap on the fast way.
module _ (turn : Turn) (team : ℕ) (is_step_lem : turn.aim ≡ Ok (Aim.Team step_kind team)) (quick : List ℕ) (kept : QuickSlots turn.known turn.table.slots quick) (tried : Tried) (after : Words) (whole : length after ≡ words_in_book)
    (is : ◌≡◌ {A = Tried × Words} (tried, after) (quick_tried turn.words (slot_of turn.table team).targets team (slot_of turn.table team).ticket (get_or quick team 0))) where
  abbrev its_slot : Slot.Ticket
  its_slot = (slot_of turn.table team).ticket

  abbrev its_targets : List Target
  its_targets = (slot_of turn.table team).targets

  abbrev its_ticket : Ticket
  its_ticket = gathered its_targets its_slot

  fast_at : its_slot.done < get_or quick team 0 → Quick its_targets its_slot
  fast_at = quick_at turn team is_step_lem quick kept

  known_team : team < team_count
  known_team = team_known turn team is_step_lem quick kept

  pub says : TriedSays turn.words its_targets team its_slot (get_or quick team 0) tried after
  says = quick_says turn.words its_targets team its_slot (get_or quick team 0) tried after fast_at is

  -- It went through: the loop goes on, and the number beside the its-slot stays.
  pub went_on : (claims : Bool) → tried ≡ Went claims → (next : Slot.Ticket) (place : ℕ) (output : Bytes) → next ≡ advanced_by claims its_slot
      → PutAt turn.out turn.filled (answer_frame (Answer.Step (told_answer claims next))) place output
      → Goes turn.ranks turn.input turn.long turn.all turn.known after output (table_with (set turn.table.slots team (slot_with next its_targets))) (turn.at + turn.size) place
      × QuickSlots turn.known (set turn.table.slots team (slot_with next its_targets)) quick
  went_on claims went next place output next_is put =
      let fast = fast_at (says.few_done claims went) in
      let told = quick_is_step turn.words its_targets team its_slot (get_or quick team 0) tried after claims fast_at is went in
      let advanced = advanced_by claims its_slot in (
        step_turned turn team is_step_lem quick kept next its_targets after place output
            (subst (λ (r : Settled × Words). SettledAt r its_targets next after turn.out turn.filled place output) (steps_made turn.words its_ticket team (gathered_has its_targets its_slot ∙ lt-ltb _ _ fast.stands) fast.made)
            record {
              ticket_left = ap (gathered its_targets) next_is ∙ ap (λ (r : Stepped × Words). r.0.ticket) (sym told);
              words_left = ap (λ (r : Stepped × Words). r.1) (sym told);
              answered = subst (λ (r : Stepped × Words). PutAt turn.out turn.filled (answer_frame (Answer.Step r.0.answer)) place output) (sym told)
                  (subst (λ (t : Slot.Ticket). PutAt turn.out turn.filled (answer_frame (Answer.Step (told_answer claims t))) place output) next_is put);
            })
            whole,
        quick_same turn.known turn.table.slots quick team (slot_with next its_targets) known_team kept
            (ap (quick_for turn.known) next_is ∙ same_number turn.known fast),
      )
    where
      same_number : (known : Bool) → Quick its_targets its_slot → quick_for known (advanced_by claims its_slot) ≡ quick_for known its_slot
      same_number true fast = ap (λ b. quick_swaps (advanced_by b its_slot)) (says.claims_is claims went) ∙ quick_kept its_targets its_slot fast
      same_number false fast = refl

  -- It did not: what the other steps leave, the answer at the front of the rest.
  stepped_as : ((claims : Bool) → tried ≡ Went claims → ⊥) → (left : Slot.Ticket) (targets_after : List Target) (words_after : Words) (count : ℕ) (rest : Bytes)
      → StepLeft after its_targets team its_slot tried left words_after targets_after (room_in turn.out turn.filled) count rest
      → SettledAs (step_by turn.words its_ticket team) targets_after left words_after (room_in turn.out turn.filled) count rest
  stepped_as stays left targets_after words_after count rest by = each tried refl
    where
      tried_here : (found : ℕ) → tried ≡ Missed found → SettledAs (step_by turn.words its_ticket team) targets_after left words_after (room_in turn.out turn.filled) count rest
      tried_here found missed =
          let (targets_same, words_same, left_by_lem) = by.missed found missed in
          let fast = fast_at (says.few_missed found missed) in
          let step = quick_missed turn.words its_targets team its_slot (get_or quick team 0) tried after found left (room_in turn.out turn.filled) count rest fast_at is missed left_by_lem in
          by_step turn team is_step_lem quick kept left targets_after words_after (room_in turn.out turn.filled) count rest (gathered_has its_targets its_slot ∙ lt-ltb _ _ fast.stands, fast.made)
          record {
            ticket_left = ap (λ (l : List Target). gathered l left) targets_same ∙ step.ticket_left;
            words_left = words_same ∙ step.words_left;
            answered = step.answered;
          }

      made_there : tried ≡ Untried → SettledAs (step_by turn.words its_ticket team) targets_after left words_after (room_in turn.out turn.filled) count rest
      made_there none =
          subst (λ (w : Words). SettledAs (step_by w its_ticket team) targets_after left words_after (room_in turn.out turn.filled) count rest) (says.nothing_tried none) (by.made (λ found missed. none_missed found (sym none ∙ missed)))

      each : (result : Tried) → tried ≡ result → SettledAs (step_by turn.words its_ticket team) targets_after left words_after (room_in turn.out turn.filled) count rest
      each (Went claims) is = absurd (stays claims is)
      each (Missed found) is = tried_here found is
      each Untried is = made_there is

  pub stepped_fits : ((claims : Bool) → tried ≡ Went claims → ⊥) → (left : Slot.Ticket) (targets_after : List Target) (words_after : Words) (count : ℕ) (rest : Bytes)
      → StepLeft after its_targets team its_slot tried left words_after targets_after (room_in turn.out turn.filled) count rest
      → turn.filled + count ≤ length turn.out
  stepped_fits stays left targets_after words_after count rest by =
      answer_fits (step_by turn.words its_ticket team).0.answer turn.filled (length turn.out) (room_in turn.out turn.filled) (room_there turn team is_step_lem quick kept) (stepped_as stays left targets_after words_after count rest by).answered

  pub stepped_on : ((claims : Bool) → tried ≡ Went claims → ⊥) → (left : Slot.Ticket) (targets_after : List Target) (words_after : Words) (count : ℕ) (rest output : Bytes) (value : ℕ)
      → StepLeft after its_targets team its_slot tried left words_after targets_after (room_in turn.out turn.filled) count rest
      → length words_after ≡ words_in_book
      → output ≡ with_room turn.out turn.filled rest
      → value ≡ quick_for turn.known left
      → Goes turn.ranks turn.input turn.long turn.all turn.known words_after output (table_with (set turn.table.slots team (slot_with left targets_after))) (turn.at + turn.size) (turn.filled + count)
      × QuickSlots turn.known (set turn.table.slots team (slot_with left targets_after)) (set quick team value)
  stepped_on stays left targets_after words_after count rest output value by whole_after stored number = (
    step_turned turn team is_step_lem quick kept left targets_after words_after (turn.filled + count) output
        (settled_at turn.out turn.filled count rest output (room_there turn team is_step_lem quick kept) (stepped_as stays left targets_after words_after count rest by) stored) whole_after,
    quick_stored turn.known turn.table.slots quick team value (slot_with left targets_after) known_team kept number,
  )

-- Any other frame, in the slot that the code took for it, its answer at the front of the rest.
module _ (turn : Turn) (other : NoStep turn.aim) (quick : List ℕ) (kept : QuickSlots turn.known turn.table.slots quick) (team : ℕ) (slotted : team ≡ team_of turn) (opened : Opened) (targets_after : List Target) (rest output : Bytes)
    (left_as : OpenedAs (settled_by turn.words (ticket_said (slot_of turn.table team)) turn.ranks (frame_in turn) turn.aim).0 targets_after (slot_of turn.table team).ticket opened (room_in turn.out turn.filled) rest)
    (stored : output ≡ with_room turn.out turn.filled rest) where
  frame_as : OpenedAs (settled_in turn).0 targets_after (slot_of turn.table (team_of turn)).ticket opened (room_in turn.out turn.filled) rest
  frame_as =
      subst (λ (t : ℕ). OpenedAs (settled_by turn.words (ticket_said (slot_of turn.table t)) turn.ranks (frame_in turn) turn.aim).0 targets_after (slot_of turn.table t).ticket opened (room_in turn.out turn.filled) rest)
      slotted left_as

  pub frame_fits : turn.filled + opened.written ≤ length turn.out
  frame_fits = answer_fits (settled_in turn).0.answer turn.filled (length turn.out) (room_in turn.out turn.filled) (omega (arith, turn.goes.fits, turn.ahead.answerable)) frame_as.answered

  -- The slot as it is stored.
  frame_turned : (left : Slot.Ticket) → slot_after opened (slot_of turn.table (team_of turn)).ticket ≡ left
      → Goes turn.ranks turn.input turn.long turn.all turn.known turn.words output (table_with (set turn.table.slots (team_of turn) (slot_with left targets_after))) (turn.at + turn.size) (turn.filled + opened.written)
  frame_turned left is =
      turned turn left targets_after turn.words (turn.filled + opened.written) output
      (ap (gathered targets_after) (sym is) ∙ frame_as.ticket_left)
      (sym (no_word turn.words (ticket_in turn) turn.ranks (frame_in turn) turn.aim other))
      turn.goes.book
      (put_rest turn.out turn.filled (answer_frame (settled_in turn).0.answer) opened.written rest output (fits_all (settled_in turn).0.answer) (omega (arith, turn.goes.fits, turn.ahead.answerable)) frame_as.answered stored)

  -- A ticket is opened,
  pub opened_on : (after : Slot.Ticket) → opened.ticket ≡ Some after → team < team_count → (value : ℕ) → value ≡ quick_for turn.known after
      → Goes turn.ranks turn.input turn.long turn.all turn.known turn.words output (table_with (set turn.table.slots team (slot_with after targets_after))) (turn.at + turn.size) (turn.filled + opened.written)
      × QuickSlots turn.known (set turn.table.slots team (slot_with after targets_after)) (set quick team value)
  opened_on after opens inside value number = (
    subst (λ (t : ℕ). Goes turn.ranks turn.input turn.long turn.all turn.known turn.words output (table_with (set turn.table.slots t (slot_with after targets_after))) (turn.at + turn.size) (turn.filled + opened.written)) (sym slotted)
        (frame_turned after (ap (λ (o : Option Slot.Ticket). unwrap_or o (slot_of turn.table (team_of turn)).ticket) opens)),
    quick_stored turn.known turn.table.slots quick team value (slot_with after targets_after) inside kept number,
  )

  -- or none is.
  pub unopened_on : opened.ticket ≡ None → team < team_count
      → Goes turn.ranks turn.input turn.long turn.all turn.known turn.words output (table_with (set turn.table.slots team (slot_with (slot_of turn.table team).ticket targets_after))) (turn.at + turn.size) (turn.filled + opened.written)
      × QuickSlots turn.known (set turn.table.slots team (slot_with (slot_of turn.table team).ticket targets_after)) quick
  unopened_on closed inside = (
    subst (λ (t : ℕ). Goes turn.ranks turn.input turn.long turn.all turn.known turn.words output (table_with (set turn.table.slots t (slot_with (slot_of turn.table t).ticket targets_after))) (turn.at + turn.size) (turn.filled + opened.written)) (sym slotted)
        (frame_turned (slot_of turn.table (team_of turn)).ticket (ap (λ (o : Option Slot.Ticket). unwrap_or o (slot_of turn.table (team_of turn)).ticket) closed)),
    quick_same turn.known turn.table.slots quick team (slot_with (slot_of turn.table team).ticket targets_after) inside kept refl,
  )
