-- What a frame settles, case by case: each test of the code, and what the definitions of the way say there.
use Rattle.edits.specs.declared.View.{View}
use Rattle.std.specs.Prelude.{None, Result, Ok, Err}
use Prim.Native.Nat.{ℕ, ◌≤◌}
use mathlib.Core.Path.{◌≡◌, refl, sym, ap, subst, ◌∙◌}
use mathlib.Core.Bool.{Bool, true, false, cond, not, false≢true}
use mathlib.Core.List.{List, [], ◌∷◌}
use native.Mathlib.Decide.{ℕ_discrete}
use borrow.Author.Tests.{eq-eqb, ne_eqb}
use lib.Dec.{eqb}
use lib.ListN.{length}
use Rattle.words.specs.Tests.{distinct}
use Rattle.words.specs.Words.{Words, most_named}
use Rattle.words.proofs.Tests.{split}
use Rattle.legs.specs.Positions.{Ranks}
use Rattle.tickets.specs.declared.Target.{Target}
use Rattle.tickets.specs.declared.Ticket as Slot
use Rattle.tickets.specs.Tickets.{Ticket, has_ticket, well_made, SlotWellMade, slot_well_made}
use Rattle.tickets.specs.Steps.{step_of}
use Rattle.tickets.specs.Table.{stands_in, gathered}
use Rattle.tickets.proofs.Gathering.{gathered_has}
use Rattle.edits.specs.declared.Edit.{Edit}
use Rattle.edits.specs.Ranges.{edit_allowed}
use Rattle.edits.specs.Opened.{target_count, opened_ticket}
use Rattle.edits.specs.Views.{all_in_book, view_in_range, view_repeats, FineView, view_of, words_named, opened_view}
use Rattle.edits.proofs.Views.{words_named_lem}
use Rattle.frames.specs.declared.Answer.{Answer}
use Rattle.frames.specs.declared.Refusal.{Refusal}
use Rattle.frames.specs.Numbers.{Bytes, number16}
use Rattle.frames.specs.Requests.{part_after_kind, step_kind, look_kind, view_kind, is_edit_kind, edit_of_kind, angles_of_kind, view_words_in}
use Rattle.frames.specs.Answers.{answer_frame, written}
use Rattle.frames.specs.Fields.{read_if, read_edit, view_read, ViewFields, Whole}
use Rattle.frames.proofs.Headers.{edit_kind_lem, other_kind, fields_of_kind, fields_of_view}
use Rattle.decoder.proofs.Decoded.{only_allowed}
use Rattle.calls.proofs.Refusing.{named_many}
use Rattle.calls.specs.Way.{Aim}
use Rattle.calls.specs.Way.{Settled, AimKnown, settled_with, look_answer, open_settled, view_settled, step_settled, new_settled, EditFields, team_settled, look_settled, settled_by}
use Rattle.replies.specs.Leaving.{LeftBy}
use Rattle.handlers.specs.declared.Opened.{Opened}
use Rattle.quick.specs.declared.Tried.{Tried}
use Rattle.quick.specs.declared.Tried.TheVariants.{Missed}
use Rattle.handlers.specs.Settling.{step_by, open_by, NoStep, SettledAs, StepLeft, slot_asked, answer_asked, AskedAs, OpenedBy, OpenedAs}

-- A step of a team.
pub step_by_lem : (words : Words) (ticket : Ticket) (ranks : Ranks) (frame : Bytes) (team : ℕ) → settled_by words ticket ranks frame (Ok (Aim.Team step_kind team)) ≡ step_by words ticket team
unfolding settled_by team_settled
step_by_lem words ticket ranks frame team = refl

-- A team's ticket, as the step asks for it: none,
pub steps_none : (words : Words) (ticket : Ticket) (team : ℕ) → has_ticket ticket.phase ≡ false → ◌≡◌ {A = Settled × Words} (settled_with ticket (Answer.Refused 9), words) (step_by words ticket team)
steps_none words ticket team none = rw none refl

-- one that is not well made, and one that is.
pub steps_badly : (words : Words) (ticket : Ticket) (team : ℕ) → has_ticket ticket.phase ≡ true → well_made ticket ≡ false → ◌≡◌ {A = Settled × Words} (settled_with ticket (Answer.Refused 7), words) (step_by words ticket team)
steps_badly words ticket team stands badly = rw (stands, badly) refl

pub steps_made : (words : Words) (ticket : Ticket) (team : ℕ) → has_ticket ticket.phase ≡ true → well_made ticket ≡ true → step_settled (step_of words ticket team) ≡ step_by words ticket team
steps_made words ticket team stands made = rw (stands, made) refl

-- Another frame of a team.
pub open_by_lem : (words : Words) (ticket : Ticket) (ranks : Ranks) (frame : Bytes) (kind team : ℕ) → eqb kind step_kind ≡ false → settled_by words ticket ranks frame (Ok (Aim.Team kind team)) ≡ (open_by ticket ranks (part_after_kind frame) kind, words)
unfolding settled_by team_settled
open_by_lem words ticket ranks frame kind team other = go (has_ticket ticket.phase) (well_made ticket)
  where
    go : (stands made : Bool)
        → ◌≡◌ {A = Settled × Words} (cond stands (cond made (cond (eqb kind step_kind) (step_settled (step_of words ticket team)) (settled_with ticket (Answer.Refused 8), words)) (settled_with ticket (Answer.Refused 7), words)) (cond (eqb kind step_kind) (settled_with ticket (Answer.Refused 9), words) (new_settled ticket ranks (part_after_kind frame) kind, words)))
        (cond stands (cond made (settled_with ticket (Answer.Refused 8)) (settled_with ticket (Answer.Refused 7))) (new_settled ticket ranks (part_after_kind frame) kind), words)
    go true true = rw other refl
    go true false = refl
    go false made = rw other refl

-- Frames that are no step change no word.
pub no_word : (words : Words) (ticket : Ticket) (ranks : Ranks) (frame : Bytes) (aim : Result Aim ℕ) → NoStep aim → (settled_by words ticket ranks frame aim).1 ≡ words
unfolding settled_by
no_word words ticket ranks frame (Err number) other = refl
no_word words ticket ranks frame (Ok Aim.Look) other = refl
no_word words ticket ranks frame (Ok (Aim.Team kind team)) other = ap (λ (r : Settled × Words). r.1) (open_by_lem words ticket ranks frame kind team other)

-- Over a ticket they are refused,
pub opens_over : (ticket : Ticket) (ranks : Ranks) (part : Bytes) (kind : ℕ) → has_ticket ticket.phase ≡ true → well_made ticket ≡ true → settled_with ticket (Answer.Refused 8) ≡ open_by ticket ranks part kind
opens_over ticket ranks part kind stands made = rw (stands, made) refl

pub opens_badly : (ticket : Ticket) (ranks : Ranks) (part : Bytes) (kind : ℕ) → has_ticket ticket.phase ≡ true → well_made ticket ≡ false → settled_with ticket (Answer.Refused 7) ≡ open_by ticket ranks part kind
opens_badly ticket ranks part kind stands badly = rw (stands, badly) refl

-- and else an edit or a view is read.
pub opens_edit_lem : (ticket : Ticket) (ranks : Ranks) (part : Bytes) (kind : ℕ) → has_ticket ticket.phase ≡ false → is_edit_kind kind ≡ true → open_settled ticket ranks (read_edit kind part) ≡ open_by ticket ranks part kind
unfolding new_settled
opens_edit_lem ticket ranks part kind none edit = rw (none, (edit_kind_lem kind edit).2) refl

pub opens_view : (ticket : Ticket) (ranks : Ranks) (part : Bytes) (kind : ℕ) → has_ticket ticket.phase ≡ false → kind ≡ view_kind → view_settled ticket ranks (view_read (number16 part 2) (view_words_in part)) ≡ open_by ticket ranks part kind
unfolding new_settled
opens_view ticket ranks part kind none view = rw (none, eq-eqb kind view_kind view) refl

-- What is known of the fields of each.
pub edit_fields_lem : (frame : Bytes) (kind : ℕ) (part : Bytes) → Whole frame kind → is_edit_kind kind ≡ true → part ≡ part_after_kind frame → EditFields part kind
edit_fields_lem frame kind part whole edit is =
    let no_view = (edit_kind_lem kind edit).2 in
    record { edit = edit; long = ap length is ∙ fields_of_kind whole (λ e. false≢true (sym no_view ∙ eq-eqb kind view_kind e)) }

pub view_kind_lem : (frame : Bytes) (kind team : ℕ) → AimKnown frame (Ok (Aim.Team kind team)) → eqb kind step_kind ≡ false → is_edit_kind kind ≡ false → kind ≡ view_kind
view_kind_lem frame kind team known no_step no_edit = elim (ℕ_discrete kind view_kind) [
  | yes view ↦ view
  | no no_view ↦ absurd (false≢true (sym no_edit ∙ other_kind kind known.0.known no_step (ne_eqb kind look_kind known.1) (ne_eqb kind view_kind no_view)))
]

pub view_fields : (frame : Bytes) (kind : ℕ) (part : Bytes) → Whole frame kind → kind ≡ view_kind → part ≡ part_after_kind frame → ViewFields part
view_fields frame kind part whole view is = subst ViewFields (sym is) (fields_of_view (subst (Whole frame) view whole))

-- An edit that is read is allowed.
pub read_allowed : (kind : ℕ) (part : Bytes) (read : Edit) → read_edit kind part ≡ Ok read → edit_allowed read ≡ true
unfolding read_edit
read_allowed kind part read e = go (angles_of_kind kind part) e
  where
    go : (angles : Bool) → read_if angles (edit_of_kind kind part) ≡ Ok read → edit_allowed read ≡ true
    go true e = let (same, allowed) = only_allowed (edit_of_kind kind part) read e in subst (λ x. edit_allowed x ≡ true) same allowed
    go false e = cc

-- A view that is read is fine, and is the words read.
view_read_fine : (n : ℕ) (words : List ℕ) (view : View) → 1 ≤ length words → length words ≤ most_named → view_read n words ≡ Ok view → (view ≡ view_of words) × FineView words
unfolding view_read view_in_range view_repeats
view_read_fine n words view least most e = go (view_in_range n words) (distinct words) refl refl e
  where
    go : (range once : Bool) → view_in_range n words ≡ range → distinct words ≡ once
        → cond {A = Result View ℕ} range (cond (not once) (Err 11) (Ok (view_of words))) (Err 10) ≡ Ok view
        → (view ≡ view_of words) × FineView words
    go true true r o same =
        let (counted, (inside, u)) = split (eqb n (length words) ∷ all_in_book words ∷ []) r in
        (cc, record { least = least; most = most; inside = inside; once = o })
    go true false r o same = cc
    go false once r o same = cc

pub view_read_opens : (part : Bytes) (view : View) → ViewFields part → view_read (number16 part 2) (view_words_in part) ≡ Ok view → (view ≡ view_of (words_named view)) × FineView (words_named view)
view_read_opens part view fields e =
    let many = named_many part fields in
    let (same, fine) = view_read_fine (number16 part 2) (view_words_in part) view many.0 many.1 e in
    let named : words_named view ≡ view_words_in part = ap words_named same ∙ words_named_lem (view_words_in part) in
    (same ∙ ap view_of (sym named), subst FineView (sym named) fine)

-- What a frame that asks for a ticket comes to, from what it settles.
pub asked_so : {result : Settled} (targets : List Target) (slot : Slot.Ticket) (asked : Result Slot.Ticket Refusal) → settled_with (gathered targets (slot_asked asked slot)) (answer_asked asked) ≡ result → AskedAs result targets slot asked
asked_so targets slot asked is = record { ticket_left = ap (λ (s : Settled). s.ticket) is; answer = ap (λ (s : Settled). s.answer) is }

-- Its answer written,
pub opened_as : {result : Settled} {targets : List Target} {slot : Slot.Ticket} {asked : Result Slot.Ticket Refusal} {opened : Opened} {out output : Bytes} → AskedAs result targets slot asked → OpenedBy asked opened out output → OpenedAs result targets slot opened out output
opened_as {targets = targets} {slot} {opened = opened} {out} {output} asks by = record {
  ticket_left = ap (gathered targets) (by.opens slot) ∙ asks.ticket_left;
  answered = by.answered ∙ ap (λ (a : Answer). written out (answer_frame a)) asks.answer;
}

-- and that of a frame that opens none.
pub unopened_as : {result : Settled} (targets : List Target) (slot : Slot.Ticket) (count : ℕ) (answer : Answer) {out output : Bytes} → settled_with (gathered targets slot) answer ≡ result → ◌≡◌ {A = ℕ × Bytes} (count, output) (written out (answer_frame answer))
    → OpenedAs result targets slot record { ticket = None; written = count } out output
unopened_as targets slot count answer {out} is put = record { ticket_left = ap (λ (s : Settled). s.ticket) is; answered = put ∙ ap (λ (s : Settled). written out (answer_frame s.answer)) is }

-- An edit read, and a view.
pub edit_opened : (ticket opened : Ticket) (ranks : Ranks) (edit : Edit) (n : ℕ) → opened ≡ opened_ticket ranks edit → n ≡ target_count edit → settled_with opened (Answer.Standing n) ≡ open_settled ticket ranks (Ok edit)
unfolding open_settled
edit_opened ticket opened ranks edit n is counted = λ i. settled_with (is i) (Answer.Standing (counted i))

pub edit_refused : (ticket : Ticket) (ranks : Ranks) (number : ℕ) → settled_with ticket (Answer.Refused number) ≡ open_settled ticket ranks (Err number)
unfolding open_settled
edit_refused ticket ranks number = refl

pub view_opened : (ticket opened : Ticket) (ranks : Ranks) (view : View) → opened ≡ opened_view ranks (words_named view) → settled_with opened (Answer.Standing view.n) ≡ view_settled ticket ranks (Ok view)
unfolding view_settled
view_opened ticket opened ranks view opens = λ i. settled_with (opens i) (Answer.Standing view.n)

pub view_refused : (ticket : Ticket) (ranks : Ranks) (number : ℕ) → settled_with ticket (Answer.Refused number) ≡ view_settled ticket ranks (Err number)
unfolding view_settled
view_refused ticket ranks number = refl

-- A refused frame, and a look.
pub refused_by : (words : Words) (ticket : Ticket) (ranks : Ranks) (frame : Bytes) (number : ℕ) → settled_with ticket (Answer.Refused number) ≡ (settled_by words ticket ranks frame (Err number)).0
unfolding settled_by
refused_by words ticket ranks frame number = refl

pub look_by : (words : Words) (ticket : Ticket) (ranks : Ranks) (frame : Bytes) → settled_with ticket (look_answer words (number16 (part_after_kind frame) 0)) ≡ (settled_by words ticket ranks frame (Ok Aim.Look)).0
unfolding settled_by look_settled
look_by words ticket ranks frame = refl

-- A slot that stands has a ticket, which is well made where the slot passes.
pub stands_has : (targets : List Target) (slot : Slot.Ticket) → stands_in slot ≡ true → has_ticket (gathered targets slot).phase ≡ true
stands_has targets slot stands = gathered_has targets slot ∙ stands

pub stands_not : (targets : List Target) (slot : Slot.Ticket) → stands_in slot ≡ false → has_ticket (gathered targets slot).phase ≡ false
stands_not targets slot gone = gathered_has targets slot ∙ gone

pub passes_made : (targets : List Target) (slot : Slot.Ticket) (passes : Bool) → stands_in slot ≡ true → slot_well_made (gathered targets slot) ≡ passes → well_made (gathered targets slot) ≡ passes
passes_made targets slot passes stands is = sym (ap (λ b. cond b (well_made (gathered targets slot)) true) (stands_has targets slot stands)) ∙ is

-- Where a slot is known to pass, its test says so.
pub known_passes : (ticket : Ticket) → SlotWellMade ticket → true ≡ slot_well_made ticket
known_passes ticket passes = go (has_ticket ticket.phase) refl
  where
    go : (has : Bool) → has_ticket ticket.phase ≡ has → true ≡ cond has (well_made ticket) true
    go true is = sym (passes is)
    go false is = refl

-- A step refused, and one that is made.
pub step_refused : (words : Words) (targets : List Target) (team : ℕ) (slot left : Slot.Ticket) (number : ℕ) (out : Bytes) (count : ℕ) (output : Bytes) → left ≡ slot
    → ◌≡◌ {A = Settled × Words} (settled_with (gathered targets slot) (Answer.Refused number), words) (step_by words (gathered targets slot) team)
    → ◌≡◌ {A = ℕ × Bytes} (count, output) (written out (answer_frame (Answer.Refused number)))
    → SettledAs (step_by words (gathered targets slot) team) targets left words out count output
step_refused words targets team slot left number out count output same is put = record {
  ticket_left = ap (gathered targets) same ∙ ap (λ (r : Settled × Words). r.0.ticket) is;
  words_left = ap (λ (r : Settled × Words). r.1) is;
  answered = put ∙ ap (λ (r : Settled × Words). written out (answer_frame r.0.answer)) is;
}

pub step_left : (words : Words) (targets targets_after : List Target) (team : ℕ) (slot left : Slot.Ticket) (after : Words) (out : Bytes) (count : ℕ) (output : Bytes)
    → has_ticket (gathered targets slot).phase ≡ true → well_made (gathered targets slot) ≡ true
    → LeftBy (step_of words (gathered targets slot) team) targets_after left after out count output
    → SettledAs (step_by words (gathered targets slot) team) targets_after left after out count output
step_left words targets targets_after team slot left after out count output stands made by =
    subst (λ (r : Settled × Words). SettledAs r targets_after left after out count output) (steps_made words (gathered targets slot) team stands made)
    record { ticket_left = by.ticket_left; words_left = by.words_left; answered = by.answered }

-- A step that is no claim's miss leaves what it settles.
pub no_miss : {before : Words} {targets_before : List Target} {team : ℕ} {slot : Slot.Ticket} {tried : Tried} {left : Slot.Ticket} {after : Words} {targets : List Target} {out : Bytes} {count : ℕ} {output : Bytes}
    → ((found : ℕ) → tried ≡ Missed found → ⊥)
    → SettledAs (step_by before (gathered targets_before slot) team) targets left after out count output
    → StepLeft before targets_before team slot tried left after targets out count output
no_miss none settled = record { missed = λ found missed. absurd (none found missed); made = λ other. settled }

-- What a frame leaves, by the aim that it was found to have.
pub aimed_so : (words : Words) (ticket : Ticket) (ranks : Ranks) (frame : Bytes) (slot : Slot.Ticket) {first second : Result Aim ℕ} {after : List Target} {opened : Opened} {out output : Bytes} → first ≡ second
    → OpenedAs (settled_by words ticket ranks frame second).0 after slot opened out output
    → OpenedAs (settled_by words ticket ranks frame first).0 after slot opened out output
aimed_so words ticket ranks frame slot {first} {second} {after} {opened} {out} {output} is by =
    subst (λ (a : Result Aim ℕ). OpenedAs (settled_by words ticket ranks frame a).0 after slot opened out output) (sym is) by
