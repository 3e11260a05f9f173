-- The way of one frame, as the code goes it: where it is aimed, the slot it uses, what is made of the ticket there. It is shown equal to the call's definition.
use Rattle.edits.specs.declared.Edit.{Edit}
use Rattle.std.specs.Prelude.{ℕ, ◌-◌, ◌≤◌, ◌<◌, ◌≡◌, Bool, true, false, cond, not, length, eqb, ltb, Result, Ok, Err}
use Rattle.words.specs.Words.{Words, words_in_book, team_count}
use Rattle.legs.specs.Positions.{Ranks, Accepted}
use Rattle.tickets.specs.Tickets.{Ticket, Tickets, ticket_of, with_ticket, has_ticket, well_made}
use Rattle.tickets.specs.Steps.{Stepped, step_of, look_of}
use Rattle.edits.specs.declared.View.{View}
use Rattle.edits.specs.Opened.{target_count, opened_ticket}
use Rattle.edits.specs.Views.{words_named, opened_view}
use Rattle.frames.specs.declared.Answer.{Answer}
use Rattle.frames.specs.Numbers.{Bytes, number16}
use Rattle.frames.specs.Requests.{part_after_kind, step_kind, look_kind, view_kind, length_of_kind, is_edit_kind, is_kind, team_in, view_words_in}
use Rattle.frames.specs.Answers.{longest_answer}
use Rattle.frames.specs.Fields.{header_of, read_edit, view_read, FieldsOf, Whole}
use Rattle.calls.specs.declared.Aim as Code
use Rattle.frames.specs.declared.Refusal.{Refusal}
use Rattle.frames.specs.Refusals.{refusal_number}
use Rattle.frames.specs.Kinds.{kind_number}
use Rattle.calls.specs.Call.{Done, done, done_of}

-- Where a frame that is not refused goes: to a look; or to a team, with the number of its kind.
pub data Aim : Type 0 where
  Look : Aim
  Team : (kind team : ℕ) → Aim

-- What the code's says, or the number of the refusal.
abbrev pub aimed : Code.Aim → Aim
aimed Code.Aim.Look = Aim.Look
aimed (Code.Aim.Team kind team) = Aim.Team (kind_number kind) team

abbrev pub aim_numbered : Result Code.Aim Refusal → Result Aim ℕ
aim_numbered (Ok aim) = Ok (aimed aim)
aim_numbered (Err refusal) = Err (refusal_number refusal)

-- Where a frame goes: back, with the number of its refusal, 3 to 6; to a look; or to a team, with its kind.
abbrev pub aim_by : Bytes → Result ℕ ℕ → Result Aim ℕ
aim_by frame (Err number) = Err number
aim_by frame (Ok kind) =
    let team = team_in (part_after_kind frame) in
    cond (eqb kind look_kind) (Ok Aim.Look) (cond (ltb team team_count) (Ok (Aim.Team kind team)) (Err 6))

unfoldable pub aim_of : Bytes → Result Aim ℕ
aim_of frame = aim_by frame (header_of frame)

-- What is known of a frame that is not refused yet.
abbrev pub AimKnown : Bytes → Result Aim ℕ → Type 0
AimKnown frame (Err number) = Unit {0}
AimKnown frame (Ok Aim.Look) = Whole frame look_kind
AimKnown frame (Ok (Aim.Team kind team)) = Whole frame kind × (kind ≡ look_kind → ⊥) × (team < team_count)

-- A team's number is below 16.
abbrev pub SlotKnown : Result Aim ℕ → Type 0
SlotKnown (Err number) = Unit {0}
SlotKnown (Ok Aim.Look) = Unit {0}
SlotKnown (Ok (Aim.Team kind team)) = team < team_count

-- What is known where a team's frame is answered.
pub record TeamFrame (words : Words) (part : Bytes) (kind team : ℕ) : Type 0 where
  pub book : length words ≡ words_in_book
  pub known : is_kind kind ≡ true
  pub no_look : kind ≡ look_kind → ⊥
  pub fields : FieldsOf kind part
  pub team_known : team < team_count

-- The slot that a frame uses: its team's, else the first, which it leaves as it is.
abbrev pub slot_of : Result Aim ℕ → ℕ
slot_of (Err number) = 0
slot_of (Ok Aim.Look) = 0
slot_of (Ok (Aim.Team kind team)) = team

-- What a frame makes of the ticket in its slot, and its answer.
pub record Settled : Type 0 where
  pub ticket : Ticket
  pub answer : Answer

abbrev pub settled_with : Ticket → Answer → Settled
settled_with ticket answer = record { ticket = ticket; answer = answer }

-- A look, or refusal 10.
abbrev pub look_answer : Words → ℕ → Answer
look_answer words word = cond (ltb word words_in_book) (Answer.Look (look_of words word)) (Answer.Refused 10)

unfoldable pub look_settled : Words → Ticket → ℕ → Settled
look_settled words ticket word = settled_with ticket (look_answer words word)

-- An edit of a team without a ticket: the ticket that it opens, or refusal 10 or 11.
unfoldable pub open_settled : Ticket → Ranks → Result Edit ℕ → Settled
open_settled ticket ranks (Ok edit) = settled_with (opened_ticket ranks edit) (Answer.Standing (target_count edit))
open_settled ticket ranks (Err number) = settled_with ticket (Answer.Refused number)

-- A view of a team without a ticket, likewise.
unfoldable pub view_settled : Ticket → Ranks → Result View ℕ → Settled
view_settled ticket ranks (Ok view) = settled_with (opened_view ranks (words_named view)) (Answer.Standing view.n)
view_settled ticket ranks (Err number) = settled_with ticket (Answer.Refused number)

abbrev pub step_settled : Stepped × Words → Settled × Words
step_settled result = (settled_with result.0.ticket (Answer.Step result.0.answer), result.1)

-- One of the two, by the kind.
unfoldable pub new_settled : Ticket → Ranks → Bytes → ℕ → Settled
new_settled ticket ranks part kind =
    cond (eqb kind view_kind) (view_settled ticket ranks (view_read (number16 part 2) (view_words_in part)))
    (open_settled ticket ranks (read_edit kind part))

-- What is known of an edit to be opened, which is of an edit's kind and has its fields.
pub record EditFields (part : Bytes) (kind : ℕ) : Type 0 where
  pub edit : is_edit_kind kind ≡ true
  pub long : length part ≡ length_of_kind kind - 2

-- A team's frame: refusals 7, 8 and 9 by its ticket and kind, else a step, a view or an edit.
unfoldable pub team_settled : Words → Ticket → Ranks → Bytes → ℕ → ℕ → Settled × Words
team_settled words ticket ranks part kind team =
    cond (has_ticket ticket.phase)
    (cond (well_made ticket)
    (cond (eqb kind step_kind) (step_settled (step_of words ticket team)) (settled_with ticket (Answer.Refused 8), words))
    (settled_with ticket (Answer.Refused 7), words))
    (cond (eqb kind step_kind) (settled_with ticket (Answer.Refused 9), words) (new_settled ticket ranks part kind, words))

-- Whether a frame is an edit of a team without a ticket, for which the stream has a way of its own.
abbrev pub opens_edit : Ticket → ℕ → Bool
opens_edit ticket kind = cond (is_edit_kind kind) (not (has_ticket ticket.phase)) false

-- What an aimed frame makes of the ticket in its slot and of the words, and its answer.
unfoldable pub settled_by : Words → Ticket → Ranks → Bytes → Result Aim ℕ → Settled × Words
settled_by words ticket ranks frame (Err number) = (settled_with ticket (Answer.Refused number), words)
settled_by words ticket ranks frame (Ok Aim.Look) = (look_settled words ticket (number16 (part_after_kind frame) 0), words)
settled_by words ticket ranks frame (Ok (Aim.Team kind team)) = team_settled words ticket ranks (part_after_kind frame) kind team

abbrev pub way_done : Tickets → ℕ → Settled × Words → Done
way_done tickets slot result = done result.0.answer (with_ticket tickets slot result.0.ticket) result.1

-- The whole way.
unfoldable pub way_of : Words → Tickets → Ranks → Bytes → Done
way_of words tickets ranks frame =
    let slot = slot_of (aim_of frame) in
    way_done tickets slot (settled_by words (ticket_of tickets slot) ranks frame (aim_of frame))

-- Statement: where none of refusals 1, 13 and 2 applies, the way is what the call does.
abbrev pub WayIsCall : Type 0
WayIsCall =
    (words : Words) (tickets : Tickets) (ranks : Ranks) (frame out : Bytes)
    → length words ≡ words_in_book → Accepted ranks → longest_answer ≤ length out
    → done_of words tickets ranks frame out ≡ way_of words tickets ranks frame
