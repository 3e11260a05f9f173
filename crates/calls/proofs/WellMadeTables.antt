-- A table whose tickets are all well made stays so: the step keeps a ticket well made or ends it, and an edit or a view opens one that is.
use Rattle.std.specs.Prelude.{Result, Ok, Err}
use Prim.Native.Nat.{ℕ, zero, suc, ◌-◌, ◌<◌}
use mathlib.Core.Path.{◌≡◌, refl, ap, ◌∙◌}
use mathlib.Core.List.{List, [], ◌∷◌}
use mathlib.Core.Logic.{inl, inr}
use mathlib.Core.Bool.{Bool, true, false, cond, not}
use borrow.Author.Tests.{lt-ltb}
use lib.Dec.{eqb}
use lib.ListN.{length, get_or, take}
use Rattle.words.specs.Words.{Words}
use Rattle.words.proofs.Tests.{join}
use Rattle.legs.specs.Positions.{Ranks}
use Rattle.tickets.specs.Tickets.{Ticket, has_ticket, well_made, SlotWellMade}
use Rattle.tickets.specs.Steps.{step_of}
use Rattle.tickets.proofs.WellMade.{well_made_kept}
use Rattle.tickets.proofs.MadeTables.{empty_well_made}
use Rattle.edits.specs.declared.Edit.{Edit}
use Rattle.edits.specs.Ranges.{edit_in_range, edit_repeats}
use Rattle.edits.specs.Views.{view_in_range, view_repeats, opened_view, view_of}
use Rattle.edits.proofs.Stored.{opened_tickets_well_made}
use Rattle.edits.proofs.Views.{words_named_lem, opened_views_well_made}
use Rattle.frames.specs.declared.Answer.TheVariants as Answer
use Rattle.frames.specs.Numbers.{Bytes, are_bytes, number16}
use Rattle.frames.specs.Requests.{part_after_kind, step_kind, view_kind, length_of_kind, edit_of_kind, angles_of_kind, view_words_in}
use Rattle.frames.specs.Fields.{edit_read, read_edit, view_read, ViewFields, FieldsOf}
use Rattle.frames.proofs.Asked.{edit_stations}
use Rattle.frames.proofs.Bytes.{first_byte, bytes_after}
use Rattle.calls.specs.Way.{Aim}
use Rattle.calls.specs.Way.{Settled, AimKnown, settled_with, look_settled, open_settled, view_settled, step_settled, new_settled, team_settled, settled_by}
use Rattle.calls.proofs.Refusing.{named_many, fine_view}

-- Bytes one by one, and the first of them.
pub each_byte : (bytes : Bytes) → ((at : ℕ) → get_or bytes at 0 < 256) → are_bytes bytes ≡ true
unfolding are_bytes
each_byte [] each = refl
each_byte (byte ∷ bytes) each = rw (lt-ltb byte 256 (each 0)) (each_byte bytes (λ at. each (suc at)))

pub bytes_before : (many : ℕ) (bytes : Bytes) → are_bytes bytes ≡ true → are_bytes (take many bytes) ≡ true
unfolding are_bytes
bytes_before zero bytes h = refl
bytes_before (suc many) [] h = refl
bytes_before (suc many) (byte ∷ bytes) h = rw (lt-ltb byte 256 (first_byte byte bytes h).0) (bytes_before many bytes (first_byte byte bytes h).1)

-- What a frame makes of a slot that passes, passes.
step_well_made : (words : Words) (ticket : Ticket) (team : ℕ) → well_made ticket ≡ true → SlotWellMade (step_of words ticket team).0.ticket
step_well_made words ticket team made = elim (well_made_kept words ticket team made) [
  | inl kept ↦ λ stands. kept
  | inr gone ↦ empty_well_made (step_of words ticket team).0.ticket (ap (λ (t : Ticket). has_ticket t.phase) gone)
]

open_well_made : (ticket : Ticket) (ranks : Ranks) (kind : ℕ) (part : Bytes) → are_bytes part ≡ true → SlotWellMade ticket → SlotWellMade (open_settled ticket ranks (read_edit kind part)).ticket
unfolding open_settled edit_read read_edit
open_well_made ticket ranks kind part bytes sound = go (angles_of_kind kind part) (edit_in_range edit) (edit_repeats edit) refl refl
  where
    edit : Edit
    edit = edit_of_kind kind part

    go : (angles range repeats : Bool) → edit_in_range edit ≡ range → edit_repeats edit ≡ repeats
        → SlotWellMade (open_settled ticket ranks (cond angles (cond range (cond repeats (Err 11) (Ok edit)) (Err 10)) (Err 10))).ticket
    go true true true r s = sound
    go true true false r s = λ stands. opened_tickets_well_made ranks edit (join (edit_in_range edit ∷ not (edit_repeats edit) ∷ []) (r, (ap not s, tt))) (edit_stations kind part bytes)
    go true false repeats r s = sound
    go false range repeats r s = sound

view_well_made_lem : (ticket : Ticket) (ranks : Ranks) (part : Bytes) → ViewFields part → SlotWellMade ticket → SlotWellMade (view_settled ticket ranks (view_read (number16 part 2) (view_words_in part))).ticket
unfolding view_settled view_read
view_well_made_lem ticket ranks part fields sound = go (view_in_range n words) (view_repeats words) refl refl
  where
    n : ℕ
    n = number16 part 2

    words : List ℕ
    words = view_words_in part

    go : (range repeats : Bool) → view_in_range n words ≡ range → view_repeats words ≡ repeats
        → SlotWellMade (view_settled ticket ranks (cond range (cond repeats (Err 11) (Ok (view_of words))) (Err 10))).ticket
    go true true r s = sound
    go true false r s = λ stands. ap (λ (named : List ℕ). well_made (opened_view ranks named)) (words_named_lem words) ∙ opened_views_well_made ranks words (fine_view n words (named_many part fields) r s)
    go false repeats r s = sound

team_well_made : (words : Words) (ticket : Ticket) (ranks : Ranks) (part : Bytes) (kind team : ℕ) → FieldsOf kind part → are_bytes part ≡ true → SlotWellMade ticket → SlotWellMade (team_settled words ticket ranks part kind team).0.ticket
unfolding team_settled new_settled
team_well_made words ticket ranks part kind team fields bytes sound = go (has_ticket ticket.phase) (well_made ticket) (eqb kind step_kind) (eqb kind view_kind) refl fields
  where
    go : (stands made step view : Bool) → well_made ticket ≡ made → cond view (ViewFields part) (length part ≡ length_of_kind kind - 2)
        → SlotWellMade (cond {A = Settled × Words} stands
        (cond made (cond step (step_settled (step_of words ticket team)) (settled_with ticket (Answer.Refused 8), words)) (settled_with ticket (Answer.Refused 7), words))
        (cond step (settled_with ticket (Answer.Refused 9), words)
        (cond view (view_settled ticket ranks (view_read (number16 part 2) (view_words_in part))) (open_settled ticket ranks (read_edit kind part)), words))).0.ticket
    go true true true view m f = step_well_made words ticket team m
    go true true false view m f = sound
    go true false step view m f = sound
    go false made true view m f = sound
    go false made false true m f = view_well_made_lem ticket ranks part f sound
    go false made false false m f = open_well_made ticket ranks kind part bytes sound

pub settled_well_made : (words : Words) (ticket : Ticket) (ranks : Ranks) (frame : Bytes) (aim : Result Aim ℕ) → AimKnown frame aim → are_bytes frame ≡ true → SlotWellMade ticket → SlotWellMade (settled_by words ticket ranks frame aim).0.ticket
unfolding settled_by look_settled
settled_well_made words ticket ranks frame (Err number) known bytes sound = sound
settled_well_made words ticket ranks frame (Ok Aim.Look) known bytes sound = sound
settled_well_made words ticket ranks frame (Ok (Aim.Team kind team)) known bytes sound = team_well_made words ticket ranks (part_after_kind frame) kind team known.0.fields (bytes_after 4 frame bytes) sound
