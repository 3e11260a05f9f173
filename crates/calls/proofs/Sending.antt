-- What a call returns and writes: refusals 1, 13 and 2, and else the answer of the frame's way.
use Rattle.std.specs.Prelude.{Result, Ok, Err}
use Prim.Native.Nat.{ℕ, ◌≤◌, ◌<◌}
use mathlib.Core.Path.{◌≡◌, refl, sym, ap, ◌∙◌}
use mathlib.Core.Bool.{Bool, true, false, cond}
use mathlib.Core.List.{List, []}
use mathlib.Core.Logic.{inl, inr}
use native.Mathlib.Omega.{arith}
use borrow.Author.Tests.{eq-eqb, ne_eqb, lt-ltb}
use lib.Dec.{eqb, ltb, lit≤}
use lib.ListN.{length}
use Rattle.words.specs.Words.{Words, words_in_book, team_count}
use Rattle.legs.specs.Positions.{Ranks, is_permutation, Accepted}
use Rattle.tickets.specs.Tickets.{Ticket, Tickets, ticket_of, with_ticket, has_ticket, well_made}
use Rattle.tickets.specs.Steps.{step_of, look_of}
use Rattle.edits.specs.declared.Edit.{Edit}
use Rattle.edits.specs.Ranges.{edit_in_range, edit_repeats}
use Rattle.edits.specs.Views.{view_in_range, view_repeats, view_of}
use Rattle.frames.specs.declared.Answer.{Answer}
use Rattle.frames.specs.Numbers.{Bytes, number16}
use Rattle.frames.specs.Requests.{part_after_kind, step_kind, look_kind, view_kind, team_in, edit_of_kind, angles_of_kind, view_words_in}
use Rattle.frames.specs.Answers.{answer_frame, longest_answer, written}
use Rattle.frames.specs.Fields.{header_of, edit_read, read_edit, view_read}
use Rattle.frames.proofs.Headers.{refused_tests}
use Rattle.calls.specs.Way.{Aim}
use Rattle.calls.proofs.Refusing.{not_returned}
use Rattle.calls.specs.Call.{Reply, refusal_checks, refusal_of, Done, done_of, number, bytes, sent_of, written_by, call_of}
use Rattle.calls.specs.Way.{Settled, aim_by, aim_of, slot_of, settled_with, look_settled, open_settled, view_settled, step_settled, new_settled, team_settled, settled_by, way_done, way_of}
use Rattle.calls.proofs.Way.{way_is_call}

-- An answer that goes out as a frame: any but refusals 1, 13 and 2.
abbrev Framed : Answer → Type 0
Framed (Answer.Standing n) = Unit {0}
Framed (Answer.Step answer) = Unit {0}
Framed (Answer.Look answer) = Unit {0}
Framed (Answer.Refused refusal) = (3 ≤ refusal) × (refusal ≤ 11)

framed_sent : (answer : Answer) → Framed answer → sent_of answer ≡ bytes (answer_frame answer)
unfolding sent_of
framed_sent (Answer.Standing n) f = refl
framed_sent (Answer.Step answer) f = refl
framed_sent (Answer.Look answer) f = refl
framed_sent (Answer.Refused refusal) f = ap (λ b. cond b (number refusal) (bytes (answer_frame (Answer.Refused refusal)))) (not_returned refusal f.0 (λ e. omega (arith, f.1, e)))

-- Every answer of the way is one.
FramedAim : Result Aim ℕ → Type 0
FramedAim (Err refusal) = (3 ≤ refusal) × (refusal ≤ 11)
FramedAim (Ok Aim.Look) = Unit {0}
FramedAim (Ok (Aim.Team kind team)) = Unit {0}

header_framed : (frame : Bytes) (header : Result ℕ ℕ) → header_of frame ≡ header → FramedAim (aim_by frame header)
unfolding FramedAim
header_framed frame (Err refusal) e = elim (refused_tests frame refusal e) [
  | inl t ↦ (omega (arith, t.1), omega (arith, t.1))
  | inr u ↦ elim u [ inl t ↦ (omega (arith, t.2), omega (arith, t.2)) | inr t ↦ (omega (arith, t.3), omega (arith, t.3)) ]
]
header_framed frame (Ok kind) e = go (eqb kind look_kind) (ltb (team_in (part_after_kind frame)) team_count)
  where
    go : (look known : Bool) → FramedAim (cond look (Ok Aim.Look) (cond known (Ok (Aim.Team kind (team_in (part_after_kind frame)))) (Err 6)))
    go true known = tt
    go false true = tt
    go false false = (lit≤ tt, lit≤ tt)

aim_framed : (frame : Bytes) → FramedAim (aim_of frame)
unfolding aim_of
aim_framed frame = header_framed frame (header_of frame) refl

look_framed : (words : Words) (ticket : Ticket) (word : ℕ) → Framed (look_settled words ticket word).answer
unfolding look_settled
look_framed words ticket word = go (ltb word words_in_book)
  where
    go : (inside : Bool) → Framed (cond inside (Answer.Look (look_of words word)) (Answer.Refused 10))
    go true = tt
    go false = (lit≤ tt, lit≤ tt)

open_framed : (ticket : Ticket) (ranks : Ranks) (kind : ℕ) (part : Bytes) → Framed (open_settled ticket ranks (read_edit kind part)).answer
unfolding open_settled edit_read read_edit
open_framed ticket ranks kind part = go (angles_of_kind kind part) (edit_in_range edit) (edit_repeats edit)
  where
    edit : Edit
    edit = edit_of_kind kind part

    go : (angles range repeats : Bool) → Framed (open_settled ticket ranks (cond angles (cond range (cond repeats (Err 11) (Ok edit)) (Err 10)) (Err 10))).answer
    go true true true = (lit≤ tt, lit≤ tt)
    go true true false = tt
    go true false repeats = (lit≤ tt, lit≤ tt)
    go false range repeats = (lit≤ tt, lit≤ tt)

view_framed : (ticket : Ticket) (ranks : Ranks) (n : ℕ) (words : List ℕ) → Framed (view_settled ticket ranks (view_read n words)).answer
unfolding view_settled view_read
view_framed ticket ranks n words = go (view_in_range n words) (view_repeats words)
  where
    go : (range repeats : Bool) → Framed (view_settled ticket ranks (cond range (cond repeats (Err 11) (Ok (view_of words))) (Err 10))).answer
    go true true = (lit≤ tt, lit≤ tt)
    go true false = tt
    go false repeats = (lit≤ tt, lit≤ tt)

new_framed : (ticket : Ticket) (ranks : Ranks) (part : Bytes) (kind : ℕ) → Framed (new_settled ticket ranks part kind).answer
unfolding new_settled
new_framed ticket ranks part kind = go (eqb kind view_kind)
  where
    go : (view : Bool) → Framed (cond view (view_settled ticket ranks (view_read (number16 part 2) (view_words_in part))) (open_settled ticket ranks (read_edit kind part))).answer
    go true = view_framed ticket ranks (number16 part 2) (view_words_in part)
    go false = open_framed ticket ranks kind part

team_framed : (words : Words) (ticket : Ticket) (ranks : Ranks) (part : Bytes) (kind team : ℕ) → Framed (team_settled words ticket ranks part kind team).0.answer
unfolding team_settled
team_framed words ticket ranks part kind team = go (has_ticket ticket.phase) (well_made ticket) (eqb kind step_kind)
  where
    go : (stands made step : Bool)
        → Framed (cond {A = Settled × Words} stands
        (cond made (cond step (step_settled (step_of words ticket team)) (settled_with ticket (Answer.Refused 8), words)) (settled_with ticket (Answer.Refused 7), words))
        (cond step (settled_with ticket (Answer.Refused 9), words) (new_settled ticket ranks part kind, words))).0.answer
    go true true true = tt
    go true true false = (lit≤ tt, lit≤ tt)
    go true false step = (lit≤ tt, lit≤ tt)
    go false made true = (lit≤ tt, lit≤ tt)
    go false made false = new_framed ticket ranks part kind

settled_framed : (words : Words) (ticket : Ticket) (ranks : Ranks) (frame : Bytes) (aim : Result Aim ℕ) → FramedAim aim → Framed (settled_by words ticket ranks frame aim).0.answer
unfolding settled_by FramedAim
settled_framed words ticket ranks frame (Err refusal) f = f
settled_framed words ticket ranks frame (Ok Aim.Look) f = look_framed words ticket (number16 (part_after_kind frame) 0)
settled_framed words ticket ranks frame (Ok (Aim.Team kind team)) f = team_framed words ticket ranks (part_after_kind frame) kind team

way_framed : (words : Words) (tickets : Tickets) (ranks : Ranks) (frame : Bytes) → Framed (way_of words tickets ranks frame).answer
unfolding way_of
way_framed words tickets ranks frame = settled_framed words (ticket_of tickets (slot_of (aim_of frame))) ranks frame (aim_of frame) (aim_framed frame)

-- What goes out for what was done.
abbrev out_of : Bytes → Done → Reply × Words × Bytes
out_of out result =
    let output = written_by out (sent_of result.answer) in
    (record { written = output.0; tickets = result.tickets }, result.words, output.1)

-- What goes out by the way.
abbrev pub way_out : Bytes → Done → Reply × Words × Bytes
way_out out result =
    let output = written out (answer_frame result.answer) in
    (record { written = output.0; tickets = result.tickets }, result.words, output.1)

pub call_way : (words : Words) (tickets : Tickets) (ranks : Ranks) (frame out : Bytes) → length words ≡ words_in_book → Accepted ranks → longest_answer ≤ length out
    → way_out out (way_of words tickets ranks frame) ≡ call_of words tickets ranks frame out
unfolding call_of
call_way words tickets ranks frame out whole accepted room =
    let result = way_of words tickets ranks frame in
    let sent = sym (framed_sent result.answer (way_framed words tickets ranks frame)) in
    (λ i. (record { written = (written_by out (sent i)).0; tickets = result.tickets }, result.words, (written_by out (sent i)).1))
    ∙ ap (out_of out) (sym (way_is_call words tickets ranks frame out whole accepted room))

pub call_no_book : (words : Words) (tickets : Tickets) (ranks : Ranks) (frame out : Bytes) → (length words ≡ words_in_book → ⊥)
    → ◌≡◌ {A = Reply × Words × Bytes} (record { written = 1; tickets = tickets }, words, out) (call_of words tickets ranks frame out)
unfolding call_of done_of refusal_of refusal_checks sent_of
call_no_book words tickets ranks frame out n = rw (ne_eqb (length words) words_in_book n) refl

pub call_no_ranks : (words : Words) (tickets : Tickets) (ranks : Ranks) (frame out : Bytes) → length words ≡ words_in_book → is_permutation ranks ≡ false
    → ◌≡◌ {A = Reply × Words × Bytes} (record { written = 13; tickets = tickets }, words, out) (call_of words tickets ranks frame out)
unfolding call_of done_of refusal_of refusal_checks sent_of
call_no_ranks words tickets ranks frame out whole wrong = rw (eq-eqb (length words) words_in_book whole, wrong) refl

pub call_no_room : (words : Words) (tickets : Tickets) (ranks : Ranks) (frame out : Bytes) → length words ≡ words_in_book → Accepted ranks → length out < longest_answer
    → ◌≡◌ {A = Reply × Words × Bytes} (record { written = 2; tickets = tickets }, words, out) (call_of words tickets ranks frame out)
unfolding call_of done_of refusal_of refusal_checks sent_of
call_no_room words tickets ranks frame out whole accepted short = rw (eq-eqb (length words) words_in_book whole, accepted, lt-ltb (length out) longest_answer short) refl

-- The same from what the code has: where the frame is aimed, its slot, what it settled, what was written.
pub call_by : (words : Words) (tickets : Tickets) (ranks : Ranks) (frame out : Bytes) (aim : Result Aim ℕ) (slot : ℕ) (result : Settled) (after : Words) (count : ℕ) (output : Bytes)
    → aim ≡ aim_of frame
    → slot ≡ slot_of aim
    → ◌≡◌ {A = Settled × Words} (result, after) (settled_by words (ticket_of tickets slot) ranks frame aim)
    → ◌≡◌ {A = ℕ × Bytes} (count, output) (written out (answer_frame result.answer))
    → length words ≡ words_in_book
    → Accepted ranks
    → longest_answer ≤ length out
    → ◌≡◌ {A = Reply × Words × Bytes} (record { written = count; tickets = with_ticket tickets slot result.ticket }, after, output) (call_of words tickets ranks frame out)
unfolding way_of
call_by words tickets ranks frame out aim slot result after count output aimed slotted settles sends whole accepted room =
    (λ i. (record { written = (sends i).0; tickets = with_ticket tickets slot result.ticket }, after, (sends i).1))
    ∙ (λ i. way_out out (way_done tickets slot (settles i)))
    ∙ (λ i. way_out out (way_done tickets (slotted i) (settled_by words (ticket_of tickets (slotted i)) ranks frame aim)))
    ∙ (λ i. way_out out (way_done tickets (slot_of (aimed i)) (settled_by words (ticket_of tickets (slot_of (aimed i))) ranks frame (aimed i))))
    ∙ call_way words tickets ranks frame out whole accepted room
