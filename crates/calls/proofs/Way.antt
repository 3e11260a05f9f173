-- The way of a frame, as the code goes it, is what the call does where none of refusals 1, 13 and 2 applies.
use Rattle.std.specs.Prelude.{Result, Ok, Err}
use Prim.Native.Nat.{ℕ, ◌≤◌}
use mathlib.Core.Path.{◌≡◌, refl, sym, ap, ◌∙◌}
use mathlib.Core.List.{List, [], ◌∷◌}
use mathlib.Core.Bool.{Bool, true, false, cond, not}
use mathlib.Core.Logic.{inl, inr}
use mathlib.Core.Option.{some}
use native.Mathlib.Decide.{ℕ_discrete}
use borrow.Author.Tests.{eq-eqb, ne_eqb, le-ltb, not-false}
use lib.Dec.{eqb, ltb}
use lib.ListN.{length}
use lib.Seq.{set-get_or}
use Rattle.words.specs.Tests.{all_hold, some_holds}
use Rattle.words.specs.Words.{Words, words_in_book, team_count}
use Rattle.legs.specs.Positions.{Ranks, Accepted}
use Rattle.tickets.specs.Tickets.{Tickets, no_ticket, ticket_of, with_ticket, has_ticket, well_made}
use Rattle.tickets.specs.Steps.{look_of}
use Rattle.edits.specs.declared.Edit.{Edit}
use Rattle.edits.specs.Ranges.{edit_in_range, edit_repeats}
use Rattle.edits.specs.Views.{view_in_range, view_repeats, opened_view}
use Rattle.edits.proofs.Views.{words_named_lem}
use Rattle.frames.specs.declared.Answer.{Answer}
use Rattle.frames.specs.Request.{Request, Open, Step, Look, View}
use Rattle.frames.specs.Numbers.{Bytes, number16}
use Rattle.frames.specs.Requests.{kind_field, part_after_kind, step_kind, look_kind, view_kind, is_edit_kind, is_kind, team_in, edit_of_kind, angles_of_kind, view_words_in, request_of_kind, request_in}
use Rattle.frames.specs.Answers.{longest_answer}
use Rattle.frames.specs.Fields.{frame_torn, kind_unknown, length_wrong, angle_out_of_range, request_out_of_range, field_repeated, header_of, edit_read, read_edit, view_read}
use Rattle.frames.proofs.Headers.{edit_kind_lem, other_kind, kind_tests, refused_tests, edit_asked, step_asked, look_asked, view_asked}
use Rattle.calls.specs.Way.{Aim}
use Rattle.calls.specs.Call.{team_unknown, own_ticket_badly_made, opens_over_ticket, step_without_ticket, refusal_checks, refusal_of, Done, done, request_done, refused_or, done_of}
use Rattle.calls.proofs.Refusing.{first_from}
use Rattle.calls.specs.Way.{aim_by, aim_of, slot_of, settled_with, look_settled, open_settled, view_settled, new_settled, team_settled, settled_by, way_done, way_of, WayIsCall}

-- The tests from refusal 6 on, and what a request comes to by them; an angle in minutes may be out of range as it is sent.
abbrev later_tests : Tickets → Bool → Request → List Bool
later_tests tickets angle request =
    team_unknown request
    ∷ own_ticket_badly_made tickets request
    ∷ opens_over_ticket tickets request
    ∷ step_without_ticket tickets request
    ∷ some_holds (angle ∷ request_out_of_range request ∷ [])
    ∷ field_repeated request
    ∷ []

abbrev later_done : Words → Tickets → Ranks → Bool → Request → Done
later_done words tickets ranks angle request = refused_or (first_from 6 (later_tests tickets angle request)) words tickets ranks request

-- A slot stored back as it was leaves the table.
pub slot_same : (tickets : Tickets) (team : ℕ) → with_ticket tickets team (ticket_of tickets team) ≡ tickets
slot_same tickets team i = record { slots = set-get_or tickets.slots team no_ticket i }

slot_kept : (tickets : Tickets) (team : ℕ) (answer : Answer) (words : Words) → done answer tickets words ≡ done answer (with_ticket tickets team (ticket_of tickets team)) words
slot_kept tickets team answer words = ap (λ t. done answer t words) (sym (slot_same tickets team))

-- A look: refusal 10, or its answer.
look_way : (words : Words) (tickets : Tickets) (ranks : Ranks) (word : ℕ) → later_done words tickets ranks false (Look word) ≡ way_done tickets 0 (look_settled words (ticket_of tickets 0) word, words)
unfolding look_settled request_done some_holds
look_way words tickets ranks word = go (ltb word words_in_book)
  where
    go : (inside : Bool)
        → refused_or (first_from 6 (false ∷ false ∷ false ∷ false ∷ some_holds (false ∷ not inside ∷ []) ∷ false ∷ [])) words tickets ranks (Look word)
        ≡ way_done tickets 0 (settled_with (ticket_of tickets 0) (cond inside (Answer.Look (look_of words word)) (Answer.Refused 10)), words)
    go true = slot_kept tickets 0 (Answer.Look (look_of words word)) words
    go false = slot_kept tickets 0 (Answer.Refused 10) words

-- Where a team's frame goes.
abbrev team_aim : ℕ → ℕ → Result Aim ℕ
team_aim kind team = cond (ltb team team_count) (Ok (Aim.Team kind team)) (Err 6)

abbrev aim_done : Words → Tickets → Ranks → Bytes → Result Aim ℕ → Done
aim_done words tickets ranks frame aim = way_done tickets (slot_of aim) (settled_by words (ticket_of tickets (slot_of aim)) ranks frame aim)

-- A step: refusals 6, 7 and 9, or the step.
step_way : (words : Words) (tickets : Tickets) (ranks : Ranks) (frame : Bytes) (team : ℕ) → later_done words tickets ranks false (Step team) ≡ aim_done words tickets ranks frame (team_aim step_kind team)
unfolding request_done settled_by team_settled all_hold some_holds
step_way words tickets ranks frame team = go (ltb team team_count) (has_ticket (ticket_of tickets team).phase) (well_made (ticket_of tickets team)) refl refl
  where
    go : (known stands made : Bool) → has_ticket (ticket_of tickets team).phase ≡ stands → well_made (ticket_of tickets team) ≡ made
        → refused_or (first_from 6 (not known ∷ all_hold (stands ∷ not made ∷ []) ∷ false ∷ not stands ∷ some_holds (false ∷ false ∷ []) ∷ false ∷ [])) words tickets ranks (Step team)
        ≡ aim_done words tickets ranks frame (cond known (Ok (Aim.Team step_kind team)) (Err 6))
    go false stands made h w = slot_kept tickets 0 (Answer.Refused 6) words
    go true true true h w = rw (h, w) refl
    go true true false h w = rw (h, w) (slot_kept tickets team (Answer.Refused 7) words)
    go true false made h w = rw h (slot_kept tickets team (Answer.Refused 9) words)

-- An edit: refusals 6, 7, 8, 10 and 11, or its ticket.
edit_way : (words : Words) (tickets : Tickets) (ranks : Ranks) (frame : Bytes) (kind : ℕ) → is_edit_kind kind ≡ true
    → later_done words tickets ranks (not (angles_of_kind kind (part_after_kind frame))) (Open (team_in (part_after_kind frame)) (edit_of_kind kind (part_after_kind frame))) ≡ aim_done words tickets ranks frame (team_aim kind (team_in (part_after_kind frame)))
unfolding request_done settled_by team_settled new_settled all_hold some_holds edit_read read_edit open_settled
edit_way words tickets ranks frame kind is_edit =
    go (ltb team team_count) (has_ticket (ticket_of tickets team).phase) (well_made (ticket_of tickets team)) (angles_of_kind kind (part_after_kind frame)) (edit_in_range edit) (edit_repeats edit) refl refl refl refl refl
  where
    team : ℕ
    team = team_in (part_after_kind frame)

    edit : Edit
    edit = edit_of_kind kind (part_after_kind frame)

    other : eqb kind step_kind ≡ false
    other = (edit_kind_lem kind is_edit).0

    no_view : eqb kind view_kind ≡ false
    no_view = (edit_kind_lem kind is_edit).2

    go : (known stands made angles range repeats : Bool) → has_ticket (ticket_of tickets team).phase ≡ stands → well_made (ticket_of tickets team) ≡ made → angles_of_kind kind (part_after_kind frame) ≡ angles → edit_in_range edit ≡ range → edit_repeats edit ≡ repeats
        → refused_or (first_from 6 (not known ∷ all_hold (stands ∷ not made ∷ []) ∷ stands ∷ false ∷ some_holds (not angles ∷ not range ∷ []) ∷ repeats ∷ [])) words tickets ranks (Open team edit)
        ≡ aim_done words tickets ranks frame (cond known (Ok (Aim.Team kind team)) (Err 6))
    go false stands made angles range repeats h w a r s = slot_kept tickets 0 (Answer.Refused 6) words
    go true true true angles range repeats h w a r s = rw (h, w, other) (slot_kept tickets team (Answer.Refused 8) words)
    go true true false angles range repeats h w a r s = rw (h, w) (slot_kept tickets team (Answer.Refused 7) words)
    go true false made true true true h w a r s = rw (h, other, no_view, a, r, s) (slot_kept tickets team (Answer.Refused 11) words)
    go true false made true true false h w a r s = rw (h, other, no_view, a, r, s) refl
    go true false made true false repeats h w a r s = rw (h, other, no_view, a, r) (slot_kept tickets team (Answer.Refused 10) words)
    go true false made false range repeats h w a r s = rw (h, other, no_view, a) (slot_kept tickets team (Answer.Refused 10) words)

-- A view: likewise.
view_way : (words : Words) (tickets : Tickets) (ranks : Ranks) (frame : Bytes)
    → later_done words tickets ranks false (View (team_in (part_after_kind frame)) (number16 (part_after_kind frame) 2) (view_words_in (part_after_kind frame)))
    ≡ aim_done words tickets ranks frame (team_aim view_kind (team_in (part_after_kind frame)))
unfolding request_done settled_by team_settled new_settled all_hold some_holds view_read view_settled
view_way words tickets ranks frame =
    go (ltb team team_count) (has_ticket (ticket_of tickets team).phase) (well_made (ticket_of tickets team)) (view_in_range n named) (view_repeats named) refl refl refl refl
  where
    team : ℕ
    team = team_in (part_after_kind frame)

    n : ℕ
    n = number16 (part_after_kind frame) 2

    named : List ℕ
    named = view_words_in (part_after_kind frame)

    go : (known stands made range repeats : Bool) → has_ticket (ticket_of tickets team).phase ≡ stands → well_made (ticket_of tickets team) ≡ made → view_in_range n named ≡ range → view_repeats named ≡ repeats
        → refused_or (first_from 6 (not known ∷ all_hold (stands ∷ not made ∷ []) ∷ stands ∷ false ∷ some_holds (false ∷ not range ∷ []) ∷ repeats ∷ [])) words tickets ranks (View team n named)
        ≡ aim_done words tickets ranks frame (cond known (Ok (Aim.Team view_kind team)) (Err 6))
    go false stands made range repeats h w r s = slot_kept tickets 0 (Answer.Refused 6) words
    go true true true range repeats h w r s = rw (h, w) (slot_kept tickets team (Answer.Refused 8) words)
    go true true false range repeats h w r s = rw (h, w) (slot_kept tickets team (Answer.Refused 7) words)
    go true false made true true h w r s = rw (h, r, s) (slot_kept tickets team (Answer.Refused 11) words)
    go true false made true false h w r s = rw (h, r, s) (ap (λ (l : List ℕ). done (Answer.Standing (length named)) (with_ticket tickets team (opened_view ranks l)) words) (sym (words_named_lem named)))
    go true false made false repeats h w r s = rw (h, r) (slot_kept tickets team (Answer.Refused 10) words)

-- What the header says of the aim, the request and the kind.
aim_by_lem : (frame : Bytes) (header : Result ℕ ℕ) → header_of frame ≡ header → aim_of frame ≡ aim_by frame header
unfolding aim_of
aim_by_lem frame header e = ap (aim_by frame) e

asked_by : (frame : Bytes) (kind : ℕ) → kind_field frame ≡ kind → request_in frame ≡ request_of_kind kind (part_after_kind frame)
unfolding request_in
asked_by frame kind is = ap (λ (k : ℕ). request_of_kind k (part_after_kind frame)) is

edit_left : (frame : Bytes) (kind : ℕ) → header_of frame ≡ Ok kind → (kind ≡ look_kind → ⊥) → (kind ≡ step_kind → ⊥) → (kind ≡ view_kind → ⊥) → is_edit_kind kind ≡ true
edit_left frame kind header not_look not_step not_view =
    let (torn, unknown, wrong, is) = kind_tests frame kind header in
    other_kind kind (ap is_kind (sym is) ∙ not-false _ unknown) (ne_eqb kind step_kind not_step) (ne_eqb kind look_kind not_look) (ne_eqb kind view_kind not_view)

look_done : (words : Words) (tickets : Tickets) (ranks : Ranks) (frame : Bytes) → later_done words tickets ranks false (Look (number16 (part_after_kind frame) 0)) ≡ aim_done words tickets ranks frame (Ok Aim.Look)
unfolding settled_by
look_done words tickets ranks frame = look_way words tickets ranks (number16 (part_after_kind frame) 0)

module _ (words : Words) (tickets : Tickets) (ranks : Ranks) (frame out : Bytes) (whole : length words ≡ words_in_book) (accepted : Accepted ranks) (room : longest_answer ≤ length out) where
  -- None of 1, 13 and 2 applies.
  from_three : refusal_of words tickets ranks frame out ≡ first_from 3 (frame_torn frame ∷ kind_unknown frame ∷ length_wrong frame ∷ later_tests tickets (angle_out_of_range frame) (request_in frame))
  unfolding refusal_of refusal_checks
  from_three = rw (eq-eqb (length words) words_in_book whole, accepted, le-ltb (length out) longest_answer room) refl

  refused_way : (number : ℕ) → header_of frame ≡ Err number → refusal_of words tickets ranks frame out ≡ some number → done_of words tickets ranks frame out ≡ way_of words tickets ranks frame
  unfolding done_of way_of settled_by
  refused_way number header refusal =
      let aimed : aim_of frame ≡ Err number = aim_by_lem frame (Err number) header in
      rw (refusal, aimed) (slot_kept tickets 0 (Answer.Refused number) words)

  kind_way : (kind : ℕ) (angle : Bool) (aim : Result Aim ℕ) (request : Request) → header_of frame ≡ Ok kind → not (angles_of_kind kind (part_after_kind frame)) ≡ angle → aim_by frame (Ok kind) ≡ aim → request_of_kind kind (part_after_kind frame) ≡ request
      → later_done words tickets ranks angle request ≡ aim_done words tickets ranks frame aim
      → done_of words tickets ranks frame out ≡ way_of words tickets ranks frame
  unfolding done_of way_of
  kind_way kind angle aim request header sent aimed asked later =
      let (torn, unknown, wrong, is) = kind_tests frame kind header in
      let request_is : request_in frame ≡ request = asked_by frame kind is ∙ asked in
      let angle_is : angle_out_of_range frame ≡ angle = ap (λ (k : ℕ). not (angles_of_kind k (part_after_kind frame))) is ∙ sent in
      let aim_is : aim_of frame ≡ aim = aim_by_lem frame (Ok kind) header ∙ aimed in
      let six : refusal_of words tickets ranks frame out ≡ first_from 6 (later_tests tickets (angle_out_of_range frame) (request_in frame)) = from_three ∙ (λ i. first_from 3 (torn i ∷ unknown i ∷ wrong i ∷ later_tests tickets (angle_out_of_range frame) (request_in frame))) in
      ap (λ x. refused_or x words tickets ranks (request_in frame)) six
      ∙ (λ i. later_done words tickets ranks (angle_is i) (request_is i))
      ∙ later
      ∙ ap (aim_done words tickets ranks frame) (sym aim_is)

  -- Other kinds have no angles in minutes.
  no_angles : (kind other : ℕ) → kind ≡ other → not (angles_of_kind other (part_after_kind frame)) ≡ false → not (angles_of_kind kind (part_after_kind frame)) ≡ false
  no_angles kind other same untold = ap (λ (k : ℕ). not (angles_of_kind k (part_after_kind frame))) same ∙ untold

  by_header : (header : Result ℕ ℕ) → header_of frame ≡ header → done_of words tickets ranks frame out ≡ way_of words tickets ranks frame
  unfolding angles_of_kind
  by_header (Err number) e = refused_way number e (elim (refused_tests frame number e) [
    | inl t ↦ from_three ∙ rw t.0 (ap some (sym t.1))
    | inr u ↦ elim u [
      | inl t ↦ from_three ∙ rw (t.0, t.1) (ap some (sym t.2))
      | inr t ↦ from_three ∙ rw (t.0, t.1, t.2) (ap some (sym t.3))
    ]
  ])
  by_header (Ok kind) e = elim (ℕ_discrete kind look_kind) [
    | yes look ↦ kind_way kind false (Ok Aim.Look) (Look (number16 (part_after_kind frame) 0)) e (no_angles kind look_kind look refl) (rw (eq-eqb kind look_kind look) refl) (rw look (look_asked (part_after_kind frame))) (look_done words tickets ranks frame)
    | no other ↦ elim (ℕ_discrete kind step_kind) [
      | yes step ↦ kind_way kind false (team_aim step_kind (team_in (part_after_kind frame))) (Step (team_in (part_after_kind frame))) e (no_angles kind step_kind step refl) (rw (ne_eqb kind look_kind other, step) refl) (rw step (step_asked (part_after_kind frame))) (step_way words tickets ranks frame (team_in (part_after_kind frame)))
      | no not_step ↦ elim (ℕ_discrete kind view_kind) [
        | yes view ↦ kind_way kind false (team_aim view_kind (team_in (part_after_kind frame))) (View (team_in (part_after_kind frame)) (number16 (part_after_kind frame) 2) (view_words_in (part_after_kind frame))) e (no_angles kind view_kind view refl) (rw (ne_eqb kind look_kind other, view) refl) (rw view (view_asked (part_after_kind frame))) (view_way words tickets ranks frame)
        | no not_view ↦
            let edit = edit_left frame kind e other not_step not_view in
            kind_way kind (not (angles_of_kind kind (part_after_kind frame))) (team_aim kind (team_in (part_after_kind frame))) (Open (team_in (part_after_kind frame)) (edit_of_kind kind (part_after_kind frame))) e refl (rw (ne_eqb kind look_kind other) refl) (edit_asked kind (part_after_kind frame) edit) (edit_way words tickets ranks frame kind edit)
      ]
    ]
  ]

pub way_is_call : WayIsCall
way_is_call words tickets ranks frame out whole accepted room = by_header words tickets ranks frame out whole accepted room (header_of frame) refl
