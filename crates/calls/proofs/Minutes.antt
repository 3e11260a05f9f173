-- An edit in minutes behaves as one in hundredths: the refusals test the same, and what is asked for is the same; so it has the same place in a list of calls.
use Rattle.std.specs.Prelude.{Ok}
use Prim.Native.Nat.{ℕ}
use mathlib.Core.Path.{◌≡◌, refl, sym, ap, ◌∙◌}
use mathlib.Core.List.{List, [], ◌∷◌, map}
use mathlib.Core.Bool.{false, not}
use mathlib.Core.Option.{Option, none, some}
use Rattle.words.specs.Words.{Words}
use Rattle.words.specs.Tests.{some_holds}
use Rattle.legs.specs.Positions.{Ranks}
use Rattle.tickets.specs.Tickets.{Tickets}
use Rattle.edits.specs.declared.Edit.{Edit}
use Rattle.frames.specs.declared.Answer.{Answer}
use Rattle.frames.specs.Request.{Open}
use Rattle.frames.specs.Numbers.{Bytes}
use Rattle.frames.specs.Requests.{part_after_kind, angles_of_kind, request_in}
use Rattle.frames.specs.Fields.{header_of, angle_out_of_range, request_out_of_range, field_repeated}
use Rattle.frames.specs.Writing.{request_frame}
use Rattle.frames.proofs.Headers.{kind_tests}
use Rattle.frames.specs.Minutes.{rounded_edit, minutes_kind, minutes_frame}
use Rattle.frames.proofs.Asked.{requests_read_back, request_frames_whole, minutes_read_back, minutes_frames_whole, minutes_frames_are_bytes}
use Rattle.frames.proofs.Fitting.{edits_read_fit}
use Rattle.calls.specs.Run.{framed, Shared, fresh, onward, answer_heard, heard_of, left_by, run_from}
use Rattle.calls.specs.Call.{Reply, book_length_wrong, ranks_wrong, output_short, team_unknown, own_ticket_badly_made, opens_over_ticket, step_without_ticket, check, first_of, refusal_checks, refusal_of, refused_or, done_of, written_by, sent_of, call_of}
use Rattle.calls.specs.Order.{Notes, hear_answer, hear_request, hear_call, notes_from, no_notes}
use Rattle.calls.specs.Minutes.{BehaveAlike, MinutesBehave, MinutesFramesBehave, Twins, alike_frames, same_call, one_of, other_of, answer_to, AlikeInOrder}

-- Two whole frames that ask for the same, their angles in range, are answered alike.
module _ (frame other : Bytes) (kind kind' : ℕ) (header : header_of frame ≡ Ok kind) (header' : header_of other ≡ Ok kind') (angles : angle_out_of_range frame ≡ angle_out_of_range other) (same : request_in frame ≡ request_in other) where
  refused_alike : (words : Words) (tickets : Tickets) (ranks : Ranks) (out : Bytes) → refusal_of words tickets ranks frame out ≡ refusal_of words tickets ranks other out
  unfolding refusal_of refusal_checks
  refused_alike words tickets ranks out =
      let (torn, unknown, wrong, is) = kind_tests frame kind header in
      let (torn', unknown', wrong', is') = kind_tests other kind' header' in
      λ i. first_of (
      check 1 (book_length_wrong words)
      ∷ check 13 (ranks_wrong ranks)
      ∷ check 2 (output_short out)
      ∷ check 3 ((torn ∙ sym torn') i)
      ∷ check 4 ((unknown ∙ sym unknown') i)
      ∷ check 5 ((wrong ∙ sym wrong') i)
      ∷ check 6 (team_unknown (same i))
      ∷ check 7 (own_ticket_badly_made tickets (same i))
      ∷ check 8 (opens_over_ticket tickets (same i))
      ∷ check 9 (step_without_ticket tickets (same i))
      ∷ check 10 (some_holds (angles i ∷ request_out_of_range (same i) ∷ []))
      ∷ check 11 (field_repeated (same i))
      ∷ []
      )

  done_alike : (words : Words) (tickets : Tickets) (ranks : Ranks) (out : Bytes) → done_of words tickets ranks frame out ≡ done_of words tickets ranks other out
  unfolding done_of
  done_alike words tickets ranks out = λ i. refused_or (refused_alike words tickets ranks out i) words tickets ranks (same i)

  called_alike : (words : Words) (tickets : Tickets) (ranks : Ranks) (out : Bytes) → call_of words tickets ranks frame out ≡ call_of words tickets ranks other out
  unfolding call_of
  called_alike words tickets ranks out = λ i.
      let result = done_alike words tickets ranks out i in
      let output = written_by out (sent_of result.answer) in
      (record { written = output.0; tickets = result.tickets }, result.words, output.1)

  heard_alike : (notes : Notes) (answer : Option Answer) → hear_answer notes frame answer ≡ hear_answer notes other answer
  heard_alike notes none = refl
  heard_alike notes (some answer) = λ i. hear_request notes (same i) answer

  pub behave_alike : BehaveAlike frame other
  behave_alike = record { called = called_alike; heard = heard_alike }

-- A frame in hundredths has no angles in minutes.
no_angles : (team : ℕ) (edit : Edit) → angle_out_of_range (request_frame (Open team edit)) ≡ false
unfolding request_frame angles_of_kind
no_angles team (Edit.Add e) = refl
no_angles team (Edit.Correct e) = refl
no_angles team (Edit.Strike e) = refl
no_angles team (Edit.Move e) = refl

pub minutes_behave : MinutesBehave
minutes_behave frame kind team edit bytes header angles asks =
    let (torn, unknown, wrong, is) = kind_tests frame kind header in
    let each_in_range = ap (λ (k : ℕ). angles_of_kind k (part_after_kind frame)) is ∙ angles in
    let sent : angle_out_of_range frame ≡ false = ap not each_in_range in
    behave_alike frame (request_frame (Open team edit)) kind _ header (request_frames_whole (Open team edit) refl)
    (sent ∙ sym (no_angles team edit)) (asks ∙ sym (requests_read_back (Open team edit) (edits_read_fit frame team edit bytes each_in_range asks)))

pub minutes_frames_behave : MinutesFramesBehave
minutes_frames_behave team edit fits angles =
    let frame = minutes_frame team edit in
    let header = minutes_frames_whole team edit in
    let (torn, unknown, wrong, is) = kind_tests frame (minutes_kind edit) header in
    let (asks, tested) = minutes_read_back team edit fits in
    let each_in_range = ap (λ (k : ℕ). angles_of_kind k (part_after_kind frame)) (sym is) ∙ tested ∙ angles in
    minutes_behave frame (minutes_kind edit) team (rounded_edit edit) (minutes_frames_are_bytes team edit) header each_in_range asks

-- Two calls that are alike leave the same and are answered alike.
left_alike : (shared : Shared) (twins : Twins) → left_by shared (one_of twins) ≡ left_by shared (other_of twins)
left_alike shared (alike_frames frame other out alike) =
    ap (λ (result : Reply × Words × Bytes). onward shared result.1 result.0.tickets) (alike.called shared.book shared.tickets shared.ranks out)
left_alike shared (same_call call) = refl

answer_alike : (shared : Shared) (twins : Twins) → answer_heard (heard_of shared (one_of twins)) ≡ answer_heard (heard_of shared (other_of twins))
unfolding answer_heard
answer_alike shared (alike_frames frame other out alike) =
    ap (λ (result : Reply × Words × Bytes). answer_heard (record { call = framed frame out; returned = result.0.written; output = result.2 })) (alike.called shared.book shared.tickets shared.ranks out)
answer_alike shared (same_call call) = refl

told_alike : (shared : Shared) (twins : Twins) → answer_to (heard_of shared (one_of twins)) ≡ answer_to (heard_of shared (other_of twins))
told_alike shared (alike_frames frame other out alike) =
    ap (λ (result : Reply × Words × Bytes). (result.0.written, result.2)) (alike.called shared.book shared.tickets shared.ranks out)
told_alike shared (same_call call) = refl

-- So do two lists of them, from wherever they begin.
answers_alike : (twins : List Twins) (shared : Shared) → map answer_to (run_from shared (map one_of twins)).heard ≡ map answer_to (run_from shared (map other_of twins)).heard
unfolding run_from
answers_alike [] shared = refl
answers_alike (first ∷ twins) shared = λ i.
    told_alike shared first i
    ∷ (ap (λ (left : Shared). map answer_to (run_from left (map one_of twins)).heard) (left_alike shared first) ∙ answers_alike twins (left_by shared (other_of first))) i

ends_alike : (twins : List Twins) (shared : Shared) → (run_from shared (map one_of twins)).end ≡ (run_from shared (map other_of twins)).end
unfolding run_from
ends_alike [] shared = refl
ends_alike (first ∷ twins) shared =
    ap (λ (left : Shared). (run_from left (map one_of twins)).end) (left_alike shared first) ∙ ends_alike twins (left_by shared (other_of first))

notes_alike : (twins : List Twins) (shared : Shared) (notes : Notes) → notes_from notes (run_from shared (map one_of twins)).heard ≡ notes_from notes (run_from shared (map other_of twins)).heard
unfolding run_from notes_from
notes_alike [] shared notes = refl
notes_alike (alike_frames frame other out alike ∷ twins) shared notes =
    let first = alike_frames frame other out alike in
    let answered = answer_heard (heard_of shared (framed other out)) in
    let hears = ap (λ (answer : Option Answer). hear_answer notes frame answer) (answer_alike shared first) ∙ alike.heard notes answered in
    ap (λ (after : Notes). notes_from after (run_from (left_by shared (framed frame out)) (map one_of twins)).heard) hears
    ∙ ap (λ (left : Shared). notes_from (hear_answer notes other answered) (run_from left (map one_of twins)).heard) (left_alike shared first)
    ∙ notes_alike twins (left_by shared (framed other out)) (hear_answer notes other answered)
notes_alike (same_call call ∷ twins) shared notes =
    notes_alike twins (left_by shared call) (hear_call notes (heard_of shared call).call (heard_of shared call))

pub alike_in_order : AlikeInOrder
alike_in_order store twins = (answers_alike twins (fresh store), ends_alike twins (fresh store), notes_alike twins (fresh store) no_notes)
