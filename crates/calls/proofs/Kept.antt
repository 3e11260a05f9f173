-- Each call keeps the invariant of a run.
use mathlib.Core.Path.{◌≡◌, refl, sym, ap, subst, ◌∙◌}
use mathlib.Core.Bool.{true, false, cond, true≢false, false≢true}
use mathlib.Core.List.{List, map}
use mathlib.Core.Option.{Option, none, some}
use Prim.Native.Nat.{ℕ, ◌-◌, ◌<◌}
use native.Mathlib.Omega.{arith}
use lib.ListN.{length, replicate, length-append, length-map}
use borrow.Author.Tests.{eq-eqb}
use Rattle.words.specs.Words.{words_in_book, team_count, most_targets}
use Rattle.legs.specs.Positions.{Ranks}
use Rattle.tickets.specs.Tickets.{Ticket, ticket_of, with_ticket, targets_in, words_in, has_ticket, names_well_made}
use Rattle.std.specs.Prelude.{None, Some}
use Rattle.tickets.specs.Steps.{Looked, look_of}
use Rattle.tickets.specs.Targets.{Claimable}
use Rattle.tickets.specs.Invariant.{Invariant, OpenedTicket, StepKept, LookRight}
use Rattle.tickets.proofs.Opening.{opening_keeps}
use Rattle.tickets.proofs.Stepping.{step_keeps}
use Rattle.tickets.proofs.Looking.{looks_right}
use Rattle.edits.specs.declared.Edit.{Edit}
use Rattle.edits.specs.Opened.{stored_targets, opened_ticket}
use Rattle.edits.specs.Views.{view_targets, opened_view, FineView}
use Rattle.edits.proofs.Stored.{stored_targets_claimable, opened_tickets_hold_targets}
use Rattle.edits.proofs.Views.{opened_views_hold_words, view_targets_claimable}
use Rattle.frames.specs.Request.{Request, Open, Step, Look, View}
use Rattle.frames.specs.declared.Answer.TheVariants as Answer
use Rattle.frames.specs.Numbers.{Bytes, are_bytes}
use Rattle.frames.specs.Requests.{request_in}
use Rattle.plain.specs.Plain.{word_of}
use Rattle.calls.specs.Call.{refusal_of, Done, request_done, refused_or, done_of}
use Rattle.calls.specs.Shelves.{is_filled}
use Rattle.calls.specs.Run.{Shared, onward}
use Rattle.calls.specs.Order.{looked, Asked, an_edit, a_view, count_asked, Noted, Notes, note_out_of_turn, at_standing, hear_standing, hear_opened, hear_request}
use Rattle.calls.specs.Linearizable.{PlainState, plain_from}
use Rattle.calls.specs.Demand1.{TableFits}
use Rattle.calls.proofs.Orders.{shelves_last, filled_last}
use Rattle.calls.proofs.Ordered.{Fine, order_stays, place_stays, play_look, look_ordered}
use Rattle.calls.proofs.Passing.{Passes, passes}
use Rattle.calls.proofs.Tied.{up_to_none, Known, Tied, known_stands}
use Rattle.calls.proofs.Turns.{place_in, ShelfTied, Good, asking, goes_on_lem, Turn, Kept}
use Rattle.calls.proofs.EditSteps.{edit_kept}
use Rattle.calls.proofs.ViewSteps.{view_kept}

-- The ticket that an edit opens, and what is heard of it at Standing.
module _ (ranks : Ranks) (edit : Edit) (fine : Fine edit) where
  opened_fit : (size : ℕ) → size ≡ words_in_book → OpenedTicket size (opened_ticket ranks edit)
  unfolding opened_ticket
  opened_fit size whole = record {
    opens = refl;
    none_claimed = refl;
    none_done = refl;
    claimable =
        subst (Claimable size) (sym (opened_tickets_hold_targets ranks edit))
        (subst (λ size. Claimable size (stored_targets ranks edit)) (sym whole) (stored_targets_claimable ranks edit fine.allowed fine.stations));
    names = λ view. absurd (false≢true view);
    few = λ view. absurd (false≢true view);
    room = λ view. absurd (false≢true view);
  }

  opened_known : {start : PlainState} → Known start (opened_ticket ranks edit) (at_standing ranks (an_edit edit))
  unfolding opened_ticket
  opened_known = record {
    words = ap (map (λ one. one.word)) (opened_tickets_hold_targets ranks edit);
    spent = refl;
    claimed = up_to_none;
    released = up_to_none;
    rest = record { fine = fine; targets = opened_tickets_hold_targets ranks edit; phase = record { undecided = (refl, refl); swapped = refl } };
  }

-- The ticket that a view opens, likewise.
module _ (ranks : Ranks) (words : List ℕ) (fine : FineView words) where
  view_fit : (size : ℕ) → size ≡ words_in_book → OpenedTicket size (opened_view ranks words)
  unfolding opened_view
  view_fit size whole = let opened = opened_views_hold_words ranks words fine in record {
    opens = refl;
    none_claimed = refl;
    none_done = refl;
    claimable = subst (λ size. Claimable size (targets_in (opened_view ranks words))) (sym whole) (view_targets_claimable ranks words fine);
    names = λ view. ap (λ names. names_well_made names (words_in (opened_view ranks words))) opened.names ∙ ap (names_well_made words) opened.targets ∙ opened.in_some_order;
    few = λ view. omega (arith, opened.many, fine.most);
    room = λ view. let quoted : List ℕ = map (λ one. one.quoted) (view_targets ranks words) in
        omega (arith, length-append quoted (replicate (most_targets - length quoted) 0), length-map (view_targets ranks words) (λ one. one.quoted));
  }

  view_known : {start : PlainState} → Known start (opened_view ranks words) (at_standing ranks (a_view words))
  unfolding opened_view
  view_known = let opened = opened_views_hold_words ranks words fine in record {
    words = opened.targets;
    spent = refl;
    claimed = up_to_none;
    released = up_to_none;
    rest = record { fine = fine; names = opened.names; undecided = (refl, refl); swapped = refl; phase = refl };
  }

-- A step, of an edit's ticket or of a view.
kept_by_lem : {start : PlainState} (asked : Asked) (heard : Noted) (turn : Turn start (asking asked heard.ranks heard))
    → StepKept turn.shared.book (ticket_of turn.shared.tickets) (word_of (plain_from start turn.n.order)) turn.team (ticket_of turn.shared.tickets turn.team) → Kept turn
kept_by_lem (an_edit edit) heard turn = edit_kept edit heard turn
kept_by_lem (a_view words) heard turn = view_kept words heard turn

module _ {start : PlainState} (shared : Shared) (n : Notes) (table : TableFits shared.tickets) (good : Good start shared n) where
  -- A ticket is opened for an edit or a view.
  opens : (team : ℕ) → team < team_count → (asked : Asked) (opened : Ticket) → OpenedTicket (length shared.book) opened → Known start opened (at_standing shared.ranks asked) → has_ticket (ticket_of shared.tickets team).phase ≡ false
      → Good start (onward shared shared.book (with_ticket shared.tickets team opened)) (hear_opened n team asked (count_asked asked))
  opens team inside asked opened apt known empty = by_note (n.tickets team) refl (good.tied team)
    where
      by_note : (note : Option Noted) → n.tickets team ≡ note → Tied start (ticket_of shared.tickets team) note
          → Good start (onward shared shared.book (with_ticket shared.tickets team opened)) (hear_opened n team asked (count_asked asked))
      by_note none is absent =
          subst (Good start (onward shared shared.book (with_ticket shared.tickets team opened)))
          (sym (ap (λ b. cond b (hear_standing n team (n.tickets team) asked) (note_out_of_turn n)) (eq-eqb (count_asked asked) (count_asked asked) refl) ∙ ap (λ note. hear_standing n team note asked) is))
          (goes_on_lem shared n table good team inside shared.book opened n.order (some (at_standing n.ranks asked)) n.ended good.whole
          (opening_keeps shared.book (ticket_of shared.tickets) (word_of (plain_from start n.order)) team opened good.agree empty apt)
          (subst (λ ranks. Known start opened (at_standing ranks asked)) good.heard_ranks known) refl (order_stays good.ordered tt) good.ends good.tries)
      by_note (some noted) is standing = absurd (true≢false (sym (known_stands standing) ∙ empty))

  -- What a request does, and what is heard of it.
  abbrev pub After : Request → Done → Type 0
  After request done = Good start (onward shared done.words done.tickets) (hear_request n request done.answer)

  step_kept : (team : ℕ) → team < team_count → has_ticket (ticket_of shared.tickets team).phase ≡ true → After (Step team) (request_done shared.book shared.tickets shared.ranks (Step team))
  unfolding request_done
  step_kept team inside stands = by_note (n.tickets team) refl (good.tied team)
    where
      by_note : (note : Option Noted) → n.tickets team ≡ note → Tied start (ticket_of shared.tickets team) note → After (Step team) (request_done shared.book shared.tickets shared.ranks (Step team))
      by_note none is absent = absurd (false≢true (sym (ap has_ticket absent) ∙ stands))
      by_note (some noted) is known = kept_by_lem noted.asked noted
          record { shared = shared; n = n; table = table; good = good; team = team; inside = inside; is = is; known = known }
          (step_keeps shared.book (ticket_of shared.tickets) (word_of (plain_from start n.order)) team good.agree stands)

  look_kept : (word : ℕ) → word < words_in_book → After (Look word) (request_done shared.book shared.tickets shared.ranks (Look word))
  unfolding request_done
  look_kept word inside = by_answer (look_of shared.book word) (looks_right shared.book (ticket_of shared.tickets) (word_of (plain_from start n.order)) word good.agree (omega (arith, good.whole)))
    where
      by_answer : (answer : Looked) → LookRight (ticket_of shared.tickets) (word_of (plain_from start n.order)) word answer → Good start shared (hear_request n (Look word) (Answer.Look answer))
      by_answer (Some value) agrees = record {
        whole = good.whole;
        agree = subst (λ book. Invariant shared.book (ticket_of shared.tickets) (word_of book)) (sym (play_look n.order good.ordered word value)) good.agree;
        tied = good.tied;
        ranked = good.ranked;
        heard_ranks = good.heard_ranks;
        under = good.under;
        ordered = look_ordered n.order good.ordered word value agrees;
        shelved = record {
          flags = good.shelved.flags;
          tied = λ shelf. subst (ShelfTied shared.store (is_filled shared.filled shelf) shelf) (sym (shelves_last start n.order (looked word value) refl shelf)) (good.shelved.tied shelf);
          heard = λ shelf. good.shelved.heard shelf ∙ sym (filled_last shelf n.order (looked word value) refl);
        };
        places = λ team. place_stays start team n.order (looked word value) (place_in (n.tickets team)) (good.places team);
        ends = good.ends;
        tries = good.tries;
        in_turn = good.in_turn;
      }
      by_answer None holder = good

  request_kept : (request : Request) → Passes shared.tickets request → After request (request_done shared.book shared.tickets shared.ranks request)
  unfolding request_done
  request_kept (Open team edit) (inside, empty, fine) =
      opens team inside (an_edit edit) (opened_ticket shared.ranks edit) (opened_fit shared.ranks edit fine (length shared.book) good.whole) (opened_known shared.ranks edit fine) empty
  request_kept (Step team) (inside, stands) = step_kept team inside stands
  request_kept (Look word) inside = look_kept word inside
  request_kept (View team many words) (inside, empty, fine) =
      opens team inside (a_view words) (opened_view shared.ranks words) (view_fit shared.ranks words fine (length shared.book) good.whole) (view_known shared.ranks words fine) empty

  -- A refusal is passed over.
  refusal_heard : (request : Request) (number : ℕ) → hear_request n request (Answer.Refused number) ≡ n
  refusal_heard (Open team edit) number = refl
  refusal_heard (Step team) number = refl
  refusal_heard (Look word) number = refl
  refusal_heard (View team many words) number = refl

  refused_kept : (request : Request) (refusal : Option ℕ) → (refusal ≡ none → Passes shared.tickets request) → After request (refused_or refusal shared.book shared.tickets shared.ranks request)
  refused_kept request none passed = request_kept request (passed refl)
  refused_kept request (some number) passed = subst (Good start shared) (sym (refusal_heard request number)) good

  pub call_kept : (frame out : Bytes) → are_bytes frame ≡ true → After (request_in frame) (done_of shared.book shared.tickets shared.ranks frame out)
  unfolding done_of
  call_kept frame out bytes =
      refused_kept (request_in frame) (refusal_of shared.book shared.tickets shared.ranks frame out) (passes shared.book shared.tickets shared.ranks frame out bytes)
