-- Every step of a view keeps the invariant of a run.
use mathlib.Core.Path.{◌≡◌, refl, sym, ap, subst, ◌∙◌}
use mathlib.Core.Bool.{true}
use mathlib.Core.List.{List, [], ◌∷◌, ◌++◌, map}
use mathlib.Core.Option.{some}
use Prim.Native.Nat.{ℕ, ◌+◌, ◌≤◌, ◌<◌, min}
use native.Mathlib.Omega.{arith}
use lib.ListN.{length, set, take, length-map}
use Rattle.tickets.specs.declared.Phase.{Phase}
use Rattle.tickets.specs.declared.Phase.TheVariants.{Claiming, Putting, GivingBack, Viewing, Viewed}
use Rattle.tickets.specs.Tickets.{Ticket, no_ticket, ticket_of, target_at, targets_in, words_in, named_in, is_view, claims}
use Rattle.tickets.specs.declared.StepAnswer.TheVariants.{Claimed, Waiting, Returned, Seen}
use Rattle.tickets.specs.Steps.{advanced, noting, in_room, values_named, values_seen}
use Rattle.tickets.proofs.Room.{few_in_room}
use Rattle.words.specs.Words.{most_named}
use lib.Seq.{take-append_seam}
use Rattle.tickets.specs.Targets.{AllMatch}
use Rattle.tickets.specs.Invariant.{FitTicket, StepKept, one_claimed, claimed_last, waiting, found_other, stale_at_once, put_one, put_last, returned_one, returned_last, viewed_one, viewed_last, view_waiting, view_returned_one, view_returned_last}
use Rattle.tickets.proofs.TargetLists.{length_targets, targets_advanced}
use Rattle.tickets.proofs.Names.{words_noting, names_noting}
use Rattle.tickets.proofs.Keeping.{viewed_counts}
use Rattle.tickets.proofs.Seeing.{values_named_lem}
use Rattle.frames.specs.Answers.{values_shown}
use Rattle.plain.specs.Plain.{word_of}
use Rattle.calls.specs.Order.{Event, seen, reserved, a_view, Noted, was_seen, Notes, with_claimed, with_released, with_wait, with_step, with_place, ended_by, hear_seen, hear_place}
use Rattle.calls.specs.Linearizable.{PlainState, plain_from, Undecided}
use Rattle.calls.proofs.Orders.{PlaceAt}
use Rattle.calls.proofs.Ordered.{PlaceKept, play_reserved, order_reserved, play_full, order_filled}
use Rattle.calls.proofs.Tied.{UpTo, up_to_more, HeardViewed, ViewIn, Known, known_count}
use Rattle.calls.proofs.Turns.{Good, asking, Turn, Leaving, Kept, still, left_as, fit, none_released, my_place, stays_as, ends_as, advances, heard_claim, heard_last}

-- A view shows the plain words of the words named.
view_shows : {size : ℕ} (ticket : Ticket) (plain : ℕ → ℕ) (words : List ℕ) → FitTicket size ticket → is_view ticket.phase ≡ true → named_in ticket ≡ words → AllMatch (targets_in ticket) plain
    → values_shown (values_seen ticket) ≡ map plain words
view_shows {size} ticket plain words fit view names matches =
    let many : length (values_named ticket) ≡ ticket.n = length-map (named_in ticket) _ ∙ length-map (targets_in ticket) (λ one. one.new) ∙ length_targets ticket in
    let few : ticket.n ≤ most_named = fit.few view in
    let shown : min ticket.n most_named ≡ ticket.n = omega arith in
    ap (λ (k : ℕ). take k (in_room (values_named ticket))) (shown ∙ sym many)
    ∙ ap (take (length (values_named ticket))) (few_in_room (values_named ticket) (omega arith))
    ∙ take-append_seam (values_named ticket) _
    ∙ values_named_lem size ticket plain fit view matches
    ∙ ap (map plain) names

-- A step of a view of which this was heard.
module _ {start : PlainState} (words : List ℕ) (heard : Noted) (turn : Turn start (asking (a_view words) heard.ranks heard)) where
  abbrev n : Notes
  n = turn.n

  abbrev good : Good start turn.shared n
  good = turn.good

  abbrev team : ℕ
  team = turn.team

  abbrev ticket : Ticket
  ticket = ticket_of turn.shared.tickets team

  abbrev plain : ℕ → ℕ
  plain = word_of (plain_from start n.order)

  abbrev known : Known start ticket (asking (a_view words) heard.ranks heard)
  known = turn.known

  abbrev watched : Noted
  watched = with_step (asking (a_view words) heard.ranks heard)

  -- It goes on with the same words, claimed and named.
  view_goes : (base : Ticket) → words_in base ≡ words_in ticket → named_in base ≡ named_in ticket → base.tries ≡ ticket.tries → {phase : Phase} {claimed done : ℕ} (after : Noted) → after.steps ≡ watched.steps
      → UpTo claimed after.claimed → UpTo done after.released → Undecided after → after.steps ≡ claimed + done + after.waits
      → ViewIn start phase (advanced base phase claimed done) (asking (a_view words) heard.ranks after)
      → Known start (advanced base phase claimed done) (asking (a_view words) heard.ranks after)
  view_goes base same_words same_names same_tries {phase} {claimed} {done} after one_more taken let_go undecided swapped phase_heard =
      advances turn base same_words same_tries after one_more taken let_go record {
        fine = known.rest.fine;
        names = ap (map (λ one. one.new)) (targets_advanced base phase claimed done) ∙ same_names ∙ known.rest.names;
        undecided = undecided;
        swapped = swapped;
        phase = phase_heard;
      }

  view_in : (phase : Phase) → ticket.phase ≡ phase → ViewIn start phase ticket (asking (a_view words) heard.ranks heard)
  view_in phase e = subst (λ phase. ViewIn start phase ticket (asking (a_view words) heard.ranks heard)) e known.rest.phase

  step_notes : ticket.phase ≡ Viewing → ticket.claimed + 1 < ticket.n
      → (value : ℕ) → Leaving turn plain (advanced (noting ticket value) Viewing (ticket.claimed + 1) ticket.done) (Claimed (ticket.claimed + 1))
      → Kept turn
  step_notes viewing more value left =
      stays_as turn (with_claimed (ticket.claimed + 1) watched) left
      (heard_claim turn more) (my_place turn)
      (view_goes (noting ticket value) (words_noting ticket value) (names_noting ticket value) refl (with_claimed (ticket.claimed + 1) watched) refl
      (up_to_more ticket.claimed heard.claimed known.claimed) known.released known.rest.undecided (omega (arith, known.rest.swapped)) (view_in Viewing viewing))
      refl

  view_waits : ticket.phase ≡ Viewing → (holder : ℕ) → Leaving turn plain (advanced ticket Viewing ticket.claimed ticket.done) (Waiting (target_at ticket ticket.claimed).word holder)
      → Kept turn
  view_waits viewing holder left =
      stays_as turn (with_wait watched) left refl (my_place turn)
      (view_goes ticket refl refl refl (with_wait watched) refl
      known.claimed known.released known.rest.undecided (omega (arith, known.rest.swapped)) (view_in Viewing viewing))
      refl

  -- The last claim: the place is reserved, and all values noted are the plain words there.
  step_notes_last : ticket.phase ≡ Viewing → ticket.claimed + 1 ≡ ticket.n
      → (value : ℕ) → AllMatch (targets_in (noting ticket value)) plain
      → Leaving turn plain (advanced (noting ticket value) Viewed (ticket.claimed + 1) 0) (Claimed (ticket.claimed + 1))
      → Kept turn
  step_notes_last viewing last value matches left =
      let placed_now : Noted = with_place n.order (with_claimed (ticket.claimed + 1) watched) in
      let none_done : ticket.done ≡ 0 = (fit turn).none_done (ap claims viewing) in
      left_as turn (n.order ++ (reserved team ∷ [])) (some placed_now) n.ended
      (still turn (play_reserved n.order good.ordered team) left)
      (heard_last turn last ∙ ap (hear_place n team (with_claimed (ticket.claimed + 1) watched)) (view_in Viewing viewing))
      (view_goes (noting ticket value) (words_noting ticket value) (names_noting ticket value) refl placed_now refl
      (up_to_more ticket.claimed heard.claimed known.claimed) (none_released turn (ap claims viewing)) known.rest.undecided (omega (arith, known.rest.swapped))
      record {
        before = n.order;
        placed = refl;
        shows = subst (λ targets. AllMatch targets plain) (sym (targets_advanced (noting ticket value) Viewed (ticket.claimed + 1) 0)) matches;
      })
      refl
      (order_reserved n.order good.ordered team) good.ends good.tries

  module _ (viewed : ticket.phase ≡ Viewed) where
    heard_viewed : HeardViewed start ticket (asking (a_view words) heard.ranks heard)
    heard_viewed = view_in Viewed viewed

    view_returns : Leaving turn plain (advanced ticket Viewed ticket.claimed (ticket.done + 1)) (Returned (ticket.done + 1))
        → Kept turn
    view_returns left =
        stays_as turn (with_released (ticket.done + 1) watched) left refl (my_place turn)
        (view_goes ticket refl refl refl (with_released (ticket.done + 1) watched) refl
        known.claimed (up_to_more ticket.done heard.released known.released) known.rest.undecided (omega (arith, known.rest.swapped))
        record {
          before = heard_viewed.before;
          placed = heard_viewed.placed;
          shows =
              subst (λ targets. AllMatch targets (word_of (plain_from start heard_viewed.before))) (sym (targets_advanced ticket Viewed ticket.claimed (ticket.done + 1))) heard_viewed.shows;
        })
        refl

    -- Seen: the place is filled.
    step_sees : ticket.done + 1 ≡ ticket.claimed
        → Leaving turn plain no_ticket (Seen (values_seen ticket))
        → Kept turn
    step_sees last left =
        let before = heard_viewed.before in
        let values : List ℕ = values_shown (values_seen ticket) in
        let order : List Event = set n.order (length before) (seen words values) in
        let shown : values ≡ map (word_of (plain_from start before)) words = view_shows ticket (word_of (plain_from start before)) words (fit turn) (ap is_view viewed) known.rest.names heard_viewed.shows in
        let place : PlaceAt team start n.order (length before) (plain_from start before) = subst (PlaceKept start team n.order) heard_viewed.placed (my_place turn) in
        let all = (viewed_counts ticket (fit turn) viewed).1 in
        let count = known_count known in
        ends_as turn order (ended_by watched (was_seen values))
        (still turn (play_full n.order good.ordered team (length before) words values (plain_from start before) place) left)
        (ap (λ place. hear_seen n team watched (a_view words) place values) heard_viewed.placed)
        (order_filled n.order good.ordered team (length before) words values (plain_from start before) place shown)
        record { before = before; placed = heard_viewed.placed; shows = shown }
        (tt, omega (arith, known.rest.swapped))

  pub view_kept : StepKept turn.shared.book (ticket_of turn.shared.tickets) plain team ticket → Kept turn
  view_kept (one_claimed claiming more left) = absurd (view_in Claiming claiming)
  view_kept (claimed_last claiming last matches left) = absurd (view_in Claiming claiming)
  view_kept (waiting claiming holder other left) = absurd (view_in Claiming claiming)
  view_kept (found_other claiming some_claimed differs left) = absurd (view_in Claiming claiming)
  view_kept (stale_at_once claiming none_claimed differs left) = absurd (view_in Claiming claiming)
  view_kept (put_one putting more left) = absurd (view_in Putting putting)
  view_kept (put_last putting last left) = absurd (view_in Putting putting)
  view_kept (returned_one giving more left) = absurd (view_in GivingBack giving)
  view_kept (returned_last giving last left) = absurd (view_in GivingBack giving)
  view_kept (viewed_one viewing more value plain_is left) = step_notes viewing more value left
  view_kept (viewed_last viewing last value matches left) = step_notes_last viewing last value matches left
  view_kept (view_waiting viewing holder other left) = view_waits viewing _ left
  view_kept (view_returned_one viewed more left) = view_returns viewed left
  view_kept (view_returned_last viewed last left) = step_sees viewed last left
