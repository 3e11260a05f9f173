-- `book::answer_frames` meets its contract. The loop's invariant: what the definition makes of what is left is what it makes of the whole.
use Rattle.std.specs.Prelude.{Result, Ok}
use native.Mathlib.Omega.{arith}
use Prim.Native.Nat.{ℕ, ◌-◌, ◌<◌}
use mathlib.Core.Path.{◌≡◌, refl, sym, ap, subst, ◌∙◌}
use mathlib.Core.List.{List}
use lib.ListN.{length}
use Rattle.tickets.specs.Table.{table_of}
use Rattle.calls.specs.Stream.{stream_from}
use Rattle.book.specs.Quickly.{QuickSlots}
use Rattle.words.specs.Words.{team_count}
use Rattle.frames.specs.Requests.{step_kind}
use Rattle.calls.proofs.WellMadeTables.{each_byte}
use Rattle.tickets.proofs.MadeTables.{all_well_made_lem}
use Rattle.dispatch.specs.declared.Ahead.TheVariants as Ahead
use Rattle.dispatch.specs.Ahead.{step_bytes, frame_at, FrameAhead, AheadInside}
use Rattle.replies.specs.Leaving.{RoomAt}
use Rattle.dispatch.proofs.Aiming.{slot_known}
use Rattle.handlers.specs.Settling.{NoStep}
use Rattle.book.proofs.Turning.{Turn, slot_known_made}
use Rattle.book.proofs.Rooms.{rest_fits}
use Rattle.book.proofs.Stepping.{room_there, ends_ahead, other_than_step, quick_at, says, went_on, stepped_fits, stepped_on, frame_fits, opened_on, unopened_on}
use borrow.Author.Rules.{rules}
use Rattle.book.proofs.answer_frames.Goals as goal
use Rattle.book.proofs.answer_frames.Goals.{In-Step, In-Other}
use Rattle.calls.specs.Way.{Aim}
use Rattle.calls.specs.Way.{aim_numbered, aim_of, AimKnown}
use Rattle.frames.specs.Numbers.{Bytes}

-- Where a team's step is answered: the team, the frame found, the turn, and what the stream keeps beside its table.
abbrev team_at : In-Step → ℕ
team_at c = c.in-Step.team

step_inside : (c : In-Step) → AheadInside c.args.input.now c.loop-next.at (length c.loop-next.out - c.loop-next.filled) (Ok (Ahead.Step (team_at c)))
step_inside c = subst (AheadInside c.args.input.now c.loop-next.at (length c.loop-next.out - c.loop-next.filled)) (c.in-Ok.is ∙ ap Ok c.in-Step.is) c.next_at.ensures.1

abbrev step_turn : In-Step → Turn
step_turn c =
    let args = c.args in
    let loop = c.loop-next in
    record {
      ranks = args.ranks.now;
      input = args.input.now;
      long = length args.out.now;
      all = stream_from (length args.input.now) args.book.now (table_of args.tickets) args.ranks.now args.input.now args.out.now 0 0;
      known = c.all_well_made-known.result;
      words = loop.book;
      out = loop.out;
      table = loop.tickets;
      at = loop.at;
      filled = loop.filled;
      goes = loop.invariant.0;
      bytes = each_byte _ (λ (k : ℕ). omega (arith, c.shared_slice_known-1.given k));
      size = step_bytes;
      ahead = (step_inside c).0;
      aim = Ok (Aim.Team step_kind (team_at c));
      aimed = (step_inside c).1;
      aim_known = (step_inside c).2;
    }

abbrev quick_list : In-Step → List ℕ
quick_list c = c.loop-next.quick

quick_kept : (c : In-Step) → QuickSlots (step_turn c).known (step_turn c).table.slots (quick_list c)
quick_kept c = c.loop-next.invariant.1

team_below : (c : In-Step) → team_at c < team_count
team_below c = (step_inside c).2.2

step_room : (c : In-Step) → RoomAt (step_turn c).out (step_turn c).filled
step_room c = record { inside = (step_turn c).goes.fits; room = (step_turn c).ahead.answerable }

-- Where any other frame is answered: its size, and what is known of it.
abbrev size_at : In-Other → ℕ
size_at c = c.in-Other.size

other_inside : (c : In-Other) → FrameAhead c.args.input.now c.loop-next.at (length c.loop-next.out - c.loop-next.filled) (size_at c)
other_inside c = subst (AheadInside c.args.input.now c.loop-next.at (length c.loop-next.out - c.loop-next.filled)) (c.in-Ok.is ∙ ap Ok c.in-Other.is) c.next_at.ensures.1

abbrev frame_there : In-Other → Bytes
frame_there c = frame_at c.args.input.now c.loop-next.at (size_at c)

-- The turn of a frame whose aim was told.
abbrev other_turn : (c : In-Other) (aim : Result Aim ℕ) → (aim ≡ aim_of (frame_there c)) × AimKnown (frame_there c) aim → Turn
other_turn c aim told =
    let args = c.args in
    let loop = c.loop-next in
    record {
      ranks = args.ranks.now;
      input = args.input.now;
      long = length args.out.now;
      all = stream_from (length args.input.now) args.book.now (table_of args.tickets) args.ranks.now args.input.now args.out.now 0 0;
      known = c.all_well_made-known.result;
      words = loop.book;
      out = loop.out;
      table = loop.tickets;
      at = loop.at;
      filled = loop.filled;
      goes = loop.invariant.0;
      bytes = each_byte _ (λ (k : ℕ). omega (arith, c.shared_slice_known-1.given k));
      size = size_at c;
      ahead = other_inside c;
      aim = aim;
      aimed = sym told.0;
      aim_known = told.1;
    }

-- It is no team's step.
no_step : (c : In-Other) (aim : Result Aim ℕ) → (aim ≡ aim_of (frame_there c)) × AimKnown (frame_there c) aim → NoStep aim
no_step c aim told =
    other_than_step c.args.input.now c.loop-next.at (length c.loop-next.out - c.loop-next.filled) (size_at c) aim (sym c.next_at.ensures.0 ∙ (c.in-Ok.is ∙ ap Ok c.in-Other.is)) told.0

pub loop-next-init : goal.loop-next-init
loop-next-init c = (
  record {
    book = c.told-book;
    inside = omega arith;
    fits = omega arith;
    same_length = refl;
    left = record { most = length c.args.input.now; enough = omega arith; is = refl };
    made = λ known. all_well_made_lem _ (sym c.all_well_made-known.ensures ∙ known);
    accepted = rw (← c.ranks.view_is) c.ranks.invariant;
  },
  c.all_quick-quick.ensures,
)

pub overflow_sub-out : goal.overflow_sub-out
overflow_sub-out c = c.loop-next.invariant.0.fits

pub next_at-requires : goal.next_at-requires
next_at-requires c = c.loop-next.invariant.0.inside

pub returns-in-Err : goal.returns-in-Err
returns-in-Err c =
    let loop = c.loop-next in
    let left = loop.invariant.0.left in
    let is = c.stopped.ensures in (
      (omega (arith, is.1, loop.invariant.0.inside), omega (arith, is.2, loop.invariant.0.fits, loop.invariant.0.same_length)),
      (λ i. (is.0 i, loop.book, loop.out))
          ∙ sym (ends_ahead loop.book loop.tickets _ c.args.input.now loop.out loop.at loop.filled left.most _ left.enough (sym c.next_at.ensures.0 ∙ c.in-Err.is))
          ∙ left.is,
    )

pub overflow_add-at : goal.overflow_add-at
overflow_add-at c = omega (arith, (step_inside (goal.at.overflow_add-at c).In-Step).0.inside)

pub offset_bounds-tickets-team : goal.offset_bounds-tickets-team
offset_bounds-tickets-team c = omega (arith, team_below (goal.at.offset_bounds-tickets-team c).In-Step)

pub bounds-tickets-team : goal.bounds-tickets-team
bounds-tickets-team c = omega (arith, team_below (goal.at.bounds-tickets-team c).In-Step)

pub offset_bounds-quick-team : goal.offset_bounds-quick-team
offset_bounds-quick-team c = omega (arith, team_below (goal.at.offset_bounds-quick-team c).In-Step)

pub bounds-quick-team : goal.bounds-quick-team
bounds-quick-team c = omega (arith, team_below (goal.at.bounds-quick-team c).In-Step)

pub try_quick-tried-requires : goal.try_quick-tried-requires
try_quick-tried-requires c =
    (team_below (goal.at.try_quick-tried-requires c).In-Step, quick_at (step_turn (goal.at.try_quick-tried-requires c).In-Step) (team_at (goal.at.try_quick-tried-requires c).In-Step) refl (quick_list (goal.at.try_quick-tried-requires c).In-Step) (quick_kept (goal.at.try_quick-tried-requires c).In-Step))

pub advanced-after-requires : goal.advanced-after-requires
advanced-after-requires c =
    let point = (goal.at.advanced-after-requires c).In-Step in
    (says (step_turn point) (team_at point) refl (quick_list point) (quick_kept point) c.try_quick-tried.result c.try_quick-tried.new.book c.try_quick-tried.array_long c.try_quick-tried.ensures).advances c.in-Went.claims c.in-Went.is

pub put_told-filled-requires : goal.put_told-filled-requires
put_told-filled-requires c = step_room (goal.at.put_told-filled-requires c).In-Step

pub loop-next-smaller-in-Went : goal.loop-next-smaller-in-Went
loop-next-smaller-in-Went c = let inside = (step_inside (goal.at.loop-next-smaller-in-Went c).In-Step).0.inside in omega (arith, inside)

pub loop-next-preserved-in-Went : goal.loop-next-preserved-in-Went
loop-next-preserved-in-Went c =
    went_on (step_turn (goal.at.loop-next-preserved-in-Went c).In-Step) (team_at (goal.at.loop-next-preserved-in-Went c).In-Step) refl (quick_list (goal.at.loop-next-preserved-in-Went c).In-Step) (quick_kept (goal.at.loop-next-preserved-in-Went c).In-Step) c.try_quick-tried.result c.try_quick-tried.new.book c.try_quick-tried.array_long c.try_quick-tried.ensures
    c.in-Went.claims c.in-Went.is _ _ _ c.advanced-after.ensures c.put_told-filled.ensures

pub other_step-left-requires : goal.other_step-left-requires
other_step-left-requires c =
    let point = (goal.at.other_step-left-requires c).In-Step in
    let told = says (step_turn point) (team_at point) refl (quick_list point) (quick_kept point) c.try_quick-tried.result c.try_quick-tried.new.book c.try_quick-tried.array_long c.try_quick-tried.ensures in
    let fast = quick_at (step_turn point) (team_at point) refl (quick_list point) (quick_kept point) in
    (team_below point, (λ found missed. record { claiming = told.claiming found missed; made = (fast (told.few_missed found missed)).made }), slot_known_made (step_turn point), rest_fits _ _ (room_there (step_turn point) (team_at point) refl (quick_list point) (quick_kept point)))

pub offset_bounds-quick-team-in-Step : goal.offset_bounds-quick-team-in-Step
offset_bounds-quick-team-in-Step c = omega (arith, team_below (goal.at.offset_bounds-quick-team-in-Step c).In-Step)

pub bounds-quick-team-in-Step : goal.bounds-quick-team-in-Step
bounds-quick-team-in-Step c = omega (arith, team_below (goal.at.bounds-quick-team-in-Step c).In-Step)

pub loop-next-smaller-in-Step : goal.loop-next-smaller-in-Step
loop-next-smaller-in-Step c = let inside = (step_inside (goal.at.loop-next-smaller-in-Step c).In-Step).0.inside in omega (arith, inside)

pub loop-next-preserved-in-Step : goal.loop-next-preserved-in-Step
loop-next-preserved-in-Step c =
    let point = (goal.at.loop-next-preserved-in-Step c).In-Step in
    stepped_on (step_turn point) (team_at point) refl (quick_list point) (quick_kept point) c.try_quick-tried.result c.try_quick-tried.new.book c.try_quick-tried.array_long c.try_quick-tried.ensures
    c.in_default.not-Went _ _ _ _ _ _ _
    c.other_step-left.ensures
    (search rules) refl c.quick_of.ensures

pub overflow_add-filled : goal.overflow_add-filled
overflow_add-filled c =
    let point = (goal.at.overflow_add-filled c).In-Step in
    omega (
      arith,
      stepped_fits (step_turn point) (team_at point) refl (quick_list point) (quick_kept point) c.try_quick-tried.result c.try_quick-tried.new.book c.try_quick-tried.array_long c.try_quick-tried.ensures
          c.in_default.not-Went _ _ _ _ _ c.other_step-left.ensures,
    )

pub overflow_add-filled-in-Other : goal.overflow_add-filled-in-Other
overflow_add-filled-in-Other c =
    let slot = c.slot_of-team in
    let frame = c.other_frame-left in
    omega (arith, frame_fits (other_turn (goal.at.overflow_add-filled-in-Other c).In-Other (aim_numbered c.aim_of-aim.result) c.aim_of-aim.ensures) (no_step (goal.at.overflow_add-filled-in-Other c).In-Other (aim_numbered c.aim_of-aim.result) c.aim_of-aim.ensures) c.loop-next.quick c.loop-next.invariant.1 slot.result slot.ensures.0 frame.result _ _ _ frame.ensures refl)

pub overflow_add-frame : goal.overflow_add-frame
overflow_add-frame c = omega (arith, (other_inside (goal.at.overflow_add-frame c).In-Other).inside)

pub slice_bounds-frame-end : goal.slice_bounds-frame-end
slice_bounds-frame-end c = (other_inside (goal.at.slice_bounds-frame-end c).In-Other).inside

pub overflow_add-at-in-Other : goal.overflow_add-at-in-Other
overflow_add-at-in-Other c = omega (arith, (other_inside (goal.at.overflow_add-at-in-Other c).In-Other).inside)

pub slot_of-team-requires : goal.slot_of-team-requires
slot_of-team-requires c = slot_known (frame_at c.args.input.now c.loop-next.at (size_at (goal.at.slot_of-team-requires c).In-Other)) (aim_numbered c.aim_of-aim.result) c.aim_of-aim.ensures.1

pub other_frame-left-requires : goal.other_frame-left-requires
other_frame-left-requires c =
    let turn = other_turn (goal.at.other_frame-left-requires c).In-Other (aim_numbered c.aim_of-aim.result) c.aim_of-aim.ensures in
    (turn.aim_known, no_step (goal.at.other_frame-left-requires c).In-Other (aim_numbered c.aim_of-aim.result) c.aim_of-aim.ensures, rest_fits turn.out turn.filled (omega (arith, turn.goes.fits, turn.ahead.answerable)))

pub loop-next-smaller-in-Some : goal.loop-next-smaller-in-Some
loop-next-smaller-in-Some c = let ahead = other_inside (goal.at.loop-next-smaller-in-Some c).In-Other in omega (arith, ahead.inside, ahead.least)

pub loop-next-preserved-in-Some : goal.loop-next-preserved-in-Some
loop-next-preserved-in-Some c =
    let slot = c.slot_of-team in
    let frame = c.other_frame-left in
    let loop = c.loop-next in
    opened_on (other_turn (goal.at.loop-next-preserved-in-Some c).In-Other (aim_numbered c.aim_of-aim.result) c.aim_of-aim.ensures) (no_step (goal.at.loop-next-preserved-in-Some c).In-Other (aim_numbered c.aim_of-aim.result) c.aim_of-aim.ensures) loop.quick loop.invariant.1 slot.result slot.ensures.0 frame.result _ _ _ frame.ensures refl
    c.in-Some.after c.in-Some.is slot.ensures.1 _ c.quick_of-in-Some.ensures

pub loop-next-smaller : goal.loop-next-smaller
loop-next-smaller c = let ahead = other_inside (goal.at.loop-next-smaller c).In-Other in omega (arith, ahead.inside, ahead.least)

pub loop-next-preserved : goal.loop-next-preserved
loop-next-preserved c =
    let slot = c.slot_of-team in
    let frame = c.other_frame-left in
    let loop = c.loop-next in
    unopened_on (other_turn (goal.at.loop-next-preserved c).In-Other (aim_numbered c.aim_of-aim.result) c.aim_of-aim.ensures) (no_step (goal.at.loop-next-preserved c).In-Other (aim_numbered c.aim_of-aim.result) c.aim_of-aim.ensures) loop.quick loop.invariant.1 slot.result slot.ensures.0 frame.result _ _ _ frame.ensures refl c.in_default-ticket.is slot.ensures.1
