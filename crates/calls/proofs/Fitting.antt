-- Every answer of a call over a table as the code has it has room in its frame's fields.
use Prim.Native.Nat.{ℕ, zero, suc, ◌+◌, ◌-◌, ◌^◌, ◌≤◌, ◌<◌}
use mathlib.Core.Path.{◌≡◌, refl, sym, ap, subst, ◌∙◌}
use mathlib.Core.Bool.{Bool, true, false, cond, false≢true}
use mathlib.Core.List.{List, [], ◌∷◌, ◌++◌, map}
use mathlib.Core.Logic.{inl, inr}
use mathlib.Core.Option.{Option, none, some}
use native.Mathlib.Omega.{arith}
use lib.Dec.{eqb, leb, ltb, lit<}
use lib.ListN.{length, drop, replicate, length-map}
use lib.Seq.{drop_at}
use borrow.Author.Tests.{leb-true, ltb-true, not-false, lt-ltb, leb-false, eq-eqb}
use Rattle.words.specs.Tests.{all_hold, within}
use Rattle.words.specs.Words.{Words, is_held, nobody, holder_of, most_named, read_of, team_count}
use Rattle.words.proofs.Tests.{AllTrue, split, join}
use Rattle.tickets.specs.declared.Target.{Target}
use Rattle.tickets.specs.declared.Phase.TheVariants.{Claiming, Putting, GivingBack, Viewing, Viewed}
use Rattle.tickets.specs.Tickets.{Ticket, Tickets, target_at, targets_in, named_in, ticket_of, has_ticket, most_of, target_well_made, all_well_made, well_made}
use Rattle.legs.specs.Positions.{Ranks}
use Rattle.tickets.specs.declared.StepAnswer.TheVariants.{Waiting, Stale, Seen}
use Rattle.std.specs.Prelude.{None, Some}
use Rattle.tickets.specs.Steps.{Stepped, most_tries, one_more_try, value_noted, in_room, values_named, values_seen, settled, step_of}
use Rattle.tickets.proofs.Room.{room_long, few_in_room}
use Rattle.tickets.proofs.TargetLists.{length_targets}
use Rattle.tickets.proofs.Made.{well_made_parts, target_fits, made, counts_in}
use Rattle.tickets.proofs.Outcomes.{Outcome, claims_one, claims_last, waits, differs_later, differs_first, puts_one, puts_last, returns_one, returns_last, notes_one, notes_last, view_waits, view_returns_one, view_returns_last, outcome}
use Rattle.tickets.proofs.Stepping.{found_by, step_settled_lem}
use Rattle.edits.specs.Opened.{target_count}
use Rattle.frames.specs.Request.{Request, Open, Step, Look, View}
use Rattle.frames.specs.declared.Answer.TheVariants as Answer
use Rattle.frames.specs.Numbers.{Bytes, fits64}
use Rattle.frames.specs.Requests.{request_in}
use Rattle.frames.specs.Reading.{all_zero, step_answer_fits, answer_fits}
use Rattle.calls.specs.Call.{team_unknown, own_ticket_badly_made, step_without_ticket, refusal_of, request_done, refused_or, done_of}
use Rattle.calls.specs.Demand1.{TableFits, AnswersFit}
use Rattle.calls.proofs.Refusing.{AllSorted, returned_small, refusal_sorted, passed, Sized, request_sized, standing_made}
use Rattle.calls.proofs.Tables.{one_more_fits, count_most}

-- A value noted is one that a target quotes, or 0.
value_small : (targets : List Target) (word : ℕ) → all_well_made targets ≡ true → value_noted targets word < 2 ^ 63
unfolding all_well_made value_noted
value_small [] word good = omega arith
value_small (target ∷ targets) word good = by (target_well_made target) (eqb word target.word) refl good (value_small targets word)
  where
    by : (first same : Bool) → target_well_made target ≡ first → cond first (all_well_made targets) false ≡ true → (all_well_made targets ≡ true → value_noted targets word < 2 ^ 63)
        → cond same target.quoted (value_noted targets word) < 2 ^ 63
    by true true is good later = (target_fits target is).quoted_value
    by true false is good later = later good
    by false same is good later = absurd (false≢true good)

-- Such values fit, and so do the zeros.
zeros_fit : (many : ℕ) → AllTrue (map fits64 (replicate many 0))
zeros_fit zero = tt
zeros_fit (suc many) = (lt-ltb 0 (2 ^ 64) (omega arith), zeros_fit many)

values_fit_lem : (value : ℕ → ℕ) → ((word : ℕ) → value word < 2 ^ 63) → (names : List ℕ) (many : ℕ) → AllTrue (map fits64 (map value names ++ replicate many 0))
values_fit_lem value small [] many = zeros_fit many
values_fit_lem value small (name ∷ names) many = (lt-ltb (value name) (2 ^ 64) (omega (arith, small name)), values_fit_lem value small names many)

zeros_zero : (many : ℕ) → AllTrue (map (eqb 0) (replicate many 0))
zeros_zero zero = tt
zeros_zero (suc many) = (refl, zeros_zero many)

-- The team that holds a word, or 65,535.
holder_fits : (found : ℕ) → holder_of found < 65536
holder_fits found = by (is_held found) (ltb (found - 2 ^ 63) team_count) refl
  where
    by : (held team : Bool) → ltb (found - 2 ^ 63) team_count ≡ team → cond held (cond team (found - 2 ^ 63) nobody) nobody < 65536
    by true true is = let below : found - 2 ^ 63 < team_count = ltb-true _ _ is in omega arith
    by true false is = lit< tt
    by false team is = lit< tt

-- A step of a well-made ticket: words are below 4,096, counts at most nine, tries of 32 bits.
module _ (ticket : Ticket) (well : well_made ticket ≡ true) (tries : ticket.tries ≤ most_tries) where
  Fits : Stepped → Type 0
  Fits step = step_answer_fits step.answer ≡ true

  word_fits : (k : ℕ) → k < ticket.n → ltb (target_at ticket k).word 65536 ≡ true
  word_fits k below = lt-ltb (target_at ticket k).word 65536 (omega (arith, ((made ticket well).targets k below).inside))

  count_fits : (k : ℕ) → k ≤ ticket.n → ltb k 65536 ≡ true
  count_fits k below = lt-ltb k 65536 (omega (arith, (made ticket well).most))

  tries_fit : ltb (one_more_try ticket.tries) 4294967296 ≡ true
  tries_fit = lt-ltb (one_more_try ticket.tries) 4294967296 (omega (arith, one_more_fits ticket.tries tries))

  waiting_fits : (found k : ℕ) → k < ticket.n → step_answer_fits (Waiting (target_at ticket k).word (holder_of found)) ≡ true
  waiting_fits found k below = join (ltb (target_at ticket k).word 65536 ∷ ltb (holder_of found) 65536 ∷ []) (word_fits k below, (lt-ltb (holder_of found) 65536 (holder_fits found), tt))

  stale_fits : (k : ℕ) → k < ticket.n → step_answer_fits (Stale (target_at ticket k).word (one_more_try ticket.tries)) ≡ true
  stale_fits k below = join (ltb (target_at ticket k).word 65536 ∷ ltb (one_more_try ticket.tries) 4294967296 ∷ []) (word_fits k below, (tries_fit, tt))

  seen_fits : ticket.phase ≡ Viewed → step_answer_fits (Seen (values_seen ticket)) ≡ true
  seen_fits viewed =
      let parts = well_made_parts ticket well in
      let number : within 1 most_named ticket.n ≡ true = subst (λ phase. within 1 (most_of phase) ticket.n ≡ true) viewed parts.many in
      let (least, (most, u)) = split (leb 1 ticket.n ∷ leb ticket.n most_named ∷ []) number in
      let values = values_named ticket in
      let zeros : List ℕ = replicate (most_named - length values) 0 in
      let many : length values ≡ ticket.n = length-map (named_in ticket) (value_noted (targets_in ticket)) ∙ length-map (targets_in ticket) (λ one. one.new) ∙ length_targets ticket in
      let few = few_in_room values (omega (arith, many, leb-true ticket.n most_named most)) in
      let room = in_room values in
      let fit = join (map fits64 (values ++ zeros)) (values_fit_lem (value_noted (targets_in ticket)) (λ word. value_small (targets_in ticket) word parts.targets) (named_in ticket) (most_named - length values)) in
      let none_behind = ap all_zero (drop_at values zeros ticket.n many) ∙ join (map (eqb 0) zeros) (zeros_zero (most_named - length values)) in
      join (within 1 most_named ticket.n ∷ eqb (length room) most_named ∷ all_hold (map fits64 room) ∷ all_zero (drop ticket.n room) ∷ [])
      (number, (eq-eqb (length room) most_named (room_long values), (ap (λ (l : List ℕ). all_hold (map fits64 l)) few ∙ fit, (ap (λ (l : List ℕ). all_zero (drop ticket.n l)) few ∙ none_behind, tt))))

  settled_fits : (found : ℕ) → Outcome ticket found → Fits (settled ticket found)
  unfolding Fits
  settled_fits found (claims_one claiming same more settles) =
      let below = counts_in ticket Claiming claiming well in
      subst Fits (sym settles) (count_fits (ticket.claimed + 1) (omega arith))
  settled_fits found (claims_last claiming same last settles) = subst Fits (sym settles) (count_fits (ticket.claimed + 1) (omega arith))
  settled_fits found (waits claiming differs large settles) = subst Fits (sym settles) (waiting_fits found ticket.claimed (counts_in ticket Claiming claiming well))
  settled_fits found (differs_later claiming differs small later settles) = subst Fits (sym settles) (word_fits ticket.claimed (counts_in ticket Claiming claiming well))
  settled_fits found (differs_first claiming differs small first settles) = subst Fits (sym settles) (stale_fits ticket.claimed (counts_in ticket Claiming claiming well))
  settled_fits found (puts_one putting more settles) =
      let below = counts_in ticket Putting putting well in
      subst Fits (sym settles) (count_fits (ticket.done + 1) (omega arith))
  settled_fits found (puts_last putting last settles) = subst Fits (sym settles) tries_fit
  settled_fits found (returns_one giving more settles) =
      let (below, inside) = counts_in ticket GivingBack giving well in
      subst Fits (sym settles) (count_fits (ticket.done + 1) (omega arith))
  settled_fits found (returns_last giving last settles) = subst Fits (sym settles) (stale_fits ticket.claimed (counts_in ticket GivingBack giving well).1)
  settled_fits found (notes_one viewing small more settles) =
      let below = counts_in ticket Viewing viewing well in
      subst Fits (sym settles) (count_fits (ticket.claimed + 1) (omega arith))
  settled_fits found (notes_last viewing small last settles) = subst Fits (sym settles) (count_fits (ticket.claimed + 1) (omega arith))
  settled_fits found (view_waits viewing large settles) = subst Fits (sym settles) (waiting_fits found ticket.claimed (counts_in ticket Viewing viewing well))
  settled_fits found (view_returns_one viewed more settles) =
      let (below, all) = counts_in ticket Viewed viewed well in
      subst Fits (sym settles) (count_fits (ticket.done + 1) (omega arith))
  settled_fits found (view_returns_last viewed last settles) = subst Fits (sym settles) (seen_fits viewed)

  step_fits : (words : Words) (team : ℕ) → has_ticket ticket.phase ≡ true → step_answer_fits (step_of words ticket team).0.answer ≡ true
  unfolding Fits
  step_fits words team stands =
      let found = found_by words ticket team in
      subst Fits (sym (step_settled_lem words ticket team)) (settled_fits found (outcome ticket found stands))

-- A look shows a value.
look_fits : (words : Words) (word : ℕ) (held : Bool) → is_held (read_of words word) ≡ held → answer_fits (Answer.Look (cond held None (Some (read_of words word)))) ≡ true
look_fits words word true e = refl
look_fits words word false e = lt-ltb (read_of words word) (2 ^ 64) (omega (arith, leb-false (2 ^ 63) (read_of words word) e))

module _ (words : Words) (tickets : Tickets) (ranks : Ranks) (fits : TableFits tickets) where
  request_fits_lem : (request : Request) → team_unknown request ≡ false → own_ticket_badly_made tickets request ≡ false → step_without_ticket tickets request ≡ false → Sized request
      → answer_fits (request_done words tickets ranks request).answer ≡ true
  unfolding request_done
  request_fits_lem (Open team edit) known good stands sized = lt-ltb (target_count edit) 65536 (omega (arith, count_most edit))
  request_fits_lem (Step team) known good stands sized =
      let standing = not-false _ stands in
      step_fits (ticket_of tickets team) (standing_made (ticket_of tickets team) standing good) (fits.tries team (ltb-true team team_count (not-false _ known))) words team standing
  request_fits_lem (Look word) known good stands sized = look_fits words word (is_held (read_of words word)) refl
  request_fits_lem (View team n named) known good stands sized = lt-ltb (length named) 65536 (omega (arith, sized.1))

  done_fits : (request : Request) (refusal : Option ℕ) → AllSorted refusal
      → (refusal ≡ none → answer_fits (request_done words tickets ranks request).answer ≡ true)
      → answer_fits (refused_or refusal words tickets ranks request).answer ≡ true
  done_fits request none sorted passes = passes refl
  done_fits request (some number) sorted passes = lt-ltb number 65536 (elim sorted [ inl alone ↦ omega (arith, returned_small number alone) | inr (least, most) ↦ omega arith ])

  pub answer_fits_lem : (frame out : Bytes) → answer_fits (done_of words tickets ranks frame out).answer ≡ true
  unfolding done_of
  answer_fits_lem frame out = done_fits (request_in frame) (refusal_of words tickets ranks frame out) (refusal_sorted words tickets ranks frame out) (λ none_given.
      let pass = passed words tickets ranks frame out none_given in
      request_fits_lem (request_in frame) pass.known_team pass.well_made_lem pass.step_allowed (request_sized pass))

pub answers_fit : AnswersFit
answers_fit words tickets ranks frame out fits = answer_fits_lem words tickets ranks fits frame out
