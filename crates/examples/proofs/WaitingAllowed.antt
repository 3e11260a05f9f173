-- "A step that says Waiting while the word is free: only demand 2's step rule stops it, as demand 3 holds for it."
use Prim.Native.Nat.{ℕ}
use mathlib.Core.Path.{◌≡◌, refl}
use mathlib.Core.Bool.{true}
use mathlib.Core.List.{List, [], ◌∷◌}
use mathlib.Core.Logic.{inl}
use lib.Dec.{eqb}
use Rattle.words.specs.Words.{read_of}
use Rattle.tickets.specs.declared.StepAnswer.TheVariants.{Waiting}
use Rattle.edits.specs.declared.Edit.{Edit}
use Rattle.frames.specs.declared.Answer.TheVariants as Answer
use Rattle.frames.specs.Request.{Open, Step}
use Rattle.frames.specs.Numbers.{are_bytes}
use Rattle.calls.specs.Run.{Call, Run, run}
use Rattle.calls.specs.Order.{notes_on, holds_word, HeldBy}
use Rattle.tickets.specs.Tickets.{ticket_of, has_ticket}
use Rattle.calls.specs.Linearizable.{fresh_state, StandingRight, StandsAsNoted, Linearizable}
use Rattle.calls.specs.Bench.{that_measure, first_leg}
use Rattle.calls.proofs.ExampleCalls.{every_run, calls, heard_as}
use Rattle.calls.proofs.Demand3.{demand3}
use Rattle.examples.proofs.OneTeam.{noted_by, whoever}

-- An add is opened on the fresh book,
abbrev adding : Edit
adding = first_leg 1 0 that_measure

abbrev opening : List Call
opening = calls (Open 0 adding ∷ [])

abbrev opened : Run
opened = run [] opening

opened_right : Linearizable opened
unfolding every_run are_bytes
opened_right = demand3 [] opening (refl, tt)

-- and its first step changes nothing and says that team 1 holds word 0.
abbrev waiting : Run
waiting = record {
  end = opened.end;
  heard = heard_as (Open 0 adding) (Answer.Standing 5) ∷ heard_as (Step 0) (Answer.Step (Waiting 0 1)) ∷ [];
}

-- The word is free, and no team holds it.
word_free : read_of waiting.end.book 0 ≡ 0
unfolding every_run
word_free = refl

-- As much is held as without that step, and no ticket is decided.
held_before : (team word : ℕ) → HeldBy waiting.heard team word → HeldBy opened.heard team word
unfolding every_run
held_before team word =
    whoever (λ mine. holds_word (noted_by waiting.heard 2 mine) word ≡ true → holds_word (noted_by opened.heard 1 mine) word ≡ true) (λ held. held) (λ held. held) (eqb team 0)

held_after : (team word : ℕ) → HeldBy opened.heard team word → HeldBy waiting.heard team word
unfolding every_run
held_after team word =
    whoever (λ mine. holds_word (noted_by opened.heard 1 mine) word ≡ true → holds_word (noted_by waiting.heard 2 mine) word ≡ true) (λ held. held) (λ held. held) (eqb team 0)

undecided : (team : ℕ) → StandingRight fresh_state ((notes_on waiting.heard).tickets team)
unfolding every_run
undecided team = whoever (λ mine. StandingRight fresh_state (noted_by waiting.heard 2 mine)) (inl (refl, refl)) tt (eqb team 0)

stands : (team : ℕ) → StandsAsNoted (has_ticket (ticket_of waiting.end.tickets team).phase) ((notes_on waiting.heard).tickets team)
unfolding every_run
stands team =
    let has = has_ticket (ticket_of opened.end.tickets team).phase in
    whoever (λ mine. StandsAsNoted has (noted_by opened.heard 1 mine) → StandsAsNoted has (noted_by waiting.heard 2 mine)) (λ e. e) (λ e. e) (eqb team 0) (opened_right.noted_stand team)

-- Demand 3 holds for it.
waiting_allowed : Linearizable waiting
unfolding every_run
waiting_allowed = record {
  granted_succeed = opened_right.granted_succeed;
  looks_agree = opened_right.looks_agree;
  views_agree = opened_right.views_agree;
  words_agree = λ word inside unheld. opened_right.words_agree word inside (λ team held. unheld team (held_after team word held));
  last_answers = tt;
  decided_once = undecided;
  counts_add_up = opened_right.counts_add_up;
  held_marked = λ team word held. opened_right.held_marked team word (held_before team word held);
  plain_sound = opened_right.plain_sound;
  stays_whole = opened_right.stays_whole;
  stays_well_made = opened_right.stays_well_made;
  ranks_heard = opened_right.ranks_heard;
  stays_ranked = opened_right.stays_ranked;
  tries_add_up = tt;
  in_turn = refl;
  noted_stand = stands;
  comes_back = opened_right.comes_back;
  backs_filled = opened_right.backs_filled;
  shelves_agree = opened_right.shelves_agree;
  filled_heard = opened_right.filled_heard;
}
