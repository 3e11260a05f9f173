-- What stands at a place of the input, as the stream goes by it: a step is told before all other frames.
use Rattle.calls.specs.declared.Stop.{Stop}
use Rattle.std.specs.Prelude.{ℕ, ◌+◌, ◌-◌, ◌≤◌, ◌≡◌, Bool, false, cond, length, take, drop, eqb, ltb, Result, Ok, Err}
use Rattle.words.specs.Words.{team_count}
use Rattle.frames.specs.Numbers.{Bytes, number16, number32}
use Rattle.frames.specs.Requests.{head_bytes, step_kind, length_of_kind}
use Rattle.frames.specs.Answers.{longest_answer}
use Rattle.calls.specs.Way.{Aim}
use Rattle.calls.specs.declared.Stop.TheVariants.{OutputFull}
use Rattle.calls.specs.Way.{aim_of, AimKnown}
use Rattle.calls.specs.Stream.{next_at, stopped_or}
use Rattle.dispatch.specs.declared.Ahead.{Ahead}

-- The bytes of a step's frame, and its first four as one number: its length, and its kind above it.
abbrev pub step_bytes : ℕ
step_bytes = 2 + length_of_kind step_kind

abbrev pub step_head : ℕ
step_head = 327684

-- Whether a whole step of a team stands at a place.
abbrev pub step_at : Bytes → ℕ → Bool
step_at input at =
    cond (ltb (length input - at) step_bytes) false
    (cond (eqb (number32 input at) step_head) (ltb (number16 input (at + head_bytes)) team_count) false)

-- The frame of so many bytes at a place.
abbrev pub frame_at : Bytes → ℕ → ℕ → Bytes
frame_at input at size = take (at + size - at) (drop at input)

-- A frame by its aim: a team's step, or another.
abbrev pub ahead_by : Result Aim ℕ → ℕ → Result Ahead Stop
ahead_by (Err number) size = Ok (Ahead.Other size)
ahead_by (Ok Aim.Look) size = Ok (Ahead.Other size)
ahead_by (Ok (Aim.Team kind team)) size = cond (eqb kind step_kind) (Ok (Ahead.Step team)) (Ok (Ahead.Other size))

-- What stands at a place: nothing, a whole frame that there is no room to answer, or one that is answered.
unfoldable pub ahead_of : Bytes → ℕ → ℕ → Result Ahead Stop
ahead_of input at room =
    stopped_or (next_at input at) Err (λ size. cond (ltb room longest_answer) (Err OutputFull) (ahead_by (aim_of (frame_at input at size)) size))

-- What is known of it: the frame found, its place and its room.
pub record FrameAhead (input : Bytes) (at room size : ℕ) : Type 0 where
  pub found : next_at input at ≡ Ok size
  pub least : 2 ≤ size
  pub inside : at + size ≤ length input
  pub answerable : longest_answer ≤ room

abbrev pub AheadInside : Bytes → ℕ → ℕ → Result Ahead Stop → Type 0
AheadInside input at room (Err stop) = Unit {0}
AheadInside input at room (Ok (Ahead.Step team)) =
    FrameAhead input at room step_bytes × (aim_of (frame_at input at step_bytes) ≡ Ok (Aim.Team step_kind team)) × AimKnown (frame_at input at step_bytes) (Ok (Aim.Team step_kind team))
AheadInside input at room (Ok (Ahead.Other size)) = FrameAhead input at room size
