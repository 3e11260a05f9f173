-- What is noted of any team where only team 0's frames are heard: whether a team is team 0 decides it.
use Prim.Native.Nat.{ℕ, zero, suc}
use mathlib.Core.Bool.{Bool, true, false, cond}
use mathlib.Core.List.{List}
use mathlib.Core.Option.{Option, none}
use lib.ListN.{take}
use Rattle.calls.specs.Run.{Heard}
use Rattle.calls.specs.Order.{Noted, notes_on}

-- The ticket noted of a team by the first answers, each of which noted team 0's anew.
abbrev pub noted_by : List Heard → ℕ → Bool → Option Noted
noted_by heard zero mine = none
noted_by heard (suc many) mine = cond mine ((notes_on (take (suc many) heard)).tickets 0) (noted_by heard many mine)

pub whoever : (P : Bool → Type 0) → P true → P false → (mine : Bool) → P mine
whoever P own other true = own
whoever P own other false = other
