-- An answer put at a place of an output, stored byte by byte.
use Prim.Native.Nat.{ℕ, ◌+◌, ◌-◌, ◌≤◌}
use mathlib.Core.Path.{◌≡◌, refl, sym, ap, ◌∙◌}
use mathlib.Core.List.{[], ◌++◌, append-nil, append_assoc}
use native.Mathlib.Omega.{arith}
use lib.ListN.{length, take, drop, length-drop, drop_of_length-le}
use lib.Seq.{sets, sets-eq, length-sets, take_all, drop-drop}
use Rattle.frames.specs.Numbers.{Bytes}
use Rattle.frames.specs.Answers.{room_in, with_room, PutAt}

-- From bytes stored one after another, from the place on.
pub stored_at : (out : Bytes) (at : ℕ) (answer output : Bytes) → at + length answer ≤ length out → output ≡ sets out at answer → PutAt out at answer (at + length answer) output
stored_at out at answer output inside stored = ((refl, inside), (stored ∙ laid, ap length stored ∙ length-sets out at answer))
  where
    left : Bytes
    left = drop at out

    many : length left ≡ length out - at
    many = length-drop at out

    -- The room is all that is left.
    whole : room_in out at ≡ left
    whole = take_all (length out - at) left (omega (arith, many))

    nothing : drop (length out - at) left ≡ []
    nothing = drop_of_length-le left {i = length out - at} (omega (arith, many))

    laid : sets out at answer ≡ with_room out at (answer ++ drop (length answer) (room_in out at))
    laid =
        sets-eq answer out at inside
        ∙ ap (λ (rest : Bytes). take at out ++ answer ++ rest) (sym (drop-drop (length answer) at out))
        ∙ ap (λ (room : Bytes). take at out ++ answer ++ drop (length answer) room) (sym whole)
        ∙ append_assoc (take at out) answer (drop (length answer) (room_in out at))
        ∙ ap (λ (rest : Bytes). take at out ++ rest) (sym (append-nil (answer ++ drop (length answer) (room_in out at))))
        ∙ ap (λ (rest : Bytes). take at out ++ ((answer ++ drop (length answer) (room_in out at)) ++ rest)) (sym nothing)
