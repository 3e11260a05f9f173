-- What is held where positions and word numbers differ: passage 24 has rank 27 and words 48 and 49, passage 25 has rank 0 and words 50 and 51.
use Prim.Native.Nat.{ℕ}
use mathlib.Core.Path.{◌≡◌, refl}
use mathlib.Core.Bool.{Bool, true, false}
use mathlib.Core.List.{List, [], ◌∷◌, ◌++◌, map}
use Rattle.edits.specs.declared.Edit.{Edit}
use Rattle.edits.specs.declared.Edit.TheVariants.{Add, Move}
use Rattle.frames.specs.Request.{Request, Open, View}
use Rattle.calls.specs.Run.{Heard}
use Rattle.calls.specs.Order.{holds}
use Rattle.calls.specs.Linearizable.{heard_on}
use Rattle.calls.specs.Bench.{stations, that_measure}
use Rattle.calls.proofs.ExampleCalls.{every_run, calls, steps}

-- Leg 1 is added to passage 24, and moved to passage 25: an edit that lists word 48 first and claims word 50 first.
abbrev adding : Edit
adding = Add (record { passage = 24; leg = 1; newest = 0; count = 0; stations = stations; measure = that_measure })

abbrev moving : Edit
moving = Move (record { passage = 24; into = 25; newer = 0; leg = 1; older = 0; count = 1; into_newest = 0; into_count = 0; stations = stations })

abbrev heard : List Request → List Heard
heard requests = heard_on [] (calls requests)

-- Which of these words team 0 holds.
abbrev held : List ℕ → List Request → List Bool
held words requests = map (λ (word : ℕ). holds (heard requests) 0 word) words

-- Words 48 to 51, 64, 65 and 67 after one, two, three and seven claims of the move, and after two words are put.
abbrev moved : ℕ → List Bool
moved many = held (48 ∷ 49 ∷ 50 ∷ 51 ∷ 64 ∷ 65 ∷ 67 ∷ []) ((Open 0 adding ∷ steps 10 0) ++ (Open 0 moving ∷ steps many 0))

move_held : moved 1 ∷ moved 2 ∷ moved 3 ∷ moved 7 ∷ moved 9 ∷ []
    ≡ (false ∷ false ∷ true ∷ false ∷ false ∷ false ∷ false ∷ [])
    ∷ (false ∷ false ∷ true ∷ true ∷ false ∷ false ∷ false ∷ [])
    ∷ (true ∷ false ∷ true ∷ true ∷ false ∷ false ∷ false ∷ [])
    ∷ (true ∷ true ∷ true ∷ true ∷ true ∷ true ∷ true ∷ [])
    ∷ (true ∷ true ∷ false ∷ false ∷ true ∷ true ∷ true ∷ [])
    ∷ []
unfolding every_run
move_held = refl

-- A view of words 48, 64 and 50 claims word 50 first, and gives it back first.
abbrev viewed : ℕ → List Bool
viewed many = held (48 ∷ 64 ∷ 50 ∷ []) (View 0 3 (48 ∷ 64 ∷ 50 ∷ []) ∷ steps many 0)

view_held : viewed 1 ∷ viewed 2 ∷ viewed 3 ∷ viewed 4 ∷ []
    ≡ (false ∷ false ∷ true ∷ []) ∷ (true ∷ false ∷ true ∷ []) ∷ (true ∷ true ∷ true ∷ []) ∷ (true ∷ true ∷ false ∷ []) ∷ []
unfolding every_run
view_held = refl
