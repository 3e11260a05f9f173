-- `survey::main` meets its contract: the buffers that it makes have room for every answer.
use native.Mathlib.Omega.{arith}
use Prim.Native.Nat.{ℕ, ◌≤◌}
use mathlib.Core.Path.{◌≡◌, refl, sym}
use mathlib.Core.Bool.{true}
use borrow.Author.Tests.{leb-true}
use lib.Dec.{leb}
use lib.ListN.{length-replicate}
use Rattle.calls.specs.Stream.{room_for}
use Rattle.survey.specs.declared.TheConstants.Buffers.{INPUT, OUTPUT}
use Rattle.survey.proofs.main.Goals as goal

-- Room in buffers, of the lengths `long` and `wide`, by the sizes that they are made with.
holds_answers : {input output long wide : ℕ} → input ≡ long → output ≡ wide → leb (room_for input) output ≡ true → room_for long ≤ wide
holds_answers {input} {output} {long} {wide} size room test = omega (arith, size, room, leb-true (room_for input) output test)

-- The output by the law: a search would count its bytes one by one.
pub slice_bounds-server-end-2 : goal.slice_bounds-server-end-2
slice_bounds-server-end-2 c = sym (length-replicate {A = ℕ} _ 0)

pub invariant_of-server : goal.invariant_of-server
invariant_of-server c =
    let input = sym (length-replicate {A = ℕ} INPUT 0) in
    let output = sym (length-replicate {A = ℕ} OUTPUT 0) in
    record { roomy = holds_answers input output refl }
