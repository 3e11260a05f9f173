-- Numbers in room for as many as a view may name.
use Prim.Native.Nat.{ℕ, ◌-◌, ◌≤◌, ◌<◌}
use mathlib.Core.Path.{◌≡◌, sym, ap, ◌∙◌}
use mathlib.Core.List.{List, ◌++◌}
use native.Mathlib.Omega.{arith}
use native.Mathlib.Decide.{dec_lt}
use lib.ListN.{length, get_or, take, replicate, length-append, length-take, length-replicate, get_or-append, get_or-eq_default}
use lib.Seq.{ext_get_or, get_or-append_right, take_all}
use Rattle.std.proofs.lemmas.List.{get_or-replicate, get_or-take}
use Rattle.words.specs.Words.{most_named}
use Rattle.tickets.specs.Steps.{in_room}

module _ (numbers : List ℕ) where
  abbrev first : List ℕ
  first = take most_named numbers

  abbrev zeros : List ℕ
  zeros = replicate (most_named - length numbers) 0

  pub room_long : length (in_room numbers) ≡ most_named
  room_long = omega (arith, length-append first zeros, length-take most_named numbers, length-replicate {A = ℕ} (most_named - length numbers) 0)

  pub room_get : (k : ℕ) → k < most_named → get_or (in_room numbers) k 0 ≡ get_or numbers k 0
  room_get k below = elim (dec_lt k (length numbers)) [
    | yes there ↦ get_or-append first zeros 0 k (omega (arith, below, there, length-take most_named numbers)) ∙ get_or-take most_named numbers k 0 below
    | no behind ↦
        get_or-append_right first zeros k 0 (omega (arith, behind, length-take most_named numbers))
        ∙ get_or-replicate (most_named - length numbers) (k - length first) 0 0 (omega (arith, below, behind, length-take most_named numbers))
        ∙ sym (get_or-eq_default numbers 0 (omega (arith, behind)))
  ]

  -- So many numbers, each of which is the one there, or 0 where there is none, are they.
  pub in_room_by : (values : List ℕ) → length values ≡ most_named → ((k : ℕ) → k < most_named → get_or values k 0 ≡ get_or numbers k 0) → values ≡ in_room numbers
  in_room_by values long each =
      ext_get_or 0 values (in_room numbers) (long ∙ sym room_long)
      (λ k below. let inside : k < most_named = omega (arith, below, long) in each k inside ∙ sym (room_get k inside))

  -- Where there are no more than there is room for, all are there.
  pub few_in_room : length numbers ≤ most_named → in_room numbers ≡ numbers ++ zeros
  few_in_room most = ap (λ (l : List ℕ). l ++ zeros) (take_all most_named numbers most)
