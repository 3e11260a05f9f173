-- A team's targets as numbers, one target after another: of each its word, its quoted and its new value.
use Rattle.std.specs.Prelude.{ℕ, ◌/◌, ◌%◌, cond, List, get_or, set, eqb}
use Rattle.tickets.specs.declared.Target.{Target}
use Rattle.tickets.specs.Tickets.{target}
use Rattle.tickets.specs.Table.{no_target}

-- A target with another number in one of its three places.
abbrev pub with_part : Target → ℕ → ℕ → Target
with_part old part number =
    cond (eqb part 0) (target number old.quoted old.new)
    (cond (eqb part 1) (target old.word number old.new) (target old.word old.quoted number))

-- The targets with another number at a place; one that they don't have leaves them.
abbrev pub with_number : List Target → ℕ → ℕ → List Target
with_number targets place number = set targets (place / 3) (with_part (get_or targets (place / 3) no_target) (place % 3) number)
