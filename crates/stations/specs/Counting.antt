-- The legs at a station, counted by passage, and how long their list is by these counts.
use Rattle.std.specs.Prelude.{ℕ, ◌+◌, ◌*◌, List, [], ◌∷◌, cond, eqb, length}
use Rattle.plain.specs.Plain.{Plain}
use Rattle.meeting.specs.Meeting.{those_meeting}
use Rattle.stations.specs.declared.Size.{Size}

-- How many legs of each passage are at the station.
unfoldable pub counts_at : ℕ → Plain → List ℕ
counts_at station [] = []
counts_at station (legs ∷ lists) = length (those_meeting station legs) ∷ counts_at station lists

-- The passages with a leg there, by counts that start with this passage's.
unfoldable pub present_from : ℕ → List ℕ → List ℕ
present_from passage [] = []
present_from passage (count ∷ counts) = cond (eqb count 0) (present_from (passage + 1) counts) (passage ∷ present_from (passage + 1) counts)

-- One passage more, in front of those counted: it makes a pair with each of them.
abbrev pub with_passage : ℕ → Size → Size
with_passage count size =
    cond (eqb count 0) size
    (record { legs = size.legs + count; passages = size.passages + 1; pairs = size.pairs + size.passages })

-- The legs, passages and pairs by the counts.
unfoldable pub size_of : List ℕ → Size
size_of [] = record { legs = 0; passages = 0; pairs = 0 }
size_of (count ∷ counts) = with_passage count (size_of counts)

-- As many words as a list of this size has.
abbrev pub list_length : Size → ℕ
list_length size = 2 + 2 * (size.legs + size.pairs)
