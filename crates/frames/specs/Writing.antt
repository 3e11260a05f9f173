-- The frame that asks for a request, an edit's in hundredths: the other way round from `request_in`. (One in minutes: Minutes.)
use Rattle.std.specs.Prelude.{ℕ, ◌-◌, ◌≡◌, List, [], ◌∷◌, ◌++◌, map, Bool, true, ltb, length, ℤ, pos, negsuc}
use Rattle.words.specs.Tests.{all_hold, within}
use Rattle.words.specs.Words.{most_named}
use Rattle.legs.specs.declared.Measure.{Measure}
use Rattle.edits.specs.declared.Edit.{Edit}
use Rattle.edits.specs.declared.Edit.TheVariants.{Add, Correct, Strike, Move}
use Rattle.frames.specs.Request.{Request, Open, Step, Look, View}
use Rattle.std.specs.Prelude.{Ok}
use Rattle.frames.specs.Numbers.{Bytes, bytes16, bytes32, fits16, fits32}
use Rattle.frames.specs.Requests.{add_kind, correct_kind, strike_kind, move_kind, step_kind, look_kind, view_kind, request_in}
use Rattle.frames.specs.Answers.{frame_of}
use Rattle.frames.specs.Fields.{header_of}

-- The 16 bits of a signed number.
abbrev pub bits_of : ℤ → ℕ
bits_of (pos n) = n
bits_of (negsuc n) = 65535 - n

-- Fields of 16 bits, one after the other.
abbrev pub fields16 : List ℕ → Bytes
fields16 [] = []
fields16 (field ∷ fields) = bytes16 field ++ fields16 fields

-- M.
abbrev pub measure_bytes : Measure → Bytes
measure_bytes measure = bytes32 measure.distance ++ fields16 (measure.compass ∷ bits_of measure.clino ∷ [])

abbrev pub measures_bytes : List Measure → Bytes
measures_bytes [] = []
measures_bytes (measure ∷ measures) = measure_bytes measure ++ measures_bytes measures

-- The kind of what is asked for.
abbrev pub edit_kind : Edit → ℕ
edit_kind (Add e) = add_kind
edit_kind (Correct e) = correct_kind
edit_kind (Strike e) = strike_kind
edit_kind (Move e) = move_kind

abbrev pub request_kind : Request → ℕ
request_kind (Open team edit) = edit_kind edit
request_kind (Step team) = step_kind
request_kind (Look word) = look_kind
request_kind (View team n words) = view_kind

-- An edit's numbers of 16 bits, in the frame's order.
abbrev pub edit_numbers : Edit → List ℕ
edit_numbers (Add e) = e.passage ∷ e.leg ∷ e.newest ∷ e.count ∷ e.stations.from ∷ e.stations.to ∷ []
edit_numbers (Correct e) = e.passage ∷ e.leg ∷ e.stations.from ∷ e.stations.to ∷ []
edit_numbers (Strike e) = e.passage ∷ e.newer ∷ e.leg ∷ e.older ∷ e.count ∷ e.stations.from ∷ e.stations.to ∷ []
edit_numbers (Move e) = e.passage ∷ e.into ∷ e.newer ∷ e.leg ∷ e.older ∷ e.count ∷ e.into_newest ∷ e.into_count ∷ e.stations.from ∷ e.stations.to ∷ []

-- Its measures, which come after them.
abbrev pub edit_measures : Edit → List Measure
edit_measures (Add e) = e.measure ∷ []
edit_measures (Correct e) = e.old ∷ e.new ∷ []
edit_measures (Strike e) = e.measure ∷ []
edit_measures (Move e) = []

-- Its fields.
abbrev pub edit_fields : ℕ → Edit → Bytes
edit_fields team edit = fields16 (team ∷ edit_numbers edit) ++ measures_bytes (edit_measures edit)

abbrev pub request_fields : Request → Bytes
request_fields (Open team edit) = edit_fields team edit
request_fields (Step team) = bytes16 team
request_fields (Look word) = bytes16 word
request_fields (View team n words) = fields16 (team ∷ n ∷ words)

unfoldable pub request_frame : Request → Bytes
request_frame request = frame_of (request_kind request) (request_fields request)

-- A signed number of 16 bits.
abbrev pub signed_fits : ℤ → Bool
signed_fits (pos n) = ltb n 32768
signed_fits (negsuc n) = ltb n 32768

-- A distance of 32 bits, a compass and a clino of 16.
abbrev pub measure_fits : Measure → Bool
measure_fits measure = all_hold (fits32 measure.distance ∷ fits16 measure.compass ∷ signed_fits measure.clino ∷ [])

-- Every field has room in its bits; it may be out of range.
abbrev pub request_fits : Request → Bool
request_fits (Open team edit) = all_hold (all_hold (map fits16 (team ∷ edit_numbers edit)) ∷ all_hold (map measure_fits (edit_measures edit)) ∷ [])
request_fits (Step team) = fits16 team
request_fits (Look word) = fits16 word
request_fits (View team n words) = all_hold (map fits16 (team ∷ n ∷ words))

-- Statement: what is asked for is read back from its frame without loss.
abbrev pub RequestsReadBack : Type 0
RequestsReadBack = (request : Request) → request_fits request ≡ true → request_in (request_frame request) ≡ request

-- A view names one to six words.
abbrev pub sized : Request → Bool
sized (Open team edit) = true
sized (Step team) = true
sized (Look word) = true
sized (View team n words) = within 1 most_named (length words)

-- Statement: refusals 3, 4 and 5 never apply to such a frame.
abbrev pub RequestFramesWhole : Type 0
RequestFramesWhole = (request : Request) → sized request ≡ true → header_of (request_frame request) ≡ Ok (request_kind request)
