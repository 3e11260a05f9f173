-- What a request that is not refused satisfies.
use mathlib.Core.Path.{◌≡◌, refl}
use mathlib.Core.Bool.{true, false}
use mathlib.Core.Option.{none}
use Prim.Native.Nat.{◌<◌}
use borrow.Author.Tests.{ltb-true, not-false}
use Rattle.words.specs.Tests.{all_hold}
use Rattle.words.specs.Words.{Words, words_in_book, team_count}
use Rattle.legs.specs.Positions.{Ranks}
use Rattle.tickets.specs.Tickets.{Tickets, ticket_of, has_ticket}
use Rattle.edits.specs.declared.Edit.{Edit}
use Rattle.edits.specs.Ranges.{edit_in_range, edit_repeats, edit_allowed}
use Rattle.edits.specs.Views.{FineView}
use Rattle.frames.specs.Request.{Request, Open, Step, Look, View}
use Rattle.frames.specs.Numbers.{Bytes, are_bytes}
use Rattle.frames.specs.Requests.{request_in}
use Rattle.frames.proofs.Asked.{stations_fit}
use Rattle.frames.specs.Fields.{request_out_of_range, field_repeated}
use Rattle.calls.specs.Call.{refusal_of, team_unknown, opens_over_ticket, step_without_ticket}
use Rattle.calls.proofs.Refusing.{passed, Sized, request_sized, fine_view}
use Rattle.calls.proofs.Ordered.{Fine}

-- An edit that neither 10 nor 11 refuses is allowed.
allowed : (edit : Edit) → edit_in_range edit ≡ true → edit_repeats edit ≡ false → edit_allowed edit ≡ true
unfolding all_hold
allowed edit each_in_range once = rw (each_in_range, once) refl

-- Its team is one of the sixteen, has no ticket or has one as asked for, its edit or its view is fine, its word is one of the book's.
abbrev pub Passes : Tickets → Request → Type 0
Passes tickets (Open team edit) = (team < team_count) × (has_ticket (ticket_of tickets team).phase ≡ false) × Fine edit
Passes tickets (Step team) = (team < team_count) × (has_ticket (ticket_of tickets team).phase ≡ true)
Passes tickets (Look word) = word < words_in_book
Passes tickets (View team n words) = (team < team_count) × (has_ticket (ticket_of tickets team).phase ≡ false) × FineView words

module _ (words : Words) (tickets : Tickets) (ranks : Ranks) (frame out : Bytes) (bytes : are_bytes frame ≡ true) where
  pub passes : refusal_of words tickets ranks frame out ≡ none → Passes tickets (request_in frame)
  passes none_given =
      let known = passed words tickets ranks frame out none_given in
      of_request (request_in frame) refl known.known_team known.opens_alone known.step_allowed known.each_in_range known.named_once (request_sized known)
    where
      of_request : (request : Request) → request_in frame ≡ request → team_unknown request ≡ false → opens_over_ticket tickets request ≡ false
          → step_without_ticket tickets request ≡ false → request_out_of_range request ≡ false → field_repeated request ≡ false → Sized request → Passes tickets request
      of_request (Open team edit) is known no_ticket_lem ticket each_in_range once sized =
          (ltb-true team team_count (not-false _ known), no_ticket_lem, record { allowed = allowed edit (not-false _ each_in_range) once; stations = stations_fit frame team edit bytes is })
      of_request (Step team) is known no_ticket_lem ticket each_in_range once sized = (ltb-true team team_count (not-false _ known), not-false _ ticket)
      of_request (Look word) is known no_ticket_lem ticket each_in_range once sized = ltb-true word words_in_book (not-false _ each_in_range)
      of_request (View team n named) is known no_ticket_lem ticket each_in_range once sized =
          (ltb-true team team_count (not-false _ known), no_ticket_lem, fine_view n named sized (not-false _ each_in_range) once)
