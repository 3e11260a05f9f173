-- What stands at the front of some bytes, low byte first, and the bytes behind it.
use Rattle.std.specs.Prelude.{ℕ, List, length, take, drop, cond, ltb, eqb, Option, None, Some}
use Rattle.std.specs.Int.{Width, w16, w32, w64, byte_len, from_le_bytes}
use Rattle.tickets.specs.declared.Kind.{Kind}
use Rattle.tickets.specs.declared.Kind.TheVariants.{Edit, Stale, View}
use Rattle.tickets.specs.declared.Ticket.{Ticket}
use Rattle.desk.specs.declared.records.Given.{Given}
use Rattle.desk.specs.declared.records.Call.{Call}

-- What is read, none where the bytes hold no whole one, and the bytes left then.
abbrev pub Reading : Type 0 → Type 0
Reading A = Option A × List ℕ

-- A reading, and then another of the bytes left.
abbrev pub and_then : {A B : Type 0} → Reading A → (A → List ℕ → Reading B) → Reading B
and_then (None, left) next = (None, left)
and_then (Some x, left) next = next x left

-- The first so many bytes.
abbrev pub first_bytes : ℕ → List ℕ → Reading (List ℕ)
first_bytes count bytes = cond (ltb (length bytes) count) (None, bytes) (Some (take count bytes), drop count bytes)

abbrev pub first_number : Width → List ℕ → Reading ℕ
first_number w bytes = and_then (first_bytes (byte_len w) bytes) (λ front left. (Some (from_le_bytes w front), left))

-- A word given: its number and its value.
abbrev pub first_given : List ℕ → Reading Given
first_given bytes =
    and_then (first_number w16 bytes) (λ word left.
    and_then (first_number w64 left) (λ value left.
    (Some (record { word = word; value = value }), left)))

abbrev pub kind_of : ℕ → Kind
kind_of number = cond (eqb number 0) Edit (cond (eqb number 1) Stale View)

abbrev pub first_kind : List ℕ → Reading Kind
first_kind bytes = and_then (first_number w16 bytes) (λ number left. (Some (kind_of number), left))

-- A slot: tries, n, claimed, done and kind.
abbrev pub first_ticket : List ℕ → Reading Ticket
first_ticket bytes =
    and_then (first_number w32 bytes) (λ tries left.
    and_then (first_number w16 left) (λ n left.
    and_then (first_number w16 left) (λ claimed left.
    and_then (first_number w16 left) (λ done left.
    and_then (first_kind left) (λ kind left.
    (Some (record { tries = tries; n = n; claimed = claimed; done = done; kind = kind }), left))))))

-- A call's numbers, and the bytes that it carries.
abbrev pub seen : Call → ℕ × ℕ × ℕ × ℕ × List ℕ
seen call = (call.tag, call.book, call.beside, call.number, call.carried.now)

abbrev pub first_call : List ℕ → Reading (ℕ × ℕ × ℕ × ℕ × List ℕ)
first_call bytes =
    and_then (first_number w16 bytes) (λ tag left.
    and_then (first_number w16 left) (λ book left.
    and_then (first_number w16 left) (λ beside left.
    and_then (first_number w16 left) (λ number left.
    and_then (first_number w16 left) (λ count left.
    and_then (first_bytes count left) (λ carried left.
    (Some (tag, book, beside, number, carried), left)))))))
