-- A ticket's words, and the words that a view names, are the first numbers of their room; a value noted leaves both.
use Prim.Native.Nat.{ℕ, zero, suc, ◌+◌, ◌≤◌}
use mathlib.Core.Path.{◌≡◌, refl, sym, ap, ◌∙◌}
use mathlib.Core.List.{List, [], ◌∷◌, map}
use mathlib.Core.Bool.{true, false, cond}
use native.Mathlib.Omega.{arith}
use lib.ListN.{length, get_or, set, take, drop}
use Rattle.words.specs.Tests.{distinct}
use Rattle.words.proofs.Tests.{failed_test}
use Rattle.words.proofs.Numbers.{next_number, no_number_left}
use Rattle.tickets.specs.Tickets.{Ticket}
use Rattle.tickets.specs.Tickets.{target_at, targets_from, words_in, named_in, is_view, names_well_made, view_well_made}
use Rattle.tickets.specs.Steps.{noting}

-- So many numbers of a list, from one on.
abbrev numbers_from : ℕ → ℕ → List ℕ → List ℕ
numbers_from k zero numbers = []
numbers_from k (suc more) numbers = get_or numbers k 0 ∷ numbers_from (k + 1) more numbers

words_from_lem : (k many : ℕ) (ticket : Ticket) → map (λ target. target.word) (targets_from k many ticket) ≡ numbers_from k many ticket.words
words_from_lem k zero ticket = refl
words_from_lem k (suc many) ticket = ap (λ (l : List ℕ). (target_at ticket k).word ∷ l) (words_from_lem (k + 1) many ticket)

names_from_lem : (k many : ℕ) (ticket : Ticket) → map (λ target. target.new) (targets_from k many ticket) ≡ numbers_from k many ticket.new
names_from_lem k zero ticket = refl
names_from_lem k (suc many) ticket = ap (λ (l : List ℕ). (target_at ticket k).new ∷ l) (names_from_lem (k + 1) many ticket)

-- They are what `take` takes, where there are as many.
from_taken : (numbers : List ℕ) (n many k : ℕ) → k + many ≡ n → n ≤ length numbers → numbers_from k many numbers ≡ drop k (take n numbers)
from_taken numbers n zero k is most = sym (no_number_left numbers n k (omega arith))
from_taken numbers n (suc many) k is most =
    ap (λ (l : List ℕ). get_or numbers k 0 ∷ l) (from_taken numbers n many (k + 1) (omega arith) most) ∙ sym (next_number numbers n k (omega arith) most)

names_taken : (ticket : Ticket) → ticket.n ≤ length ticket.new → named_in ticket ≡ take ticket.n ticket.new
names_taken ticket most = names_from_lem 0 ticket.n ticket ∙ from_taken ticket.new ticket.n ticket.n 0 (omega arith) most

-- A value noted leaves them.
pub words_noting : (ticket : Ticket) (found : ℕ) → words_in (noting ticket found) ≡ words_in ticket
words_noting ticket found = words_from_lem 0 ticket.n (noting ticket found) ∙ sym (words_from_lem 0 ticket.n ticket)

pub names_noting : (ticket : Ticket) (found : ℕ) → named_in (noting ticket found) ≡ named_in ticket
names_noting ticket found = names_from_lem 0 ticket.n (noting ticket found) ∙ sym (names_from_lem 0 ticket.n ticket)

-- What holds of the value found and of a target's quoted value holds of the quoted value after it is noted.
pub noted_either : (P : ℕ → Type 0) (quoted : List ℕ) (at k found : ℕ) → P found → P (get_or quoted k 0) → P (get_or (set quoted at found) k 0)
noted_either P [] at k found new old = old
noted_either P (first ∷ later) zero zero found new old = new
noted_either P (first ∷ later) zero (suc k) found new old = old
noted_either P (first ∷ later) (suc at) zero found new old = old
noted_either P (first ∷ later) (suc at) (suc k) found new old = noted_either P later at k found new old

-- The test of a view's names, by its parts: an edit passes it, a view fails it with a name twice, and else each name is to be a target's word.
pub no_view : (ticket : Ticket) → is_view ticket.phase ≡ false → view_well_made ticket.phase ticket ≡ true
no_view ticket edit = ap (λ b. cond b (names_well_made (named_in ticket) (words_in ticket)) true) edit

pub taken_twice : (ticket : Ticket) → is_view ticket.phase ≡ true → ticket.n ≤ length ticket.new → distinct (take ticket.n ticket.new) ≡ false → view_well_made ticket.phase ticket ≡ false
taken_twice ticket view most twice =
    ap (λ b. cond b (names_well_made (named_in ticket) (words_in ticket)) true) view ∙ failed_test _ _ (ap distinct (names_taken ticket most) ∙ twice)
