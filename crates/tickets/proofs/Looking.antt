-- What the invariant says of a word: a look shows the plain word or a held one, a word that nobody holds is the plain word, a held one has one holder.
use Prim.Native.Nat.{◌^◌, ◌≤◌, ◌<◌}
use mathlib.Core.Path.{◌≡◌, refl, sym, ap, subst, ◌∙◌}
use mathlib.Core.Bool.{Bool, true, false, cond, false≢true}
use mathlib.Core.Logic.{◌↔◌}
use native.Mathlib.Omega.{arith}
use native.Mathlib.Decide.{dec_lt}
use borrow.Author.Tests.{leb-true, leb-false}
use Rattle.words.specs.Words.{is_held, read_of}
use Rattle.tickets.specs.declared.Phase.{Phase}
use Rattle.tickets.specs.declared.Phase.TheVariants.{NoTicket, Claiming, Putting, GivingBack, Viewing, Viewed}
use Rattle.std.specs.Prelude.{None, Some}
use Rattle.tickets.specs.Tickets.{claims, counts_well_made}
use Rattle.tickets.specs.Invariant.{HeldTarget, HeldByPhase, OneHolder, PlainAlike, LookRight, LooksRight, UnheldPlain}

pub looks_right : LooksRight
looks_right words tickets plain word i inside = shown (is_held (read_of words word)) refl
  where
    shown : (held : Bool) → is_held (read_of words word) ≡ held → LookRight tickets plain word (cond held None (Some (read_of words word)))
    shown true held = i.owned word inside (leb-true (2 ^ 63) _ held)
    shown false held = i.free word inside (leb-false (2 ^ 63) _ held)

pub unheld_plain : UnheldPlain
unheld_plain words tickets plain word i inside unheld = elim (dec_lt (read_of words word) (2 ^ 63)) [
  | yes small ↦ i.free word inside small
  | no large ↦ absurd (unheld (i.owned word inside (omega arith)))
]

pub one_holder : OneHolder
one_holder words tickets plain team other word value another i mine theirs =
    omega (arith, (i.held team word value mine).marked, (i.held other word another theirs).marked)

pub plain_alike : PlainAlike
plain_alike words tickets plain alike i same = record {
  fit = i.fit;
  held = λ team word value holds. let held = i.held team word value holds in record {
    inside = held.inside;
    marked = held.marked;
    plain_is = same word held.inside ∙ held.plain_is;
    a_value = held.a_value;
  };
  free = λ word inside small. i.free word inside small ∙ sym (same word inside);
  owned = i.owned;
}

pub held_by_phase : HeldByPhase
held_by_phase size ticket k fit = in_phase ticket.phase refl
  where
    in_phase : (phase : Phase) → ticket.phase ≡ phase → HeldTarget phase ticket k ↔ ((ticket.done ≤ k) × (k < ticket.claimed))
    in_phase NoTicket none = ((λ held. absurd held), (λ held. false≢true (subst (λ phase. counts_well_made phase ticket.n ticket.claimed ticket.done ≡ true) none fit.counts)))
    in_phase Claiming claiming = let none = fit.none_done (ap claims claiming) in ((λ held. (omega arith, held)), (λ held. held.1))
    in_phase Putting putting = let all = fit.all_were_claimed putting in ((λ held. (held.0, omega arith)), (λ held. (held.0, omega arith)))
    in_phase GivingBack giving = ((λ held. held), (λ held. held))
    in_phase Viewing viewing = let none = fit.none_done (ap claims viewing) in ((λ held. (omega arith, held)), (λ held. held.1))
    in_phase Viewed viewed = ((λ held. held), (λ held. held))
