-- `sound::LegAt::mark` meets its contract, by whether its byte is there.
use mathlib.Core.Path.{sym, subst}
use Prim.Native.Nat.{ℕ, ◌≤◌}
use native.Mathlib.Omega.{arith}
use lib.ListN.{length}
use Rattle.sound.proofs.Bits.{bit_put, bit_past}
use Rattle.sound.proofs.LegAt.mark.Goals as goal

pub returns-then-at-bits : goal.returns-then-at-bits
returns-then-at-bits c = bit_put c.args.bits.now c.args.self.number c.bit_byte-at.result c.bit_place-place.result c.bit_byte-at.ensures c.bit_place-place.ensures.0

pub returns-else-at-bits : goal.returns-else-at-bits
returns-else-at-bits c =
    sym (bit_past c.args.bits.now c.args.self.number (subst (λ (at : ℕ). length c.args.bits.now ≤ at) c.bit_byte-at.ensures (omega (arith, c.if-at-bits.false))))
