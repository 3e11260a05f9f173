-- `decoder::fields::MinutesAngleUnit::clino` meets its contract: in range where all three fields are and the angle is not over 90 degrees; then it is rounded.
use Rattle.std.specs.Prelude.{Some}
use Prim.Native.Nat.{ℕ, ◌+◌, ◌≤◌}
use mathlib.Core.Path.{sym, ap, subst, ◌∙◌}
use mathlib.Core.Bool.{true≢false}
use Rattle.legs.specs.Legs.{steepest_clino}
use Rattle.legs.specs.Minutes.{signed_by}
use Rattle.frames.specs.Numbers.{number16}
use Rattle.decoder.proofs.Answered.{up_to, field_out, bounded_in, clino_angle_out, minute_out, clino_read, clino_read_steep, clino_read_in}
use borrow.Author.Rules.{rules}
use Rattle.decoder.proofs.fields.MinutesAngleUnit.clino.Goals as goal

pub returns-in_err-sign : goal.returns-in_err-sign
returns-in_err-sign c = let args = c.args in
    let part = args.part.now in
    c.from_residual.ensures ∙ clino_angle_out (number16 part (args.at + 8)) (number16 part (args.at + 10)) (number16 part (args.at + 12))
    (λ fits. true≢false (sym fits.sign_fits ∙ field_out _ (number16 part (args.at + 8)) (up_to c.new.result _ _ c.new.ensures.start c.new.ensures.end c.new.ensures.exhausted ∙ sym c.in_err-sign.ensures)))

pub returns-in_err-degrees : goal.returns-in_err-degrees
returns-in_err-degrees c = let args = c.args in
    let part = args.part.now in
    c.from_residual-in_err-degrees.ensures ∙ clino_angle_out (number16 part (args.at + 8)) (number16 part (args.at + 10)) (number16 part (args.at + 12))
    (λ fits. true≢false (sym fits.degrees_fit ∙ field_out _ (number16 part (args.at + 10)) (up_to c.new-2.result _ _ c.new-2.ensures.start c.new-2.ensures.end c.new-2.ensures.exhausted ∙ sym c.in_err-degrees.ensures)))

pub returns-in_err-minutes : goal.returns-in_err-minutes
returns-in_err-minutes c = let args = c.args in
    let part = args.part.now in
    let degrees = bounded_in (number16 part (args.at + 10)) 90 _ (up_to c.new-2.result _ _ c.new-2.ensures.start c.new-2.ensures.end c.new-2.ensures.exhausted ∙ sym c.in_ok-degrees.ensures) in
    c.from_residual-in_err-minutes.ensures ∙ clino_angle_out (number16 part (args.at + 8)) (number16 part (args.at + 10)) (number16 part (args.at + 12))
    (minute_out (number16 part (args.at + 8)) (number16 part (args.at + 10)) (number16 part (args.at + 12)) _ _ degrees.1 c.last_minute.ensures (field_out _ (number16 part (args.at + 12)) (up_to c.new-3.result _ _ c.new-3.ensures.start c.new-3.ensures.end c.new-3.ensures.exhausted ∙ sym c.in_err-minutes.ensures)))

pub signed_by-requires : goal.signed_by-requires
signed_by-requires c = let args = c.args in
    let part = args.part.now in
    let read = clino_read (number16 part (args.at + 8)) (number16 part (args.at + 10)) (number16 part (args.at + 12)) _ _ _ _ (up_to c.new.result _ _ c.new.ensures.start c.new.ensures.end c.new.ensures.exhausted ∙ sym c.in_ok-sign.ensures) (up_to c.new-2.result _ _ c.new-2.ensures.start c.new-2.ensures.end c.new-2.ensures.exhausted ∙ sym c.in_ok-degrees.ensures) c.last_minute.ensures (up_to c.new-3.result _ _ c.new-3.ensures.start c.new-3.ensures.end c.new-3.ensures.exhausted ∙ sym c.in_ok-minutes.ensures) in
    subst (λ (steepness : ℕ). steepness ≤ steepest_clino) (sym c.hundredths-steepness.ensures.0) (clino_read_steep read)

pub returns : goal.returns
returns c = let args = c.args in
    let part = args.part.now in
    let read = clino_read (number16 part (args.at + 8)) (number16 part (args.at + 10)) (number16 part (args.at + 12)) _ _ _ _ (up_to c.new.result _ _ c.new.ensures.start c.new.ensures.end c.new.ensures.exhausted ∙ sym c.in_ok-sign.ensures) (up_to c.new-2.result _ _ c.new-2.ensures.start c.new-2.ensures.end c.new-2.ensures.exhausted ∙ sym c.in_ok-degrees.ensures) c.last_minute.ensures (up_to c.new-3.result _ _ c.new-3.ensures.start c.new-3.ensures.end c.new-3.ensures.exhausted ∙ sym c.in_ok-minutes.ensures) in
    ap Some (search rules)
    ∙ ap Some c.signed_by.ensures
    ∙ ap (λ (steepness : ℕ). Some (signed_by c.in_ok-sign.sign steepness)) c.hundredths-steepness.ensures.0
    ∙ clino_read_in read
