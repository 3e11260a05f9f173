-- `frames::head::is_step` meets its contract: the first four bytes as one number say both fields, since each is below 2^16.
use mathlib.Core.Path.{◌≡◌, sym, ap, ◌∙◌}
use mathlib.Core.List.{[], ◌∷◌}
use Prim.Native.Nat.{ℕ, ◌+◌, ◌*◌, ◌<◌}
use native.Mathlib.Omega.{arith}
use native.Mathlib.Decide.{ℕ_discrete}
use borrow.Author.Tests.{eq-eqb, ne_eqb}
use lib.Dec.{eqb}
use lib.ListN.{length}
use Rattle.words.proofs.Tests.{next_test, failed_test, last_test}
use Rattle.frames.specs.Numbers.{Bytes, number32}
use Rattle.frames.specs.Requests.{length_field, kind_field, step_kind, length_of_kind}
use Rattle.frames.specs.Fields.{is_step}
use Rattle.frames.proofs.head.is_step.Goals as goal

-- Of six bytes: the number is a step's head where both fields are.
head_tells : (frame : Bytes) (number : ℕ) → length frame ≡ length_of_kind step_kind + 2 → number ≡ length_field frame + 65536 * kind_field frame → length_field frame < 65536 → eqb number 327684 ≡ is_step frame
head_tells frame number bytes is low =
    let six = next_test _ (eqb (length_field frame) (length_of_kind step_kind) ∷ eqb (kind_field frame) step_kind ∷ []) (eq-eqb _ _ bytes) in
    elim (ℕ_discrete (length_field frame) (length_of_kind step_kind)) [
      | no other ↦ ne_eqb number 327684 (λ e. other (omega (arith, e, is, low))) ∙ sym (six ∙ failed_test _ _ (ne_eqb _ _ other))
      | yes due ↦
          let four = six ∙ next_test _ (eqb (kind_field frame) step_kind ∷ []) (eq-eqb _ _ due) ∙ last_test _ in
          elim (ℕ_discrete (kind_field frame) step_kind) [
            | no other ↦ ne_eqb number 327684 (λ e. other (omega (arith, e, is, due))) ∙ sym (four ∙ ne_eqb _ _ other)
            | yes kind ↦ eq-eqb number 327684 (omega (arith, is, due, kind)) ∙ sym (four ∙ eq-eqb _ _ kind)
          ]
    ]

pub returns-then-frame-ne-STEP : goal.returns-then-frame-ne-STEP
returns-then-frame-ne-STEP c = sym (failed_test _ _ (ne_eqb _ _ c.if-frame-ne-STEP.true))

pub returns : goal.returns
returns c =
    let frame = c.args.frame.now in
    let byte = c.shared_slice_known-1.given in
    ap (λ (number : ℕ). eqb number 327684) c.read32.ensures
    ∙ head_tells frame (number32 frame 0) c.if-frame-ne-STEP.false (omega (arith, byte 0, byte 1, byte 2, byte 3)) (omega (arith, byte 0, byte 1))
