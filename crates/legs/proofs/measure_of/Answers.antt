-- `legs::measure_of` meets its contract: each figure in range keeps the sum below 2^63.
use native.Mathlib.Omega.{arith}
use mathlib.Core.Path.{◌≡◌, ap, ◌∙◌}
use Prim.Native.Nat.{◌+◌, ◌*◌}
use Rattle.legs.specs.Legs.{compass_unit, clino_unit, clino_offset}
use Rattle.legs.proofs.Ranges.{measure_fits_lem, taken_most}
use Rattle.legs.proofs.Clino.{kept16}
use Rattle.legs.proofs.measure_of.Goals as goal

pub clino_offset-offset-requires : goal.clino_offset-offset-requires
clino_offset-offset-requires c =
    let fits = (measure_fits_lem c.args.measure c.requires).clino_fits in
    rw (kept16 c.args.measure.clino fits) fits

pub returns : goal.returns
returns c =
    let measure = c.args.measure in
    let fits = measure_fits_lem measure c.requires in
    let offset = c.clino_offset-offset in
    let clino = fits.clino_fits in
    let offset_is : offset.result ≡ clino_offset measure.clino = offset.ensures.0 ∙ ap clino_offset (kept16 measure.clino clino) in
    let compass_is = c.compass_taken-compass.ensures in (
      (λ i. measure.distance + compass_unit * compass_is i + clino_unit * offset_is i),
      omega (arith, fits.distance_most, fits.compass_fits, taken_most measure, compass_is, offset.ensures.1),
    )
