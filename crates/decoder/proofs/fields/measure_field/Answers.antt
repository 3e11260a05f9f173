-- `decoder::fields::measure_field` meets its contract: M is in range where distance, compass and clino are.
use mathlib.Core.Path.{sym}
use Rattle.decoder.proofs.Answered.{all_in}
use Rattle.decoder.proofs.fields.measure_field.Goals as goal

pub returns : goal.returns
returns g c = all_in g.U.AngleUnit.minutes c.args.part.now c.args.at _ _ _ (sym c.in_ok-distance.ensures) (sym c.in_ok-compass.ensures) (sym c.in_ok-clino.ensures)
