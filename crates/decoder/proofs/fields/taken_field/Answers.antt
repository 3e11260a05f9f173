-- `decoder::fields::taken_field` meets its contract: the four are in range where each is.
use mathlib.Core.Path.{sym, ◌∙◌}
use Rattle.frames.specs.Requests.{taken_at}
use Rattle.decoder.proofs.Answered.{up_to, from_one, taken_in}
use Rattle.decoder.proofs.fields.taken_field.Goals as goal

pub returns : goal.returns
returns c =
    taken_in (taken_at c.args.part.now c.args.at) _ _ _ _
    (up_to c.new.result _ _ c.new.ensures.start c.new.ensures.end c.new.ensures.exhausted ∙ sym c.in_ok-newer.ensures)
    (from_one c.new-2.result _ _ c.new-2.ensures.start c.new-2.ensures.end c.new-2.ensures.exhausted ∙ sym c.in_ok-leg.ensures)
    (up_to c.new-3.result _ _ c.new-3.ensures.start c.new-3.ensures.end c.new-3.ensures.exhausted ∙ sym c.in_ok-older.ensures)
    (from_one c.new-4.result _ _ c.new-4.ensures.start c.new-4.ensures.end c.new-4.ensures.exhausted ∙ sym c.in_ok-count.ensures)
