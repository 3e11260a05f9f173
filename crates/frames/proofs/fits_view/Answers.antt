-- `frames::fits_view` meets its contract: a view's length is bounded and even.
use mathlib.Core.Path.{sym}
use Rattle.frames.proofs.Headers.{view_short, view_long, view_even}
use Rattle.frames.proofs.fits_view.Goals as goal

pub returns-then-count : goal.returns-then-count
returns-then-count c = sym (view_short _ c.if-count.true)

pub returns-then-count-2 : goal.returns-then-count-2
returns-then-count-2 c = sym (view_long _ c.if-count-2.true)

pub returns : goal.returns
returns c = sym (view_even _ c.if-count.false c.if-count-2.false)
