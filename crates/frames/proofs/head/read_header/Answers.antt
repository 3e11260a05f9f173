-- `frames::head::read_header` meets its contract: the tests are made in the order of the refusals.
use mathlib.Core.Path.{sym, ap, ◌∙◌}
use Rattle.std.specs.Prelude.{Err}
use Rattle.std.proofs.lemmas.Result.{err_from_is_err_and}
use Rattle.frames.proofs.Headers.{too_short, too_long, other_count_lem, header_torn, Untorn, header_fits, header_misfits, header_no_kind, step_header}
use Rattle.frames.specs.Kinds.{kind_number}
use Rattle.frames.proofs.ReadKinds.{each_known, read_kind, no_kind}
use Rattle.frames.proofs.head.read_header.Goals as goal
use Rattle.frames.proofs.head.read_header.Goals.{After-read16, In_ok-kind}

-- What is known once both fields are read.
untorn : (c : After-read16) → Untorn c.args.frame.now c.read16-length.result c.read16.result
untorn c = record {
  is_length = c.read16-length.ensures.0;
  is_kind_lem = c.read16.ensures.0;
  head = c.if-count-lt-HEAD.false;
  most = c.if-count-gt-LONGEST.false;
  counted = c.if-length-count.false;
}

-- The same of the kind that was read.
read_as_kind : (c : In_ok-kind) → Untorn c.args.frame.now c.read16-length.result (kind_number c.in_ok-kind.kind)
read_as_kind c = record {
  is_length = c.read16-length.ensures.0;
  is_kind_lem = read_kind c.read16.result _ c.in_ok-kind.ensures ∙ c.read16.ensures.0;
  head = c.if-count-lt-HEAD.false;
  most = c.if-count-gt-LONGEST.false;
  counted = c.if-length-count.false;
}

pub returns-then-is_step : goal.returns-then-is_step
returns-then-is_step c =
    let frame = c.args.frame.now in
    step_header frame (sym c.is_step.ensures ∙ c.if-is_step.true)

pub returns-then-count-lt-HEAD : goal.returns-then-count-lt-HEAD
returns-then-count-lt-HEAD c = let frame = c.args.frame.now in
    (header_torn frame (too_short frame c.if-count-lt-HEAD.true), tt)

pub returns-then-count-gt-LONGEST : goal.returns-then-count-gt-LONGEST
returns-then-count-gt-LONGEST c = let frame = c.args.frame.now in
    (header_torn frame (too_long frame c.if-count-lt-HEAD.false c.if-count-gt-LONGEST.true), tt)

pub returns-then-length-count : goal.returns-then-length-count
returns-then-length-count c = let frame = c.args.frame.now in
    let length_field_lem = c.read16-length.ensures.0 in
    (header_torn frame (other_count_lem frame c.if-count-lt-HEAD.false c.if-count-gt-LONGEST.false (rw length_field_lem at c.if-length-count.true)), tt)

pub returns-in_err-kind : goal.returns-in_err-kind
returns-in_err-kind c =
    let p = err_from_is_err_and c.from_residual.result c.from_residual.ensures.1 in
    let (four, none) = no_kind c.read16.result _ c.in_err-kind.ensures in
    rw (p.1, p.2) (ap Err four ∙ header_no_kind (untorn (goal.at.returns-in_err-kind c).After-read16) none, tt)

pub returns-then-not-fits : goal.returns-then-not-fits
returns-then-not-fits c = (header_misfits (read_as_kind (goal.at.returns-then-not-fits c).In_ok-kind) (each_known c.in_ok-kind.kind) (sym c.fits.ensures ∙ c.if-not-fits.true), tt)

pub returns : goal.returns
returns c = header_fits (read_as_kind (goal.at.returns c).In_ok-kind) (each_known c.in_ok-kind.kind) (sym c.fits.ensures ∙ c.if-not-fits.false)
