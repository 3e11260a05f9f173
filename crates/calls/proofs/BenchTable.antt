-- The table of twelve and the whole case are right, by computation.
use mathlib.Core.Path.{refl}
use Rattle.calls.specs.Bench.{BenchExamples, WholeCase}
use Rattle.calls.proofs.Computing.{everything}

pub bench_examples : BenchExamples
unfolding everything
bench_examples = (refl, (refl, (refl, (refl, (refl, (refl, (refl, (refl, (refl, (refl, (refl, (refl, tt))))))))))))

pub whole_case_lem : WholeCase
unfolding everything
whole_case_lem = refl
