-- `listing::Output::put_two` meets its contract.
use mathlib.Core.Path.{refl}
use native.Mathlib.Omega.{arith}
use lib.ListN.{length-set}
use Rattle.listing.proofs.Continuing.{two_wrote}
use Rattle.listing.proofs.Output.put_two.Goals as goal

pub bounds-self-self : goal.bounds-self-self
bounds-self-self c = omega (arith, c.requires)

pub bounds-self-self-2 : goal.bounds-self-self-2
bounds-self-self-2 c =
    let args = c.args in
    omega (arith, c.requires, length-set args.self.now.words.now args.self.now.at args.first)

pub returns : goal.returns
returns c =
    let args = c.args in
    (two_wrote args.self.now.words.now args.self.now.at args.first args.second, refl)
