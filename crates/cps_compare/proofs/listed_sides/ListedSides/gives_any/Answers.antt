use Rattle.std.proofs.Common.{◌≡◌, sym, subst, arith}
use Rattle.cps_compare.specs.Comparison.{SomeGiven}
use Rattle.cps_compare.specs.ListedSides.{listed_findings}
use Rattle.cps_compare.proofs.ListingLemmas.{past-given}
use Rattle.cps_compare.proofs.listed_sides.ListedSides.gives_any.Goals as goal

pub returns : goal.returns
returns c = λ assembly sides kept none address.
    let some = subst (SomeGiven (listed_findings sides) 0 262143) none (c.gives_some.ensures assembly sides kept) in
    past-given c.args.self.now assembly sides kept address (λ below. some address (omega arith) (omega arith))
