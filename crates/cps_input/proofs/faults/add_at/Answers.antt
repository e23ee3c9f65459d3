use Rattle.std.proofs.Common.{sym, subst, inl, arith}
use Rattle.cps_input.specs.Faults.{AreAll}
use Rattle.cps_input.proofs.FaultLemmas.{all-more, all-push}
use Rattle.cps_input.proofs.faults.add_at.Goals as goal

pub returns-in-None-clause-all : goal.returns-in-None-clause-all
returns-in-None-clause-all c =
    λ so_far. all-more c.args.number c.args.line.now 0 c.args.faults.now.items c.args.at so_far c.requires.within (let short = c.requires.short in omega arith) c.in-None.ensures.stranger

pub returns-in_ok-push-in-Some-clause-all : goal.returns-in_ok-push-in-Some-clause-all
returns-in_ok-push-in-Some-clause-all c =
    λ so_far. subst (λ l. AreAll c.args.number c.args.line.now 0 l c.in-Some.fault.last) (sym c.in_ok-push-in-Some.ensures.items)
    (all-push c.args.number c.args.line.now 0 c.args.faults.now.items c.args.at c.in-Some.fault so_far c.in-Some.ensures.place.0 (inl c.in-Some.ensures.stranger))
