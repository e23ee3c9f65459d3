use Rattle.cps_code.specs.Sum.{sum_of}
use Rattle.cps_code.proofs.SummedLemmas.{no_terms, kept_terms}
use Rattle.cps_code.proofs.summed.read_terms.Goals as goal

pub returns-in-None-clause-sum : goal.returns-in-None-clause-sum
returns-in-None-clause-sum c = no_terms (sum_of c.args.radix c.args.text.now) c.in-None.ensures.sum

pub returns-in-Some-clause-sum : goal.returns-in-Some-clause-sum
returns-in-Some-clause-sum c = kept_terms c.args.radix c.args.text.now c.in-Some.kept c.constant_of.result c.in-Some.ensures.sum c.constant_of.ensures.constant
