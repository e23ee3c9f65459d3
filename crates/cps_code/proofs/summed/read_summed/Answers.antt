use Rattle.std.proofs.Common.{rules}
use Rattle.cps_code.specs.RowForms.{only_sum}
use Rattle.cps_code.proofs.SummedLemmas.{kept_literal}
use Rattle.cps_code.proofs.summed.read_summed.Goals as goal

pub returns-in-Some-clause-sum : goal.returns-in-Some-clause-sum
returns-in-Some-clause-sum c = kept_literal (only_sum c.args.radix c.args.tail.now) c.in-Some.word (search rules)
