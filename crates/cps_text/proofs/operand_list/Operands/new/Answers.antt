use Rattle.std.proofs.Common.{arith}
use Rattle.cps_text.specs.Operands.{operand_len}
use Rattle.cps_text.proofs.PartLemmas.{few_parts, parts-front}
use Rattle.cps_text.proofs.operand_list.Operands.new.Goals as goal

pub returns-else-begins_blank-clause-few : goal.returns-else-begins_blank-clause-few
returns-else-begins_blank-clause-few c = few_parts operand_len c.args.tail.now

pub returns-else-begins_blank-clause-fits : goal.returns-else-begins_blank-clause-fits
returns-else-begins_blank-clause-fits c =
    let few = few_parts operand_len c.args.tail.now in
    omega (arith, few)

pub returns-else-begins_blank-clause-front : goal.returns-else-begins_blank-clause-front
returns-else-begins_blank-clause-front c = parts-front operand_len c.args.tail.now
