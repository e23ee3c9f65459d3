use Rattle.std.proofs.Common.{sym, ap, ◌∙◌, ◌∷◌}
use Rattle.cps_text.specs.Code.OperandsLeft.{operands_left}
use Rattle.cps_expr.specs.Expression.{expression_of}
use Rattle.cps_expr.specs.OperandList.{paired, at_most_one}
use Rattle.cps_expr.specs.Row.{comparison_of}
use Rattle.cps_expr.proofs.condition.read_comparison.Goals as goal

pub returns : goal.returns
unfolding comparison_of
returns c =
    let texts = sym c.operands-operands.ensures.list ∙ c.in-Some.ensures.steps ∙ ap (λ more. c.in-Some.left.now ∷ more) c.in-Some-next.ensures.steps in
    let left = expression_of c.args.radix c.in-Some.left.now in
    let right = expression_of c.args.radix c.in-Some-next.right.now in
    let lines = at_most_one (expression_of c.args.radix) (operands_left c.next-2.new.self) in
    rw texts (c.comparison.ensures (paired (paired left right) lines) (c.paired.ensures (paired left right) lines c.read_sides.ensures c.read_last.ensures))
