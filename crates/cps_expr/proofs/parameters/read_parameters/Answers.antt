use Rattle.std.proofs.Common.{Some, sym, ap, ◌∙◌}
use Rattle.cps_text.specs.Operands.{operands_of}
use Rattle.cps_expr.proofs.ParameterLemmas.{twice_unread, apart_read}
use Rattle.cps_expr.proofs.parameters.read_parameters.Goals as goal

pub returns-then-some_is_twice : goal.returns-then-some_is_twice
returns-then-some_is_twice c =
    twice_unread (operands_of c.args.tail.now) c.as_slice.result.now (c.in-Ok.ensures ∙ ap Some (sym c.as_slice.ensures))
    (sym c.some_is_twice.ensures ∙ c.if-some_is_twice.true)

pub returns-else-some_is_twice : goal.returns-else-some_is_twice
returns-else-some_is_twice c =
    apart_read (operands_of c.args.tail.now) c.as_slice.result.now (c.in-Ok.ensures ∙ ap Some (sym c.as_slice.ensures))
    (sym c.some_is_twice.ensures ∙ c.if-some_is_twice.false)
    ∙ ap Some c.as_slice.ensures
