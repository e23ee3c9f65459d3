use Rattle.std.proofs.Common.{rules}
use Rattle.cps_expr.proofs.UndefinedLemmas.{in_terms}
use Rattle.cps_expr.proofs.terms.value_of_terms.Goals as goal

pub loop-term-init : goal.loop-term-init
loop-term-init g c = record { value = search rules; undefined = in_terms (g.N.Names.value c.args.names.now) c.args.terms.now; range = search rules }
