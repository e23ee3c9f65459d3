use Rattle.std.proofs.Common.{◌≡◌, false, get_or, sym, ◌∙◌}
use Rattle.cps_expr.specs.Term.{is_operator}
use Rattle.cps_expr.proofs.TokenLemmas.{run-first}
use Rattle.cps_expr.proofs.term_text.token_len.Goals as goal

pub returns-else-is_operator-clause-tokens : goal.returns-else-is_operator-clause-tokens
returns-else-is_operator-clause-tokens c =
    let e = c.operator_at.ensures in
    let first : is_operator (get_or c.args.text.now 0 0) ≡ false = sym c.is_operator.ensures ∙ c.if-is_operator.false in
    run-first c.operator_at.result c.args.text.now c.requires first e.within e.before e.found
