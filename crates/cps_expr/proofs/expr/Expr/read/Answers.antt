use Rattle.std.proofs.Common.{◌≡◌, Some}
use Rattle.cps_expr.specs.Expression.{Expression, terms_of, signed_texts}
use Rattle.cps_expr.specs.Grammar.{Writes}
use Rattle.cps_expr.proofs.GrammarComplete.{only, outside}
use Rattle.cps_expr.proofs.GrammarSound.{sound, ok-along}
use Rattle.cps_expr.proofs.expr.Expr.read.Goals as goal

pub returns-clause-grammar : goal.returns-clause-grammar
returns-clause-grammar c =
    let radix = c.args.radix in
    let text = c.args.text.now in
    ok-along (λ (e : Expression). terms_of radix (signed_texts text) ≡ Some e) (λ (e : Expression). Writes radix text e) c.read_terms.result (sound radix text) c.read_terms.ensures.expression

pub returns-clause-outside : goal.returns-clause-outside
returns-clause-outside c = λ is. outside c.args.radix c.args.text.now (c.read_terms.ensures.unreadable.0 is)

pub returns-clause-only : goal.returns-clause-only
returns-clause-only c =
    let radix = c.args.radix in
    let text = c.args.text.now in
    ok-along (λ (e : Expression). terms_of radix (signed_texts text) ≡ Some e) (λ (e : Expression). (other : Expression) → Writes radix text other → other ≡ e) c.read_terms.result (only radix text) c.read_terms.ensures.expression
