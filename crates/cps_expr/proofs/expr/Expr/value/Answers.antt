use Rattle.std.proofs.Common.{◌≡◌, sym, ap, ◌∙◌}
use Rattle.cps_expr.specs.Value.{value_in, has_undefined}
use Rattle.cps_expr.proofs.ValueAlone.{value-alone, undefined-alone}
use Rattle.cps_expr.proofs.expr.Expr.value.Goals as goal

pub returns-clause-names_alone : goal.returns-clause-names_alone
returns-clause-names_alone g c = λ others agree.
    let values = g.N.Names.value c.args.names.now in
    let is_value : c.value.result.value ≡ value_in values c.args.here c.args.self.now =
    c.value.ensures.value ∙ ap (value_in values c.args.here) c.self.view_is in
    let is_undefined : c.value.result.undefined ≡ has_undefined values c.args.self.now =
    c.value.ensures.undefined ∙ ap (has_undefined values) c.self.view_is in
    (value-alone others values c.args.here c.args.self.now agree ∙ sym is_value, undefined-alone others values c.args.self.now agree ∙ sym is_undefined)
