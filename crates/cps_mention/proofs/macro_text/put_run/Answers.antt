use Rattle.std.proofs.Common.{◌≡◌, ◌++◌, OnOk, sym, subst, ◌∙◌}
use Rattle.cps_mention.specs.Code.MacroNames.{lists_of}
use Rattle.cps_mention.proofs.CallLineLemmas.{name-put}
use Rattle.cps_mention.proofs.macro_text.put_run.Goals as goal

pub returns-in-Some : goal.returns-in-Some
returns-in-Some c = λ fits.
    let put = name-put c.args.names.now (lists_of c.args.arguments.now) c.args.line c.args.run.before c.args.run.text.now c.in-Some.at c.behind-columns.result c.get.result
    (sym c.place_of_run.ensures ∙ c.in-Some.is) (c.behind-columns.ensures fits) c.get.ensures in
    subst (λ t. OnOk c.put_name.result (c.put_name.new.origins.items ≡ c.args.origins.now.items ++ t)) put c.put_name.ensures
