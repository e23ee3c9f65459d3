use Rattle.std.proofs.Common.{List, [], ◌∷◌, ◌++◌, map, take, sym, ap, subst, ◌∙◌}
use Rattle.std.proofs.lemmas.List.{map_more, take_all}
use Rattle.cps_cause.specs.declared.diagnostic.Diagnostic.{Diagnostic}
use Rattle.cps_check.specs.Code.Adding.{Adds}
use Rattle.cps_check.specs.Reports.{Report, flag_report}
use Rattle.cps_check.proofs.TextLemmas.{Adds-append, Adds-none}
use Rattle.cps_check.proofs.told_line.ToldLine.push_flags.Goals as goal

pub loop-diagnostic-init : goal.loop-diagnostic-init
loop-diagnostic-init g c = Adds-none c.args.self.now.name.now c.args.text.now.items

pub loop-diagnostic-preserved : goal.loop-diagnostic-preserved
loop-diagnostic-preserved g c =
    let name = c.args.self.now.name.now in
    let report = flag_report c.args.self.now.number c.args.self.now.line.now in
    let told = c.args.told.now in
    let at = c.loop-diagnostic.diagnostic-index in
    let d = c.diagnostic-item.result in
    subst (λ (reports : List Report). Adds name reports c.args.text.now.items c.push_flag.new.text.items)
    (sym (map_more report told at d c.loop-diagnostic-test.true
    ∙ ap (λ (x : Diagnostic). map report (take at told) ++ report x ∷ []) (sym c.diagnostic-item.is)))
    (Adds-append name (map report (take at told)) (report d ∷ []) c.args.text.now.items c.loop-diagnostic.text.items c.push_flag.new.text.items
    c.loop-diagnostic.invariant c.in_ok-push_flag.ensures)

pub returns : goal.returns
returns g c =
    let report = flag_report c.args.self.now.number c.args.self.now.line.now in
    subst (λ (ds : List Diagnostic). Adds c.args.self.now.name.now (map report ds) c.args.text.now.items c.loop-diagnostic.text.items)
    (take_all c.loop-diagnostic.diagnostic-index c.args.told.now c.loop-diagnostic-test.false) c.loop-diagnostic.invariant
