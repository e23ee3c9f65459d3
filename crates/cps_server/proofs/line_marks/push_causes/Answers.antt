use Rattle.std.proofs.Common.{List, [], ◌∷◌, ◌++◌, map, take, sym, ap, subst, ◌∙◌}
use Rattle.std.proofs.lemmas.List.{map_more, take_all}
use Rattle.cps_cause.specs.declared.diagnostic.Diagnostic.{Diagnostic}
use Rattle.cps_server.specs.Code.Keeping.{Shown, Shows, flag_shown}
use Rattle.cps_server.proofs.ShownLemmas.{Shows-append, Shows-none}
use Rattle.cps_server.proofs.line_marks.push_causes.Goals as goal

pub loop-diagnostic-init : goal.loop-diagnostic-init
loop-diagnostic-init c = Shows-none c.args.marks.now.items

pub loop-diagnostic-preserved : goal.loop-diagnostic-preserved
loop-diagnostic-preserved c =
    let told = c.args.told.now in
    let at = c.loop-diagnostic.diagnostic-index in
    let d = c.diagnostic-item.result in
    subst (λ (marks : List Shown). Shows marks c.args.marks.now.items c.push_cause.new.marks.items)
    (sym (map_more flag_shown told at d c.loop-diagnostic-test.true
    ∙ ap (λ (x : Diagnostic). map flag_shown (take at told) ++ flag_shown x ∷ []) (sym c.diagnostic-item.is)))
    (Shows-append (map flag_shown (take at told)) (flag_shown d ∷ []) c.args.marks.now.items c.loop-diagnostic.marks.items c.push_cause.new.marks.items
    c.loop-diagnostic.invariant c.in_ok-push_cause.ensures)

pub returns : goal.returns
returns c =
    subst (λ (ds : List Diagnostic). Shows (map flag_shown ds) c.args.marks.now.items c.loop-diagnostic.marks.items)
    (take_all c.loop-diagnostic.diagnostic-index c.args.told.now c.loop-diagnostic-test.false) c.loop-diagnostic.invariant
