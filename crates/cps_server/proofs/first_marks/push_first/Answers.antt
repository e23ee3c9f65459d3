use Rattle.std.proofs.Common.{List, [], ◌∷◌, ◌++◌, map, take, sym, ap, subst, ◌∙◌}
use Rattle.std.proofs.lemmas.List.{map_more, take_all}
use Rattle.cps_server.specs.declared.line_mark.LineMark.{LineMark}
use Rattle.cps_server.specs.Code.Adding.{Adds, mark_at}
use Rattle.cps_server.specs.Marks.{Mark}
use Rattle.cps_server.proofs.MarkLemmas.{Adds-append, Adds-none, Adds-one}
use Rattle.cps_server.proofs.first_marks.push_first.Goals as goal

pub loop-mark-init : goal.loop-mark-init
loop-mark-init c = Adds-none c.args.first.now.items

pub loop-mark-preserved : goal.loop-mark-preserved
loop-mark-preserved c =
    let mark = mark_at c.args.number in
    let marks = c.args.marks.now in
    let at = c.loop-mark.mark-index in
    let one = c.mark-item.result in
    subst (λ (places : List Mark). Adds places c.args.first.now.items c.push.new.self.items)
    (sym (map_more mark marks at one c.loop-mark-test.true ∙ ap (λ (x : LineMark). map mark (take at marks) ++ mark x ∷ []) (sym c.mark-item.is)))
    (Adds-append (map mark (take at marks)) (mark one ∷ []) c.args.first.now.items c.loop-mark.first.items c.push.new.self.items
    c.loop-mark.invariant (Adds-one _ (mark one) c.loop-mark.first.items c.push.new.self.items c.in_ok-push.ensures.items c.in_ok-mark_of.ensures))

pub returns : goal.returns
returns c =
    subst (λ (ms : List LineMark). Adds (map (mark_at c.args.number) ms) c.args.first.now.items c.loop-mark.first.items)
    (take_all c.loop-mark.mark-index c.args.marks.now c.loop-mark-test.false) c.loop-mark.invariant
