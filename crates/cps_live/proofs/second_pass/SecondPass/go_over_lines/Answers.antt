use Rattle.std.proofs.Common.{◌≡◌, ◌++◌, [], List, length, refl, sym, ap, subst, ◌∙◌}
use Rattle.std.proofs.lemmas.Bool.{eqb-true}
use Rattle.std.proofs.lemmas.List.{nil_from_length}
use Rattle.cps_state.specs.Course.{Trace}
use Rattle.cps_edit.specs.Compares.{Steps}
use Rattle.cps_final.specs.Code.Ends.{was_of, now_of}
use Rattle.cps_chunk.specs.Replayed.{redone}
use Rattle.cps_live.proofs.CountLemmas.{steps-none}
use Rattle.cps_live.proofs.SecondPassLemmas.{on-ok, each-made, goes-none}
use Rattle.cps_live.proofs.second_pass.SecondPass.go_over_lines.Goals as goal

pub returns-then-is_empty-clause-over : goal.returns-then-is_empty-clause-over
returns-then-is_empty-clause-over c =
    let pass = c.args.self.now in
    let news = c.args.news.now in
    let empty : news ≡ [] = nil_from_length news (eqb-true (length news) 0 (sym c.is_empty.ensures ∙ c.if-is_empty.true)) in
    goes-none pass c.args.lines.from c.args.lines.to news (each-made pass c.args.lines.from c.args.lines.to news empty (c.requires.same c.if-lines.true))

pub returns-then-is_empty-clause-steps : goal.returns-then-is_empty-clause-steps
returns-then-is_empty-clause-steps c =
    let pass = c.args.self.now in
    let news = c.args.news.now in
    let empty : news ≡ [] = nil_from_length news (eqb-true (length news) 0 (sym c.is_empty.ensures ∙ c.if-is_empty.true)) in
    steps-none tt c.args.work.now _ (ap length (each-made pass c.args.lines.from c.args.lines.to news empty (c.requires.same c.if-lines.true)))

pub returns-clause-over : goal.returns-clause-over
returns-clause-over c =
    let pass = c.args.self.now in
    let remade = λ (us : List Trace). pass.redo.news.items ++ redone (was_of pass.redo.ends) (now_of pass.redo.ends) c.args.lines.from c.args.news.now us in
    on-ok c.go_over_all.result (λ made. record { made = made ∙ ap remade c.part-olds.ensures; ends = c.go_over_all.ensures.ends; base = refl; differences = refl }) c.go_over_all.ensures.news

pub returns-clause-steps : goal.returns-clause-steps
returns-clause-steps c =
    let pass = c.args.self.now in
    let counts = λ (us : List Trace). Steps c.go_over_all.result c.args.work.now c.go_over_all.new.work 0
    (length (redone (was_of pass.redo.ends) (now_of pass.redo.ends) c.args.lines.from c.args.news.now us)) in
    subst counts c.part-olds.ensures c.go_over_all.ensures.steps
