use Rattle.std.proofs.Common.{rules, ◌<◌, ◌++◌, length, sym, ap, ◌∙◌, append_assoc}
use Rattle.std.specs.List.{flat_map}
use Rattle.cps_text.specs.Insertion.{is_of_run, replaced}
use Rattle.cps_text.specs.Runs.{runs}
use Rattle.cps_text.proofs.RunLemmas.{runs-next}
use Rattle.cps_text.proofs.insertion.replace_runs.Goals as goal

pub loop-rest-preserved : goal.loop-rest-preserved
loop-rest-preserved g c =
    let f = replaced (g.S.Substitution.pairs c.args.substitution.now) in
    let before = c.loop-rest.text.items in
    let run = c.split_at.result.0.now in
    let behind = c.split_at.result.1.now in
    let some : 0 < length c.loop-rest.rest.now = search rules in
    let next = runs-next is_of_run c.loop-rest.rest.now run behind c.run_len.result some c.run_len.ensures.len c.split_at.ensures.front c.split_at.ensures.back in
    ap (λ t. t ++ flat_map f (runs is_of_run behind)) c.in_ok-push_replaced.ensures
    ∙ append_assoc before (f run) (flat_map f (runs is_of_run behind))
    ∙ ap (λ r. before ++ flat_map f r) (sym next)
    ∙ c.loop-rest.invariant
