use Rattle.std.proofs.Common.{List, ℕ, [], ◌++◌, flat_map, sym, ap, ◌∙◌, append_assoc, append-nil}
use Rattle.std.specs.List.{slice_split}
use Rattle.std.specs.Option.{option_map_or}
use Rattle.std.proofs.lemmas.List.Concat.{flat_map-cons}
use Rattle.cps_compare.specs.declared.compared_word.ComparedWord.{ComparedWord}
use Rattle.cps_compare.specs.Runs.{run_rows}
use Rattle.cps_compare.specs.Code.Runs.{ends_run, addresses_in}
use Rattle.cps_compare.proofs.RunLemmas.{runs-same}
use Rattle.cps_compare.proofs.sides.Sides.tell_runs.Goals as goal

pub loop-rest-preserved : goal.loop-rest-preserved
loop-rest-preserved g c = λ found kept.
    let rows : List ComparedWord → List ℕ = λ run. run_rows found c.args.all (addresses_in run) in
    let text = c.loop-rest.telling.text.items in
    let run = c.first_run.result.0.now in
    let behind = option_map_or (λ rest. slice_split ends_run rest.now) c.first_run.result.1 [] in
    ap (λ l. l ++ flat_map rows behind) (c.in_ok-tell_run.ensures found kept) ∙ append_assoc text (rows run) (flat_map rows behind)
    ∙ ap (λ l. text ++ l) (sym (flat_map-cons rows run behind)) ∙ ap (λ runs. text ++ flat_map rows runs) (sym c.first_run.ensures.runs)
    ∙ ap (λ rest. text ++ flat_map rows (option_map_or (λ rest. slice_split ends_run rest.now) rest [])) (sym c.in-Some.is)
    ∙ c.loop-rest.invariant found kept

pub returns : goal.returns
returns g c = λ found among kept is.
    let all = c.args.all in
    let rows : List ComparedWord → List ℕ = λ run. run_rows found all (addresses_in run) in
    let text = c.loop-rest.telling.text.items in
    sym (append-nil text)
    ∙ ap (λ rest. text ++ flat_map rows (option_map_or (λ rest. slice_split ends_run rest.now) rest [])) (sym c.in_default.is)
    ∙ c.loop-rest.invariant found kept
    ∙ ap (λ l. c.args.telling.now.text.items ++ l) (runs-same found (run_rows found all) among c.args.words.now is)
