use Rattle.std.proofs.Common.{◌+◌, ◌∷◌, sym, ap, ◌∙◌, take}
use Rattle.std.specs.List.{slice_split}
use Rattle.std.proofs.lemmas.List.{take_rest}
use Rattle.cps_compare.specs.Code.Runs.{ends_run}
use Rattle.cps_compare.proofs.CutLemmas.{split-Some, split-None}
use Rattle.cps_compare.proofs.compared_word.first_run.Goals as goal

pub returns-in-Some-clause-runs : goal.returns-in-Some-clause-runs
returns-in-Some-clause-runs c =
    let text = c.args.words.now in
    let at = c.in-Some.at in
    split-Some ends_run text at c.in-Some.ensures.place ∙ ap (λ rest. take at text ∷ slice_split ends_run rest) (sym (take_rest text (at + 1)))

pub returns-in-None-clause-runs : goal.returns-in-None-clause-runs
returns-in-None-clause-runs c = split-None ends_run c.args.words.now c.in-None.ensures.place
