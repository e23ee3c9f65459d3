use Rattle.std.proofs.Common.{◌+◌, ◌∷◌, sym, ap, ◌∙◌, take}
use Rattle.std.specs.List.{slice_split}
use Rattle.std.proofs.lemmas.List.{take_rest}
use Rattle.cps_claims.specs.Rows.{is_newline}
use Rattle.cps_claims.proofs.CutLemmas.{split-Some, split-None}
use Rattle.cps_claims.proofs.reading.first_row.Goals as goal

pub returns-in-Some-clause-rows : goal.returns-in-Some-clause-rows
returns-in-Some-clause-rows c =
    let text = c.args.text.now in
    let at = c.in-Some.at in
    split-Some is_newline text at c.in-Some.ensures.place ∙ ap (λ rest. take at text ∷ slice_split is_newline rest) (sym (take_rest text (at + 1)))

pub returns-in-None-clause-rows : goal.returns-in-None-clause-rows
returns-in-None-clause-rows c = split-None is_newline c.args.text.now c.in-None.ensures.place
