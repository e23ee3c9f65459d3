use Rattle.std.proofs.Common.{◌∙◌, ap}
use Rattle.std.proofs.lemmas.Result.{on_ok_weaker}
use Rattle.indexmap.specs.IndexSet.{insert_all}
use Rattle.cps_expr.specs.Value.{same_name}
use Rattle.cps_final.proofs.NamesLemmas.{labels-made}
use Rattle.cps_final.proofs.named_finals.insert_labels_read.Goals as goal

pub returns : goal.returns
returns c =
    let same = labels-made c.args.made.now c.held.result.now c.contents.result.now c.held.ensures.held c.contents.ensures.contents in
    on_ok_weaker c.insert_contents_labels.result (λ is. is ∙ ap (insert_all same_name c.args.found.now.keys) same) c.insert_contents_labels.ensures
