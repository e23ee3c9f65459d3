use Rattle.std.proofs.Common.{ap, ◌∙◌, drop}
use Rattle.cps_list.proofs.TextLemmas.{cut-behind}
use Rattle.cps_list.proofs.listing.cut_blanks.Goals as goal

pub returns : goal.returns
returns c = λ front row is at.
    let behind = c.split_at.ensures.back ∙ ap (drop c.args.before) c.deref.ensures.value in
    cut-behind c.args.text.now.items _ front row c.split_at.result.1.now c.args.before c.trimmed_length-kept.result is at behind c.trimmed_length-kept.ensures.length c.truncate.ensures.items
