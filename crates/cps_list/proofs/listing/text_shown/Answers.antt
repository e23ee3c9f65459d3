use Rattle.std.proofs.Common.{rules, ◌≡◌, Bool, false, take, sym, ap, ◌∙◌}
use Rattle.std.specs.Prelude.{◌==◌, if◌then◌else◌}
use Rattle.std.proofs.lemmas.List.{take_min}
use Rattle.cps_list.proofs.listing.text_shown.Goals as goal

pub returns : goal.returns
returns c =
    let row = c.args.row.now in
    let text = c.as_slice-text.result.now in
    let is_deep : (row.depth == 0) ≡ false = search rules in
    let first : take c.min.result text ≡ take 90 text = ap (λ n. take n text) c.min.ensures ∙ take_min 90 text in
    first ∙ ap (take 90) c.as_slice-text.ensures ∙ sym (ap (λ (b : Bool). if b then c.args.line.now else take 90 row.text) is_deep)
