use Rattle.std.proofs.Common.{◌≡◌, ◌∙◌, ap, rules}
use Rattle.std.proofs.lemmas.List.Elements.{All-map}
use Rattle.cps_server.specs.Code.Renaming.{edit_of, edits_of}
use Rattle.cps_server.specs.Formats.{IsInRange}
use Rattle.cps_server.specs.Renames.{edits_json}
use Rattle.cps_server.proofs.HintLemmas.{if-ok-as}
use Rattle.cps_server.proofs.formatting.format_range.Goals as goal

pub returns : goal.returns
returns c =
    let kept = c.in_ok-kept.kept.items in
    let formats = c.in_ok-kept.ensures in
    let same : c.deref-3.result.now ≡ kept = search rules in
    if-ok-as c.list_edits.result
    (λ json is.
    (edits_of kept, formats.alone, All-map (IsInRange c.args.range) edit_of kept formats.within, is ∙ ap (λ edits. edits_json (edits_of edits)) same))
    c.list_edits.ensures
