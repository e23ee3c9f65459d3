use Rattle.std.proofs.Common.{◌∙◌, map}
use Rattle.serde_json.specs.View.{view}
use Rattle.cps_server.specs.Outline.{section_json}
use Rattle.cps_server.proofs.HintLemmas.{if-ok-as}
use Rattle.cps_server.proofs.outline_tree.tell_section.Goals as goal

pub returns : goal.returns
returns c =
    let rows = map view c.args.rows.items in
    let name = c.of-2.result.now in
    if-ok-as c.section_of.result
    (λ json is. record {
      heading = c.args.section.heading;
      end = c.args.section.end;
      some = c.requires.some;
      within = c.requires.within;
      name = name;
      first = c.forward-units.result.start;
      last = c.forward-units.result.end;
      forward = c.forward-units.ensures;
      is = is ∙ (λ i. section_json name (c.in_ok-range.ensures i) (c.in_ok-selection.ensures i) rows);
    }) c.section_of.ensures
