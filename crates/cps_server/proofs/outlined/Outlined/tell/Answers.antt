use Rattle.std.proofs.Common.{◌∙◌}
use Rattle.cps_server.specs.Outline.{outlined}
use Rattle.cps_server.proofs.HintLemmas.{if-ok-as}
use Rattle.cps_server.proofs.outlined.Outlined.tell.Goals as goal

pub returns : goal.returns
returns c =
    let whole = c.forward-whole.result in
    let units = c.within-units.result in
    let inside = c.within-units.ensures in
    if-ok-as c.tell_ranges.result
    (λ json is. record {
      start = whole.start;
      first = units.start;
      last = units.end;
      end = whole.end;
      behind = inside.starts;
      forward = inside.forward;
      within = inside.ends;
      is = is ∙ (λ i. outlined c.args.self.kind c.args.self.detail.now c.args.name.now (c.in_ok-range.ensures i) (c.in_ok-selection.ensures i));
    }) c.tell_ranges.ensures
