use Rattle.std.proofs.Common.{arith, rules, ◌≡◌, ◌<◌, true, length, ap, sym, ◌∙◌}
use Rattle.serde_json.specs.View.{view}
use Rattle.cps_server.specs.Document.{source_of_text}
use Rattle.cps_server.specs.Openers.{alone, closes}
use Rattle.cps_server.proofs.openers.opener_at.Goals as goal

pub returns : goal.returns
returns c =
    let yes : c.closes.result ≡ true = search rules in
    let count = c.count.ensures.count ∙ ap length c.session.ensures in
    record {
      closed = ap closes (sym c.in_ok-operation_at.ensures) ∙ sym c.closes.ensures ∙ yes;
      line = c.opener_of-opener.result;
      range = view c.in_ok-range.range;
      within = omega (arith, count);
      in_line = c.in_ok-range.ensures;
      is = c.in_ok-told.ensures ∙ ap alone c.in_ok-place.ensures;
    }
