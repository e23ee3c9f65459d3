use Rattle.std.proofs.Common.{ℕ, ap}
use Rattle.std.proofs.lemmas.Result.{on_ok_weaker}
use Rattle.cps_server.specs.declared.diagnostic.Stretch.{Stretch}
use Rattle.cps_server.proofs.WritingLemmas.{idle-added}
use Rattle.cps_server.proofs.diagnostics.push_idle.Goals as goal

pub returns : goal.returns
returns c =
    let upto : ℕ → Stretch = λ n. record { line = c.args.lines.first; start = 0; last = c.args.lines.last; end = n } in
    on_ok_weaker c.push_unnecessary.result
    (idle-added c.args.deck c.args.lines c.line_of-line.result.now c.words.result.now c.filled_len.result (upto c.units_before.result) c.args.list.now.items
    c.push_unnecessary.new.text.items c.requires.takes c.requires.within c.line_of-line.ensures (ap upto c.units_before.ensures)) c.push_unnecessary.ensures
