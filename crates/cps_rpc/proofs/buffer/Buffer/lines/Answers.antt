use Rattle.std.proofs.Common.{sym, ap, ◌∙◌}
use Rattle.cps_rpc.proofs.LineLemmas.{texts, text_lines-kept}
use Rattle.cps_rpc.proofs.buffer.Buffer.lines.Goals as goal

pub returns : goal.returns
returns c = ap texts c.deref.ensures.value ∙ sym (text_lines-kept c.self.inside.lines.items _ c.self.view_is c.self.invariant)
