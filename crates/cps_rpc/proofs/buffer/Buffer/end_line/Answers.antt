use Rattle.std.proofs.Common.{[], ◌∷◌, ◌++◌, ap, ◌∙◌}
use Rattle.cps_input.specs.Lines.{newline}
use Rattle.cps_rpc.proofs.LineLemmas.{text-ended}
use Rattle.cps_rpc.proofs.buffer.Buffer.end_line.Goals as goal

pub returns : goal.returns
returns c =
    text-ended c.self.inside.lines.items _ c.new.result c.self.invariant c.new.ensures.items c.in_ok-push.ensures.items
    ∙ ap (λ t. t ++ newline ∷ []) c.self.view_is
