use Rattle.std.proofs.Common.{ap, ◌∙◌, reverse}
use Rattle.std.proofs.lemmas.List.{reverse-reverse}
use Rattle.cps_state.specs.Keys.{overwritten}
use Rattle.cps_state.specs.Code.Scratch.{Scratch}
use Rattle.cps_state.proofs.scratch.Scratch.put_into.Goals as goal

pub returns-clause-state : goal.returns-clause-state
returns-clause-state c = c.put_all.ensures.answer ∙ ap (overwritten _) (ap reverse c.reverse.ensures.items ∙ reverse-reverse _ ∙ ap (λ (scratch : Scratch). scratch.line.puts) c.self.view_is)
