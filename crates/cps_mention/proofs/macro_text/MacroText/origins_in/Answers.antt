use Rattle.std.proofs.Common.{sym, ◌∙◌}
use Rattle.std.proofs.lemmas.Result.{IfOk-weaker}
use Rattle.cps_mention.specs.CallLines.{ArePut}
use Rattle.cps_mention.specs.Code.MacroNames.{lists_of}
use Rattle.cps_mention.proofs.CallLineLemmas.{comment-put, runs-put}
use Rattle.cps_mention.proofs.macro_text.MacroText.origins_in.Goals as goal

pub returns-then-is_comment : goal.returns-then-is_comment
returns-then-is_comment c = λ short.
    IfOk-weaker c.columns_of.result _ (λ origins. ArePut c.args.self.now.names (lists_of c.args.arguments.now) c.args.line c.args.body.now origins.items)
    (λ origins is. comment-put c.args.self.now.names (lists_of c.args.arguments.now) c.args.line c.args.body.now origins.items (sym c.is_comment.ensures ∙ c.if-is_comment.true) is)
    (c.columns_of.ensures short)

pub returns-else-is_comment : goal.returns-else-is_comment
returns-else-is_comment c = λ short.
    IfOk-weaker c.put_runs.result _ (λ origins. ArePut c.args.self.now.names (lists_of c.args.arguments.now) c.args.line c.args.body.now origins.items)
    (λ origins is. runs-put c.args.self.now.names (lists_of c.args.arguments.now) c.args.line c.args.body.now origins.items (sym c.is_comment.ensures ∙ c.if-is_comment.false) is)
    (c.put_runs.ensures short)
