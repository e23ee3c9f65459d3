use Rattle.std.proofs.Common.{rules, refl}
use Rattle.std.proofs.lemmas.Result.{on_ok_weaker}
use Rattle.cps_server.proofs.ServerLemmas.{answers-no-json}
use Rattle.cps_server.proofs.server.ServerService.answer.Goals as goal

pub returns-in-Err-NoJson : goal.returns-in-Err-NoJson
returns-in-Err-NoJson c = on_ok_weaker c.push_rejection.result (λ added. answers-no-json c.args.self.now c.args.self.now c.args.message.now _ _ (search rules) added refl) c.push_rejection.ensures
