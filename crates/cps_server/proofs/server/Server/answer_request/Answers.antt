use Rattle.std.proofs.Common.{ap, subst, ◌∙◌}
use Rattle.std.proofs.lemmas.Result.{on_ok_weaker}
use Rattle.serde_json.specs.View.{view}
use Rattle.cps_server.specs.Code.Owing.{value_of}
use Rattle.cps_server.specs.Requests.{Owes, after_request}
use Rattle.cps_server.proofs.ServerLemmas.{hears-request}
use Rattle.cps_server.proofs.server.Server.answer_request.Goals as goal

pub returns : goal.returns
returns c =
    let params = view c.args.params.now in
    let old = c.args.self.now in
    let owed = value_of c.in_ok-owed.owed in
    let owes = subst (λ request. Owes request params old owed) c.named-request.ensures c.in_ok-owed.ensures.owed in
    let moved = c.move_by.ensures ∙ ap (λ request. after_request request params old) c.named-request.ensures in
    on_ok_weaker c.push_answer.result
    (λ added. hears-request old c.move_by.new.self (view c.args.id.now) params c.args.method.now c.args.said.now.items c.push_answer.new.said.items owed owes added moved)
    c.push_answer.ensures
