use Rattle.std.proofs.Common.{refl, sym, subst}
use Rattle.std.specs.Prelude.{OnOk}
use Rattle.std.proofs.lemmas.Result.{on_ok_weaker}
use Rattle.serde_json.specs.View.{view}
use Rattle.cps_rpc.specs.declared.message.Message.{Message}
use Rattle.cps_rpc.specs.Message.{value_of}
use Rattle.cps_server.specs.Answers.{Hears}
use Rattle.cps_server.specs.Code.Said.{Adds}
use Rattle.cps_server.proofs.ServerLemmas.{hears-invalid}
use Rattle.cps_server.proofs.server.Server.hear_message.Goals as goal

pub returns-in-Invalid : goal.returns-in-Invalid
returns-in-Invalid c =
    let old = c.args.self.now in
    let params = view c.args.params.now in
    let said = c.args.said.now.items in
    let now = c.push_rejection.new.said.items in
    subst (λ (message : Message). OnOk c.push_rejection.result (Adds (λ news. Hears (value_of message) params old news old) said now)) (sym c.in-Invalid.is)
    (on_ok_weaker c.push_rejection.result (λ added. hears-invalid old old params said now added refl) c.push_rejection.ensures)
