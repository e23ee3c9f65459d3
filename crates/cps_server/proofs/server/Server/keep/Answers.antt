use Rattle.std.proofs.Common.{List, [], ◌∷◌, ◌++◌, subst, ap, ◌∙◌}
use Rattle.std.proofs.lemmas.Result.{on_ok_weaker}
use Rattle.cps_rpc.specs.Frame.{frame_of}
use Rattle.cps_server.specs.Notices.{listener}
use Rattle.cps_server.specs.ServerState.{OpenText, ServerState, with_text}
use Rattle.cps_server.specs.Code.Writing.{ListsText, published_text}
use Rattle.cps_server.proofs.ServerLemmas.{takes}
use Rattle.cps_server.proofs.server.Server.keep.Goals as goal

pub returns : goal.returns
returns c =
    let uri = c.args.told.uri.now in
    let version = c.args.told.version in
    let list = c.in_ok-list.list.items in
    let said = c.args.said.now.items in
    let one : OpenText = record { uri = uri; version = version; text = c.args.document } in
    let inside = c.self.inside in
    let lists = subst (λ (s : ServerState). ListsText (listener s uri) c.args.document list) c.self.view_is c.in_ok-list.ensures in
    let added = c.in_ok-say_list.ensures ∙ ap (λ list. said ++ frame_of (published_text uri version list)) c.deref.ensures.value in
    let left = ap (λ (texts : List OpenText). record { phase = inside.phase; has_exited = inside.has_exited; encoding = inside.encoding; client = inside.client; texts = texts ++ one ∷ [] }) c.take.ensures.left in
    on_ok_weaker c.push.result
    (λ pushed. takes c.args.self.now _ uri version c.args.document list said c.say_list.new.said.items lists added
    (ap (λ (texts : List OpenText). record { phase = inside.phase; has_exited = inside.has_exited; encoding = inside.encoding; client = inside.client; texts = texts }) pushed ∙ left
    ∙ ap (λ (s : ServerState). record s { texts = with_text one s.texts }) c.self.view_is)) c.push.ensures
