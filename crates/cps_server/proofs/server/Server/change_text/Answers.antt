use Rattle.std.proofs.Common.{◌≡◌, Some, map, sym, ap, ◌∙◌}
use Rattle.std.proofs.lemmas.Result.{on_ok_weaker}
use Rattle.cps_rpc.specs.Params.{value_of}
use Rattle.std.specs.Prelude.{option_map}
use Rattle.cps_server.specs.Code.Opened as opened
use Rattle.cps_server.specs.Notices.{changed_by}
use Rattle.cps_server.specs.ServerState.{ServerState, open_under, without}
use Rattle.cps_server.proofs.ServerLemmas.{changes}
use Rattle.cps_server.proofs.server.Server.change_text.Goals as goal

pub returns : goal.returns
returns c =
    let uri = c.args.told.uri.now in
    let inside = c.self.inside in
    let one = opened.value_of c.in-Some.open in
    let all = map value_of c.args.changes.now in
    let mid : ServerState = record { phase = inside.phase; has_exited = inside.has_exited; encoding = inside.encoding; client = inside.client; texts = c.take.new.self } in
    let there : open_under uri c.args.self.now.texts ≡ Some one =
    ap (λ (s : ServerState). open_under uri s.texts) (sym c.self.view_is) ∙ sym c.take.ensures.open ∙ ap (option_map opened.value_of) c.in-Some.is in
    let moved : mid ≡ record c.args.self.now { texts = without uri c.args.self.now.texts } =
    ap (λ texts. record mid { texts = texts }) c.take.ensures.left ∙ ap (λ (s : ServerState). record s { texts = without uri s.texts }) c.self.view_is in
    let made = c.in_ok-document.ensures ∙ ap (λ text. changed_by inside.encoding all text) c.into_document.ensures in
    on_ok_weaker c.keep.result (changes c.args.self.now mid c.keep.new.self uri c.args.told.version all one c.in_ok-document.document
    c.args.said.now.items c.keep.new.said.items there moved made) c.keep.ensures
