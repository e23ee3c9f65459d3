use Rattle.std.proofs.Common.{sym, ap, ◌∙◌}
use Rattle.std.specs.Prelude.{option_map}
use Rattle.std.proofs.lemmas.Result.{on_ok_weaker}
use Rattle.serde_json.specs.View.{view}
use Rattle.cps_rpc.specs.Params.{opened_of}
use Rattle.cps_server.proofs.ServerLemmas.{opens}
use Rattle.cps_server.proofs.server.Server.open.Goals as goal

pub returns : goal.returns
returns c =
    let there = sym c.of.ensures ∙ ap (option_map opened_of) c.in-Some.is in
    on_ok_weaker c.keep.result
    (opens (view c.args.params.now) c.args.self.now c.keep.new.self (opened_of c.in-Some.opened) c.version_in.result c.in_ok-document.document
    c.args.said.now.items c.keep.new.said.items there c.version_in.ensures (c.in_ok-document.ensures ∙ c.as_bytes.ensures.value)) c.keep.ensures
