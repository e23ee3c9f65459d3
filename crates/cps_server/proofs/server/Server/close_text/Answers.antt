use Rattle.std.proofs.Common.{rules, ◌≡◌, Some, sym, ap, ◌∙◌}
use Rattle.std.proofs.lemmas.Result.{on_ok_weaker}
use Rattle.std.specs.Prelude.{option_map}
use Rattle.cps_server.specs.Code.Opened.{value_of}
use Rattle.cps_server.specs.ServerState.{ServerState, open_under}
use Rattle.cps_server.proofs.ServerLemmas.{closes}
use Rattle.cps_server.proofs.server.Server.close_text.Goals as goal

pub returns : goal.returns
returns c =
    let uri = c.args.uri.now in
    let there : open_under uri c.args.self.now.texts ≡ Some (value_of c.in-Some.open) =
    ap (λ (s : ServerState). open_under uri s.texts) (sym c.self.view_is) ∙ sym c.take.ensures.open ∙ ap (option_map value_of) c.in-Some.is in
    on_ok_weaker c.say_closed.result (closes c.args.self.now _ uri (value_of c.in-Some.open) _ _ there (search rules)) c.say_closed.ensures
