use Rattle.std.proofs.Common.{subst}
use Rattle.serde_json.specs.View.{view}
use Rattle.cps_server.specs.Code.Owing.{value_of}
use Rattle.cps_server.specs.Code.Renaming.{open_of, wish_of}
use Rattle.cps_server.specs.Renames.{TellsRename, wish_in}
use Rattle.cps_server.specs.Requests.{IsOwed, open_in}
use Rattle.cps_server.proofs.HintLemmas.{if-ok-as}
use Rattle.cps_server.proofs.RenameLemmas.{asks}
use Rattle.cps_server.proofs.server.Server.owed_to_renaming.Goals as goal

pub returns : goal.returns
returns c =
    let params = view c.args.params.now in
    let server = c.args.self.now in
    let deck = c.in-Some.deck in
    let wish = wish_of c.in-Some-of.wish in
    if-ok-as c.owed_rename.result
    (λ owed is. asks (open_in params server) (wish_in params) (λ one wish json. TellsRename server.encoding server.client one wish json) (open_of deck) wish
    (value_of owed) c.in-Some.ensures.deck c.in-Some-of.ensures
    (subst (λ client. IsOwed (TellsRename server.encoding client (open_of deck) wish) (value_of owed)) c.in-Some.ensures.client
    (subst (λ encoding. IsOwed (TellsRename encoding deck.client (open_of deck) wish) (value_of owed)) c.in-Some.ensures.encoding is)))
    c.owed_rename.ensures
