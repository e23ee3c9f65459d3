use Rattle.serde_json.specs.View.{view}
use Rattle.cps_server.specs.Code.Owing.{value_of}
use Rattle.cps_server.proofs.HintLemmas.{if-ok-as}
use Rattle.cps_server.proofs.RenameLemmas.{renaming-no-float}
use Rattle.cps_server.proofs.server.Server.owed_to.Goals as goal

pub returns-in-Running-Rename-clause-floats : goal.returns-in-Running-Rename-clause-floats
returns-in-Running-Rename-clause-floats c =
    if-ok-as c.owed_to_renaming.result (λ owed is. renaming-no-float (view c.args.params.now) c.args.self.now (value_of owed) is) c.owed_to_renaming.ensures
