use Rattle.std.proofs.Common.{[], ◌∷◌}
use Rattle.std.proofs.lemmas.Result.{on_ok_weaker}
use Rattle.cps_server.proofs.KeepingLemmas.{AreKept-stale}
use Rattle.cps_server.proofs.marked_document.renew_if_resting.Goals as goal

pub renew-requires : goal.renew-requires
renew-requires c = c.requires.right.count

pub returns : goal.returns
returns c =
    on_ok_weaker c.renew.result
    (λ renewed. renewed [] (AreKept-stale c.args.document.now (c.args.place ∷ []) c.args.kept.now.items c.requires.right))
    c.renew.ensures
