use Rattle.std.proofs.Common.{refl, ◌∙◌}
use Rattle.std.specs.Prelude.{nat_eq}
use Rattle.indexmap.specs.IndexSet.{insert_all}
use Rattle.cps_final.specs.Code.Storage.{stored}
use Rattle.cps_final.proofs.GatherLemmas.{on_err, same-finals}
use Rattle.cps_final.proofs.JoinLemmas.{stored-joined}
use Rattle.cps_final.proofs.storage.Storage.join.Goals as goal

pub returns-in_err-join-clause-err : goal.returns-in_err-join-clause-err
returns-in_err-join-clause-err c = on_err c.from_residual-in_err-join.result (same-finals _ _ refl c.in_err-join.ensures.err c.reserve.ensures.keys refl)

pub returns-clause-ok : goal.returns-clause-ok
returns-clause-ok c before behind was more =
    stored-joined (stored c.args.self.now) (stored c.args.other.now) _ c.in_ok-join.ensures.ok
    (c.insert_literals.ensures ∙ (λ i. insert_all nat_eq (c.reserve.ensures.keys i) (c.pool-literals.ensures i)))
    c.or-self.ensures refl before behind was more
