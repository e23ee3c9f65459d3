use Rattle.std.proofs.Common.{Some, refl, sym}
use Rattle.cps_state.specs.contracts.state.StateLookup.TheImpl.{answer-value as state-answer}
use Rattle.cps_final.specs.contracts.finals.FinalsGathered.TheImpl.{gathered-value}
use Rattle.cps_final.specs.Finals.{Finals}
use Rattle.cps_final.specs.Code.Storage.{stored}
use Rattle.cps_final.proofs.PatchLemmas.{other-storage, same-storage}
use Rattle.cps_final.proofs.finals.Finals.exchange.Goals as goal

pub returns-in-Some-clause-now : goal.returns-in-Some-clause-now
returns-in-Some-clause-now c =
    other-storage (gathered-value.it c.args.self.now) c.args.patch.now.storage c.swap.new.x _ _ _ c.in-Some.is c.swap.ensures.x_after c.exchange.ensures.state

pub returns-in-Some-clause-back : goal.returns-in-Some-clause-back
returns-in-Some-clause-back c =
    sym (other-storage (gathered-value.it c.args.self.now) (Some c.swap.new.y) c.args.self.now.storage c.swap.new.y _ _ refl (sym c.swap.ensures.y_after) (sym c.exchange.ensures.back))

pub returns-in_default-clause-now : goal.returns-in_default-clause-now
returns-in_default-clause-now c = same-storage (gathered-value.it c.args.self.now) c.args.patch.now.storage _ _ c.in_default.is c.exchange.ensures.state

pub returns-in_default-clause-back : goal.returns-in_default-clause-back
returns-in_default-clause-back c =
    let now : Finals = record (stored c.args.self.now.storage) { state = state-answer.it c.exchange.new.state } in
    sym (same-storage now c.args.patch.now.storage _ _ c.in_default.is (sym c.exchange.ensures.back))
