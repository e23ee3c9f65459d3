use Rattle.std.proofs.Common.{◌≤◌, List, length, take, sym, ap, subst, ◌∙◌}
use Rattle.std.proofs.lemmas.Bool.{and_from}
use Rattle.std.proofs.lemmas.List.{take_all}
use Rattle.std.proofs.lemmas.List.Folds.{list_all_more}
use Rattle.cps_final.specs.Outcome.{Outcome}
use Rattle.cps_live.specs.Code.NamesRead.{HasRead, has_all}
use Rattle.cps_live.specs.declared.names_read.NamesRead.{NamesRead}
use Rattle.cps_live.proofs.NamesReadLemmas.{read-still}
use Rattle.cps_live.proofs.names_read.NamesRead.add_all.Goals as goal

pub loop-outcome-preserved : goal.loop-outcome-preserved
loop-outcome-preserved c =
    let was : NamesRead = c.loop-outcome.self in
    let now : NamesRead = c.add.new.self in
    let outcomes : List Outcome = c.args.outcomes.now in
    let so_far = take c.loop-outcome.outcome-index outcomes in
    let here = ap (λ (o : Outcome). has_all now o.read) (sym c.outcome-item.is) ∙ ap (has_all now) (sym c.names_read.ensures) ∙ c.in_ok-add.ensures.added in
    record {
      still = λ name there. c.add.ensures.still name (c.loop-outcome.invariant.still name there);
      read = list_all_more (λ (o : Outcome). has_all now o.read) outcomes c.loop-outcome.outcome-index c.outcome-item.result c.loop-outcome-test.true
          ∙ and_from _ _ (read-still was now c.add.ensures.still so_far c.loop-outcome.invariant.read) here;
    }

pub returns-in_err-add-clause-still : goal.returns-in_err-add-clause-still
returns-in_err-add-clause-still c = λ name there. c.add.ensures.still name (c.loop-outcome.invariant.still name there)

pub returns-clause-read : goal.returns-clause-read
returns-clause-read c =
    let past : length c.args.outcomes.now ≤ c.loop-outcome.outcome-index = c.loop-outcome-test.false in
    subst (λ (os : List Outcome). HasRead c.loop-outcome.self os) (take_all c.loop-outcome.outcome-index c.args.outcomes.now past) c.loop-outcome.invariant.read
