use Rattle.std.proofs.Common.{◌≤◌, length, take, sym, ap, ◌∙◌}
use Rattle.std.proofs.lemmas.Bool.{and_from}
use Rattle.std.proofs.lemmas.List.{take_all}
use Rattle.std.proofs.lemmas.List.Folds.{list_all_more}
use Rattle.cps_live.specs.Code.NamesRead.{has_all, has_name}
use Rattle.cps_live.specs.declared.names_read.NamesRead.{NamesRead}
use Rattle.cps_live.proofs.NamesReadLemmas.{all-still, has-inserted, still-inserted, still-unchanged}
use Rattle.cps_live.proofs.names_read.NamesRead.add.Goals as goal

pub loop-name-preserved : goal.loop-name-preserved
loop-name-preserved c =
    let was : NamesRead = c.loop-name.self in
    let now : NamesRead = record { names = c.insert.new.self } in
    let so_far = take c.loop-name.name-index c.args.names.now in
    let still = still-inserted was now _ c.in_ok-insert.ensures.keys in
    record {
      still = λ name there. still name (c.loop-name.invariant.still name there);
      added = list_all_more (has_name now) c.args.names.now c.loop-name.name-index _ c.loop-name-test.true
          ∙ and_from (has_all now so_far) _ (all-still was now still so_far c.loop-name.invariant.added) (has-inserted was now _ c.in_ok-insert.ensures.keys);
    }

pub returns-in_err-insert-clause-still : goal.returns-in_err-insert-clause-still
returns-in_err-insert-clause-still c = λ name there.
    still-unchanged c.loop-name.self (record { names = c.insert.new.self }) c.in_err-insert.ensures.err name (c.loop-name.invariant.still name there)

pub returns-clause-added : goal.returns-clause-added
returns-clause-added c =
    let past : length c.args.names.now ≤ c.loop-name.name-index = c.loop-name-test.false in
    ap (has_all c.loop-name.self) (sym (take_all c.loop-name.name-index c.args.names.now past)) ∙ c.loop-name.invariant.added
