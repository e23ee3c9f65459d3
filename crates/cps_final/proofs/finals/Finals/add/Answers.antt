use Rattle.std.proofs.Common.{refl, ◌∙◌}
use Rattle.std.specs.Prelude.{nat_eq}
use Rattle.std.specs.Option.{option_or}
use Rattle.indexmap.specs.IndexSet.{insert_all}
use Rattle.cps_final.specs.Finals.{first_program}
use Rattle.cps_final.specs.Code.Gathering.{grown_by}
use Rattle.cps_final.specs.Pool.{literals_among}
use Rattle.cps_final.proofs.GatherLemmas.{gathered-more, same-but-state, on_err}
use Rattle.cps_final.proofs.finals.Finals.add.Goals as goal

pub returns-in_err-literals-clause-err : goal.returns-in_err-literals-clause-err
returns-in_err-literals-clause-err c = on_err c.from_residual.result (same-but-state _ _ _ _ c.make_room.ensures.same refl)

pub returns-in_err-apply-clause-err : goal.returns-in_err-apply-clause-err
returns-in_err-apply-clause-err c = on_err c.from_residual-in_err-apply.result (same-but-state _ _ _ _ c.make_room.ensures.same c.in_err-apply.ensures.err)

pub returns-clause-ok : goal.returns-clause-ok
returns-clause-ok c =
    let same = c.make_room.ensures.same in
    gathered-more _ _ c.args.trace.now (c.in_ok-apply.ensures.ok)
    (c.take.ensures.layout ∙ (λ i. grown_by (same i).layout (c.puts-2.ensures i)))
    (c.take.ensures.pool ∙ (λ i. insert_all nat_eq (same i).pool (literals_among (c.items-2.ensures i))))
    (c.take.ensures.program ∙ (λ i. option_or (same i).program (first_program (c.items-2.ensures i))))

pub returns-clause-state : goal.returns-clause-state
returns-clause-state c = c.in_ok-apply.ensures.ok
