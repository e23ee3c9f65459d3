use Rattle.std.proofs.Common.{◌∙◌}
use Rattle.std.specs.Prelude.{nat_eq}
use Rattle.std.specs.Option.{option_or}
use Rattle.indexmap.specs.IndexSet.{insert_all}
use Rattle.cps_final.specs.Finals.{first_program}
use Rattle.cps_final.specs.Code.Gathering.{grown_by}
use Rattle.cps_final.specs.Pool.{literals_among}
use Rattle.cps_final.specs.Code.Storage.{stored}
use Rattle.cps_final.proofs.GatherLemmas.{stored-more, on_err}
use Rattle.cps_final.proofs.storage.Storage.add.Goals as goal

pub returns-in_err-literals-clause-err : goal.returns-in_err-literals-clause-err
returns-in_err-literals-clause-err c = on_err c.from_residual.result c.make_room.ensures.same

pub returns-clause-ok : goal.returns-clause-ok
returns-clause-ok c =
    let trace = c.args.trace.now in
    let same = c.make_room.ensures.same in
    stored-more (stored c.args.self.now) (stored c.take.new.self) trace
    (c.take.ensures.layout ∙ (λ i. grown_by (same i).layout (c.puts-2.ensures i)))
    (c.take.ensures.pool ∙ (λ i. insert_all nat_eq (same i).pool (literals_among (c.items-2.ensures i))))
    (c.take.ensures.program ∙ (λ i. option_or (same i).program (first_program (c.items-2.ensures i))))
