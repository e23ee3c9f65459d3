use Rattle.std.proofs.lemmas.Result.{on_ok_weaker}
use Rattle.cps_final.proofs.OutcomeLemmas.{reads-join}
use Rattle.cps_final.proofs.line_names.insert_read.Goals as goal

pub returns : goal.returns
returns g c =
    let names = g.S.NameSet.names in
    on_ok_weaker c.insert_later_names.result
    (reads-join c.args.reads.now c.args.items.now (names c.args.names.now) (names c.insert_names.new.names) _ c.in_ok-insert_names.ensures)
    c.insert_later_names.ensures
