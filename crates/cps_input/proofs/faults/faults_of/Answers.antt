use Rattle.cps_input.proofs.FaultLemmas.{faults-columns}
use Rattle.cps_input.proofs.faults.faults_of.Goals as goal

pub returns-clause-columns : goal.returns-clause-columns
returns-clause-columns c =
    faults-columns c.args.number c.args.line.now c.keep_told.new.faults.items
    (record { all = c.in_ok-faults.faults.items; whole = c.in_ok-faults.ensures; some = c.in_ok-keep_told.ensures })
