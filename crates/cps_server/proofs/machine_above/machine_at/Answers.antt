use Rattle.std.proofs.Common.{List, take, ap, ◌∙◌}
use Rattle.std.proofs.lemmas.List.{take_min}
use Rattle.cps_state.specs.Course.{Trace}
use Rattle.cps_edit.specs.Assembly.{traces_of}
use Rattle.cps_server.specs.MachineAbove.{machine_behind}
use Rattle.cps_server.proofs.machine_above.machine_at.Goals as goal

pub returns : goal.returns
returns c =
    let traces = c.traces-traces.result.now in
    c.machine_behind.ensures ∙ ap (λ n. machine_behind (take n traces)) c.min.ensures ∙ ap machine_behind (take_min c.args.line traces)
    ∙ ap (λ (ts : List Trace). machine_behind (take c.args.line ts)) (c.traces-traces.ensures ∙ ap traces_of c.session.ensures)
