use Rattle.std.proofs.Common.{List, ap, ◌∙◌}
use Rattle.cps_state.specs.Course.{Trace}
use Rattle.cps_final.specs.Finals.{finals_of}
use Rattle.cps_edit.specs.Assembly.{traces_of, outcomes_under}
use Rattle.cps_batch.proofs.source.Source.with_traces.Goals as goal

pub invariant_of-source : goal.invariant_of-source
invariant_of-source c =
    let traces = c.in_ok-one.ensures.one ∙ ap traces_of c.deref.ensures.value in
    record {
      few = c.requires;
      made = c.in_ok-outcomes.ensures.outcomes ∙ ap (λ (ts : List Trace). outcomes_under (finals_of ts) ts) traces;
      gathered = c.into_parts-traces.ensures.gather ∙ ap finals_of traces;
    }
