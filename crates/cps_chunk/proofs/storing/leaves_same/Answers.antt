use Rattle.std.proofs.Common.{ap, sym, ◌∙◌}
use Rattle.cps_chunk.specs.Code.Storing.{counters_in}
use Rattle.cps_chunk.proofs.LeavingLemmas.{left-pair}
use Rattle.cps_chunk.proofs.storing.leaves_same.Goals as goal
use Rattle.cps_chunk.proofs.storing.leaves_same.Goals.{then-same_counters, else-same_counters}

pub returns-then-leaves_counters_alone : goal.returns-then-leaves_counters_alone
returns-then-leaves_counters_alone c h =
    elim c.if-same_counters.branch [
      | then-same_counters w ↦
          left-pair c.args.old.now c.args.new.now
          (ap counters_in (sym c.puts.ensures) ∙ c.same_counters.ensures w.if-same_counters.true ∙ ap counters_in c.puts-2.ensures)
          (sym w.leaves_counters_alone.ensures ∙ (sym w.value-is ∙ c.if-leaves_counters_alone.true))
          (sym c.leaves_counters_alone-then-leaves_counters_alone.ensures ∙ h)
      | else-same_counters w ↦ cc
    ]
