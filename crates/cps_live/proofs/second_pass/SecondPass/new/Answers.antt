use Rattle.std.proofs.Common.{sym, ◌∙◌}
use Rattle.cps_final.specs.NamedFinals.{names_in}
use Rattle.cps_final.specs.Code.Ends.{was_of, now_of}
use Rattle.cps_live.specs.declared.second_pass.SecondPass.{SecondPass}
use Rattle.cps_live.proofs.SecondPassLemmas.{exact-same, names-same}
use Rattle.cps_live.proofs.second_pass.SecondPass.new.Goals as goal

pub returns-clause-exact : goal.returns-clause-exact
returns-clause-exact c =
    let h = c.in_ok-differences.ensures in
    let pass : SecondPass = record { base = c.args.base; differences = c.in_ok-differences.differences; redo = c.new.result } in
    let ts = c.args.base.traces.now in
    let ends = h.ends ∙ sym c.new.ensures.ends in
    record {
      ends = ends;
      exact = h.exact;
      sought = h.sought;
      known = λ yes. names-same (was_of pass.redo.ends) (now_of pass.redo.ends) ts (sym (exact-same pass ends h.exact (names_in ts)) ∙ h.known yes ts c.requires);
    }
