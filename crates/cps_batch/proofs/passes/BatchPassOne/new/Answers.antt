use Rattle.std.proofs.Common.{ap, ◌∙◌}
use Rattle.cps_state.specs.Code.Scratch.{statements_on}
use Rattle.cps_list.specs.Code.Making.{shows_symbols}
use Rattle.cps_batch.proofs.KeptLemmas.{none-kept}
use Rattle.cps_batch.proofs.PassLemmas.{none-noted}
use Rattle.cps_batch.proofs.passes.BatchPassOne.new.Goals as goal

pub returns-clause-passed : goal.returns-clause-passed
returns-clause-passed c = record {
  gathered = c.new.ensures;
  kept = none-kept _ _ c.none.ensures.groups c.none.ensures.ends (ap statements_on c.new-2.ensures);
  mentions = λ finals. c.new-4.ensures.items ∙ none-noted (shows_symbols c.args.part);
}
