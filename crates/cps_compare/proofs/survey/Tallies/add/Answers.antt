use Rattle.std.proofs.Common.{ap, ◌∙◌}
use Rattle.cps_compare.specs.Summary.{one_if}
use Rattle.cps_compare.specs.Code.Surveys.{tested}
use Rattle.cps_compare.proofs.survey.Tallies.add.Goals as goal

pub returns-clause-tallies : goal.returns-clause-tallies
returns-clause-tallies c = λ found among was counts. record {
  known = c.add.ensures.tally found.known among was.known counts.known;
  given = c.add-2.ensures.tally (tested found.is_given) among was.given (c.one_if.ensures ∙ ap one_if counts.given);
  unknown = c.add-3.ensures.tally found.unknown among was.unknown counts.unknown;
  denied = c.add-4.ensures.tally found.denied among was.denied counts.denied;
  absent = c.add-5.ensures.tally (tested found.is_absent) among was.absent (c.one_if-2.ensures ∙ ap one_if counts.absent);
  in_part = c.add-6.ensures.tally (tested found.is_in_part) among was.in_part (c.one_if-3.ensures ∙ ap one_if counts.in_part);
  compared = c.add-7.ensures.tally (tested found.is_compared) among was.compared (c.one_if-4.ensures ∙ ap one_if counts.compared);
  differing = c.add-8.ensures.tally (tested found.differs) among was.differing (c.one_if-5.ensures ∙ ap one_if counts.differs);
}
