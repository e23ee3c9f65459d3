use Rattle.cps_compare.specs.Code.Surveys.{tested}
use Rattle.cps_compare.proofs.survey.Tallies.new.Goals as goal

pub returns-clause-tallies : goal.returns-clause-tallies
returns-clause-tallies c = λ found. record {
  known = c.new.ensures.tally found.known;
  given = c.new-2.ensures.tally (tested found.is_given);
  unknown = c.new-3.ensures.tally found.unknown;
  denied = c.new-4.ensures.tally found.denied;
  absent = c.new-5.ensures.tally (tested found.is_absent);
  in_part = c.new-6.ensures.tally (tested found.is_in_part);
  compared = c.new-7.ensures.tally (tested found.is_compared);
  differing = c.new-8.ensures.tally (tested found.differs);
}
