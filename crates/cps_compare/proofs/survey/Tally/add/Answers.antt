use Rattle.std.proofs.Common.{◌+◌, ap}
use Rattle.cps_compare.proofs.SurveyLemmas.{tally-more}
use Rattle.cps_compare.proofs.survey.Tally.add.Goals as goal

pub returns-clause-tally : goal.returns-clause-tally
returns-clause-tally c = λ counts among was same.
    tally-more counts among c.args.address c.args.count c.args.self.now _ was same (ap (λ n. c.args.self.now.count + n) c.from.ensures) c.first_with-self.ensures
