use Rattle.std.proofs.Common.{ap, subst, ◌++◌, ◌∙◌}
use Rattle.cps_code.specs.Image.{ArePacked}
use Rattle.cps_final.specs.contracts.finals.FinalsGathered.TheImpl.{gathered-value}
use Rattle.cps_final.specs.Finals.{Finals, is_open_at_end, machine_of}
use Rattle.cps_list.specs.Binary.{pieces_in, pool_pieces}
use Rattle.cps_list.specs.Flagged.{flagged_with}
use Rattle.cps_list.specs.Code.Making.{shows_binary}
use Rattle.cps_edit.specs.Assembly.{outcomes_under, traces_of}
use Rattle.cps_batch.proofs.passes.BatchPassOne.make_words.Goals as goal

pub into_words-requires-clause-shown : goal.into_words-requires-clause-shown
into_words-requires-clause-shown c = ap shows_binary (c.in_ok-printout.ensures.part ∙ c.requires.part)

pub returns : goal.returns
returns c =
    let lines = c.args.lines.now in
    let traces = traces_of lines in
    let so = ap gathered-value.it c.in_ok-printout.ensures.gather ∙ c.requires.passed.gathered in
    let outcomes = outcomes_under (gathered-value.it c.show.new.self.gather) traces in
    let is_open = c.is_open_at_end.ensures ∙ ap is_open_at_end so in
    let made = c.in_ok-words.ensures.words lines outcomes c.in_ok-printout.ensures.printout in
    record {
      words = subst (λ (f : Finals). ArePacked (pieces_in (outcomes_under f traces) ++ pool_pieces f) c.in_ok-words.words) so made.0;
      machine = c.machine.ensures ∙ ap machine_of so;
      flagged = made.1 ∙ (λ i. flagged_with (is_open i) (outcomes_under (so i) traces));
    }
