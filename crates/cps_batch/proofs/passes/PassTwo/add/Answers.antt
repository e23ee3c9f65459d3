use Rattle.std.proofs.Common.{ap, ◌∙◌}
use Rattle.std.proofs.lemmas.Result.{on_ok_weaker}
use Rattle.cps_final.specs.contracts.finals.FinalsGathered.TheImpl.{gathered-value}
use Rattle.cps_final.specs.Finals.{final_value}
use Rattle.cps_final.specs.Outcome.{Output, output_of, outcome_of}
use Rattle.cps_edit.specs.Assembly.{outcomes_under, traces_of}
use Rattle.cps_batch.proofs.PassLemmas.{shown-next}
use Rattle.cps_batch.proofs.passes.PassTwo.add.Goals as goal

pub returns-clause-shown : goal.returns-clause-shown
returns-clause-shown c =
    let finals = gathered-value.it c.args.self.now.finals.now in
    on_ok_weaker c.add.result
    (λ added. λ lines statements so at.
    let trace = statements.0 in
    let outcomes = outcomes_under finals (traces_of lines) in
    let outcome = outcome_of (final_value finals) trace in
    let made = c.in_ok-replace.ensures ∙ ap (output_of (final_value finals)) statements.2 in
    let shown = added lines outcomes outcome so at (c.rows.ensures ∙ ap (λ (o : Output). o.rows) made) (c.pieces.ensures ∙ ap (λ (o : Output). o.pieces) made) in
    shown-next finals c.add.new.self lines c.args.line.now trace statements.1 shown)
    c.add.ensures.printout
