use Rattle.std.proofs.Common.{rules, ◌∙◌}
use Rattle.cps_text.proofs.CardLemmas.{statement_is_card}
use Rattle.cps_text.proofs.card.read_fields.Goals as goal

pub returns-else-is_continued-clause-rule : goal.returns-else-is_continued-clause-rule
returns-else-is_continued-clause-rule c =
    statement_is_card c.args.line.now c.of-card.result.text.now _ (c.of-card.ensures.text ∙ c.read_columns.ensures) (search rules) (search rules) c.statement_fields.ensures
