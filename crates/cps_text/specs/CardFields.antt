-- The fields of a line in the code, as fields of a card.
use Rattle.cps_text.specs.declared.card.StatementFields.{StatementFields as FieldsOfCode}
use Rattle.cps_text.specs.declared.card.Fields.{Fields}
use Rattle.cps_text.specs.declared.card.Fields.TheVariants.{Comment, Continued, Statement}
use Rattle.cps_text.specs.Card.{StatementFields, LineFields, CommentLine, ContinuedLine, StatementLine}

abbrev pub statement_value : FieldsOfCode → StatementFields
statement_value statement = record {
  location = statement.location.now;
  operation = statement.operation.now;
  variable = statement.variable.now;
  comment = statement.comment.now;
  tail = statement.tail.now;
}

abbrev pub fields_value : Fields → LineFields
fields_value Comment = CommentLine
fields_value Continued = ContinuedLine
fields_value (Statement statement) = StatementLine (statement_value statement)
