use Rattle.std.proofs.Common.{sym}
use Rattle.std.proofs.lemmas.List.{take_all}
use Rattle.cps_text.proofs.card.read_columns.Goals as goal

pub returns-then-line-le-LAST_COLUMN : goal.returns-then-line-le-LAST_COLUMN
returns-then-line-le-LAST_COLUMN c = sym (take_all 72 c.args.line.now c.if-line-le-LAST_COLUMN.true)
