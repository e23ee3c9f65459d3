use Rattle.std.proofs.Common.{sym, arith}
use Rattle.std.proofs.lemmas.List.{take_all}
use Rattle.cps_text.specs.declared.limits.TheConstants.{MOST_CHARACTERS}
use Rattle.cps_input.proofs.cards.first_columns.Goals as goal

pub returns-then-line-lt-MOST_CHARACTERS : goal.returns-then-line-lt-MOST_CHARACTERS
returns-then-line-lt-MOST_CHARACTERS c = sym (take_all MOST_CHARACTERS c.args.line.now (omega arith))
