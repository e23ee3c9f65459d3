use Rattle.std.proofs.Common.{sym, arith}
use Rattle.std.proofs.lemmas.List.{take_all}
use Rattle.cps_text.specs.declared.limits.TheConstants.{MOST_LINES}
use Rattle.cps_input.proofs.cards.first_lines.Goals as goal

pub returns-then-lines-lt-MOST_LINES : goal.returns-then-lines-lt-MOST_LINES
returns-then-lines-lt-MOST_LINES c = sym (take_all MOST_LINES c.args.lines.now (omega arith))
