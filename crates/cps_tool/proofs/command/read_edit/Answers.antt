use Rattle.cps_tool.proofs.NumberLemmas.{no_insertion, no_replacement, whole_tail}
use Rattle.cps_tool.proofs.RangeLemmas.{no_deletion, no_move_by}
use Rattle.cps_tool.proofs.command.read_edit.Goals as goal

pub returns-in_err-after-in-105-clause-no_insert : goal.returns-in_err-after-in-105-clause-no_insert
returns-in_err-after-in-105-clause-no_insert c =
    let none = c.from_residual.ensures in
    rw none (no_insertion c.args.line.now (rw (whole_tail c.args.line.now 2) at c.in_err-after-in-105.ensures))

pub returns-in_err-at-in-114-clause-no_replace : goal.returns-in_err-at-in-114-clause-no_replace
returns-in_err-at-in-114-clause-no_replace c =
    let none = c.from_residual-in_err-at-in-114.ensures in
    rw none (no_replacement c.args.line.now (rw (whole_tail c.args.line.now 2) at c.in_err-at-in-114.ensures))

pub returns-in_err-first-in-100-clause-no_delete : goal.returns-in_err-first-in-100-clause-no_delete
returns-in_err-first-in-100-clause-no_delete c =
    let none = c.from_residual-in_err-first-in-100.ensures in
    rw none (no_deletion c.args.line.now (rw (whole_tail c.args.line.now 2) at c.in_err-first-in-100.ensures))

pub returns-in_err-first-in-109-clause-no_move : goal.returns-in_err-first-in-109-clause-no_move
returns-in_err-first-in-109-clause-no_move c =
    let none = c.from_residual-in_err-first-in-109.ensures in
    rw none (no_move_by c.args.line.now (rw (whole_tail c.args.line.now 2) at c.in_err-first-in-109.ensures))
