use Rattle.cps_tool.proofs.RangeLemmas.{move_front, move_back, move_split}
use Rattle.cps_tool.proofs.command.read_move.Goals as goal

pub returns-in_err-first : goal.returns-in_err-first
returns-in_err-first c =
    let none = c.from_residual.ensures in
    let no_number = rw c.split_at_blank.ensures.front at c.in_err-first.ensures in
    rw none (λ first last after numbers. no_number first (move_front c.args.bytes.now first last after numbers))

pub returns-in_err-last : goal.returns-in_err-last
returns-in_err-last c =
    let none = c.from_residual-in_err-last.ensures in
    let no_pair = rw c.split_at_blank.ensures.back at c.in_err-last.ensures in
    rw none (λ first last after numbers. no_pair last after (move_back c.args.bytes.now first last after numbers))

pub returns : goal.returns
returns c =
    let front = rw c.split_at_blank.ensures.front at c.in_ok-first.ensures in
    let pair = rw c.split_at_blank.ensures.back at c.in_ok-last.ensures in
    move_split c.args.bytes.now c.in_ok-first.first c.in_ok-last.last c.in_ok-last.after front pair
