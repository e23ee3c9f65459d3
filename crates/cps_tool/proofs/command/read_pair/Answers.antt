use Rattle.cps_tool.proofs.RangeLemmas.{pair_front, pair_back, pair_split}
use Rattle.cps_tool.proofs.command.read_pair.Goals as goal

pub returns-in_err-one : goal.returns-in_err-one
returns-in_err-one c =
    let none = c.from_residual.ensures in
    let no_number = rw c.split_at_blank.ensures.front at c.in_err-one.ensures in
    rw none (λ one two pair. no_number one (pair_front c.args.bytes.now one two pair))

pub returns-in_err-two : goal.returns-in_err-two
returns-in_err-two c =
    let none = c.from_residual-in_err-two.ensures in
    let no_number = rw c.split_at_blank.ensures.back at c.in_err-two.ensures in
    rw none (λ one two pair. no_number two (pair_back c.args.bytes.now one two pair))

pub returns : goal.returns
returns c =
    let front = rw c.split_at_blank.ensures.front at c.in_ok-one.ensures in
    let back = rw c.split_at_blank.ensures.back at c.in_ok-two.ensures in
    pair_split c.args.bytes.now c.in_ok-one.one c.in_ok-two.two front back
