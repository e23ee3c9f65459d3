use Rattle.cps_tool.proofs.NumberLemmas.{numbered_split, number_before}
use Rattle.cps_tool.proofs.command.read_numbered.Goals as goal

pub returns-in_err-number : goal.returns-in_err-number
returns-in_err-number c =
    let none = c.from_residual.ensures in
    let front = c.split_at_blank.ensures.front in
    let no_number = rw front at c.in_err-number.ensures in
    rw none (λ number text numbered. no_number number (number_before c.args.bytes.now number text numbered))

pub returns : goal.returns
returns c =
    let front = c.split_at_blank.ensures.front in
    let back = c.split_at_blank.ensures.back in
    rw back (numbered_split c.args.bytes.now c.in_ok-number.number (rw front at c.in_ok-number.ensures))
