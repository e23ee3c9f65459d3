use Rattle.std.proofs.Common.{◌++◌, ap, ◌∙◌, arith, rules}
use Rattle.cps_markup.proofs.EscapingLemmas.{number-alone}
use Rattle.cps_markup.proofs.place.push_number.Goals as goal

pub returns : goal.returns
returns c =
    let alone = number-alone c.args.number (omega arith) in
    c.in_ok-extend_from_slice.ensures.items ∙ ap (λ l. c.args.page.now.items ++ l) (search rules)
