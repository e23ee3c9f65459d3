use Rattle.std.proofs.Common.{◌+◌, sym, ap, ◌∙◌, length, arith}
use Rattle.cps_list.specs.Listing.{code_text}
use Rattle.cps_list.proofs.FrontLemmas.{later-length, octal-length}
use Rattle.cps_list.proofs.listing.later_columns.Goals as goal

pub returns-in-Some-clause-columns : goal.returns-in-Some-clause-columns
returns-in-Some-clause-columns c = λ later number.
    let row = c.args.row.now in
    let code = c.in-Some.code in
    let long = later-length number row later ∙ ap (λ d. 16 + length (code_text d)) (sym c.digits.ensures ∙ c.in-Some.is) ∙ ap (λ n. 16 + n) (octal-length code.count code.number) in
    omega (arith, long)

pub returns-in-None-clause-columns : goal.returns-in-None-clause-columns
returns-in-None-clause-columns c = λ later number.
    let long = later-length number c.args.row.now later ∙ ap (λ d. 16 + length (code_text d)) (sym c.digits.ensures ∙ c.in-None.is) in
    omega (arith, long)
