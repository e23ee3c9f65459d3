use Rattle.std.proofs.Common.{◌≡◌, ◌<◌, ◌%◌, refl, arith}
use Rattle.cps_code.proofs.FillingLemmas.{filled}
use Rattle.cps_code.proofs.placing.filling_between.Goals as goal

pub returns-clause-filling : goal.returns-clause-filling
returns-clause-filling c = λ word. let border = c.requires.border in let begun : 0 < c.args.from = omega arith in let ends : c.args.to % 15 ≡ 0 = omega arith in rw c.passes_in.ensures (filled word c.args.from c.args.to (omega arith) c.requires.within begun ends)

pub returns-clause-inside : goal.returns-clause-inside
returns-clause-inside c =
    let border = c.requires.border in let begun : 0 < c.args.from = omega arith in let ends : c.args.to % 15 ≡ 0 = omega arith in
    let within = c.requires.within in
    let fits = filled 0 c.args.from c.args.to (omega arith) c.requires.within begun ends in
    (refl, omega arith, omega arith, rw c.passes_in.ensures fits.3)
