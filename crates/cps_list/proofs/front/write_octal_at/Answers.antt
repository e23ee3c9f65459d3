use Rattle.std.proofs.Common.{◌+◌, ◌-◌, ◌≤◌, ◌++◌, ap, ◌∙◌, ◌≡◌, length, take, arith}
use Rattle.std.proofs.lemmas.Slice.{take-put_mid, drop-put_mid}
use Rattle.cps_text.specs.Octal.{octal}
use Rattle.cps_list.proofs.FrontLemmas.{front-written, octal-length, part-length}
use Rattle.cps_list.proofs.front.write_octal_at.Goals as goal

pub returns-clause-front : goal.returns-clause-front
returns-clause-front c = λ begun is.
    let front = c.args.front.now in
    let before = c.args.before in
    let number = c.args.number in
    let digits = c.args.digits in
    let end = before + c.from.result in
    let text = c.write_octal.new.text in
    let same : c.from.result ≡ digits = c.from.ensures in
    let within = c.requires.within in
    let full = c.requires.columns in
    let room : before ≤ length front = omega (arith, within, full) in
    let part = part-length front before c.from.result full (omega (arith, within, same)) ∙ same in
    let written : text ≡ octal digits number = c.write_octal.ensures ∙ ap (λ n. octal n number) part in
    let size : length text ≡ digits = ap length written ∙ octal-length digits number in
    let taken = take-put_mid before (end - before) front text (before + digits) (omega (arith, size)) room ∙ ap (λ t. take before front ++ t) written in
    let dropped = drop-put_mid before (end - before) front text (before + digits) (omega (arith, same)) room (omega (arith, size, same)) in
    front-written front begun _ _ before digits is within (octal-length digits number) taken dropped
