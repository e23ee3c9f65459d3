use Rattle.std.proofs.Common.{◌≡◌, ◌/◌, ◌^◌, ◌++◌, length, ap, ◌∙◌, arith}
use Rattle.std.proofs.lemmas.Result.{on_ok_weaker}
use Rattle.cps_text.specs.Octal.{octal}
use Rattle.cps_list.proofs.FrontLemmas.{octal-length}
use Rattle.cps_compare.proofs.difference.show_word.Goals as goal

pub returns-in-Cp-clause-few : goal.returns-in-Cp-clause-few
returns-in-Cp-clause-few c = on_ok_weaker c.push_octal.result
    (λ made.
    let long : length c.push_octal.new.text.items ≡ 20 = ap length (made ∙ ap (λ l. l ++ octal 20 c.args.word) c.clear.ensures.items) ∙ octal-length 20 c.args.word in
    omega (arith, long))
    c.push_octal.ensures.ok

pub returns-in-Pp-clause-few : goal.returns-in-Pp-clause-few
returns-in-Pp-clause-few c = on_ok_weaker c.push_octal-in-Pp.result
    (λ made.
    let long : length c.push_octal-in-Pp.new.text.items ≡ 4 = ap length (made ∙ ap (λ l. l ++ octal 4 (c.args.word / 2 ^ 48)) c.clear.ensures.items) ∙ octal-length 4 (c.args.word / 2 ^ 48) in
    omega (arith, long))
    c.push_octal-in-Pp.ensures.ok
