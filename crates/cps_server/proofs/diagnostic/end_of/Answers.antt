use Rattle.std.proofs.Common.{refl, sym, ◌∙◌, arith, true, false, []}
use Rattle.std.specs.Prelude.{codes}
use Rattle.std.proofs.lemmas.Fmt.{decimal_digit}
use Rattle.cps_server.specs.Code.Writing.{end_text, level}
use Rattle.cps_server.proofs.WritingLemmas.{end-known, tag-known}
use Rattle.cps_server.proofs.diagnostic.end_of.Goals as goal

pub returns-in-Error-false : goal.returns-in-Error-false
returns-in-Error-false c =
    sym ((λ i. end_text (level (c.in-Error-false.is-0 i)) (c.in-Error-false.is-1 i)) ∙ end-known 1 false (codes "1") [] (decimal_digit 1 (omega arith)) refl)

pub returns-in-Error-true : goal.returns-in-Error-true
returns-in-Error-true c =
    sym ((λ i. end_text (level (c.in-Error-true.is-0 i)) (c.in-Error-true.is-1 i)) ∙ end-known 1 true (codes "1") (codes ",\"tags\":[1]") (decimal_digit 1 (omega arith)) tag-known)

pub returns-in-Information-false : goal.returns-in-Information-false
returns-in-Information-false c =
    sym ((λ i. end_text (level (c.in-Information-false.is-0 i)) (c.in-Information-false.is-1 i)) ∙ end-known 3 false (codes "3") [] (decimal_digit 3 (omega arith)) refl)

pub returns-in-Information-true : goal.returns-in-Information-true
returns-in-Information-true c =
    sym ((λ i. end_text (level (c.in-Information-true.is-0 i)) (c.in-Information-true.is-1 i)) ∙ end-known 3 true (codes "3") (codes ",\"tags\":[1]") (decimal_digit 3 (omega arith)) tag-known)

pub returns-in-Hint-false : goal.returns-in-Hint-false
returns-in-Hint-false c =
    sym ((λ i. end_text (level (c.in-Hint-false.is-0 i)) (c.in-Hint-false.is-1 i)) ∙ end-known 4 false (codes "4") [] (decimal_digit 4 (omega arith)) refl)

pub returns-in-Hint-true : goal.returns-in-Hint-true
returns-in-Hint-true c =
    sym ((λ i. end_text (level (c.in-Hint-true.is-0 i)) (c.in-Hint-true.is-1 i)) ∙ end-known 4 true (codes "4") (codes ",\"tags\":[1]") (decimal_digit 4 (omega arith)) tag-known)
