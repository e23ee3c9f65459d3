use Rattle.std.proofs.Common.{◌≡◌, ℕ, ◌+◌, ◌<◌, true, List, ◌++◌, codes, refl, ap, sym, subst, ◌∙◌, arith, append-nil}
use Rattle.std.specs.Prelude.{nat_lt}
use Rattle.std.proofs.lemmas.Bool.{cond-true}
use Rattle.std.proofs.lemmas.Bool.Decides.{nat_tests}
use Rattle.cps_cause.specs.Sentence.{IsSentence}
use Rattle.cps_edit.specs.Limits.{most_lines}
use Rattle.cps_check.specs.Code.Adding.{Adds}
use Rattle.cps_check.specs.declared.report_kind.ReportKind.TheVariants as kinds
use Rattle.cps_check.specs.Reports.{Report, excess_report}
use Rattle.cps_check.specs.Texts.{head_of}
use Rattle.cps_check.proofs.TextLemmas.{Adds-one, three-pieces}
use Rattle.cps_check.proofs.told_line.push_excess.Goals as goal

pub returns : goal.returns
returns c =
    let name = c.args.name.now in
    let old = c.args.text.now.items in
    let new = c.extend_from_slice-2.new.self.items in
    let more : most_lines < c.args.count = c.if-count-le-MOST_LINES.false in
    let test : nat_lt most_lines c.args.count ≡ true = grind (arith, nat_tests) in
    let words = codes "a source has 99,999 lines at most; the lines from here on are not looked at" in
    let sentence : IsSentence words = record { some = omega arith; row = refl } in
    let head = head_of name (most_lines + 1) 1 kinds.Wrong in
    subst (λ (reports : List Report). Adds name reports old new) (sym (cond-true _ _ _ test))
    (Adds-one name (excess_report (most_lines + 1)) words old new sentence
    (three-pieces old head words (codes "\n") c.push_head.new.text.items c.extend_from_slice.new.self.items new
    c.in_ok-push_head.ensures c.in_ok-extend_from_slice.ensures.items c.in_ok-extend_from_slice-2.ensures.items
    ∙ ap (λ (piece : List ℕ). old ++ piece) (sym (append-nil (head ++ words ++ codes "\n")))))
