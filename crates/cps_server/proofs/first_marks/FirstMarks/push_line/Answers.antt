use Rattle.std.proofs.Common.{◌+◌, List, length, map, take, ap, sym, subst, refl, ◌∙◌, arith}
use Rattle.std.specs.Prelude.{nat_eq}
use Rattle.cps_server.specs.declared.line_mark.LineMark.{LineMark}
use Rattle.cps_server.specs.Code.Adding.{Adds, mark_at}
use Rattle.cps_server.proofs.TextMarksLemmas.{Lists-empty, Lists-full, Lists-line}
use Rattle.cps_server.proofs.first_marks.FirstMarks.push_line.Goals as goal

pub returns-then-is_empty : goal.returns-then-is_empty
returns-then-is_empty c =
    Lists-empty c.args.number c.args.line.now.marks.items c.args.self.now
    (ap (λ (ms : List LineMark). nat_eq (length ms) 0) (sym c.as_slice-marks.ensures.value) ∙ sym c.is_empty.ensures ∙ c.if-is_empty.true)

pub returns-then-len-gt-MOST_TOLD : goal.returns-then-len-gt-MOST_TOLD
returns-then-len-gt-MOST_TOLD c =
    Lists-full c.args.number c.args.line.now.marks.items c.args.self.now _
    (omega (arith, c.if-len-gt-MOST_TOLD.true, c.len.ensures, c.args.self.now.first.ok.0)) refl
    (c.in-Some.ensures.1 ∙ ap (λ (ms : List LineMark). c.args.self.now.count + length ms) c.as_slice-marks.ensures.value)

pub returns : goal.returns
returns c =
    Lists-line c.args.number c.args.line.now.marks.items c.min.result c.args.self.now _
    (c.min.ensures ∙ omega (arith, c.len-2.ensures, c.args.self.now.first.ok.0, ap length c.as_slice-marks.ensures.value))
    (subst (λ (ms : List LineMark). Adds (map (mark_at c.args.number) (take c.min.result ms)) c.args.self.now.first.items c.push_first.new.first.items)
    c.as_slice-marks.ensures.value c.in_ok-push_first.ensures)
    (c.in-Some.ensures.1 ∙ ap (λ (ms : List LineMark). c.args.self.now.count + length ms) c.as_slice-marks.ensures.value)
