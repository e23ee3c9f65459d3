use Rattle.std.proofs.Common.{List, length, ap, sym, ◌∙◌, arith}
use Rattle.std.specs.Prelude.{nat_eq}
use Rattle.cps_input.specs.declared.character_fault.CharacterFault.{CharacterFault}
use Rattle.cps_server.proofs.LineLemmas.{ShowsMarks-faults, ShowsMarks-flags, card-within}
use Rattle.cps_server.proofs.line_marks.push_marks.Goals as goal

pub source_line-line-requires : goal.source_line-line-requires
source_line-line-requires c = (card-within c.args.document.now c.args.number c.requires).0

pub overflow_add-number : goal.overflow_add-number
overflow_add-number c = let within = card-within c.args.document.now c.args.number c.requires in omega (arith, within.1)

pub returns-then-is_empty : goal.returns-then-is_empty
returns-then-is_empty c =
    ShowsMarks-flags c.args.document.now c.args.number c.source_line-line.result.now c.in_ok-faults.faults.items c.args.marks.now.items c.push_flags.new.marks.items
    c.requires c.source_line-line.ensures c.in_ok-faults.ensures.none
    (ap (λ (faults : List CharacterFault). nat_eq (length faults) 0) (sym c.as_slice-found.ensures.value) ∙ sym c.is_empty.ensures ∙ c.if-is_empty.true)
    c.in_ok-push_flags.ensures

pub returns : goal.returns
returns c =
    ShowsMarks-faults c.args.document.now c.args.number _ c.source_line-line.result.now c.in_ok-faults.faults.items c.as_slice-found.result.now
    c.args.marks.now.items c.push_faults.new.marks.items c.requires c.source_line-line.ensures c.in_ok-faults.ensures.faults c.in_ok-faults.ensures.none
    (ap (λ (faults : List CharacterFault). nat_eq (length faults) 0) (sym c.as_slice-found.ensures.value) ∙ sym c.is_empty.ensures ∙ c.if-is_empty.false)
    c.as_slice-found.ensures.value c.in_ok-push_faults.ensures
