use Rattle.std.proofs.Common.{ℕ, List, length, ap, sym, ◌∙◌}
use Rattle.std.specs.Prelude.{nat_eq}
use Rattle.cps_final.specs.contracts.finals.FinalsGathered.TheImpl.{gathered-value}
use Rattle.cps_final.specs.Finals.{final_value}
use Rattle.cps_final.specs.Outcome.{outcome_of}
use Rattle.cps_input.specs.declared.character_fault.CharacterFault.{CharacterFault}
use Rattle.cps_check.proofs.SourceLemmas.{AddsLine-faults, AddsLine-flags}
use Rattle.cps_check.proofs.line_telling.LineTelling.tell_line.Goals as goal

pub returns-then-is_empty : goal.returns-then-is_empty
returns-then-is_empty c =
    AddsLine-flags c.args.self.now.errors_only c.args.self.now.name.now c.args.line.now.number c.args.line.now.line.now c.args.line.now.card.now
    (outcome_of (final_value (gathered-value.it c.args.self.now.finals.now)) c.args.line.now.trace.now)
    c.in_ok-faults.faults.items c.in_ok-causes.causes.items c.deref.result.now c.deref-then-is_empty.result.now c.is_empty-then-is_empty.result
    c.args.text.now.items c.push_flags.new.text.items c.push_notes.new.text.items
    c.in_ok-faults.ensures.none
    (ap (λ (faults : List CharacterFault). nat_eq (length faults) 0) (sym c.as_slice-found.ensures.value) ∙ sym c.is_empty.ensures ∙ c.if-is_empty.true)
    c.requires c.in_ok-causes.ensures c.deref.ensures.value
    (c.is_empty-then-is_empty.ensures ∙ ap (λ (n : ℕ). nat_eq n 0) (sym c.deref.ensures.len ∙ ap length c.deref.ensures.value)) c.in_ok-push_flags.ensures c.in_ok-push_notes.ensures
    (λ only. c.deref-then-is_empty.ensures.value ∙ c.in_ok-notes.ensures only)

pub returns : goal.returns
returns c =
    AddsLine-faults c.args.self.now.errors_only c.args.self.now.name.now c.args.line.now.number c.args.line.now.line.now
    (outcome_of (final_value (gathered-value.it c.args.self.now.finals.now)) c.args.line.now.trace.now)
    c.in_ok-faults.faults.items c.as_slice-found.result.now c.args.text.now.items c.push_faults.new.text.items
    c.in_ok-faults.ensures.faults c.in_ok-faults.ensures.none
    (ap (λ (faults : List CharacterFault). nat_eq (length faults) 0) (sym c.as_slice-found.ensures.value) ∙ sym c.is_empty.ensures ∙ c.if-is_empty.false)
    c.as_slice-found.ensures.value c.in_ok-push_faults.ensures
