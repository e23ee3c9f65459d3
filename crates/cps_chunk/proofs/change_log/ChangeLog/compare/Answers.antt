use Rattle.std.proofs.Common.{Option, None, ap, sym, ◌∙◌}
use Rattle.std.specs.Prelude.{unwrap_or}
use Rattle.std.specs.Option.{option_eq}
use Rattle.cps_state.specs.declared.key.Answer.{Answer}
use Rattle.cps_final.specs.Changes.{changed}
use Rattle.cps_final.specs.Code.Kept.{changes_in}
use Rattle.cps_final.specs.Holds.{same_answer}
use Rattle.cps_chunk.proofs.ComparedLemmas.{compared-same}
use Rattle.cps_chunk.proofs.change_log.ChangeLog.compare.Goals as goal

pub returns-then-is_same_answer-clause-changes : goal.returns-then-is_same_answer-clause-changes
returns-then-is_same_answer-clause-changes g c =
    compared-same (changes_in c.args.self.now.changes) _ c.args.key (unwrap_or (changes_in c.args.self.now.present c.args.key) None)
    (changed (changes_in c.args.self.now.former) (g.L.Lookup.answer c.args.before.now) c.args.key)
    (sym (λ i. option_eq same_answer ((c.found-now.ensures ∙ ap (λ (o : Option (Option Answer)). unwrap_or o None) c.find.ensures) i) (c.ask.ensures i)) ∙ sym c.is_same_answer.ensures ∙ c.if-is_same_answer.true)
    c.forget.ensures
