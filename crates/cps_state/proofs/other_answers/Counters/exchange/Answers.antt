use Rattle.std.proofs.Common.{Some, sym, ap, ◌∙◌}
use Rattle.std.specs.Prelude.{if◌then◌else◌}
use Rattle.cps_expr.specs.Value.{same_name}
use Rattle.cps_state.specs.declared.key.Answer.{Answer}
use Rattle.indexmap.specs.IndexMap.{get}
use Rattle.cps_state.proofs.OtherLemmas.{answer-at, written-at}
use Rattle.cps_state.proofs.other_answers.Counters.exchange.Goals as goal

pub returns-in-Some-get_index_mut-clause-old : goal.returns-in-Some-get_index_mut-clause-old
returns-in-Some-get_index_mut-clause-old c =
    ap Some c.replace.ensures.value
    ∙ answer-at c.args.self.now.places c.in-Some.index c.args.block (sym c.in-Some.is ∙ c.index_of.ensures.index) _ c.in-Some-get_index_mut.ensures.unique c.in-Some-get_index_mut.ensures.value

pub returns-in-Some-get_index_mut-clause-answer : goal.returns-in-Some-get_index_mut-clause-answer
returns-in-Some-get_index_mut-clause-answer c name =
    written-at c.args.self.now.places c.in-Some.index c.args.block (sym c.in-Some.is ∙ c.index_of.ensures.index) _ c.replace.new.dest c.in-Some-get_index_mut.ensures.unique c.in-Some-get_index_mut.ensures.value name
    ∙ ap (λ (a : Answer). if same_name c.args.block name then Some a else get same_name c.args.self.now.places name) c.replace.ensures.after
