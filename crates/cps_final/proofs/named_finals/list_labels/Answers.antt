use Rattle.std.proofs.Common.{◌≡◌, ◌∙◌}
use Rattle.std.proofs.lemmas.Result.{IfOk-weaker}
use Rattle.cps_expr.specs.Value.{same_name}
use Rattle.cps_state.specs.declared.item.Item.{Item}
use Rattle.cps_final.specs.Outcome.{labels_read}
use Rattle.cps_final.proofs.BlockLemmas.{same_name-laws}
use Rattle.cps_final.specs.NamedFinals.{statements_of, labels_named}
use Rattle.cps_final.proofs.NamesLemmas.{once-made}
use Rattle.cps_final.proofs.named_finals.list_labels.Goals as goal

pub returns : goal.returns
returns c =
    let traces = c.args.traces.now in
    let made = once-made same_name same_name-laws (λ (item : Item). labels_read item.made) traces c.loop-trace.trace-index c.loop-trace.found.keys c.loop-trace-test.false c.loop-trace.invariant in
    IfOk-weaker c.list_of.result _ (λ list. list.items ≡ labels_named (statements_of traces)) (λ list is. is ∙ c.as_slice.ensures.keys ∙ made) c.list_of.ensures
