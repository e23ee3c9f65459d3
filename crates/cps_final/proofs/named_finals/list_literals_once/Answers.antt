use Rattle.std.proofs.Common.{◌≡◌, ◌∙◌}
use Rattle.std.specs.Cmp.{nat_eq_equiv}
use Rattle.std.specs.Prelude.{nat_eq}
use Rattle.std.proofs.lemmas.Result.{IfOk-weaker}
use Rattle.cps_state.specs.declared.item.Item.{Item}
use Rattle.cps_final.specs.Pool.{literals_of}
use Rattle.cps_final.specs.NamedFinals.{statements_of, literals_named}
use Rattle.cps_final.proofs.NamesLemmas.{once-made}
use Rattle.cps_final.proofs.named_finals.list_literals_once.Goals as goal

pub returns : goal.returns
returns c =
    let traces = c.args.traces.now in
    let made = once-made nat_eq nat_eq_equiv (λ (item : Item). literals_of item.made) traces c.loop-trace.trace-index c.loop-trace.found.keys c.loop-trace-test.false c.loop-trace.invariant in
    IfOk-weaker c.list_of.result _ (λ list. list.items ≡ literals_named (statements_of traces)) (λ list is. is ∙ c.as_slice.ensures.keys ∙ made) c.list_of.ensures
