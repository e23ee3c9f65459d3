use Rattle.std.proofs.Common.{◌≡◌, ◌∙◌}
use Rattle.std.specs.Cmp.Lexicographic.{options_equiv}
use Rattle.std.specs.Option.{option_eq}
use Rattle.std.proofs.lemmas.Result.{IfOk-weaker}
use Rattle.cps_expr.specs.Value.{same_name}
use Rattle.cps_final.specs.Outcome.{blocks_named}
use Rattle.cps_final.proofs.BlockLemmas.{same_name-laws}
use Rattle.cps_final.specs.NamedFinals.{statements_of, all_blocks_named}
use Rattle.cps_final.proofs.NamesLemmas.{once-made}
use Rattle.cps_final.proofs.named_finals.list_blocks.Goals as goal

pub returns : goal.returns
returns c =
    let traces = c.args.traces.now in
    let made = once-made (option_eq same_name) (options_equiv same_name-laws) blocks_named traces c.loop-trace.trace-index c.loop-trace.found.keys c.loop-trace-test.false c.loop-trace.invariant in
    IfOk-weaker c.list_of.result _ (λ list. list.items ≡ all_blocks_named (statements_of traces)) (λ list is. is ∙ c.as_slice.ensures.keys ∙ made) c.list_of.ensures
