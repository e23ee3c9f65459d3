use Rattle.std.proofs.Common.{◌≡◌, ap, ◌∙◌, true, rules}
use Rattle.std.specs.Prelude.{is_ok}
use Rattle.std.proofs.lemmas.Result.{IfOk-weaker}
use Rattle.cps_final.specs.LineNames.{defined_by, names_defined}
use Rattle.cps_final.proofs.OutcomeLemmas.{at_ok, defined-made}
use Rattle.cps_final.proofs.name_lists.list_defined.Goals as goal

pub returns-then-is_ok : goal.returns-then-is_ok
returns-then-is_ok c =
    let ok : is_ok c.insert_defined.result ≡ true = search rules in
    defined-made c.puts.result.now _ _ c.new-few.ensures (at_ok c.insert_defined.result ok c.insert_defined.ensures) ∙ ap defined_by c.puts.ensures

pub returns : goal.returns
returns c =
    let made = defined-made c.puts-2.result.now _ _ c.with_hasher-names.ensures.empty c.in_ok-insert_defined.ensures ∙ ap defined_by c.puts-2.ensures in
    IfOk-weaker c.copy_of.result _ (λ names. names ≡ names_defined c.args.trace.now) (λ names is. is ∙ c.as_slice.ensures.keys ∙ made) c.copy_of.ensures
