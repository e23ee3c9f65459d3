use Rattle.std.proofs.Common.{◌≡◌, ◌∙◌, true, rules}
use Rattle.std.specs.Prelude.{is_ok}
use Rattle.std.proofs.lemmas.Result.{IfOk-weaker}
use Rattle.cps_final.specs.LineNames.{names_read, read_by}
use Rattle.cps_final.proofs.OutcomeLemmas.{at_ok, read-made}
use Rattle.cps_final.proofs.name_lists.list_read.Goals as goal

pub returns-then-is_ok : goal.returns-then-is_ok
returns-then-is_ok c =
    let ok : is_ok c.insert_read.result ≡ true = search rules in
    read-made c.reads.result.now c.items.result.now _ _ c.new-few.ensures (at_ok c.insert_read.result ok c.insert_read.ensures) ∙ (λ i. read_by (c.reads.ensures i) (c.items.ensures i))

pub returns : goal.returns
returns c =
    let made = read-made c.reads-2.result.now c.items-2.result.now _ _ c.with_hasher-names.ensures.empty c.in_ok-insert_read.ensures ∙ (λ i. read_by (c.reads-2.ensures i) (c.items-2.ensures i)) in
    IfOk-weaker c.copy_of.result _ (λ names. names ≡ names_read c.args.trace.now) (λ names is. is ∙ c.as_slice.ensures.keys ∙ made) c.copy_of.ensures
