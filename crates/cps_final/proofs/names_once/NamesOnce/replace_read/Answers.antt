use Rattle.std.proofs.Common.{◌≡◌, ◌∙◌, true, rules}
use Rattle.std.specs.Prelude.{is_ok}
use Rattle.std.proofs.lemmas.Result.{on_ok_weaker}
use Rattle.cps_final.proofs.OutcomeLemmas.{all-few, all-many, at_ok, read-made}
use Rattle.cps_final.proofs.names_once.NamesOnce.replace_read.Goals as goal

pub returns-then-is_ok : goal.returns-then-is_ok
returns-then-is_ok c =
    let ok : is_ok c.insert_read.result ≡ true = search rules in
    all-few _ _ c.clear_set.ensures
    ∙ read-made c.args.reads.now c.args.items.now _ _ c.clear.ensures.items (at_ok c.insert_read.result ok c.insert_read.ensures)

pub returns : goal.returns
returns c =
    on_ok_weaker c.insert_read-2.result
    (λ read. all-many _ _ c.clear-2.ensures.items ∙ read-made c.args.reads.now c.args.items.now _ _ c.clear_set.ensures read) c.insert_read-2.ensures
