use Rattle.std.proofs.Common.{◌≡◌, ◌∙◌, true, rules}
use Rattle.std.specs.Prelude.{is_ok}
use Rattle.std.proofs.lemmas.Result.{on_ok_weaker}
use Rattle.cps_final.proofs.OutcomeLemmas.{all-few, all-many, at_ok, defined-made}
use Rattle.cps_final.proofs.names_once.NamesOnce.replace_defined.Goals as goal

pub returns-then-is_ok : goal.returns-then-is_ok
returns-then-is_ok c =
    let ok : is_ok c.insert_defined.result ≡ true = search rules in
    all-few _ _ c.clear_set.ensures
    ∙ defined-made c.args.puts.now _ _ c.clear.ensures.items (at_ok c.insert_defined.result ok c.insert_defined.ensures)

pub returns : goal.returns
returns c =
    on_ok_weaker c.insert_defined-2.result
    (λ defined. all-many _ _ c.clear-2.ensures.items ∙ defined-made c.args.puts.now _ _ c.clear_set.ensures defined) c.insert_defined-2.ensures
