use Rattle.std.proofs.Common.{rules, ◌≡◌, cond, Some, ap, ◌∙◌}
use Rattle.std.specs.Prelude.{unwrap_or}
use Rattle.std.specs.BTreeMap.{get}
use Rattle.std.specs.BTreeMap.Entry.{map_with_value}
use Rattle.std.specs.Ordering.{is_eq}
use Rattle.cps_text.specs.Code.NameNumbers.{number_of, number_order}
use Rattle.cps_text.proofs.SubstituteLemmas.{indexes-entered}
use Rattle.cps_text.proofs.substitutes.enter.Goals as goal

pub returns-clause-ok : goal.returns-clause-ok
returns-clause-ok c =
    let index = c.args.index.now in
    let name = c.args.pair.now.0 in
    let text : c.or_insert.result.now ≡ unwrap_or (get number_order index (number_of name)) c.args.pair.now.1 =
    c.or_insert.ensures.value ∙ ap (λ found. unwrap_or found c.args.pair.now.1) (c.in_ok-index.ensures.value ∙ ap (get number_order index) c.of.ensures.number) in
    λ pairs was.
    let entered = indexes-entered pairs index (map_with_value c.in_ok-index.field-0 c.or_insert.result.now) name c.args.pair.now.1 c.of.ensures.bytes
    (λ n. (c.in_ok-index.ensures.update.0 c.or_insert.result.now).0 n
    ∙ (λ i. cond (is_eq (number_order (c.of.ensures.number i) n)) (Some (text i)) (get number_order index n)))
    was in
    λ other also. search (entered, rules)
