use Rattle.std.proofs.Common.{Some, map, option_map, ap, sym, ◌∙◌}
use Rattle.serde_json.specs.View.{view}
use Rattle.cps_rpc.specs.Params as params
use Rattle.cps_rpc.proofs.ListLemmas.{items-kept}
use Rattle.cps_rpc.proofs.member.list_in.Goals as goal

pub returns-in-Some : goal.returns-in-Some
returns-in-Some c =
    ap Some (ap (map view) c.deref.ensures.value ∙ sym (items-kept (map view c.in-Some.items.now.items)))
    ∙ ap (option_map params.items_in) c.in-Some.ensures
