use Rattle.std.proofs.Common.{◌≡◌, false, List, subst, sym, rules}
use Rattle.std.specs.List.{list_any}
use Rattle.cps_text.specs.declared.name.Name.{Name}
use Rattle.cps_expr.specs.Value.{same_name}
use Rattle.cps_page.specs.Code.Making.{AreBlocks}
use Rattle.cps_page.proofs.BlockLemmas.{block-more}
use Rattle.cps_page.proofs.named_blocks.add_name.Goals as goal

pub returns-in_ok-push : goal.returns-in_ok-push
returns-in_ok-push c =
    let names = c.args.names.now.items in
    let other : list_any (same_name c.args.name) names ≡ false = search rules in
    subst (λ (all : List Name). AreBlocks all) (sym c.in_ok-push.ensures.items) (block-more names c.args.name c.requires other (c.is_written.ensures c.if-is_written.true))
