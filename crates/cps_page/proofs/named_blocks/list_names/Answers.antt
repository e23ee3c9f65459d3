use Rattle.std.proofs.Common.{List, subst, sym}
use Rattle.cps_text.specs.declared.name.Name.{Name}
use Rattle.cps_page.specs.Code.Making.{AreBlocks}
use Rattle.cps_page.proofs.BlockLemmas.{blocks-none}
use Rattle.cps_page.proofs.named_blocks.list_names.Goals as goal

pub loop-block-init : goal.loop-block-init
loop-block-init c = subst (λ (names : List Name). AreBlocks names) (sym c.new-names.ensures.items) blocks-none
