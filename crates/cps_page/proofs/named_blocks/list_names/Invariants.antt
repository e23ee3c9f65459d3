use Rattle.cps_page.specs.Code.Making.{AreBlocks}
use Rattle.cps_page.proofs.named_blocks.list_names.Given as goal

abbrev pub invariant-loop-block : goal.invariant-loop-block
invariant-loop-block l = AreBlocks l.names.items
