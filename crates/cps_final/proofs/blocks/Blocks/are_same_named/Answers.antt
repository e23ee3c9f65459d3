use Rattle.std.proofs.Common.{sym, ◌∙◌}
use Rattle.cps_final.proofs.BlockLemmas.{are-same_named}
use Rattle.cps_final.proofs.blocks.Blocks.are_same_named.Goals as goal

pub returns : goal.returns
returns c same =
    are-same_named c.args.self.now.named c.args.other.now.named c.args.self.now.nominal c.args.other.now.nominal c.as_slice.result c.as_slice-2.result
    c.as_slice.ensures.entries c.as_slice-2.ensures.entries (sym c.eq.ensures ∙ same)
