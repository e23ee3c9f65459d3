use Rattle.std.proofs.Common.{List, flat_map, map, refl, subst}
use Rattle.cps_code.specs.declared.hole.Hole.{Hole}
use Rattle.cps_code.specs.Operand.{operand_names}
use Rattle.cps_state.specs.declared.key.Key.TheVariants as key
use Rattle.cps_state.specs.Made.{content_names}
use Rattle.cps_chunk.specs.KeyFilter.{AreMarked}
use Rattle.cps_chunk.proofs.MarkLemmas.{names-more, names-all}
use Rattle.cps_chunk.proofs.key_filter.KeyFilter.mark_contents.Goals as goal

pub loop-content-preserved : goal.loop-content-preserved
loop-content-preserved c =
    names-more c.args.hashing content_names c.args.contents.now c.loop-content.content-index c.content-item.result c.args.self.now c.loop-content.self c.mark_holes.new.self c.loop-content-test.true
    c.content-item.is c.loop-content.invariant
    (subst (λ (holes : List Hole). AreMarked c.args.hashing c.mark_holes.new.self (map key.Label (flat_map (λ hole. operand_names hole.operand) holes))) c.holes.ensures c.mark_holes.ensures.marked)
    c.mark_holes.ensures.kept

pub returns-clause-marked : goal.returns-clause-marked
returns-clause-marked c =
    names-all c.args.hashing content_names c.args.contents.now c.args.contents.now c.loop-content.content-index c.args.self.now c.loop-content.self c.loop-content-test.false refl c.loop-content.invariant
