use Rattle.std.proofs.Common.{List, refl, subst, map}
use Rattle.cps_text.specs.declared.name.Name.{Name}
use Rattle.cps_code.specs.declared.hole.Hole.{Hole}
use Rattle.cps_code.specs.Operand.{operand_names}
use Rattle.cps_state.specs.declared.key.Key.TheVariants as key
use Rattle.cps_chunk.specs.KeyFilter.{AreMarked}
use Rattle.cps_chunk.proofs.MarkLemmas.{names-more, names-all}
use Rattle.cps_chunk.proofs.key_filter.KeyFilter.mark_holes.Goals as goal

-- the names that the operand of a hole reads
abbrev names_of : Hole → List Name
names_of hole = operand_names hole.operand

pub loop-hole-preserved : goal.loop-hole-preserved
loop-hole-preserved c =
    names-more c.args.hashing names_of c.args.holes.now c.loop-hole.hole-index c.hole-item.result c.args.self.now c.loop-hole.self c.mark_labels.new.self c.loop-hole-test.true c.hole-item.is
    c.loop-hole.invariant (subst (λ names. AreMarked c.args.hashing c.mark_labels.new.self (map key.Label names)) c.names.ensures c.mark_labels.ensures.marked) c.mark_labels.ensures.kept

pub returns-clause-marked : goal.returns-clause-marked
returns-clause-marked c =
    names-all c.args.hashing names_of c.args.holes.now c.args.holes.now c.loop-hole.hole-index c.args.self.now c.loop-hole.self c.loop-hole-test.false refl c.loop-hole.invariant
