use Rattle.std.proofs.Common.{List, subst, map, flat_map}
use Rattle.cps_text.specs.declared.name.Name.{Name}
use Rattle.cps_state.specs.declared.item.Item.{Item}
use Rattle.cps_state.specs.declared.key.Key.TheVariants as key
use Rattle.cps_state.specs.Made.{content_names}
use Rattle.cps_chunk.specs.KeyFilter.{AreMarked, names_at}
use Rattle.cps_chunk.proofs.MarkLemmas.{names-more, names-all, marked-line}
use Rattle.cps_chunk.proofs.key_filter.KeyFilter.mark_names.Goals as goal

-- the names that the contents of a statement read
abbrev names_of : Item → List Name
names_of item = flat_map content_names item.made.contents

pub loop-item-preserved : goal.loop-item-preserved
loop-item-preserved c =
    names-more c.args.hashing names_of c.items-item-items.result.now c.loop-item.item-index c.item-item.result c.args.self.now c.loop-item.self c.mark_contents.new.self c.loop-item-test.true c.item-item.is
    c.loop-item.invariant (subst (λ contents. AreMarked c.args.hashing c.mark_contents.new.self (map key.Label (flat_map content_names contents))) c.contents.ensures.contents c.mark_contents.ensures.marked)
    c.mark_contents.ensures.kept

pub returns-clause-marked : goal.returns-clause-marked
returns-clause-marked c =
    marked-line c.args.hashing c.loop-item.self names_at c.args.trace.now
    (names-all c.args.hashing names_of c.items-item-items.result.now c.args.trace.now.items c.loop-item.item-index c.args.self.now c.loop-item.self c.loop-item-test.false c.items-item-items.ensures c.loop-item.invariant)
