use Rattle.std.proofs.Common.{[], refl, get_or}
use Rattle.std.proofs.lemmas.List.{get_or_default}
use Rattle.cps_text.specs.declared.name.Name.{Name}
use Rattle.cps_state.specs.declared.key.Key.TheVariants as key
use Rattle.cps_chunk.proofs.MarkLemmas.{key-more, keys-all}
use Rattle.cps_chunk.proofs.key_filter.KeyFilter.mark_labels.Goals as goal

pub loop-name-preserved : goal.loop-name-preserved
loop-name-preserved c =
    let none : Name = record { bytes = [] } in
    let name : Name = get_or c.args.names.now c.loop-name.name-index none in
    key-more c.args.hashing key.Label c.args.names.now c.loop-name.name-index name c.args.self.now c.loop-name.self c.mark.new.self c.loop-name-test.true
    (get_or_default c.args.names.now c.loop-name.name-index none name c.loop-name-test.true) c.loop-name.invariant c.mark.ensures.marked c.mark.ensures.kept

pub returns-clause-marked : goal.returns-clause-marked
returns-clause-marked c =
    keys-all c.args.hashing key.Label c.args.names.now c.args.names.now c.loop-name.name-index c.args.self.now c.loop-name.self c.loop-name-test.false refl c.loop-name.invariant
