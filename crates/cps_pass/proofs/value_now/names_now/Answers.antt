use Rattle.std.proofs.Common.{rules, ◌∙◌}
use Rattle.cps_pass.proofs.CourseLemmas.{names-next}
use Rattle.cps_pass.proofs.value_now.names_now.Goals as goal

pub loop-name-preserved : goal.loop-name-preserved
loop-name-preserved g c = λ next rest.
    names-next c.args.names.now c.loop-name.name-index _ c.in_ok-name_now.field-0 c.loop-name.now.items c.push.new.self.items g.L.Lookup.answer c.loop-name.recorder c.name_now.new.recorder
    c.loop-name-test.true (search rules) c.in_ok-name_now.ensures next rest ∙ c.loop-name.invariant next rest
