use Rattle.std.proofs.Common.{ap, ◌∙◌}
use Rattle.cps_final.specs.declared.changes.Changes.{Changes}
use Rattle.cps_final.specs.Changes.{changed}
use Rattle.cps_final.specs.Code.Kept.{changes_in}
use Rattle.cps_final.specs.Layout.{puts_of}
use Rattle.cps_chunk.specs.Code.Compared.{compared}
use Rattle.cps_chunk.proofs.ComparedLemmas.{closed}
use Rattle.cps_chunk.proofs.change_log.ChangeLog.close.Goals as goal

pub returns-clause-changes : goal.returns-clause-changes
returns-clause-changes g c news were =
    let before = g.L.Lookup.answer c.args.before.now in
    let log = c.take_all.new.self in
    closed (changes_in c.args.self.now.changes) _ _ _ before (puts_of c.args.gone.now) news _ were c.in_ok-take_all.ensures.present c.in_ok-take_all.ensures.former
    (c.in_ok-compare_all.ensures
    ∙ ap (λ (now : Changes). compared (changes_in now) (changes_in log.present) (changed (changes_in log.former) before)) c.take_all.ensures.changes)
