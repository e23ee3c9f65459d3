use Rattle.std.proofs.Common.{◌+◌, ◌-◌, refl, true}
use Rattle.cps_pass.specs.Expansion.{too_deep}
use Rattle.cps_pass.proofs.WalkLemmas.{lined, opened-some, opened-none}
use Rattle.cps_pass.proofs.expansion.go_through_line.Goals as goal
use Rattle.cps_pass.proofs.expansion.go_through_line.Goals.{in-Some+in_ok-see_opened-in-Some+in_ok-complete-in-Some, in-None}

pub returns : goal.returns
returns g c =
    let f = g.L.Lookup.answer in
    let first = c.args.recorder.now in
    let line = c.args.line.now in
    let later = c.step_statement.new.scope in
    let opened = c.in_ok-opened.opened in
    let own = c.step_statement.new.recorder in
    elim c.match-opened.branch [
      | in-Some+in_ok-see_opened-in-Some+in_ok-complete-in-Some w ↦ rw (w.recorder-is, w.complete-is) (lined line later opened w.in_ok-complete-in-Some.complete f first own c.settle.new.self w.expand.new.recorder c.in_ok-opened.ensures c.settle.ensures
          (opened-some (too_deep + 1 - 1) too_deep 1 opened w.in-Some.opened w.in_ok-complete-in-Some.complete w.in_ok-complete-in-Some.complete f c.settle.new.self w.expand.new.recorder w.in-Some.is refl refl w.in_ok-complete-in-Some.ensures))
      | in-None w ↦ rw (w.recorder-is, w.complete-is) (lined line later opened true f first own c.settle.new.self c.settle.new.self c.in_ok-opened.ensures c.settle.ensures
          (opened-none too_deep 1 opened f c.settle.new.self w.in-None.is))
    ]
