use Rattle.cps_server.proofs.RenameLemmas.{same-text}
use Rattle.cps_server.proofs.renaming.changed_line.Goals as goal

pub returns-then-branch : goal.returns-then-branch
returns-then-branch c =
    λ none. same-text c.args.calling c.args.before.now c.args.after.now c.session.result.now.lines c.session-2.result.now.lines c.session.ensures c.session-2.ensures
    (c.in_ok-is_same_but.ensures c.if-branch.true)
