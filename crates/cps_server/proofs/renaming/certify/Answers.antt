use Rattle.std.proofs.Common.{rules, subst}
use Rattle.cps_server.specs.Code.Renaming.{edits_of}
use Rattle.cps_server.specs.Renames.{IsSameText}
use Rattle.cps_server.proofs.renaming.certify.Goals as goal

pub returns : goal.returns
returns c =
    let calling = c.calling-calling.result in (
      calling,
      edits_of c.args.edits.now,
      c.is_wished.ensures (search rules),
      subst (IsSameText calling c.args.trial.deck.document.now) c.in_ok-after.ensures (c.in_ok-line.ensures c.in_default.is),
      c.in_ok-json.ensures,
    )
