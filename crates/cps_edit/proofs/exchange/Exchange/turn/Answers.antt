use Rattle.cps_edit.proofs.ListLemmas.{rotated}
use Rattle.cps_edit.proofs.exchange.Exchange.turn.Goals as goal

pub returns : goal.returns
returns g c = rotated c.args.items.now c.args.self c.requires c.rotate_left.new.self c.rotate_left.ensures.after
