use Rattle.cps_rpc.proofs.PlaceLemmas.{max-other, max-one}
use Rattle.cps_rpc.proofs.spot.Spot.max.Goals as goal

pub returns-then-self-other : goal.returns-then-self-other
returns-then-self-other c = λ lines is are. max-other lines c.args.self c.args.other is are c.if-self-other.true

pub returns-then-other-self : goal.returns-then-other-self
returns-then-other-self c = λ lines is are. max-one lines c.args.self c.args.other is are c.if-other-self.true
