use Rattle.std.proofs.Common.{[], ◌∷◌, refl, arith}
use Rattle.std.proofs.lemmas.Bool.Decides.{nat_tests}
use Rattle.cps_input.proofs.BegunLemmas.{begun-room, begun-full}
use Rattle.cps_input.proofs.begun_line.BegunLine.push.Goals as goal

pub returns-then-not-is_full : goal.returns-then-not-is_full
returns-then-not-is_full c = λ begun is. begun-room c.args.self.now _ begun (c.args.byte ∷ []) is (grind (arith, nat_tests)) c.push.ensures.items refl

pub returns : goal.returns
returns c = λ begun is. begun-full c.args.self.now _ begun c.args.byte is (grind (arith, nat_tests)) refl c.past_after-self.ensures
