use Rattle.std.proofs.Common.{All, Contains, subst, ◌∙◌}
use Rattle.cps_mention.proofs.agreeing.say_all.Goals as goal

pub returns : goal.returns
returns c =
    λ is. subst (λ said. All (Contains said) c.args.entries.now) (c.deref-2.ensures.value ∙ c.in_ok-said.ensures) (c.has_all.ensures is)
