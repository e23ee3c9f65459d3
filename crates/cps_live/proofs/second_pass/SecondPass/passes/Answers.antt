use Rattle.std.proofs.Common.{rules, ◌≡◌, false, Option, sym, ap, subst, ◌∙◌}
use Rattle.std.specs.Prelude.{IfSome}
use Rattle.cps_final.specs.NamedFinals.{NamedFinals, all_pass, names_in}
use Rattle.cps_live.specs.Code.Differences.{passes}
use Rattle.cps_live.proofs.SecondPassLemmas.{exact-names}
use Rattle.cps_live.proofs.second_pass.SecondPass.passes.Goals as goal

pub returns-then-not-may_have-clause-passes : goal.returns-then-not-may_have-clause-passes
returns-then-not-may_have-clause-passes c =
    let out : c.may_have.result ≡ false = search rules in
    sym (sym (exact-names c.args.self.now c.requires.exact (names_in c.args.olds.now)) ∙ c.may_have.ensures out c.args.self.now.base.hashing c.args.olds.now c.requires.exact.sought c.requires.chunk.names)

pub returns-in-Some-clause-passes : goal.returns-in-Some-clause-passes
returns-in-Some-clause-passes c =
    let pass = c.args.self.now in
    let is : c.in-Some.names ≡ names_in c.args.olds.now =
    subst (λ (kept : Option NamedFinals). IfSome kept (λ names. names ≡ names_in c.args.olds.now)) c.in-Some.is c.gather_names.ensures.chunk.names_kept in
    c.all_pass.ensures ∙ ap (λ (names : NamedFinals). all_pass (passes pass.differences) names) is
    ∙ exact-names pass c.requires.exact (names_in c.args.olds.now)
