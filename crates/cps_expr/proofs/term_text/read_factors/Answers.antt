use Rattle.std.proofs.Common.{refl, ◌∙◌, sym, ap}
use Rattle.std.specs.Prelude.{is_none}
use Rattle.cps_expr.specs.Term.{tokens_of, factors_of}
use Rattle.cps_expr.proofs.JoinLemmas.{joined, joined-none, joined-kept, readable-more, unreadable}
use Rattle.cps_expr.proofs.FactorReading.{end-readable}
use Rattle.cps_expr.proofs.term_text.read_factors.Goals as goal

pub loop-rest-init : goal.loop-rest-init
loop-rest-init c =
    let whole = factors_of c.args.radix (tokens_of c.args.text.now) in
    record { readable = refl; factors = ap (λ items. joined items whole) c.new.ensures.items ∙ joined-none whole }

pub returns-in-None-clause-unreadable : goal.returns-in-None-clause-unreadable
returns-in-None-clause-unreadable c =
    (λ is. unreadable (factors_of c.args.radix (tokens_of c.loop-rest.rest.now)) (factors_of c.args.radix (tokens_of c.args.text.now)) c.loop-rest.invariant.readable c.in-None.ensures, λ none. refl)

pub loop-rest-preserved : goal.loop-rest-preserved
loop-rest-preserved c =
    let left = factors_of c.args.radix (tokens_of c.loop-rest.rest.now) in
    let rest = factors_of c.args.radix (tokens_of c.in-Some.behind.now) in
    let whole = factors_of c.args.radix (tokens_of c.args.text.now) in
    record {
      readable = sym (readable-more c.in-Some.factor rest) ∙ sym (ap is_none c.in-Some.ensures.0) ∙ c.loop-rest.invariant.readable;
      factors = joined-kept (λ kept. kept.items) c.loop-rest.factors c.push_factor.new.factors c.in-Some.factor left rest whole c.in-Some.ensures.0 c.push_factor.ensures c.loop-rest.invariant.factors;
    }

pub returns-clause-memory : goal.returns-clause-memory
returns-clause-memory c = λ is. end-readable c.args.radix c.loop-rest.rest.now (factors_of c.args.radix (tokens_of c.args.text.now)) (sym c.is_empty.ensures ∙ c.loop-rest-test.false) c.loop-rest.invariant.readable
