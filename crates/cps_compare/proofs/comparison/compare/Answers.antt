use Rattle.std.proofs.Common.{subst, arith}
use Rattle.cps_compare.specs.Comparison.{SomeGiven, findings_in}
use Rattle.cps_compare.proofs.comparison.compare.Goals as goal

pub returns-in_default-span : goal.returns-in_default-span
returns-in_default-span g c =
    let assembly = g.V.View.assembly c.args.view.now in
    let found = findings_in c.args.options c.args.octal.now assembly in
    let kept = c.in-Ok.ensures in
    let count = (c.rows.ensures assembly found kept).count_read in
    let some = c.if-rows-eq0.false in
    record {
      some = omega (arith, count, some);
      none = c.in_default-span.ensures.span assembly found kept;
    }

pub returns-then-not-gives_some : goal.returns-then-not-gives_some
returns-then-not-gives_some g c =
    let assembly = g.V.View.assembly c.args.view.now in
    let found = findings_in c.args.options c.args.octal.now assembly in
    let kept = c.in-Ok.ensures in
    record {
      limits = c.in-Some.ensures.span assembly found kept;
      none = subst (SomeGiven found c.in-Some.span.low c.in-Some.span.high) c.if-not-gives_some.true (c.gives_some.ensures assembly found kept);
    }

pub returns-in-Ok-tell_all : goal.returns-in-Ok-tell_all
returns-in-Ok-tell_all g c =
    let assembly = g.V.View.assembly c.args.view.now in
    let found = findings_in c.args.options c.args.octal.now assembly in
    let kept = c.in-Ok.ensures in
    let told = c.in-Ok-tell_all.ensures found kept in
    record {
      low = c.in-Some.span.low;
      high = c.in-Some.span.high;
      limits = c.in-Some.ensures.span assembly found kept;
      some = subst (SomeGiven found c.in-Some.span.low c.in-Some.span.high) c.if-not-gives_some.false (c.gives_some.ensures assembly found kept);
      drift = told.drift;
      is_drift = told.is_drift;
      text = told.text;
      count = told.count;
    }
