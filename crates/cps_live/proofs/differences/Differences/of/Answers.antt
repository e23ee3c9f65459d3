use Rattle.std.proofs.Common.{sym, ap, ◌∙◌}
use Rattle.std.specs.List.{list_any}
use Rattle.cps_live.specs.Code.NamesRead.{has_name}
use Rattle.cps_live.proofs.DifferenceLemmas.{known, listed-exact, none-true}
use Rattle.cps_live.proofs.differences.Differences.of.Goals as goal

pub returns-clause-exact : goal.returns-clause-exact
returns-clause-exact c =
    listed-exact c.args.ends (c.places_stand.ensures c.if-not-places_stand.false) c.in_ok-labels.labels.items c.in_ok-labels.ensures

pub returns-clause-known : goal.returns-clause-known
returns-clause-known c = λ yes ts.
    let none = ap (list_any (has_name c.args.read.now)) (sym c.deref-2.ensures.value) ∙ sym c.has_read-unread.ensures ∙ none-true c.has_read-unread.result yes in
    known c.args.ends c.args.read.now c.in_ok-labels.labels.items none ts
