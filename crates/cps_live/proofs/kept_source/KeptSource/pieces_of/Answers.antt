use Rattle.std.proofs.Common.{arith, ◌∙◌, ap}
use Rattle.std.specs.Prelude.{sum}
use Rattle.cps_live.proofs.ExchangeLemmas.{lines-total}
use Rattle.cps_live.proofs.kept_source.KeptSource.pieces_of.Goals as goal

pub recut_exchange-requires-clause-few : goal.recut_exchange-requires-clause-few
recut_exchange-requires-clause-few c =
    let kept = c.args.self.now in
    let all = ap sum (c.deref.ensures.value ∙ c.in_ok-lengths.ensures) ∙ lines-total c.requires.kept.lines in
    omega (arith, all, kept.lines.ok.0, c.requires.few)

pub recut_exchange-requires-clause-within : goal.recut_exchange-requires-clause-within
recut_exchange-requires-clause-within c =
    let kept = c.args.self.now in
    let all = ap sum (c.deref.ensures.value ∙ c.in_ok-lengths.ensures) ∙ lines-total c.requires.kept.lines in
    omega (arith, all, kept.lines.ok.0, c.requires.runs.within)
