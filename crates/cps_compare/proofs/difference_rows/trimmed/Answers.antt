use Rattle.std.proofs.Common.{drop, sym, ap, ◌∙◌, arith}
use Rattle.std.specs.List.{position_or_len}
use Rattle.std.proofs.lemmas.List.{take_rest, drop_all}
use Rattle.cps_text.specs.Text.{is_filled}
use Rattle.cps_text.proofs.PlaceLemmas.{position_or_len-none}
use Rattle.cps_compare.proofs.CutLemmas.{place-Some}
use Rattle.cps_compare.proofs.difference_rows.trimmed.Goals as goal

pub returns-in-Some : goal.returns-in-Some
returns-in-Some c =
    let line = c.args.line.now in
    take_rest line c.in-Some.at ∙ ap (λ n. drop n line) (sym (place-Some is_filled line c.in-Some.at c.in-Some.ensures.place))

pub returns-in-None : goal.returns-in-None
returns-in-None c =
    let line = c.args.line.now in
    let all = position_or_len-none is_filled line c.in-None.ensures.place in
    sym (drop_all (position_or_len is_filled line) line (omega (arith, all)))
