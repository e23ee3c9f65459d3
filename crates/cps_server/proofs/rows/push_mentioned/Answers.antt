use Rattle.std.proofs.Common.{arith, ◌++◌, ◌<◌, length, sym, ap, ◌∙◌}
use Rattle.std.proofs.lemmas.Bool.Decides.{nat_tests}
use Rattle.std.proofs.lemmas.Result.{on_ok_weaker}
use Rattle.cps_final.specs.contracts.finals.FinalsGathered.TheImpl.{gathered-value}
use Rattle.cps_server.proofs.RowLemmas.{row-filled}
use Rattle.cps_server.proofs.rows.push_mentioned.Goals as goal

pub returns : goal.returns
returns c =
    let some : 0 < length c.args.mentions.now = grind (arith, nat_tests) in
    on_ok_weaker c.push_symbol.result (λ pushed. pushed ∙ ap (λ t. c.args.text.now.items ++ t) (sym (row-filled (gathered-value.it c.args.finals.now) c.args.name c.args.mentions.now some))) c.push_symbol.ensures
