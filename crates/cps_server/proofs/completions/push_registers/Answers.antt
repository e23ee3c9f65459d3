use Rattle.std.proofs.Common.{◌≤◌, length, subst, ap, ◌∙◌, arith}
use Rattle.std.specs.Prelude.{codes, flat_map}
use Rattle.std.proofs.lemmas.List.{take_all}
use Rattle.cps_server.specs.Completions.{offers_of, with_digits}
use Rattle.cps_server.specs.Code.Telling.{AddsOffers, texts}
use Rattle.cps_server.proofs.completions.push_registers.Goals as goal

pub returns : goal.returns
returns c =
    let letters = c.register_letters-letters.result.now in
    let at = c.loop-letter.letter-index in
    let all : length letters ≤ at = omega (arith, c.loop-letter-test.false) in
    subst (λ names. AddsOffers c.args.range.now (offers_of 6 (codes "register") (flat_map with_digits names)) c.args.told.now.items c.loop-letter.told.items)
    (ap texts (take_all at letters all) ∙ c.register_letters-letters.ensures) c.loop-letter.invariant
