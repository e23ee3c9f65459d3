use Rattle.std.proofs.Common.{rules, ◌≡◌, refl, true, Some, slice_get, map, sym, ap, ◌∙◌}
use Rattle.std.proofs.lemmas.Option.{slice_get_read}
use Rattle.cps_server.specs.Code.Opened.{value_of}
use Rattle.cps_server.specs.ServerState.{is_under, open_under}
use Rattle.cps_server.proofs.TextLemmas.{drop-there, open-first}
use Rattle.cps_server.proofs.open_texts.place_of.Goals as goal

pub returns-then-eq-clause-found : goal.returns-then-eq-clause-found
returns-then-eq-clause-found c =
    let one = c.index-list-at.result in
    let under : is_under c.args.uri.now (value_of one) ≡ true = search rules in
    let there : slice_get c.args.list.now c.loop-at.at ≡ Some one = slice_get_read c.args.list.now _ c.loop-at.at one refl c.loop-at-test.true c.index-list-at.is in
    record {
      one = one;
      there = there;
      under = under;
      found = sym c.loop-at.invariant ∙ ap (λ xs. open_under c.args.uri.now (map value_of xs)) (drop-there c.args.list.now c.loop-at.at one there)
          ∙ open-first c.args.uri.now (value_of one) _ under;
    }
