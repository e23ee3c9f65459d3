use Rattle.std.proofs.Common.{rules, ◌≡◌, ◌≤◌, [], drop, length, map, subst, sym, arith}
use Rattle.std.proofs.lemmas.List.{append-nil, drop_all}
use Rattle.std.specs.List.{AllZip}
use Rattle.serde_json.specs.View.{view}
use Rattle.cps_server.specs.Openers.{TellsPartner}
use Rattle.cps_server.proofs.openers.tell_partners.Goals as goal

pub returns : goal.returns
returns c =
    let lines = c.args.lines.now in
    let all : length lines ≤ c.loop-line.line-index = omega (arith, c.loop-line-test.false) in
    let none : drop c.loop-line.line-index lines ≡ [] = drop_all c.loop-line.line-index lines all in (
      map view c.loop-line.told.items,
      subst (AllZip TellsPartner lines) (append-nil (map view c.loop-line.told.items)) (c.loop-line.invariant [] (subst (λ ms. AllZip TellsPartner ms []) (sym none) tt)),
      search rules,
    )
