use Rattle.std.proofs.Common.{arith, ◌≡◌, ◌≤◌, [], drop, length, map, subst, sym}
use Rattle.std.proofs.lemmas.List.{append-nil, drop_all}
use Rattle.std.specs.List.{AllZip}
use Rattle.serde_json.specs.View.{view}
use Rattle.cps_server.specs.Outline.{TellsHeading}
use Rattle.cps_server.proofs.symbols.tell_headings.Goals as goal

pub returns : goal.returns
returns c =
    let headings = c.args.headings.now in
    let all : length headings ≤ c.loop-heading.heading-index = omega (arith, c.loop-heading-test.false) in
    let none : drop c.loop-heading.heading-index headings ≡ [] = drop_all c.loop-heading.heading-index headings all in
    subst (AllZip TellsHeading headings) (append-nil (map view c.loop-heading.told.items)) (c.loop-heading.invariant [] (subst (λ ms. AllZip TellsHeading ms []) (sym none) tt))
