use Rattle.std.proofs.Common.{arith, ◌≡◌, ◌≤◌, [], drop, length, subst, sym}
use Rattle.std.proofs.lemmas.List.{append-nil, drop_all}
use Rattle.std.specs.List.{AllZip}
use Rattle.cps_server.specs.Outline.{TellsMacro}
use Rattle.cps_server.specs.Code.Outlining.{TellsPlaced}
use Rattle.cps_server.proofs.symbols.tell_macros.Goals as goal

pub returns : goal.returns
returns c =
    let names = c.args.names.now in
    let Tells = TellsPlaced TellsMacro in
    let all : length names ≤ c.loop-name.name-index = omega (arith, c.loop-name-test.false) in
    let none : drop c.loop-name.name-index names ≡ [] = drop_all c.loop-name.name-index names all in
    subst (AllZip Tells names) (append-nil c.loop-name.told.items) (c.loop-name.invariant [] (subst (λ ms. AllZip Tells ms []) (sym none) tt))
