use Rattle.std.proofs.Common.{arith, ◌≡◌, ◌≤◌, [], drop, length, subst, sym}
use Rattle.std.proofs.lemmas.List.{append-nil, drop_all}
use Rattle.std.specs.List.{AllZip}
use Rattle.cps_edit.specs.Assembly.{assembly_of}
use Rattle.cps_server.specs.Document.{source_of_text}
use Rattle.cps_server.specs.Outline.{TellsSymbol}
use Rattle.cps_server.specs.Code.Outlining.{TellsPlaced}
use Rattle.cps_server.proofs.symbols.tell_definitions.Goals as goal

pub returns : goal.returns
returns c =
    let definitions = c.args.definitions.now in
    let Tells = TellsPlaced (TellsSymbol (assembly_of (source_of_text c.args.deck.document.now)).finals) in
    let all : length definitions ≤ c.loop-definition.definition-index = omega (arith, c.loop-definition-test.false) in
    let none : drop c.loop-definition.definition-index definitions ≡ [] = drop_all c.loop-definition.definition-index definitions all in
    subst (AllZip Tells definitions) (append-nil c.loop-definition.told.items) (c.loop-definition.invariant [] (subst (λ ms. AllZip Tells ms []) (sym none) tt))
