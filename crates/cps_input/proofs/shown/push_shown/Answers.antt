use Rattle.std.proofs.Common.{◌≡◌, ◌++◌, ◌<◌, length, length-drop, ap, ◌∙◌, arith}
use Rattle.std.specs.Option.{option_map_or}
use Rattle.std.specs.Prelude.{codes}
use Rattle.std.proofs.lemmas.Bool.Decides.{nat_tests}
use Rattle.cps_input.specs.Shown.{shown, shown_character}
use Rattle.cps_input.proofs.ShownLemmas.{piece-size, shown-all, shown-more, shown-safe}
use Rattle.cps_input.proofs.shown.push_shown.Goals as goal

pub returns-in_err-push_piece-clause-safe : goal.returns-in_err-push_piece-clause-safe
returns-in_err-push_piece-clause-safe c = shown-safe c.args.line.now

pub returns-clause-safe : goal.returns-clause-safe
returns-clause-safe c = shown-safe c.args.line.now

pub loop-rest-smaller : goal.loop-rest-smaller
loop-rest-smaller c =
    let rest = c.loop-rest.rest.now in
    let some : 0 < length rest = grind (arith, nat_tests) in
    let size = piece-size rest c.decode-character.result.1 some c.decode-character.ensures.size in
    let less = ap length c.behind-rest.ensures ∙ length-drop c.decode-character.result.1 rest in
    omega arith

pub loop-rest-preserved : goal.loop-rest-preserved
loop-rest-preserved c =
    let text = c.loop-rest.text.items in
    let rest = c.loop-rest.rest.now in
    let character = c.decode-character.result.0 in
    let size = c.decode-character.result.1 in
    let some : 0 < length rest = grind (arith, nat_tests) in
    ap (λ front. front ++ shown c.behind-rest.result.now) c.in_ok-push_piece.ensures
    ∙ ap (λ later. (text ++ option_map_or shown_character character (codes "?")) ++ shown later) c.behind-rest.ensures
    ∙ shown-more text rest character size some c.decode-character.ensures.char c.decode-character.ensures.size
    ∙ c.loop-rest.invariant

pub returns-clause-ok : goal.returns-clause-ok
returns-clause-ok c =
    let rest = c.loop-rest.rest.now in
    let none : length rest ≡ 0 = grind (arith, nat_tests) in
    shown-all c.loop-rest.text.items rest _ none c.loop-rest.invariant
