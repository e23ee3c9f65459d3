use Rattle.std.proofs.Common.{◌≡◌, ◌<◌, drop, length, length-drop, ap, ◌∙◌, arith}
use Rattle.std.proofs.lemmas.Bool.Decides.{nat_tests}
use Rattle.bstr.specs.Utf8.{decoded}
use Rattle.cps_input.specs.Shown.{shown_width}
use Rattle.cps_input.proofs.ShownLemmas.{piece-size, width-none, width-step}
use Rattle.cps_input.proofs.shown.shown_width.Goals as goal

pub loop-rest-smaller : goal.loop-rest-smaller
loop-rest-smaller c =
    let rest = c.loop-rest.rest.now in
    let some : 0 < length rest = grind (arith, nat_tests) in
    let size = piece-size rest c.decode-size.result.1 some c.decode-size.ensures.size in
    let less = ap length c.behind-rest.ensures ∙ length-drop c.decode-size.result.1 rest in
    omega arith

pub loop-rest-preserved : goal.loop-rest-preserved
loop-rest-preserved c =
    let rest = c.loop-rest.rest.now in
    let later = c.behind-rest.result.now in
    let some : 0 < length rest = grind (arith, nat_tests) in
    let size = piece-size rest c.decode-size.result.1 some c.decode-size.ensures.size in
    let less : length later ≡ length (drop c.decode-size.result.1 rest) = ap length c.behind-rest.ensures in
    let len = length-drop c.decode-size.result.1 rest in
    let same : shown_width later ≡ shown_width (drop (decoded rest).size rest) =
    ap shown_width (c.behind-rest.ensures ∙ ap (λ n. drop n rest) c.decode-size.ensures.size) in
    let step = width-step rest some in
    let counted = c.loop-rest.invariant.counted in
    let few = c.loop-rest.invariant.few in
    record { counted = omega arith; few = omega arith }

pub returns : goal.returns
returns c =
    let rest = c.loop-rest.rest.now in
    let none : length rest ≡ 0 = grind (arith, nat_tests) in
    let width = width-none rest none in
    let counted = c.loop-rest.invariant.counted in
    omega arith
