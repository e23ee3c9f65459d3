use Rattle.std.proofs.Common.{◌+◌, ◌-◌, ◌≤◌, ◌++◌, ap, ◌∙◌, ◌≡◌, refl, length, take, arith}
use Rattle.std.proofs.lemmas.Slice.{take-put_mid, drop-put_mid}
use Rattle.cps_list.proofs.FrontLemmas.{front-written, front-same, front-widened, right-column}
use Rattle.cps_list.proofs.front.write_at_right.Goals as goal

pub returns : goal.returns
returns c = λ begun is.
    let front = c.args.front.now in
    let shown = c.args.shown.now in
    let before = 43 - length shown in
    let text = c.copy_from_slice.new.self in
    let few = c.requires.few in
    let full = c.requires.columns in
    let written : text ≡ shown = c.copy_from_slice.ensures.after in
    let size : length text ≡ length shown = ap length written in
    let end : before + length shown ≡ 43 = omega (arith, few) in
    let room : before ≤ length front = omega (arith, full) in
    let taken = take-put_mid before (43 - before) front text (before + length shown) (omega (arith, size)) room ∙ ap (λ t. take before front ++ t) written in
    let dropped = drop-put_mid before (43 - before) front text (before + length shown) (omega (arith, few)) room (omega (arith, size, few)) in
    let wide = front-widened front begun 37 before is (omega (arith, few)) in
    let written-there = front-written front begun shown _ before (length shown) wide (omega (arith, end)) refl taken dropped in
    front-same _ _ _ 43 (front-widened _ _ (before + length shown) 43 written-there (omega (arith, end))) (right-column begun shown is.within few)
