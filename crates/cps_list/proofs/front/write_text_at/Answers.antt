use Rattle.std.proofs.Common.{◌+◌, ◌-◌, ◌≤◌, ◌++◌, ap, ◌∙◌, ◌≡◌, refl, length, take, arith}
use Rattle.std.proofs.lemmas.Slice.{take-put_mid, drop-put_mid}
use Rattle.cps_list.proofs.FrontLemmas.{front-written}
use Rattle.cps_list.proofs.front.write_text_at.Goals as goal

pub returns-clause-front : goal.returns-clause-front
returns-clause-front c = λ begun is.
    let front = c.args.front.now in
    let before = c.args.before in
    let shown = c.args.shown.now in
    let end = before + length shown in
    let text = c.copy_from_slice.new.self in
    let within = c.requires.within in
    let full = c.requires.columns in
    let written : text ≡ shown = c.copy_from_slice.ensures.after in
    let size : length text ≡ length shown = ap length written in
    let room : before ≤ length front = omega (arith, within, full) in
    let taken = take-put_mid before (end - before) front text end (omega (arith, size)) room ∙ ap (λ t. take before front ++ t) written in
    let dropped = drop-put_mid before (end - before) front text end (omega arith) room (omega (arith, size)) in
    front-written front begun shown _ before (length shown) is within refl taken dropped
