use Rattle.std.proofs.Common.{◌≡◌, length, w64, SFits, rules, arith, sym, ◌∙◌}
use Rattle.std.proofs.lemmas.Bool.Decides.{nat_tests}
use Rattle.std.proofs.lemmas.Int.{to_z-of_z}
use Rattle.cps_code.proofs.HoleLemmas.{two_items}
use Rattle.cps_final.specs.Resolving.{view_of}
use Rattle.cps_final.proofs.ValueLemmas.{number-two, flags-two}
use Rattle.cps_final.proofs.valued.value_instruction.Goals as goal

pub returns-in-len2-clause-number : goal.returns-in-len2-clause-number
returns-in-len2-clause-number c =
    let statement = view_of c.args.statement.now in
    let hole = c.hole-item-then-this-lt3 in
    let other = c.other_hole-item in
    let value = c.value_hole-value-in-len2 in
    let next = c.value_hole-other in
    let two : length c.holes.result.now ≡ 2 = grind (arith, nat_tests) in
    let value_fits : SFits w64 value.result.number = search rules in
    let next_fits : SFits w64 next.result.number = search rules in
    let filled = rw (to_z-of_z w64 value.result.number value_fits, to_z-of_z w64 next.result.number next_fits) at c.fill-in-len2.ensures.filled in
    let holes = sym c.holes.ensures.holes ∙ two_items c.holes.result.now hole.result other.result two hole.is other.is in
    number-two statement.known statement.here c.args.form.now hole.result other.result value.result.number next.result.number c.fill-in-len2.result _
    holes value.ensures.number next.ensures.number filled c.valued_form-in-len2.ensures.number

pub returns-in-len2-clause-flags : goal.returns-in-len2-clause-flags
returns-in-len2-clause-flags c =
    let statement = view_of c.args.statement.now in
    let hole = c.hole-item-then-this-lt3 in
    let other = c.other_hole-item in
    let value = c.value_hole-value-in-len2 in
    let next = c.value_hole-other in
    let two : length c.holes.result.now ≡ 2 = grind (arith, nat_tests) in
    let value_fits : SFits w64 value.result.number = search rules in
    let next_fits : SFits w64 next.result.number = search rules in
    let filled = rw (to_z-of_z w64 value.result.number value_fits, to_z-of_z w64 next.result.number next_fits) at c.fill-in-len2.ensures.filled in
    let holes = sym c.holes.ensures.holes ∙ two_items c.holes.result.now hole.result other.result two hole.is other.is in
    flags-two statement.known statement.here c.args.form.now hole.result other.result value.result.number next.result.number c.fill-in-len2.result value.result.flags next.result.flags c.joined.result _
    holes value.ensures.number next.ensures.number filled value.ensures.flags next.ensures.flags c.joined.ensures c.valued_form-in-len2.ensures.flags
