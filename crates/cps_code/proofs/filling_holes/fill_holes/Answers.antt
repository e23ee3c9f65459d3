use Rattle.std.proofs.Common.{rules, ◌≡◌, ◌^◌, ◌≤◌, length, get_or, pos, w64, SFits, sym, ◌∙◌, arith}
use Rattle.std.specs.Prelude.{◌||◌}
use Rattle.std.proofs.lemmas.Int.{to_z-of_z}
use Rattle.std.proofs.lemmas.Bool.Decides.{nat_tests}
use Rattle.std.proofs.Math.Nat.{pow-le-pow_right}
use Rattle.cps_code.proofs.HoleLemmas.{one_item, two_items, two_numbers, room-one, room-two, put_values-two, is_cut-two, is_out-two}
use Rattle.cps_code.proofs.filling_holes.fill_holes.Goals as goal

pub overflow_add-result : goal.overflow_add-result
overflow_add-result c =
    let one : length c.args.holes.now ≡ 1 = grind (arith, nat_tests) in
    let room = room-one c.args.bits c.args.holes.now c.hole-item.result (one_item c.args.holes.now c.hole-item.result one c.hole-item.is) in
    let top : 2 ^ c.args.bits ≤ 2 ^ 30 = pow-le-pow_right {n = 2} (omega arith) {i = c.args.bits} {j = 30} c.requires.short in
    let most = c.put_number-put.ensures.most in
    let fits = c.requires.room in
    omega arith

pub joined-put-requires : goal.joined-put-requires
joined-put-requires c =
    let two : length c.args.holes.now ≡ 2 = grind (arith, nat_tests) in
    let first = c.hole-item-then-this-lt3-2 in
    let room = room-two c.args.bits c.args.holes.now first.result c.other_hole-item.result (two_items c.args.holes.now first.result c.other_hole-item.result two first.is c.other_hole-item.is) in
    let top : 2 ^ c.args.bits ≤ 2 ^ 30 = pow-le-pow_right {n = 2} (omega arith) {i = c.args.bits} {j = 30} c.requires.short in
    let most = c.put_number.ensures.most in
    let also = c.put_number-in-len2-len2.ensures.most in
    let fits = c.requires.room in
    omega arith

pub overflow_add-result-in-len2-len2 : goal.overflow_add-result-in-len2-len2
overflow_add-result-in-len2-len2 c =
    let two : length c.args.holes.now ≡ 2 = grind (arith, nat_tests) in
    let first = c.hole-item-then-this-lt3-2 in
    let room = room-two c.args.bits c.args.holes.now first.result c.other_hole-item.result (two_items c.args.holes.now first.result c.other_hole-item.result two first.is c.other_hole-item.is) in
    let top : 2 ^ c.args.bits ≤ 2 ^ 30 = pow-le-pow_right {n = 2} (omega arith) {i = c.args.bits} {j = 30} c.requires.short in
    let most = c.put_number.ensures.most in
    let also = c.put_number-in-len2-len2.ensures.most in
    let sum = c.joined-put.ensures.digits in
    let fits = c.requires.room in
    omega arith

pub returns-in-len2-len2-clause-digits : goal.returns-in-len2-len2-clause-digits
returns-in-len2-len2-clause-digits c =
    let two : length c.args.holes.now ≡ 2 = grind (arith, nat_tests) in
    let both : length c.args.numbers.now ≡ 2 = grind (arith, nat_tests) in
    let first = c.hole-item-then-this-lt3-2 in
    let holes = two_items c.args.holes.now first.result c.other_hole-item.result two first.is c.other_hole-item.is in
    let n = get_or c.args.numbers.now 0 (pos 0) in
    let m = get_or c.args.numbers.now 1 (pos 0) in
    let first_fits : SFits w64 n = search rules in
    let second_fits : SFits w64 m = search rules in
    let value = rw (to_z-of_z w64 n first_fits) at c.put_number.ensures.digits in
    let next = rw (to_z-of_z w64 m second_fits) at c.put_number-in-len2-len2.ensures.digits in
    let sum = c.joined-put.ensures.digits in
    rw (put_values-two c.args.bits c.args.holes.now c.args.numbers.now first.result c.other_hole-item.result n m holes (two_numbers c.args.numbers.now both), sum, value, next) (omega arith)

pub returns-in-len2-len2-clause-truncated : goal.returns-in-len2-len2-clause-truncated
returns-in-len2-len2-clause-truncated c =
    let two : length c.args.holes.now ≡ 2 = grind (arith, nat_tests) in
    let both : length c.args.numbers.now ≡ 2 = grind (arith, nat_tests) in
    let first = c.hole-item-then-this-lt3-2 in
    let holes = two_items c.args.holes.now first.result c.other_hole-item.result two first.is c.other_hole-item.is in
    let n = get_or c.args.numbers.now 0 (pos 0) in
    let m = get_or c.args.numbers.now 1 (pos 0) in
    let first_fits : SFits w64 n = search rules in
    let second_fits : SFits w64 m = search rules in
    let value = rw (to_z-of_z w64 n first_fits) at c.put_number.ensures.truncated in
    let next = rw (to_z-of_z w64 m second_fits) at c.put_number-in-len2-len2.ensures.truncated in
    c.joined-put.ensures.truncated ∙ (λ i. value i || next i)
    ∙ sym (is_cut-two c.args.holes.now c.args.numbers.now first.result c.other_hole-item.result n m holes (two_numbers c.args.numbers.now both))

pub returns-in-len2-len2-clause-out_of_range : goal.returns-in-len2-len2-clause-out_of_range
returns-in-len2-len2-clause-out_of_range c =
    let two : length c.args.holes.now ≡ 2 = grind (arith, nat_tests) in
    let both : length c.args.numbers.now ≡ 2 = grind (arith, nat_tests) in
    let first = c.hole-item-then-this-lt3-2 in
    let holes = two_items c.args.holes.now first.result c.other_hole-item.result two first.is c.other_hole-item.is in
    let n = get_or c.args.numbers.now 0 (pos 0) in
    let m = get_or c.args.numbers.now 1 (pos 0) in
    let first_fits : SFits w64 n = search rules in
    let second_fits : SFits w64 m = search rules in
    let value = rw (to_z-of_z w64 n first_fits) at c.put_number.ensures.out_of_range in
    let next = rw (to_z-of_z w64 m second_fits) at c.put_number-in-len2-len2.ensures.out_of_range in
    c.joined-put.ensures.out_of_range ∙ (λ i. value i || next i)
    ∙ sym (is_out-two c.args.holes.now c.args.numbers.now first.result c.other_hole-item.result n m holes (two_numbers c.args.numbers.now both))
