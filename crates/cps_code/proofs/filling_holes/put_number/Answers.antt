use Rattle.std.proofs.Common.{rules, ◌+◌, ◌-◌, ◌*◌, ◌^◌, ◌≤◌, w64, sym, ap, ◌∙◌, arith}
use Rattle.std.proofs.lemmas.Int.{to_z-of_z}
use Rattle.std.proofs.lemmas.Nat.{shl_whole}
use Rattle.cps_code.proofs.HoleLemmas.{put_in-out, put_in-within, is_cut_in-out, is_cut_in-within}
use Rattle.cps_code.proofs.filling_holes.put_number.Goals as goal

pub returns-then-is_out-clause-digits : goal.returns-then-is_out-clause-digits
returns-then-is_out-clause-digits c =
    let out = rw (to_z-of_z w64 c.args.number c.ranges.number) at c.if-is_out.ensures in
    rw (put_in-out c.args.hole.now.kind c.args.hole.now.width c.args.number (sym out)) (omega arith)

pub returns-then-is_out-clause-truncated : goal.returns-then-is_out-clause-truncated
returns-then-is_out-clause-truncated c =
    let out = rw (to_z-of_z w64 c.args.number c.ranges.number) at c.if-is_out.ensures in
    sym (is_cut_in-out c.args.hole.now.kind c.args.hole.now.width c.args.number (sym out))

pub returns-clause-digits : goal.returns-clause-digits
returns-clause-digits c =
    let hole = c.args.hole.now in
    let below = c.args.bits - hole.first - hole.width in
    let inside = c.requires.hole.inside in
    let few = c.requires.short in
    let short : hole.width + below ≤ 64 = omega arith in
    let same = to_z-of_z w64 c.args.number c.ranges.number in
    let within = rw same at c.if-is_out.ensures in
    let value = rw same at c.bits_of_value.ensures.value in
    let put = value ∙ sym (put_in-within hole.kind hole.width c.args.number (sym within)) in
    shl_whole c.bits_of_value.result hole.width below 64 c.bits_of_value.ensures.small short ∙ ap (λ n. n * 2 ^ below) put

pub returns-clause-truncated : goal.returns-clause-truncated
returns-clause-truncated c =
    let hole = c.args.hole.now in
    let same = to_z-of_z w64 c.args.number c.ranges.number in
    let within = rw same at c.if-is_out.ensures in
    let fits = rw same at c.fits_width.ensures in
    rw (is_cut_in-within hole.kind hole.width c.args.number (sym within), fits) (search rules)
