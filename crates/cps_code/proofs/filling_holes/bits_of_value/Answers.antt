use Rattle.std.proofs.Common.{◌*◌, ◌^◌, ◌%◌, ◌≡◌, arith, w64}
use Rattle.std.proofs.lemmas.Int.{to_z-of_z}
use Rattle.std.proofs.lemmas.Nat.{and_mask, one_shl}
use Rattle.cps_code.proofs.HoleLemmas.{put_value-is}
use Rattle.cps_code.proofs.filling_holes.bits_of_value.Goals as goal

pub returns-clause-value : goal.returns-clause-value
returns-clause-value c =
    let mask : 1 * 2 ^ c.args.width % 2 ^ 64 ≡ 2 ^ c.args.width = one_shl c.args.width 64 (let short = c.requires.width in omega arith) in
    rw (mask, and_mask c.complement.result c.args.width, c.complement.ensures, to_z-of_z w64 c.args.number c.ranges.number)
    (put_value-is c.args.width c.args.number c.requires.some c.requires.width)
