use Rattle.std.proofs.Common.{rules, ◌≡◌, ◌<◌, length, get_or, ℕ}
use Rattle.cps_text.proofs.NameLemmas.{one-text}
use Rattle.cps_text.proofs.name.is_one.Goals as goal

pub returns : goal.returns
returns c =
    let eight : length c.args.left.bytes ≡ 8 = search rules in
    let small : (i : ℕ) → get_or c.args.left.bytes i 0 < 256 = search rules in
    let other : length c.args.right.bytes ≡ 8 = search rules in
    let low : (i : ℕ) → get_or c.args.right.bytes i 0 < 256 = search rules in
    rw (c.from_le_bytes.ensures, c.from_le_bytes-2.ensures) (one-text c.args.left.bytes c.args.right.bytes eight small other low)
