use Rattle.std.proofs.Common.{rules, ◌≡◌, ◌<◌, length, get_or, ℕ, sym}
use Rattle.cps_text.proofs.OrderLemmas.{name-order}
use Rattle.cps_text.proofs.name.order_of.Goals as goal

pub returns : goal.returns
returns c =
    let eight : length c.args.left.bytes ≡ 8 = search rules in
    let small : (i : ℕ) → get_or c.args.left.bytes i 0 < 256 = search rules in
    let other : length c.args.right.bytes ≡ 8 = search rules in
    let low : (i : ℕ) → get_or c.args.right.bytes i 0 < 256 = search rules in
    rw (c.order_of_numbers.ensures, c.from_be_bytes.ensures, c.from_be_bytes-2.ensures) (sym (name-order c.args.left.bytes c.args.right.bytes eight small other low))
