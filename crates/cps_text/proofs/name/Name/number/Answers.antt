use Rattle.std.proofs.Common.{rules, ◌≡◌, ◌<◌, ℕ, length, get_or}
use Rattle.cps_text.proofs.name.Name.number.Goals as goal

pub returns-clause-bytes : goal.returns-clause-bytes
returns-clause-bytes c =
    let eight : length c.args.self.bytes ≡ 8 = search rules in
    let small : (i : ℕ) → get_or c.args.self.bytes i 0 < 256 = search rules in
    (eight, small)
