use Rattle.std.proofs.Common.{arith, rules, ℕ, ◌*◌, ◌/◌, ◌%◌, ◌^◌, ◌<◌, length, refl}
use Rattle.cps_chunk.proofs.MarkLemmas.{joined-keeps, joined-set, one-bit}
use Rattle.cps_chunk.proofs.key_filter.KeyFilter.set.Goals as goal

pub returns-clause-set : goal.returns-clause-set
returns-clause-set c =
    let n : ℕ = c.args.bit in
    let lt : n / 64 < length c.args.self.now.bits = search (rules, arith) in
    joined-set c.args.self.now (n / 64) (1 * 2 ^ (n % 64) % 2 ^ 64) lt n refl (one-bit (n % 64) (omega arith))

pub returns-clause-kept : goal.returns-clause-kept
returns-clause-kept c =
    let n : ℕ = c.args.bit in
    let lt : n / 64 < length c.args.self.now.bits = search (rules, arith) in
    joined-keeps c.args.self.now (n / 64) (1 * 2 ^ (n % 64) % 2 ^ 64) lt
