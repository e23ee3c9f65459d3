use Rattle.std.proofs.Common.{◌≡◌, ◌/◌, ◌%◌, subst, true}
use Rattle.std.proofs.lemmas.Bool.{and_from}
use Rattle.cps_chunk.specs.KeyFilter.{has, is_set}
use Rattle.cps_chunk.proofs.MarkLemmas.{bits-all}
use Rattle.cps_chunk.proofs.key_filter.KeyFilter.mark.Goals as goal

pub returns-clause-marked : goal.returns-clause-marked
returns-clause-marked c =
    let n = c.mark_of-mark.result in
    let new = c.set-2.new.self in
    subst (λ k. has new k ≡ true) c.mark_of-mark.ensures.mark
    (and_from (is_set new (n / 2048)) (is_set new (n % 2048)) (c.set-2.ensures.kept (n / 2048) c.set.ensures.set) c.set-2.ensures.set)

pub returns-clause-kept : goal.returns-clause-kept
returns-clause-kept c = bits-all c.args.self.now c.set-2.new.self (λ bit there. c.set-2.ensures.kept bit (c.set.ensures.kept bit there))
