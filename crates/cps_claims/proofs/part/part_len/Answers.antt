use Rattle.std.proofs.Common.{sym}
use Rattle.cps_claims.specs.Parts.{is_blank}
use Rattle.cps_claims.proofs.CutLemmas.{place-Some, place-None}
use Rattle.cps_claims.proofs.part.part_len.Goals as goal

pub returns-in-Some-clause-len : goal.returns-in-Some-clause-len
returns-in-Some-clause-len c = sym (place-Some is_blank c.args.bytes.now c.in-Some.at c.in-Some.ensures.place)

pub returns-in-None-clause-len : goal.returns-in-None-clause-len
returns-in-None-clause-len c = place-None is_blank c.args.bytes.now c.in-None.ensures.place
