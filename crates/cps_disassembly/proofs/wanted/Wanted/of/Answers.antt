use Rattle.std.proofs.Common.{refl}
use Rattle.cps_disassembly.proofs.wanted.Wanted.of.Goals as goal

pub returns : goal.returns
returns c = λ given holds. record { same = refl; claims = holds; words = c.in_ok-words.ensures given holds }
