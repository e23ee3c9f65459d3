use Rattle.std.proofs.Common.{◌≡◌, List}
use Rattle.std.specs.Prelude.{filter, map}
use Rattle.cps_claims.specs.Claims.{Claimed}
use Rattle.cps_claims.specs.Code.Held.{Holds}
use Rattle.cps_disassembly.specs.Makes.{is_wanted}
use Rattle.cps_disassembly.specs.Code.Kept.{address_in}
use Rattle.cps_disassembly.specs.Certificate.{addresses_below}
use Rattle.cps_disassembly.proofs.wanted.wanted_words.Given as goal

abbrev pub invariant-loop-address : goal.invariant-loop-address
invariant-loop-address l =
    (given : List Claimed) → Holds l.claims given
    → map address_in l.words.items ≡ filter (is_wanted l.selection given) (addresses_below l.address)
