-- For the code that patches final values, not part of what a reader believes: what they were before.
use Rattle.cps_final.specs.Addresses.{Resolved}
use Rattle.cps_final.specs.Finals.{Finals, final_value}
use Rattle.cps_final.specs.Code.FinalsPatch.{patched}
use Rattle.cps_final.specs.contracts.finals.FinalsGathered.TheImpl.{gathered-value}
use Rattle.cps_final.specs.declared.former_finals.FormerFinals.{FormerFinals}

-- what stood after the last line before a patch, from what it gave back
abbrev pub finals_before : FormerFinals → Finals
finals_before before = patched before.patch.now (gathered-value.it before.finals.now)

-- the final values before a patch
abbrev pub values_before : FormerFinals → Resolved
values_before before = final_value (finals_before before)
