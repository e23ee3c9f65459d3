use Rattle.std.proofs.Common.{◌≡◌, ◌++◌, take, flat_map}
use Rattle.cps_compare.specs.Findings.{Findings}
use Rattle.cps_compare.specs.Code.Kept.{AreKept}
use Rattle.cps_compare.specs.Code.Runs.{addresses_in}
use Rattle.cps_compare.proofs.sides.Sides.tell_words.Given as goal

abbrev pub invariant-loop-word : goal.invariant-loop-word
invariant-loop-word g l = (found : Findings) → AreKept l.self (g.V.View.assembly l.view) found
    → l.telling.text.items ≡ l.fn.telling.text.items ++ flat_map found.told (addresses_in (take l.word-index l.words))
