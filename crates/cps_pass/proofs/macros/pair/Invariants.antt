use Rattle.std.proofs.Common.{◌≡◌, ◌++◌, map, drop}
use Rattle.cps_text.specs.Insertion.{pairs_value}
use Rattle.cps_pass.specs.Macros.{pairs_of}
use Rattle.cps_pass.proofs.macros.pair.Given as goal

abbrev pub invariant-loop-name : goal.invariant-loop-name
invariant-loop-name l =
    pairs_value l.pairs.items ++ pairs_of (drop l.name-index l.parameters) (map (λ text. text.now) l.rest) ≡ pairs_of l.parameters (map (λ text. text.now) l.list)
