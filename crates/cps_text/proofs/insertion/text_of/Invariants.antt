use Rattle.std.proofs.Common.{◌≡◌, drop}
use Rattle.cps_text.specs.Insertion.{pairs_value, text_of}
use Rattle.cps_text.proofs.insertion.text_of.Given as goal

abbrev pub invariant-loop-other : goal.invariant-loop-other
invariant-loop-other l = text_of (pairs_value (drop l.other-index l.pairs)) l.name ≡ text_of (pairs_value l.pairs) l.name
