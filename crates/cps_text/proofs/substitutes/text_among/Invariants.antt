use Rattle.std.proofs.Common.{◌≡◌, drop}
use Rattle.cps_text.specs.Insertion.{text_of}
use Rattle.cps_text.specs.Code.Substitutes.{substitutes_value}
use Rattle.cps_text.proofs.substitutes.text_among.Given as goal

abbrev pub invariant-loop-other : goal.invariant-loop-other
invariant-loop-other l = text_of (substitutes_value (drop l.other-index l.pairs)) l.name ≡ text_of (substitutes_value l.pairs) l.name
