use Rattle.std.proofs.Common.{◌≡◌, map, take}
use Rattle.cps_text.specs.Insertion.{inserted}
use Rattle.cps_pass.proofs.macros.insert_all.Given as goal

abbrev pub invariant-loop-line : goal.invariant-loop-line
invariant-loop-line g l = l.texts.items ≡ map (inserted (g.S.Substitution.pairs l.known)) (take l.line-index l.lines)
