use Rattle.std.proofs.Common.{◌≡◌, drop}
use Rattle.std.specs.Char.{eq_ignore_ascii_case}
use Rattle.cps_claims.proofs.RepetitionLemmas.{begins}
use Rattle.cps_claims.proofs.repetition.begins_with.Given as goal

abbrev pub invariant-loop-at : goal.invariant-loop-at
invariant-loop-at l = begins eq_ignore_ascii_case l.word l.text ≡ begins eq_ignore_ascii_case (drop l.at l.word) (drop l.at l.text)
