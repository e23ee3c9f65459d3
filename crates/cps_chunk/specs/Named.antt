-- What pass two makes of a run of lines, by all that their statements name. Our own.
use Rattle.std.specs.Prelude.{◌≡◌, true, List}
use Rattle.cps_state.specs.Course.{Trace}
use Rattle.cps_final.specs.Outcome.{Resolved}
use Rattle.cps_final.specs.NamedFinals.{statements_of}
use Rattle.cps_final.specs.Agreeing.{same_named}
use Rattle.cps_edit.specs.Passes.{outcomes_by}
use Rattle.cps_edit.specs.Renewed.{redone_kept}

-- where all that they name has the same final values, pass two makes the same of each line, and does none again
abbrev pub NamedLaw : Type 0
NamedLaw = (was now : Resolved) (traces : List Trace) → same_named was now (statements_of traces) ≡ true
    → (outcomes_by was traces ≡ outcomes_by now traces) × (redone_kept was now traces ≡ 0)

-- and they name no more than that: where none is done again, all that they name has the same final values
abbrev pub NamedNoMore : Type 0
NamedNoMore = (was now : Resolved) (traces : List Trace) → redone_kept was now traces ≡ 0 → same_named was now (statements_of traces) ≡ true
