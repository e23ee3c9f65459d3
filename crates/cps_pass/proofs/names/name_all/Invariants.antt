use Rattle.std.proofs.Common.{◌≡◌, drop}
use Rattle.cps_text.specs.Insertion.{Pairs}
use Rattle.cps_state.specs.Course.{Part, Course}
use Rattle.cps_state.specs.Code.Line.{runs}
use Rattle.cps_pass.specs.Locals.{naming_all}
use Rattle.cps_pass.proofs.names.name_all.Given as goal

-- the LOCAL lines that are left go on from here
abbrev pub invariant-loop-line : goal.invariant-loop-line
invariant-loop-line g l = (next : Pairs → Part) (rest : Course) →
    runs (naming_all l.depth l.known (drop l.line-index l.lines) next rest) g.L.Lookup.answer l.recorder
    ≡ runs (naming_all l.depth l.fn.known l.lines next rest) g.L.Lookup.answer l.fn.recorder
