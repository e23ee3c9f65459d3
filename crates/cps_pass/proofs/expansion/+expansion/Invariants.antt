use Rattle.std.proofs.Common.{◌≡◌, ◌+◌, ◌-◌, ◌*◌, drop}
use Rattle.cps_state.specs.Course.{Part, Course}
use Rattle.cps_state.specs.Code.Line.{runs}
use Rattle.cps_pass.specs.declared.scope.Scope.{Scope}
use Rattle.cps_pass.specs.declared.scope.Scope.TheVariants.{Expansion}
use Rattle.cps_pass.specs.Expansion.{walk, body, too_deep}
use Rattle.cps_pass.specs.Treating.{repeated}
use Rattle.cps_pass.specs.Own.{new_expansion}
use Rattle.cps_pass.proofs.expansion.+expansion.Given as goal

abbrev pub decreases-expand : goal.decreases-expand
decreases-expand g l = 4 * (too_deep - l.depth) + 3

abbrev pub decreases-expand_body : goal.decreases-expand_body
decreases-expand_body g l = 4 * (too_deep - l.depth) + 2

abbrev pub decreases-repeat : goal.decreases-repeat
decreases-repeat g l = 4 * (too_deep - l.depth) + 1

abbrev pub decreases-go_through : goal.decreases-go_through
decreases-go_through g l = 4 * (too_deep - l.depth)

-- the statements that are left go on from here
abbrev pub invariant-go_through-loop-text : goal.invariant-go_through-loop-text
invariant-go_through-loop-text g l = (next : Scope → Part) (rest : Course) →
    runs (walk (body (too_deep - l.depth)) l.depth l.scope (drop l.text-index l.texts) next rest) g.L.Lookup.answer l.recorder
    ≡ runs (walk (body (too_deep - l.depth)) l.depth l.fn.scope l.texts next rest) g.L.Lookup.answer l.fn.recorder

-- the turns that are left go on from here
abbrev pub invariant-repeat-loop-turn : goal.invariant-repeat-loop-turn
invariant-repeat-loop-turn g l = (next : Scope → Part) (rest : Course) →
    runs (walk (body (too_deep - l.depth)) l.depth l.scope (repeated (l.opened.times - l._turn) l.opened.lines.items) next rest) g.L.Lookup.answer l.recorder
    ≡ runs (walk (body (too_deep - l.depth)) l.depth (Expansion new_expansion) (repeated l.opened.times l.opened.lines.items) next rest) g.L.Lookup.answer l.fn.recorder
