use Rattle.std.proofs.Common.{◌≡◌, ◌-◌, ◌≤◌, rules, arith, ap, subst, ◌∙◌, false, List, [], ◌∷◌, length, get_or, take, drop}
use Rattle.std.proofs.lemmas.List.{take_all}
use Rattle.cps_state.specs.declared.key.Control.{Control}
use Rattle.cps_state.specs.declared.key.Mode.{Mode}
use Rattle.cps_state.specs.declared.key.Mode.TheVariants.{SkipRange}
use Rattle.cps_state.specs.declared.key.OpenRange.{OpenRange}
use Rattle.cps_state.specs.declared.key.OpenRange.TheVariants.{BeforeElse, BehindElse}
use Rattle.cps_state.specs.Course.{Part, ◌before◌, fill}
use Rattle.cps_state.specs.Code.Line.{Hands}
use Rattle.cps_state.specs.Made.{nothing_made}
use Rattle.cps_pass.specs.declared.reading.Location.{Location}
use Rattle.cps_pass.specs.Located.{present_flags}
use Rattle.cps_pass.specs.declared.scope.Scope.{Scope}
use Rattle.cps_pass.specs.Ranges.{turned_round}
use Rattle.cps_pass.specs.Scope.{going_by, putting_ranges}
use Rattle.cps_pass.proofs.ScopeLemmas.{handed-flagged}
use Rattle.cps_pass.proofs.ranges.turn.Goals as goal

-- up to the range's end
abbrev skipped : Mode
skipped = SkipRange (record { nested = 0; may_resume = false })

-- these ranges are left open
abbrev turning : Control → Scope → Location → List OpenRange → (Scope → Part) → Part
turning control scope location left next =
    putting_ranges scope left (λ within. going_by control within skipped (λ later. fill (nothing_made (present_flags location)) before next later))

turned-first : (control : Control) (scope : Scope) (location : Location) (ranges others : List OpenRange) → 1 ≤ length ranges → get_or ranges 0 BeforeElse ≡ BeforeElse
    → others ≡ take (length ranges - 1) (drop 1 ranges) → turning control scope location others ≡ turned_round control scope location ranges
turned-first control scope location [] others some first is = absurd (omega (arith, some))
turned-first control scope location (BeforeElse ∷ ranges) others some first is =
    ap (turning control scope location) (is ∙ take_all (length (BeforeElse ∷ ranges) - 1) ranges (omega (arith)))
turned-first control scope location (BehindElse ∷ ranges) others some first is = absurd (cc (first))

pub returns : goal.returns
returns g c =
    let state = g.L.Lookup.answer in
    let scope = c.args.scope.now in
    let control = c.args.context.control in
    let flags = present_flags c.args.context.location in
    let left = c.in_ok-new.field-0 in
    let does : ((Scope → Part) → Part) → Type 0 = λ part. Hands part c.go_by.new.scope state c.args.recorder.now c.flag.new.recorder in
    subst does (turned-first control scope c.args.context.location c.args.ranges.now left c.in-BeforeElse.len_at_least (search rules) c.in_ok-new.ensures)
    (λ next rest.
    c.in_ok-put_ranges.ensures (λ within. going_by control within skipped (λ later. fill (nothing_made flags) before next later)) rest
    ∙ handed-flagged (going_by control c.put_ranges.new.scope skipped) c.go_by.new.scope flags c.present_flags.result state c.put_ranges.new.recorder c.go_by.new.recorder
    c.flag.new.recorder c.present_flags.ensures c.in_ok-go_by.ensures c.flag.ensures next rest)
