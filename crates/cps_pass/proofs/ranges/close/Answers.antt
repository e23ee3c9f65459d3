use Rattle.std.proofs.Common.{◌≡◌, ◌-◌, ◌≤◌, arith, ap, subst, ◌∙◌, List, [], ◌∷◌, length, take, drop}
use Rattle.std.proofs.lemmas.List.{take_all}
use Rattle.cps_state.specs.declared.key.OpenRange.{OpenRange}
use Rattle.cps_state.specs.Course.{Part, ◌before◌, fill}
use Rattle.cps_state.specs.Code.Line.{Hands}
use Rattle.cps_state.specs.Made.{nothing_made}
use Rattle.cps_pass.specs.declared.reading.Location.{Location}
use Rattle.cps_pass.specs.Located.{present_flags}
use Rattle.cps_pass.specs.declared.scope.Scope.{Scope}
use Rattle.cps_pass.specs.Ranges.{closed}
use Rattle.cps_pass.specs.Scope.{putting_ranges}
use Rattle.cps_pass.proofs.ScopeLemmas.{handed-flagged}
use Rattle.cps_pass.proofs.ranges.close.Goals as goal

-- these ranges are left open
abbrev closing : Scope → Location → List OpenRange → (Scope → Part) → Part
closing scope location left next = putting_ranges scope left (λ later. fill (nothing_made (present_flags location)) before next later)

closed-some : (scope : Scope) (location : Location) (ranges others : List OpenRange) → 1 ≤ length ranges → others ≡ take (length ranges - 1) (drop 1 ranges)
    → closing scope location others ≡ closed scope location ranges
closed-some scope location [] others some is = absurd (omega (arith, some))
closed-some scope location (range ∷ ranges) others some is =
    ap (closing scope location) (is ∙ take_all (length (range ∷ ranges) - 1) ranges (omega (arith)))

pub returns : goal.returns
returns g c =
    let state = g.L.Lookup.answer in
    let scope = c.args.scope.now in
    let does : ((Scope → Part) → Part) → Type 0 = λ part. Hands part c.put_ranges.new.scope state c.args.recorder.now c.flag.new.recorder in
    subst does (closed-some scope c.args.location c.args.ranges.now c.in_ok-new.field-0 c.in-len1-up.len_at_least c.in_ok-new.ensures)
    (handed-flagged (putting_ranges scope c.in_ok-new.field-0) c.put_ranges.new.scope (present_flags c.args.location) c.present_flags.result state c.args.recorder.now
    c.put_ranges.new.recorder c.flag.new.recorder c.present_flags.ensures c.in_ok-put_ranges.ensures c.flag.ensures)
