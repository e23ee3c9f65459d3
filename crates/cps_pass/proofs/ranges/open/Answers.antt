use Rattle.std.proofs.Common.{true, ap, length, ◌∙◌}
use Rattle.std.specs.Prelude.{nat_le}
use Rattle.std.proofs.lemmas.Bool.{lt-leb}
use Rattle.cps_state.specs.declared.flags.Flags.{Flags}
use Rattle.cps_state.specs.Course.{◌before◌, fill}
use Rattle.cps_state.specs.Flags.{joined}
use Rattle.cps_state.specs.Keys.{most_ranges}
use Rattle.cps_state.specs.Made.{nothing_made}
use Rattle.cps_pass.specs.Ranges.{beginning_range, test_flags}
use Rattle.cps_pass.proofs.ScopeLemmas.{handed-flagged, handed-else}
use Rattle.cps_pass.proofs.ranges.open.Goals as goal

pub returns : goal.returns
returns g c =
    let state = g.L.Lookup.answer in
    let scope = c.args.scope.now in
    let ranges = c.args.others.now in
    let test = c.args.test in
    let part = beginning_range c.args.context.control scope test.holds ranges in
    let flags = test_flags c.args.context.location test in
    handed-else (nat_le most_ranges (length ranges)) (λ next. fill (nothing_made (record flags { structure = true })) before next scope)
    (λ next. part (λ later. fill (nothing_made flags) before next later)) c.begin_range.new.scope state c.args.recorder.now c.flag-2.new.recorder
    (lt-leb most_ranges (length ranges) c.if-others-ge-MOST_RANGES.false)
    (handed-flagged part c.begin_range.new.scope flags c.joined-flags.result state c.args.recorder.now c.begin_range.new.recorder c.flag-2.new.recorder
    (c.joined-flags.ensures ∙ ap (λ (p : Flags). joined p test.flags) c.present_flags.ensures) c.in_ok-begin_range.ensures c.flag-2.ensures)
