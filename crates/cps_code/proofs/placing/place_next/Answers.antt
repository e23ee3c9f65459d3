use Rattle.std.proofs.Common.{◌≤◌, sym, arith}
use Rattle.cps_code.specs.Least.{IsLeast}
use Rattle.cps_code.specs.Place.{position, is_forced, MayBegin}
use Rattle.cps_code.proofs.FillingLemmas.{skipped-is}
use Rattle.cps_code.proofs.LeastLemmas.{start_of-least}
use Rattle.cps_code.proofs.placing.place_next.Goals as goal

pub returns-clause-start : goal.returns-clause-start
returns-clause-start c = rw (c.place_at-start.ensures.position, ← c.must_begin_word-forced.ensures) (c.used_at_start-used.ensures.least c.args.place.word)

pub returns-clause-first : goal.returns-clause-first
returns-clause-first c =
    let few : c.args.bits ≤ 60 = let kind = c.requires.kind in omega arith in
    let least : IsLeast (MayBegin (position c.args.place) c.args.bits (is_forced c.args.place.is_pending c.args.force)) (position c.place_at-start.result)
    = rw (c.place_at-start.ensures.position, ← c.must_begin_word-forced.ensures) (c.used_at_start-used.ensures.least c.args.place.word) in
    sym (start_of-least (position c.args.place) c.args.bits (position c.place_at-start.result) (is_forced c.args.place.is_pending c.args.force) few least)

pub returns-clause-filling : goal.returns-clause-filling
returns-clause-filling c = rw c.place_at-start.ensures.position (c.filling_between.ensures.filling c.args.place.word)

pub returns-clause-skipped : goal.returns-clause-skipped
returns-clause-skipped c =
    skipped-is (position c.args.place) (position c.place_at-start.result) c.filling_between.result
    (rw c.place_at-start.ensures.position (c.filling_between.ensures.filling c.args.place.word))
