use Rattle.std.proofs.Common.{arith, ◌≡◌, ℕ, length, ap, subst, ◌∙◌}
use Rattle.cps_edit.specs.Exchange.{IsWithin}
use Rattle.cps_chunk.specs.declared.walk.Baseline.{Baseline}
use Rattle.cps_chunk.specs.declared.walk.Destination.TheVariants.{Same}
use Rattle.cps_chunk.specs.Code.Along.{GoesAlong, looks_in_span, replayed_along, span}
use Rattle.cps_chunk.proofs.CountingLemmas.{looks-then, looks-wider, steps-as, steps-stop, steps-then}
use Rattle.cps_chunk.proofs.OverLemmas.{still-still}
use Rattle.cps_live.proofs.MovedPassLemmas.{looks-all, moved-walk, ones-all, rest-count, rest-looks}
use Rattle.cps_live.proofs.moved_pass.go_over_moved.Goals as goal

pub returns-in_err-order-clause-passed : goal.returns-in_err-order-clause-passed
returns-in_err-order-clause-passed c =
    let w0 = c.args.walk.now in
    let e = c.args.exchange in
    let within : IsWithin (length w0.base.lines.now) e = record { first = omega (arith, c.requires.runs.first); second = omega (arith, c.requires.runs.second); all = c.requires.runs.within } in
    record {
      steps = steps-stop _ _ _ _ _ _ c.from_residual.ensures.0 (omega (arith, ones-all w0 c.requires.walk e within)) c.in_err-order.ensures.steps;
      looked = looks-wider _ _ _ _ (omega (arith, looks-all w0 c.requires.walk e within)) c.cross.ensures.looked;
    }

-- ---- the lines behind both

pub go_along-requires-clause-span : goal.go_along-requires-clause-span
go_along-requires-clause-span c =
    let size = ap (λ (b : Baseline). length b.lines.now) c.cross.ensures.walk.base in
    record {
      ordered = omega (arith, c.end.ensures.line, size, c.requires.runs.within);
      within = omega (arith, c.end.ensures.line);
      may = c.in_ok-order.ensures.crossed.present;
    }

pub returns-in_err-go_along-clause-walk : goal.returns-in_err-go_along-clause-walk
returns-in_err-go_along-clause-walk c = still-still _ _ _ c.cross.ensures.walk c.go_along.ensures.walk

pub returns-in_err-go_along-clause-passed : goal.returns-in_err-go_along-clause-passed
returns-in_err-go_along-clause-passed c =
    let w0 = c.args.walk.now in
    let w1 = c.cross.new.walk in
    let w2 = c.go_along.new.self in
    let e = c.args.exchange in
    let within : IsWithin (length w0.base.lines.now) e = record { first = omega (arith, c.requires.runs.first); second = omega (arith, c.requires.runs.second); all = c.requires.runs.within } in
    let end : c.end.result.line ≡ length w0.base.lines.now = c.end.ensures.line ∙ ap (λ (b : Baseline). length b.lines.now) c.cross.ensures.walk.base in
    let n3 = ap (λ k. length (replayed_along w1 Same (span e.from k))) end ∙ rest-count w0 c.requires.walk e within w1 w2 c.cross.ensures.walk c.in_ok-order.ensures.crossed in
    let l3 = ap (λ k. looks_in_span w1 Same (span e.from k)) end ∙ rest-looks w0 c.requires.walk e within w1 w2 c.cross.ensures.walk c.in_ok-order.ensures.crossed in
    let all = steps-then _ _ _ _ _ _ _ c.in_ok-order.ensures.steps c.in_err-go_along.ensures.steps in
    record {
      steps = steps-stop _ _ _ _ _ _ c.from_residual-in_err-go_along.ensures.0 (omega (arith, ones-all w0 c.requires.walk e within, n3)) all;
      looked = looks-wider _ _ _ _ (omega (arith, looks-all w0 c.requires.walk e within, l3)) (looks-then _ _ _ _ _ c.cross.ensures.looked c.go_along.ensures.looked);
    }

-- ---- all of it

pub returns-clause-moved : goal.returns-clause-moved
returns-clause-moved c =
    let w0 = c.args.walk.now in
    let w1 = c.cross.new.walk in
    let w2 = c.go_along.new.self in
    let e = c.args.exchange in
    let within : IsWithin (length w0.base.lines.now) e = record { first = omega (arith, c.requires.runs.first); second = omega (arith, c.requires.runs.second); all = c.requires.runs.within } in
    let end : c.end.result.line ≡ length w0.base.lines.now = c.end.ensures.line ∙ ap (λ (b : Baseline). length b.lines.now) c.cross.ensures.walk.base in
    moved-walk w0 c.requires.walk e within w1 w2 c.cross.ensures.walk c.in_ok-order.ensures.crossed
    (subst (λ (k : ℕ). GoesAlong w1 w2 Same (span e.from k)) end c.in_ok-go_along.ensures.along)

pub returns-clause-walk : goal.returns-clause-walk
returns-clause-walk c = still-still _ _ _ c.cross.ensures.walk c.go_along.ensures.walk

pub returns-clause-passed : goal.returns-clause-passed
returns-clause-passed c =
    let w0 = c.args.walk.now in
    let w1 = c.cross.new.walk in
    let w2 = c.go_along.new.self in
    let e = c.args.exchange in
    let within : IsWithin (length w0.base.lines.now) e = record { first = omega (arith, c.requires.runs.first); second = omega (arith, c.requires.runs.second); all = c.requires.runs.within } in
    let end : c.end.result.line ≡ length w0.base.lines.now = c.end.ensures.line ∙ ap (λ (b : Baseline). length b.lines.now) c.cross.ensures.walk.base in
    let n3 = ap (λ k. length (replayed_along w1 Same (span e.from k))) end ∙ rest-count w0 c.requires.walk e within w1 w2 c.cross.ensures.walk c.in_ok-order.ensures.crossed in
    let l3 = ap (λ k. looks_in_span w1 Same (span e.from k)) end ∙ rest-looks w0 c.requires.walk e within w1 w2 c.cross.ensures.walk c.in_ok-order.ensures.crossed in
    let all = steps-then _ _ _ _ _ _ _ c.in_ok-order.ensures.steps c.in_ok-go_along.ensures.steps in
    record {
      steps = steps-as _ _ _ _ _ _ (omega (arith, ones-all w0 c.requires.walk e within, n3)) all;
      looked = looks-wider _ _ _ _ (omega (arith, looks-all w0 c.requires.walk e within, l3)) (looks-then _ _ _ _ _ c.cross.ensures.looked c.go_along.ensures.looked);
    }
