use Rattle.std.proofs.Common.{arith, length-append, ◌≤◌, length, [], refl, ap, ◌∙◌}
use Rattle.cps_final.specs.Layout.{puts_of}
use Rattle.cps_edit.specs.Passes.{traces_from}
use Rattle.cps_edit.specs.Exchange.{IsWithin, exchange_at}
use Rattle.cps_chunk.specs.declared.walk.Baseline.{Baseline}
use Rattle.cps_chunk.proofs.CountingLemmas.{looks-then, looks-wider, steps-as, steps-stop, steps-then}
use Rattle.cps_chunk.proofs.OverLemmas.{still-still, still-walk}
use Rattle.cps_chunk.specs.Code.Moved.{first_replayed, second_replayed, state_between}
use Rattle.cps_chunk.specs.Code.Walk.{stretch}
use Rattle.cps_live.proofs.MovedPassLemmas.{both-news, carried-count, carried-looks, carried-present, first-crossed, over-count, over-looks, second-news}
use Rattle.cps_live.proofs.moved_pass.carry_first.Goals as goal

-- ---- the lines that go

pub returns-in_err-close-clause-walk : goal.returns-in_err-close-clause-walk
returns-in_err-close-clause-walk c =
    let w0 = c.args.walk.now in
    let e = c.args.exchange in
    let w1 = c.close.new.self in
    let h1 = c.close.ensures.rest in
    let s1 = still-walk w0 w0 w1 c.requires.walk h1.0 (ap (λ cs. cs.items) h1.1) refl refl in
    s1

pub go_along-requires-clause-walk : goal.go_along-requires-clause-walk
go_along-requires-clause-walk c =
    let w0 = c.args.walk.now in
    let e = c.args.exchange in
    let w1 = c.close.new.self in
    let h1 = c.close.ensures.rest in
    let s1 = still-walk w0 w0 w1 c.requires.walk h1.0 (ap (λ cs. cs.items) h1.1) refl refl in
    s1.walk

pub go_along-requires-clause-span : goal.go_along-requires-clause-span
go_along-requires-clause-span c =
    let w0 = c.args.walk.now in
    let e = c.args.exchange in
    let w1 = c.close.new.self in
    let h1 = c.close.ensures.rest in
    let s1 = still-walk w0 w0 w1 c.requires.walk h1.0 (ap (λ cs. cs.items) h1.1) refl refl in
    let size = ap (λ (b : Baseline). length b.lines.now) h1.0 in
    record {
      ordered = omega (arith, c.requires.runs.second);
      within = omega (arith, c.requires.runs.within, size);
      may = c.in_ok-close.ensures.present;
    }

-- ---- the lines that are gone over

pub returns-in_err-go_along-clause-walk : goal.returns-in_err-go_along-clause-walk
returns-in_err-go_along-clause-walk c =
    let w0 = c.args.walk.now in
    let e = c.args.exchange in
    let w1 = c.close.new.self in
    let h1 = c.close.ensures.rest in
    let s1 = still-walk w0 w0 w1 c.requires.walk h1.0 (ap (λ cs. cs.items) h1.1) refl refl in
    still-still w0 w1 c.go_along.new.self s1 c.go_along.ensures.walk

pub returns-in_err-go_along-clause-steps : goal.returns-in_err-go_along-clause-steps
returns-in_err-go_along-clause-steps c =
    let w0 = c.args.walk.now in
    let e = c.args.exchange in
    let w1 = c.close.new.self in
    let h1 = c.close.ensures.rest in
    let s1 = still-walk w0 w0 w1 c.requires.walk h1.0 (ap (λ cs. cs.items) h1.1) refl refl in
    let le : e.keep ≤ e.mid = omega (arith, c.requires.runs.first) in
    let c1 = c.in_ok-close.ensures.changes [] c.requires.begins.present in
    let within : IsWithin (length w0.base.lines.now) e = record { first = le; second = omega (arith, c.requires.runs.second); all = c.requires.runs.within } in
    let w2 = c.go_along.new.self in
    let s2 = c.go_along.ensures.walk in
    let n2 = over-count w0 w1 w2 w2 w2 c.requires.walk c.requires.begins e le h1 c1 in
    let l2 = over-looks w0 w1 w2 w2 w2 c.requires.walk c.requires.begins e le h1 c1 within in
    steps-stop _ _ _ _ _ _ c.from_residual-in_err-go_along.ensures.0 (omega (arith, n2)) c.in_err-go_along.ensures.steps

pub returns-in_err-go_along-clause-looked : goal.returns-in_err-go_along-clause-looked
returns-in_err-go_along-clause-looked c =
    let w0 = c.args.walk.now in
    let e = c.args.exchange in
    let w1 = c.close.new.self in
    let h1 = c.close.ensures.rest in
    let s1 = still-walk w0 w0 w1 c.requires.walk h1.0 (ap (λ cs. cs.items) h1.1) refl refl in
    let le : e.keep ≤ e.mid = omega (arith, c.requires.runs.first) in
    let c1 = c.in_ok-close.ensures.changes [] c.requires.begins.present in
    let within : IsWithin (length w0.base.lines.now) e = record { first = le; second = omega (arith, c.requires.runs.second); all = c.requires.runs.within } in
    let w2 = c.go_along.new.self in
    let s2 = c.go_along.ensures.walk in
    let n2 = over-count w0 w1 w2 w2 w2 c.requires.walk c.requires.begins e le h1 c1 in
    let l2 = over-looks w0 w1 w2 w2 w2 c.requires.walk c.requires.begins e le h1 c1 within in
    looks-wider _ _ _ _ (omega (arith, l2)) c.go_along.ensures.looked

-- ---- the lines that come

pub returns-in_err-go_along-2-clause-walk : goal.returns-in_err-go_along-2-clause-walk
returns-in_err-go_along-2-clause-walk c =
    let w0 = c.args.walk.now in
    let e = c.args.exchange in
    let w1 = c.close.new.self in
    let h1 = c.close.ensures.rest in
    let s1 = still-walk w0 w0 w1 c.requires.walk h1.0 (ap (λ cs. cs.items) h1.1) refl refl in
    still-still w0 c.go_along.new.self c.go_along-2.new.self (still-still w0 w1 c.go_along.new.self s1 c.go_along.ensures.walk) c.go_along-2.ensures.walk

pub returns-in_err-go_along-2-clause-steps : goal.returns-in_err-go_along-2-clause-steps
returns-in_err-go_along-2-clause-steps c =
    let w0 = c.args.walk.now in
    let e = c.args.exchange in
    let w1 = c.close.new.self in
    let h1 = c.close.ensures.rest in
    let s1 = still-walk w0 w0 w1 c.requires.walk h1.0 (ap (λ cs. cs.items) h1.1) refl refl in
    let le : e.keep ≤ e.mid = omega (arith, c.requires.runs.first) in
    let c1 = c.in_ok-close.ensures.changes [] c.requires.begins.present in
    let within : IsWithin (length w0.base.lines.now) e = record { first = le; second = omega (arith, c.requires.runs.second); all = c.requires.runs.within } in
    let w2 = c.go_along.new.self in
    let s2 = c.go_along.ensures.walk in
    let n2 = over-count w0 w1 w2 w2 w2 c.requires.walk c.requires.begins e le h1 c1 in
    let l2 = over-looks w0 w1 w2 w2 w2 c.requires.walk c.requires.begins e le h1 c1 within in
    let g2 = c.in_ok-go_along.ensures.along in
    let w3 = c.go_along-2.new.self in
    let s3 = c.go_along-2.ensures.walk in
    let n1 = carried-count w0 w1 w2 w3 w3 c.requires.walk c.requires.begins e le h1 c1 s2 g2 in
    let l1 = carried-looks w0 w1 w2 w3 w3 c.requires.walk c.requires.begins e le h1 c1 s2 g2 within in
    let both = steps-then _ _ _ _ _ _ _ c.in_ok-go_along.ensures.steps c.in_err-go_along-2.ensures.steps in
    steps-stop _ _ _ _ _ _ c.from_residual-in_err-go_along-2.ensures.0 (omega (arith, n1, n2)) both

pub returns-in_err-go_along-2-clause-looked : goal.returns-in_err-go_along-2-clause-looked
returns-in_err-go_along-2-clause-looked c =
    let w0 = c.args.walk.now in
    let e = c.args.exchange in
    let w1 = c.close.new.self in
    let h1 = c.close.ensures.rest in
    let s1 = still-walk w0 w0 w1 c.requires.walk h1.0 (ap (λ cs. cs.items) h1.1) refl refl in
    let le : e.keep ≤ e.mid = omega (arith, c.requires.runs.first) in
    let c1 = c.in_ok-close.ensures.changes [] c.requires.begins.present in
    let within : IsWithin (length w0.base.lines.now) e = record { first = le; second = omega (arith, c.requires.runs.second); all = c.requires.runs.within } in
    let w2 = c.go_along.new.self in
    let s2 = c.go_along.ensures.walk in
    let n2 = over-count w0 w1 w2 w2 w2 c.requires.walk c.requires.begins e le h1 c1 in
    let l2 = over-looks w0 w1 w2 w2 w2 c.requires.walk c.requires.begins e le h1 c1 within in
    let g2 = c.in_ok-go_along.ensures.along in
    let w3 = c.go_along-2.new.self in
    let s3 = c.go_along-2.ensures.walk in
    let n1 = carried-count w0 w1 w2 w3 w3 c.requires.walk c.requires.begins e le h1 c1 s2 g2 in
    let l1 = carried-looks w0 w1 w2 w3 w3 c.requires.walk c.requires.begins e le h1 c1 s2 g2 within in
    looks-wider _ _ _ _ (omega (arith, l1, l2)) (looks-then _ _ _ _ _ c.go_along.ensures.looked c.go_along-2.ensures.looked)

-- ---- they end

pub returns-in_err-close-2-clause-walk : goal.returns-in_err-close-2-clause-walk
returns-in_err-close-2-clause-walk c =
    let w0 = c.args.walk.now in
    let e = c.args.exchange in
    let w1 = c.close.new.self in
    let h1 = c.close.ensures.rest in
    let s1 = still-walk w0 w0 w1 c.requires.walk h1.0 (ap (λ cs. cs.items) h1.1) refl refl in
    let s3 = still-still w0 c.go_along.new.self c.go_along-2.new.self (still-still w0 w1 c.go_along.new.self s1 c.go_along.ensures.walk) c.go_along-2.ensures.walk in
    let w3 = c.go_along-2.new.self in
    let h4 = c.close-2.ensures.rest in
    still-walk w0 w3 c.close-2.new.self s3.walk h4.0 (ap (λ cs. cs.items) h4.1) s3.base s3.lengths

pub returns-in_err-close-2-clause-steps : goal.returns-in_err-close-2-clause-steps
returns-in_err-close-2-clause-steps c =
    let w0 = c.args.walk.now in
    let e = c.args.exchange in
    let w1 = c.close.new.self in
    let h1 = c.close.ensures.rest in
    let s1 = still-walk w0 w0 w1 c.requires.walk h1.0 (ap (λ cs. cs.items) h1.1) refl refl in
    let le : e.keep ≤ e.mid = omega (arith, c.requires.runs.first) in
    let c1 = c.in_ok-close.ensures.changes [] c.requires.begins.present in
    let within : IsWithin (length w0.base.lines.now) e = record { first = le; second = omega (arith, c.requires.runs.second); all = c.requires.runs.within } in
    let w2 = c.go_along.new.self in
    let s2 = c.go_along.ensures.walk in
    let n2 = over-count w0 w1 w2 w2 w2 c.requires.walk c.requires.begins e le h1 c1 in
    let l2 = over-looks w0 w1 w2 w2 w2 c.requires.walk c.requires.begins e le h1 c1 within in
    let g2 = c.in_ok-go_along.ensures.along in
    let w3 = c.go_along-2.new.self in
    let s3 = c.go_along-2.ensures.walk in
    let n1 = carried-count w0 w1 w2 w3 w3 c.requires.walk c.requires.begins e le h1 c1 s2 g2 in
    let l1 = carried-looks w0 w1 w2 w3 w3 c.requires.walk c.requires.begins e le h1 c1 s2 g2 within in
    let both = steps-then _ _ _ _ _ _ _ c.in_ok-go_along.ensures.steps c.in_ok-go_along-2.ensures.steps in
    steps-stop _ _ _ _ _ _ c.from_residual-in_err-close-2.ensures.0 (omega (arith, n1, n2)) both

pub returns-in_err-close-2-clause-looked : goal.returns-in_err-close-2-clause-looked
returns-in_err-close-2-clause-looked c =
    let w0 = c.args.walk.now in
    let e = c.args.exchange in
    let w1 = c.close.new.self in
    let h1 = c.close.ensures.rest in
    let s1 = still-walk w0 w0 w1 c.requires.walk h1.0 (ap (λ cs. cs.items) h1.1) refl refl in
    let le : e.keep ≤ e.mid = omega (arith, c.requires.runs.first) in
    let c1 = c.in_ok-close.ensures.changes [] c.requires.begins.present in
    let within : IsWithin (length w0.base.lines.now) e = record { first = le; second = omega (arith, c.requires.runs.second); all = c.requires.runs.within } in
    let w2 = c.go_along.new.self in
    let s2 = c.go_along.ensures.walk in
    let n2 = over-count w0 w1 w2 w2 w2 c.requires.walk c.requires.begins e le h1 c1 in
    let l2 = over-looks w0 w1 w2 w2 w2 c.requires.walk c.requires.begins e le h1 c1 within in
    let g2 = c.in_ok-go_along.ensures.along in
    let w3 = c.go_along-2.new.self in
    let s3 = c.go_along-2.ensures.walk in
    let n1 = carried-count w0 w1 w2 w3 w3 c.requires.walk c.requires.begins e le h1 c1 s2 g2 in
    let l1 = carried-looks w0 w1 w2 w3 w3 c.requires.walk c.requires.begins e le h1 c1 s2 g2 within in
    looks-wider _ _ _ _ (omega (arith, l1, l2)) (looks-then _ _ _ _ _ c.go_along.ensures.looked c.go_along-2.ensures.looked)

-- ---- all of it

pub returns-clause-order : goal.returns-clause-order
returns-clause-order c =
    let w0 = c.args.walk.now in
    let e = c.args.exchange in
    let w1 = c.close.new.self in
    let h1 = c.close.ensures.rest in
    let s1 = still-walk w0 w0 w1 c.requires.walk h1.0 (ap (λ cs. cs.items) h1.1) refl refl in
    let le : e.keep ≤ e.mid = omega (arith, c.requires.runs.first) in
    let c1 = c.in_ok-close.ensures.changes [] c.requires.begins.present in
    let within : IsWithin (length w0.base.lines.now) e = record { first = le; second = omega (arith, c.requires.runs.second); all = c.requires.runs.within } in
    let w2 = c.go_along.new.self in
    let s2 = c.go_along.ensures.walk in
    let n2 = over-count w0 w1 w2 w2 w2 c.requires.walk c.requires.begins e le h1 c1 in
    let l2 = over-looks w0 w1 w2 w2 w2 c.requires.walk c.requires.begins e le h1 c1 within in
    let g2 = c.in_ok-go_along.ensures.along in
    let w3 = c.go_along-2.new.self in
    let s3 = c.go_along-2.ensures.walk in
    let n1 = carried-count w0 w1 w2 w3 w3 c.requires.walk c.requires.begins e le h1 c1 s2 g2 in
    let l1 = carried-looks w0 w1 w2 w3 w3 c.requires.walk c.requires.begins e le h1 c1 s2 g2 within in
    let g3 = c.in_ok-go_along-2.ensures.along in
    let w4 = c.close-2.new.self in
    let h4 = c.close-2.ensures.rest in
    let two = c.made-made.ensures ∙ ap length (second-news w0 w1 w2 w3 w3 c.requires.walk c.requires.begins e le h1 c1 s2 g2) in
    let kept = ap (λ news. length news.items) h4.2 in
    let all = ap length (both-news w0 w1 w2 w3 w4 c.requires.walk c.requires.begins e le h1 c1 s2 g2 s3 g3) ∙ length-append (second_replayed w0.base.lines.now e) (first_replayed w0.base.lines.now e) in
    (λ i. exchange_at 0 (two i) ((c.made.ensures ∙ kept ∙ all) i))

pub returns-clause-crossed : goal.returns-clause-crossed
returns-clause-crossed c =
    let w0 = c.args.walk.now in
    let e = c.args.exchange in
    let w1 = c.close.new.self in
    let h1 = c.close.ensures.rest in
    let s1 = still-walk w0 w0 w1 c.requires.walk h1.0 (ap (λ cs. cs.items) h1.1) refl refl in
    let le : e.keep ≤ e.mid = omega (arith, c.requires.runs.first) in
    let c1 = c.in_ok-close.ensures.changes [] c.requires.begins.present in
    let within : IsWithin (length w0.base.lines.now) e = record { first = le; second = omega (arith, c.requires.runs.second); all = c.requires.runs.within } in
    let w2 = c.go_along.new.self in
    let s2 = c.go_along.ensures.walk in
    let n2 = over-count w0 w1 w2 w2 w2 c.requires.walk c.requires.begins e le h1 c1 in
    let l2 = over-looks w0 w1 w2 w2 w2 c.requires.walk c.requires.begins e le h1 c1 within in
    let g2 = c.in_ok-go_along.ensures.along in
    let w3 = c.go_along-2.new.self in
    let s3 = c.go_along-2.ensures.walk in
    let n1 = carried-count w0 w1 w2 w3 w3 c.requires.walk c.requires.begins e le h1 c1 s2 g2 in
    let l1 = carried-looks w0 w1 w2 w3 w3 c.requires.walk c.requires.begins e le h1 c1 s2 g2 within in
    let g3 = c.in_ok-go_along-2.ensures.along in
    let w4 = c.close-2.new.self in
    let h4 = c.close-2.ensures.rest in
    let puts = carried-present w0 w1 w2 w3 w4 c.requires.walk c.requires.begins e le h1 c1 s2 g2 s3 g3 in
    first-crossed w0 w1 w2 w3 w4 c.requires.walk c.requires.begins e le h1 c1 s2 g2 s3 g3 h4 (c.in_ok-close-2.ensures.changes (puts_of (traces_from (state_between w0.base.lines.now e) (stretch e.keep e.mid w0.base.lines.now))) puts) c.in_ok-close-2.ensures.present

pub returns-clause-walk : goal.returns-clause-walk
returns-clause-walk c =
    let w0 = c.args.walk.now in
    let e = c.args.exchange in
    let w1 = c.close.new.self in
    let h1 = c.close.ensures.rest in
    let s1 = still-walk w0 w0 w1 c.requires.walk h1.0 (ap (λ cs. cs.items) h1.1) refl refl in
    let s3 = still-still w0 c.go_along.new.self c.go_along-2.new.self (still-still w0 w1 c.go_along.new.self s1 c.go_along.ensures.walk) c.go_along-2.ensures.walk in
    let w3 = c.go_along-2.new.self in
    let h4 = c.close-2.ensures.rest in
    still-walk w0 w3 c.close-2.new.self s3.walk h4.0 (ap (λ cs. cs.items) h4.1) s3.base s3.lengths

pub returns-clause-steps : goal.returns-clause-steps
returns-clause-steps c =
    let w0 = c.args.walk.now in
    let e = c.args.exchange in
    let w1 = c.close.new.self in
    let h1 = c.close.ensures.rest in
    let s1 = still-walk w0 w0 w1 c.requires.walk h1.0 (ap (λ cs. cs.items) h1.1) refl refl in
    let le : e.keep ≤ e.mid = omega (arith, c.requires.runs.first) in
    let c1 = c.in_ok-close.ensures.changes [] c.requires.begins.present in
    let within : IsWithin (length w0.base.lines.now) e = record { first = le; second = omega (arith, c.requires.runs.second); all = c.requires.runs.within } in
    let w2 = c.go_along.new.self in
    let s2 = c.go_along.ensures.walk in
    let n2 = over-count w0 w1 w2 w2 w2 c.requires.walk c.requires.begins e le h1 c1 in
    let l2 = over-looks w0 w1 w2 w2 w2 c.requires.walk c.requires.begins e le h1 c1 within in
    let g2 = c.in_ok-go_along.ensures.along in
    let w3 = c.go_along-2.new.self in
    let s3 = c.go_along-2.ensures.walk in
    let n1 = carried-count w0 w1 w2 w3 w3 c.requires.walk c.requires.begins e le h1 c1 s2 g2 in
    let l1 = carried-looks w0 w1 w2 w3 w3 c.requires.walk c.requires.begins e le h1 c1 s2 g2 within in
    let both = steps-then _ _ _ _ _ _ _ c.in_ok-go_along.ensures.steps c.in_ok-go_along-2.ensures.steps in
    steps-as _ _ _ _ _ _ (omega (arith, n1, n2)) both

pub returns-clause-looked : goal.returns-clause-looked
returns-clause-looked c =
    let w0 = c.args.walk.now in
    let e = c.args.exchange in
    let w1 = c.close.new.self in
    let h1 = c.close.ensures.rest in
    let s1 = still-walk w0 w0 w1 c.requires.walk h1.0 (ap (λ cs. cs.items) h1.1) refl refl in
    let le : e.keep ≤ e.mid = omega (arith, c.requires.runs.first) in
    let c1 = c.in_ok-close.ensures.changes [] c.requires.begins.present in
    let within : IsWithin (length w0.base.lines.now) e = record { first = le; second = omega (arith, c.requires.runs.second); all = c.requires.runs.within } in
    let w2 = c.go_along.new.self in
    let s2 = c.go_along.ensures.walk in
    let n2 = over-count w0 w1 w2 w2 w2 c.requires.walk c.requires.begins e le h1 c1 in
    let l2 = over-looks w0 w1 w2 w2 w2 c.requires.walk c.requires.begins e le h1 c1 within in
    let g2 = c.in_ok-go_along.ensures.along in
    let w3 = c.go_along-2.new.self in
    let s3 = c.go_along-2.ensures.walk in
    let n1 = carried-count w0 w1 w2 w3 w3 c.requires.walk c.requires.begins e le h1 c1 s2 g2 in
    let l1 = carried-looks w0 w1 w2 w3 w3 c.requires.walk c.requires.begins e le h1 c1 s2 g2 within in
    looks-wider _ _ _ _ (omega (arith, l1, l2)) (looks-then _ _ _ _ _ c.go_along.ensures.looked c.go_along-2.ensures.looked)
