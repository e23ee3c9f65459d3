use Rattle.std.proofs.Common.{arith, rules, ◌≡◌, ◌≤◌, ℕ, length, refl, ap, subst, ◌∙◌}
use Rattle.cps_final.specs.Code.Kept.{changes_in}
use Rattle.cps_final.specs.Layout.{puts_of}
use Rattle.cps_edit.specs.Passes.{traces_from}
use Rattle.cps_chunk.specs.Code.Walk.{GoesOver, cursor, looks_in, now_at, replayed_in}
use Rattle.cps_chunk.proofs.OverLemmas.{still-still, still-walk}
use Rattle.cps_chunk.proofs.ReplayedLemmas.{ones-spliced}
use Rattle.cps_live.specs.Code.Editing.{splice_of}
use Rattle.cps_live.proofs.FirstPassLemmas.{Entered, ends-within, entered-does, entered-state, looks-are, steps-are, steps-first, walked}
use Rattle.cps_live.proofs.first_pass.go_over.Goals as goal

-- ---- no memory for the new lines

pub returns-in_err-entered-clause-walk : goal.returns-in_err-entered-clause-walk
returns-in_err-entered-clause-walk c =
    let w0 = c.args.walk.now in
    let w1 = c.enter_all.new.self in
    let r1 = c.enter_all.ensures.rest in
    let still1 = still-walk w0 w0 w1 c.requires.walk r1.0 (ap (λ cs. cs.items) r1.1) refl refl in
    still1

pub returns-in_err-entered-clause-steps : goal.returns-in_err-entered-clause-steps
returns-in_err-entered-clause-steps c =
    let count = ones-spliced c.args.walk.now.base.lines.now (splice_of c.args.cut.now) in
    let s = c.in_err-entered.ensures.steps in
    let new = ap length c.deref.ensures.value in
    record {
      ones = search rules;
      twos = search rules;
      ones_least = s.ones_least;
      twos_least = s.twos_least;
      ones_most = omega (arith, s.ones_most, count, new);
      twos_most = s.twos_most;
    }

-- ---- the lines that go

pub close-requires-clause-walk : goal.close-requires-clause-walk
close-requires-clause-walk c =
    let w0 = c.args.walk.now in
    let w1 = c.enter_all.new.self in
    let r1 = c.enter_all.ensures.rest in
    let still1 = still-walk w0 w0 w1 c.requires.walk r1.0 (ap (λ cs. cs.items) r1.1) refl refl in
    still1.walk

pub returns-in_err-close-clause-walk : goal.returns-in_err-close-clause-walk
returns-in_err-close-clause-walk c =
    let w0 = c.args.walk.now in
    let w1 = c.enter_all.new.self in
    let r1 = c.enter_all.ensures.rest in
    let still1 = still-walk w0 w0 w1 c.requires.walk r1.0 (ap (λ cs. cs.items) r1.1) refl refl in
    let w2 = c.close.new.self in
    let r2 = c.close.ensures.rest in
    let still2 = still-walk w0 w1 w2 still1.walk r2.0 (ap (λ cs. cs.items) r2.1) still1.base still1.lengths in
    still2

pub returns-in_err-close-clause-steps : goal.returns-in_err-close-clause-steps
returns-in_err-close-clause-steps c =
    let count = ones-spliced c.args.walk.now.base.lines.now (splice_of c.args.cut.now) in
    let s = c.in_ok-entered.ensures.steps in
    let new = ap length c.deref.ensures.value in
    record {
      ones = search rules;
      twos = search rules;
      ones_least = s.ones_least;
      twos_least = s.twos_least;
      ones_most = omega (arith, s.ones_most, count, new);
      twos_most = s.twos_most;
    }

-- ---- the lines of cut chunks

pub go_over_lines-requires : goal.go_over_lines-requires
go_over_lines-requires c =
    let w0 = c.args.walk.now in
    let w1 = c.enter_all.new.self in
    let r1 = c.enter_all.ensures.rest in
    let still1 = still-walk w0 w0 w1 c.requires.walk r1.0 (ap (λ cs. cs.items) r1.1) refl refl in
    let w2 = c.close.new.self in
    let r2 = c.close.ensures.rest in
    let still2 = still-walk w0 w1 w2 still1.walk r2.0 (ap (λ cs. cs.items) r2.1) still1.base still1.lengths in
    let cut = c.args.cut.now in
    record {
      walk = still2.walk;
      ordered = omega (arith, c.requires.cut.behind, c.requires.cut.recuts.ends);
      within = omega (arith, ends-within w0 c.requires.walk cut.behind cut.end c.requires.cut.behind, ap (λ base. length base.lines.now) still2.base);
      present = c.in_ok-close.ensures.present;
    }

pub returns-in_err-go_over_lines-clause-walk : goal.returns-in_err-go_over_lines-clause-walk
returns-in_err-go_over_lines-clause-walk c =
    let w0 = c.args.walk.now in
    let w1 = c.enter_all.new.self in
    let r1 = c.enter_all.ensures.rest in
    let still1 = still-walk w0 w0 w1 c.requires.walk r1.0 (ap (λ cs. cs.items) r1.1) refl refl in
    let w2 = c.close.new.self in
    let r2 = c.close.ensures.rest in
    let still2 = still-walk w0 w1 w2 still1.walk r2.0 (ap (λ cs. cs.items) r2.1) still1.base still1.lengths in
    let w3 = c.go_over_lines.new.self in
    let r3 = c.go_over_lines.ensures.rest in
    let still3 = still-walk w0 w2 w3 still2.walk r3.0 (ap (λ cs. cs.items) r3.1) still2.base still2.lengths in
    still3

pub returns-in_err-go_over_lines-clause-steps : goal.returns-in_err-go_over_lines-clause-steps
returns-in_err-go_over_lines-clause-steps c =
    let w0 = c.args.walk.now in
    let w1 = c.enter_all.new.self in
    let r1 = c.enter_all.ensures.rest in
    let still1 = still-walk w0 w0 w1 c.requires.walk r1.0 (ap (λ cs. cs.items) r1.1) refl refl in
    let w2 = c.close.new.self in
    let r2 = c.close.ensures.rest in
    let still2 = still-walk w0 w1 w2 still1.walk r2.0 (ap (λ cs. cs.items) r2.1) still1.base still1.lengths in
    let cut = c.args.cut.now in
    let new = c.in_ok-entered.entered.items in
    let e : Entered w0 w1 w2 cut new =
    record {
      walk = c.requires.walk;
      begins = c.requires.begins;
      first = still1;
      second = still2;
      news = ap (λ news. news.items) (r2.2 ∙ r1.2) ∙ c.requires.begins.news;
      does = c.in_ok-entered.ensures.traces ∙ ap (traces_from (now_at w0 cut.keep)) c.deref.ensures.value;
      same = ap changes_in c.enter_all.ensures.changes;
      changes = c.in_ok-close.ensures.changes (puts_of new) c.in_ok-entered.ensures.puts;
    }
    in
    let order = c.requires.cut.recuts.order in
    let start = entered-state w0 w1 w2 cut new e order in
    let loose : cut.from ≤ cut.behind = omega (arith, c.requires.cut.behind, c.requires.cut.recuts.ends) in
    let within = ends-within w0 c.requires.walk cut.behind cut.end c.requires.cut.behind in
    let some = steps-first w0 w2 c.requires.walk (splice_of cut) cut.from cut.behind refl loose within still2.base start in
    let s = c.in_ok-entered.ensures.steps in
    let t = c.in_err-go_over_lines.ensures.steps in
    let count = ap length c.deref.ensures.value in
    record {
      ones = search rules;
      twos = search rules;
      ones_least = omega (arith, s.ones_least, t.ones_least);
      twos_least = omega (arith, s.twos_least, t.twos_least);
      ones_most = omega (arith, s.ones_most, t.ones_most, some, count);
      twos_most = omega (arith, s.twos_most, t.twos_most);
    }

-- ---- the chunks behind them

pub end-end-requires : goal.end-end-requires
end-end-requires c =
    let w0 = c.args.walk.now in
    let w1 = c.enter_all.new.self in
    let r1 = c.enter_all.ensures.rest in
    let still1 = still-walk w0 w0 w1 c.requires.walk r1.0 (ap (λ cs. cs.items) r1.1) refl refl in
    let w2 = c.close.new.self in
    let r2 = c.close.ensures.rest in
    let still2 = still-walk w0 w1 w2 still1.walk r2.0 (ap (λ cs. cs.items) r2.1) still1.base still1.lengths in
    let w3 = c.go_over_lines.new.self in
    let r3 = c.go_over_lines.ensures.rest in
    let still3 = still-walk w0 w2 w3 still2.walk r3.0 (ap (λ cs. cs.items) r3.1) still2.base still2.lengths in
    still3.walk

pub go_over_chunks-requires-clause-walk : goal.go_over_chunks-requires-clause-walk
go_over_chunks-requires-clause-walk c =
    let w0 = c.args.walk.now in
    let w1 = c.enter_all.new.self in
    let r1 = c.enter_all.ensures.rest in
    let still1 = still-walk w0 w0 w1 c.requires.walk r1.0 (ap (λ cs. cs.items) r1.1) refl refl in
    let w2 = c.close.new.self in
    let r2 = c.close.ensures.rest in
    let still2 = still-walk w0 w1 w2 still1.walk r2.0 (ap (λ cs. cs.items) r2.1) still1.base still1.lengths in
    let w3 = c.go_over_lines.new.self in
    let r3 = c.go_over_lines.ensures.rest in
    let still3 = still-walk w0 w2 w3 still2.walk r3.0 (ap (λ cs. cs.items) r3.1) still2.base still2.lengths in
    still3.walk

pub returns-in_err-go_over_chunks-clause-walk : goal.returns-in_err-go_over_chunks-clause-walk
returns-in_err-go_over_chunks-clause-walk c =
    let w0 = c.args.walk.now in
    let w1 = c.enter_all.new.self in
    let r1 = c.enter_all.ensures.rest in
    let still1 = still-walk w0 w0 w1 c.requires.walk r1.0 (ap (λ cs. cs.items) r1.1) refl refl in
    let w2 = c.close.new.self in
    let r2 = c.close.ensures.rest in
    let still2 = still-walk w0 w1 w2 still1.walk r2.0 (ap (λ cs. cs.items) r2.1) still1.base still1.lengths in
    let w3 = c.go_over_lines.new.self in
    let r3 = c.go_over_lines.ensures.rest in
    let still3 = still-walk w0 w2 w3 still2.walk r3.0 (ap (λ cs. cs.items) r3.1) still2.base still2.lengths in
    still-still w0 w3 c.go_over_chunks.new.self still3 c.go_over_chunks.ensures.walk

pub returns-in_err-go_over_chunks-clause-steps : goal.returns-in_err-go_over_chunks-clause-steps
returns-in_err-go_over_chunks-clause-steps c =
    let w0 = c.args.walk.now in
    let w1 = c.enter_all.new.self in
    let r1 = c.enter_all.ensures.rest in
    let still1 = still-walk w0 w0 w1 c.requires.walk r1.0 (ap (λ cs. cs.items) r1.1) refl refl in
    let w2 = c.close.new.self in
    let r2 = c.close.ensures.rest in
    let still2 = still-walk w0 w1 w2 still1.walk r2.0 (ap (λ cs. cs.items) r2.1) still1.base still1.lengths in
    let w3 = c.go_over_lines.new.self in
    let r3 = c.go_over_lines.ensures.rest in
    let still3 = still-walk w0 w2 w3 still2.walk r3.0 (ap (λ cs. cs.items) r3.1) still2.base still2.lengths in
    let cut = c.args.cut.now in
    let new = c.in_ok-entered.entered.items in
    let e : Entered w0 w1 w2 cut new =
    record {
      walk = c.requires.walk;
      begins = c.requires.begins;
      first = still1;
      second = still2;
      news = ap (λ news. news.items) (r2.2 ∙ r1.2) ∙ c.requires.begins.news;
      does = c.in_ok-entered.ensures.traces ∙ ap (traces_from (now_at w0 cut.keep)) c.deref.ensures.value;
      same = ap changes_in c.enter_all.ensures.changes;
      changes = c.in_ok-close.ensures.changes (puts_of new) c.in_ok-entered.ensures.puts;
    }
    in
    let order = c.requires.cut.recuts.order in
    let start = entered-state w0 w1 w2 cut new e order in
    let loose : cut.from ≤ cut.behind = omega (arith, c.requires.cut.behind, c.requires.cut.recuts.ends) in
    let within = ends-within w0 c.requires.walk cut.behind cut.end c.requires.cut.behind in
    let all = steps-are w0 w2 w3 c.go_over_chunks.new.self c.requires.walk (splice_of cut) cut.from cut.behind cut.end refl loose within still2.base still3.base still3.lengths start e.news c.in_ok-go_over_lines.ensures.over in
    let line = c.end-end.ensures.line ∙ ap (λ base. length base.lines.now) still3.base in
    let s = c.in_ok-entered.ensures.steps in
    let t = c.in_ok-go_over_lines.ensures.steps in
    let u = c.in_err-go_over_chunks.ensures.steps in
    let count = ap length c.deref.ensures.value in
    let last = ap (λ k. length (replayed_in w3 cut.behind k)) line in
    record {
      ones = search rules;
      twos = search rules;
      ones_least = omega (arith, s.ones_least, t.ones_least, u.ones_least);
      twos_least = omega (arith, s.twos_least, t.twos_least, u.twos_least);
      ones_most = omega (arith, s.ones_most, t.ones_most, u.ones_most, all, count, last);
      twos_most = omega (arith, s.twos_most, t.twos_most, u.twos_most);
    }

pub returns-in_err-go_over_chunks-clause-looked : goal.returns-in_err-go_over_chunks-clause-looked
returns-in_err-go_over_chunks-clause-looked c =
    let w0 = c.args.walk.now in
    let w1 = c.enter_all.new.self in
    let r1 = c.enter_all.ensures.rest in
    let still1 = still-walk w0 w0 w1 c.requires.walk r1.0 (ap (λ cs. cs.items) r1.1) refl refl in
    let w2 = c.close.new.self in
    let r2 = c.close.ensures.rest in
    let still2 = still-walk w0 w1 w2 still1.walk r2.0 (ap (λ cs. cs.items) r2.1) still1.base still1.lengths in
    let w3 = c.go_over_lines.new.self in
    let r3 = c.go_over_lines.ensures.rest in
    let still3 = still-walk w0 w2 w3 still2.walk r3.0 (ap (λ cs. cs.items) r3.1) still2.base still2.lengths in
    let cut = c.args.cut.now in
    let new = c.in_ok-entered.entered.items in
    let e : Entered w0 w1 w2 cut new =
    record {
      walk = c.requires.walk;
      begins = c.requires.begins;
      first = still1;
      second = still2;
      news = ap (λ news. news.items) (r2.2 ∙ r1.2) ∙ c.requires.begins.news;
      does = c.in_ok-entered.ensures.traces ∙ ap (traces_from (now_at w0 cut.keep)) c.deref.ensures.value;
      same = ap changes_in c.enter_all.ensures.changes;
      changes = c.in_ok-close.ensures.changes (puts_of new) c.in_ok-entered.ensures.puts;
    }
    in
    let order = c.requires.cut.recuts.order in
    let start = entered-state w0 w1 w2 cut new e order in
    let loose : cut.from ≤ cut.behind = omega (arith, c.requires.cut.behind, c.requires.cut.recuts.ends) in
    let within = ends-within w0 c.requires.walk cut.behind cut.end c.requires.cut.behind in
    let looks = looks-are w0 w2 w3 c.go_over_chunks.new.self c.requires.walk (splice_of cut) cut.from cut.behind cut.end refl loose within still2.base still3.base still3.lengths start e.news c.in_ok-go_over_lines.ensures.over in
    let last : looks_in w3 (cursor cut.end cut.behind) (cursor c.end-end.result.chunk c.end-end.result.line) ≡ looks_in w3 (cursor cut.end cut.behind) (cursor (length w3.chunks.items) (length w3.base.lines.now)) =
    (λ i. looks_in w3 (cursor cut.end cut.behind) (cursor (c.end-end.ensures.chunk i) (c.end-end.ensures.line i))) in
    let t = c.go_over_lines.ensures.looked in
    let u = c.go_over_chunks.ensures.looked in
    record { least = omega (arith, c.enter_all.ensures.looked, t.least, u.least); most = omega (arith, c.enter_all.ensures.looked, t.most, u.most, last, looks) }

-- ---- all of them

pub returns-clause-entered : goal.returns-clause-entered
returns-clause-entered c =
    let w0 = c.args.walk.now in
    let w1 = c.enter_all.new.self in
    let r1 = c.enter_all.ensures.rest in
    let still1 = still-walk w0 w0 w1 c.requires.walk r1.0 (ap (λ cs. cs.items) r1.1) refl refl in
    let w2 = c.close.new.self in
    let r2 = c.close.ensures.rest in
    let still2 = still-walk w0 w1 w2 still1.walk r2.0 (ap (λ cs. cs.items) r2.1) still1.base still1.lengths in
    let cut = c.args.cut.now in
    let new = c.in_ok-entered.entered.items in
    let e : Entered w0 w1 w2 cut new =
    record {
      walk = c.requires.walk;
      begins = c.requires.begins;
      first = still1;
      second = still2;
      news = ap (λ news. news.items) (r2.2 ∙ r1.2) ∙ c.requires.begins.news;
      does = c.in_ok-entered.ensures.traces ∙ ap (traces_from (now_at w0 cut.keep)) c.deref.ensures.value;
      same = ap changes_in c.enter_all.ensures.changes;
      changes = c.in_ok-close.ensures.changes (puts_of new) c.in_ok-entered.ensures.puts;
    }
    in
    let order = c.requires.cut.recuts.order in
    let start = entered-state w0 w1 w2 cut new e order in
    let loose : cut.from ≤ cut.behind = omega (arith, c.requires.cut.behind, c.requires.cut.recuts.ends) in
    let within = ends-within w0 c.requires.walk cut.behind cut.end c.requires.cut.behind in
    entered-does w0 w1 w2 cut new e order

pub returns-clause-over : goal.returns-clause-over
returns-clause-over c =
    let w0 = c.args.walk.now in
    let w1 = c.enter_all.new.self in
    let r1 = c.enter_all.ensures.rest in
    let still1 = still-walk w0 w0 w1 c.requires.walk r1.0 (ap (λ cs. cs.items) r1.1) refl refl in
    let w2 = c.close.new.self in
    let r2 = c.close.ensures.rest in
    let still2 = still-walk w0 w1 w2 still1.walk r2.0 (ap (λ cs. cs.items) r2.1) still1.base still1.lengths in
    let w3 = c.go_over_lines.new.self in
    let r3 = c.go_over_lines.ensures.rest in
    let still3 = still-walk w0 w2 w3 still2.walk r3.0 (ap (λ cs. cs.items) r3.1) still2.base still2.lengths in
    let cut = c.args.cut.now in
    let new = c.in_ok-entered.entered.items in
    let e : Entered w0 w1 w2 cut new =
    record {
      walk = c.requires.walk;
      begins = c.requires.begins;
      first = still1;
      second = still2;
      news = ap (λ news. news.items) (r2.2 ∙ r1.2) ∙ c.requires.begins.news;
      does = c.in_ok-entered.ensures.traces ∙ ap (traces_from (now_at w0 cut.keep)) c.deref.ensures.value;
      same = ap changes_in c.enter_all.ensures.changes;
      changes = c.in_ok-close.ensures.changes (puts_of new) c.in_ok-entered.ensures.puts;
    }
    in
    let order = c.requires.cut.recuts.order in
    let start = entered-state w0 w1 w2 cut new e order in
    let loose : cut.from ≤ cut.behind = omega (arith, c.requires.cut.behind, c.requires.cut.recuts.ends) in
    let within = ends-within w0 c.requires.walk cut.behind cut.end c.requires.cut.behind in
    let w4 = c.go_over_chunks.new.self in
    let over = subst (λ (k : ℕ). GoesOver w3 w4 cut.behind k) c.end-end.ensures.line c.in_ok-go_over_chunks.ensures.over in
    walked w0 w2 w3 w4 c.requires.walk (splice_of cut) cut.from cut.behind cut.end refl loose within still2.base still3.base still3.lengths start e.news c.in_ok-go_over_lines.ensures.over c.go_over_chunks.ensures.walk.base over

pub returns-clause-steps : goal.returns-clause-steps
returns-clause-steps c =
    let w0 = c.args.walk.now in
    let w1 = c.enter_all.new.self in
    let r1 = c.enter_all.ensures.rest in
    let still1 = still-walk w0 w0 w1 c.requires.walk r1.0 (ap (λ cs. cs.items) r1.1) refl refl in
    let w2 = c.close.new.self in
    let r2 = c.close.ensures.rest in
    let still2 = still-walk w0 w1 w2 still1.walk r2.0 (ap (λ cs. cs.items) r2.1) still1.base still1.lengths in
    let w3 = c.go_over_lines.new.self in
    let r3 = c.go_over_lines.ensures.rest in
    let still3 = still-walk w0 w2 w3 still2.walk r3.0 (ap (λ cs. cs.items) r3.1) still2.base still2.lengths in
    let cut = c.args.cut.now in
    let new = c.in_ok-entered.entered.items in
    let e : Entered w0 w1 w2 cut new =
    record {
      walk = c.requires.walk;
      begins = c.requires.begins;
      first = still1;
      second = still2;
      news = ap (λ news. news.items) (r2.2 ∙ r1.2) ∙ c.requires.begins.news;
      does = c.in_ok-entered.ensures.traces ∙ ap (traces_from (now_at w0 cut.keep)) c.deref.ensures.value;
      same = ap changes_in c.enter_all.ensures.changes;
      changes = c.in_ok-close.ensures.changes (puts_of new) c.in_ok-entered.ensures.puts;
    }
    in
    let order = c.requires.cut.recuts.order in
    let start = entered-state w0 w1 w2 cut new e order in
    let loose : cut.from ≤ cut.behind = omega (arith, c.requires.cut.behind, c.requires.cut.recuts.ends) in
    let within = ends-within w0 c.requires.walk cut.behind cut.end c.requires.cut.behind in
    let all = steps-are w0 w2 w3 c.go_over_chunks.new.self c.requires.walk (splice_of cut) cut.from cut.behind cut.end refl loose within still2.base still3.base still3.lengths start e.news c.in_ok-go_over_lines.ensures.over in
    let line = c.end-end.ensures.line ∙ ap (λ base. length base.lines.now) still3.base in
    let s = c.in_ok-entered.ensures.steps in
    let t = c.in_ok-go_over_lines.ensures.steps in
    let u = c.in_ok-go_over_chunks.ensures.steps in
    let count = ap length c.deref.ensures.value in
    let last = ap (λ k. length (replayed_in w3 cut.behind k)) line in
    record {
      ones = omega (arith, s.ones, t.ones, u.ones, all, count, last);
      twos = omega (arith, s.twos, t.twos, u.twos);
      ones_least = omega (arith, s.ones_least, t.ones_least, u.ones_least);
      twos_least = omega (arith, s.twos_least, t.twos_least, u.twos_least);
      ones_most = omega (arith, s.ones_most, t.ones_most, u.ones_most, all, count, last);
      twos_most = omega (arith, s.twos_most, t.twos_most, u.twos_most);
    }

pub returns-clause-looked : goal.returns-clause-looked
returns-clause-looked c =
    let w0 = c.args.walk.now in
    let w1 = c.enter_all.new.self in
    let r1 = c.enter_all.ensures.rest in
    let still1 = still-walk w0 w0 w1 c.requires.walk r1.0 (ap (λ cs. cs.items) r1.1) refl refl in
    let w2 = c.close.new.self in
    let r2 = c.close.ensures.rest in
    let still2 = still-walk w0 w1 w2 still1.walk r2.0 (ap (λ cs. cs.items) r2.1) still1.base still1.lengths in
    let w3 = c.go_over_lines.new.self in
    let r3 = c.go_over_lines.ensures.rest in
    let still3 = still-walk w0 w2 w3 still2.walk r3.0 (ap (λ cs. cs.items) r3.1) still2.base still2.lengths in
    let cut = c.args.cut.now in
    let new = c.in_ok-entered.entered.items in
    let e : Entered w0 w1 w2 cut new =
    record {
      walk = c.requires.walk;
      begins = c.requires.begins;
      first = still1;
      second = still2;
      news = ap (λ news. news.items) (r2.2 ∙ r1.2) ∙ c.requires.begins.news;
      does = c.in_ok-entered.ensures.traces ∙ ap (traces_from (now_at w0 cut.keep)) c.deref.ensures.value;
      same = ap changes_in c.enter_all.ensures.changes;
      changes = c.in_ok-close.ensures.changes (puts_of new) c.in_ok-entered.ensures.puts;
    }
    in
    let order = c.requires.cut.recuts.order in
    let start = entered-state w0 w1 w2 cut new e order in
    let loose : cut.from ≤ cut.behind = omega (arith, c.requires.cut.behind, c.requires.cut.recuts.ends) in
    let within = ends-within w0 c.requires.walk cut.behind cut.end c.requires.cut.behind in
    let looks = looks-are w0 w2 w3 c.go_over_chunks.new.self c.requires.walk (splice_of cut) cut.from cut.behind cut.end refl loose within still2.base still3.base still3.lengths start e.news c.in_ok-go_over_lines.ensures.over in
    let last : looks_in w3 (cursor cut.end cut.behind) (cursor c.end-end.result.chunk c.end-end.result.line) ≡ looks_in w3 (cursor cut.end cut.behind) (cursor (length w3.chunks.items) (length w3.base.lines.now)) =
    (λ i. looks_in w3 (cursor cut.end cut.behind) (cursor (c.end-end.ensures.chunk i) (c.end-end.ensures.line i))) in
    let t = c.go_over_lines.ensures.looked in
    let u = c.go_over_chunks.ensures.looked in
    record { least = omega (arith, c.enter_all.ensures.looked, t.least, u.least); most = omega (arith, c.enter_all.ensures.looked, t.most, u.most, last, looks) }
