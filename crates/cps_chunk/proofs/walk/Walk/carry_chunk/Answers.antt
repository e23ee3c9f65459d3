use Rattle.std.proofs.Common.{arith, ◌≡◌, ◌+◌, ◌≤◌, length, true, refl, sym, ap, subst, ◌∙◌}
use Rattle.cps_final.specs.Layout.{puts_of}
use Rattle.cps_final.specs.Holds.{holds}
use Rattle.cps_final.specs.Run.{run_of}
use Rattle.cps_chunk.specs.declared.change_log.ChangeLog.{ChangeLog}
use Rattle.cps_chunk.specs.declared.replay.Replay.{Replay}
use Rattle.cps_chunk.specs.declared.walk.Baseline.{Baseline}
use Rattle.cps_chunk.specs.declared.walk.Destination.TheVariants.{Behind}
use Rattle.cps_chunk.specs.declared.walk.Walk.{Walk}
use Rattle.cps_chunk.specs.Code.Along.{front_at}
use Rattle.cps_chunk.specs.Code.Replay.{PutsAlso}
use Rattle.cps_chunk.specs.Code.Walk.{stretch}
use Rattle.cps_chunk.proofs.AlongLemmas.{held-along, held-none}
use Rattle.cps_chunk.proofs.CountingLemmas.{on-map, steps-zero}
use Rattle.cps_chunk.proofs.OverLemmas.{still-walk}
use Rattle.cps_chunk.proofs.WalkLemmas.{as-long, lengths-grow, lengths-within}
use Rattle.cps_chunk.proofs.walk.Walk.carry_chunk.Goals as goal

pub part-traces-requires-clause-ordered : goal.part-traces-requires-clause-ordered
part-traces-requires-clause-ordered c =
    omega (arith, c.requires.cursor.stands.line, c.requires.end, lengths-grow c.args.self.now.chunks.items c.args.cursor.chunk)

pub part-traces-requires-clause-within : goal.part-traces-requires-clause-within
part-traces-requires-clause-within c =
    let old = c.args.self.now in
    omega (
      arith,
      c.requires.end,
      lengths-within old.base.hashing old.chunks.items old.base.traces.now (c.args.cursor.chunk + 1) c.requires.walk.chunks,
      ap (λ (b : Baseline). length b.traces.now) c.same_answers_behind.ensures.walk.base,
    )

-- ---- all that they ask together stands

pub returns-then-branch-clause-along : goal.returns-then-branch-clause-along
returns-then-branch-clause-along c =
    let old = c.args.self.now in
    let mid = c.same_answers_behind.new.self in
    let a = c.args.cursor.line in
    let b = c.args.end in
    let le : a ≤ b = omega (arith, c.requires.cursor.stands.line, c.requires.end, lengths-grow old.chunks.items c.args.cursor.chunk) in
    let held : holds (run_of (stretch a b old.base.traces.now)).asks (front_at old (Behind c.args.place) a) ≡ true = sym c.in_ok-same_answers_behind.ensures.holds ∙ c.if-branch.true in
    let new : Walk = record { base = mid.base; chunks = mid.chunks; replay = c.carry_all.new.self } in
    let same : c.carry_all.new.self.news ≡ old.replay.news = c.carry_all.ensures.news ∙ ap (λ (r : Replay). r.news) c.same_answers_behind.ensures.replay in
    let puts : puts_of c.part-traces.result.now ≡ puts_of (stretch a b old.base.traces.now) =
    ap puts_of (c.part-traces.ensures ∙ ap (λ (w : Baseline). stretch a b w.traces.now) c.same_answers_behind.ensures.walk.base) in
    on-map c.carry_all.result
    (λ (also : PutsAlso mid.replay.log c.carry_all.new.self.log (puts_of c.part-traces.result.now)).
    held-along old c.requires.walk.base a b le (front_at old (Behind c.args.place) a) held new c.args.place c.same_answers_behind.ensures.walk.base refl same
    (subst (λ (log : ChangeLog). PutsAlso log c.carry_all.new.self.log (puts_of (stretch a b old.base.traces.now))) (ap (λ (r : Replay). r.log) c.same_answers_behind.ensures.replay)
    (subst (λ ps. PutsAlso mid.replay.log c.carry_all.new.self.log ps) puts also)))
    c.carry_all.ensures.puts

pub returns-then-branch-clause-steps : goal.returns-then-branch-clause-steps
returns-then-branch-clause-steps c =
    let old = c.args.self.now in
    let a = c.args.cursor.line in
    let b = c.args.end in
    let le : a ≤ b = omega (arith, c.requires.cursor.stands.line, c.requires.end, lengths-grow old.chunks.items c.args.cursor.chunk) in
    let held : holds (run_of (stretch a b old.base.traces.now)).asks (front_at old (Behind c.args.place) a) ≡ true = sym c.in_ok-same_answers_behind.ensures.holds ∙ c.if-branch.true in
    steps-zero c.carry_all.result c.args.work.now _ (ap length (held-none old c.requires.walk.base a b le (front_at old (Behind c.args.place) a) held))

-- ---- or its lines are carried one by one

pub carry_lines-requires-clause-lines : goal.carry_lines-requires-clause-lines
carry_lines-requires-clause-lines c =
    let old = c.args.self.now in
    let size = ap (λ (b : Baseline). length b.lines.now) c.same_answers_behind.ensures.walk.base in
    record {
      ordered = omega (arith, c.requires.cursor.stands.line, c.requires.end, lengths-grow old.chunks.items c.args.cursor.chunk);
      within = omega (
        arith,
        size,
        c.requires.end,
        as-long old.base.lines.now old.base.traces.now c.requires.walk.base.did,
        lengths-within old.base.hashing old.chunks.items old.base.traces.now (c.args.cursor.chunk + 1) c.requires.walk.chunks,
      );
      may = omega (arith, size, c.requires.place);
    }

pub returns-clause-walk : goal.returns-clause-walk
returns-clause-walk c =
    let still = c.same_answers_behind.ensures.walk in
    still-walk c.args.self.now c.same_answers_behind.new.self c.carry_lines.new.self still.walk c.carry_lines.ensures.rest.0 (ap (λ cs. cs.items) c.carry_lines.ensures.rest.1) still.base still.lengths
