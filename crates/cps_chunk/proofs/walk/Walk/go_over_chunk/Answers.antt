use Rattle.std.proofs.Common.{arith, ◌≡◌, ◌+◌, ◌-◌, ◌≤◌, ℕ, false, length, ap, subst, sym, ◌∙◌}
use Rattle.std.specs.Prelude.{if◌then◌else◌}
use Rattle.cps_final.specs.Changes.{agreed}
use Rattle.cps_final.specs.Code.Kept.{changes_in}
use Rattle.cps_final.specs.Layout.{puts_of}
use Rattle.cps_edit.specs.Compares.{ComparesUpTo}
use Rattle.cps_chunk.specs.Code.Walk.{looks_at, stretch}
use Rattle.cps_chunk.proofs.WalkLemmas.{as-long, lengths-grow, lengths-within}
use Rattle.cps_chunk.proofs.OverLemmas.{none-here, same-over, stands-here, still-walk}
use Rattle.cps_chunk.proofs.walk.Walk.go_over_chunk.Goals as goal

-- ---- the lines do what they did

pub returns-then-branch-clause-over : goal.returns-then-branch-clause-over
returns-then-branch-clause-over c =
    let old = c.args.self.now in
    let a = c.args.cursor.line in
    let b = c.args.end in
    let le : a ≤ b = omega (arith, c.requires.chunk.stands.line, c.requires.end, lengths-grow old.chunks.items c.args.cursor.chunk) in
    let rest = c.same_answers_in.ensures.rest in
    same-over old c.requires.walk a b le c.agree.new.self (sym c.in_ok-same_answers_in.ensures.same ∙ c.if-branch.true)
    (c.agree.ensures.changes ∙ (λ i. agreed (changes_in (rest.1 i).log.changes) (puts_of (stretch a b (rest.0 i).traces.now))))
    (ap (λ news. news.items) c.agree.ensures.news ∙ (λ i. (rest.1 i).news.items))
    (ap changes_in c.agree.ensures.present ∙ (λ i. changes_in (rest.1 i).log.present) ∙ c.requires.present)
    (c.agree.ensures.rest.0 ∙ rest.0)

pub returns-then-branch-clause-walk : goal.returns-then-branch-clause-walk
returns-then-branch-clause-walk c =
    let same = c.same_answers_in.ensures in
    still-walk c.args.self.now c.same_answers_in.new.self c.agree.new.self same.walk c.agree.ensures.rest.0 (ap (λ cs. cs.items) c.agree.ensures.rest.1) same.rest.0 same.lengths

pub returns-then-branch-clause-steps : goal.returns-then-branch-clause-steps
returns-then-branch-clause-steps c =
    let old = c.args.self.now in
    let a = c.args.cursor.line in
    let b = c.args.end in
    let le : a ≤ b = omega (arith, c.requires.chunk.stands.line, c.requires.end, lengths-grow old.chunks.items c.args.cursor.chunk) in
    let none = ap length (none-here old c.requires.walk a b le (sym c.in_ok-same_answers_in.ensures.same ∙ c.if-branch.true)) in
    record {
      ones = omega (arith, none);
      twos = omega arith;
      ones_least = omega arith;
      twos_least = omega arith;
      ones_most = omega arith;
      twos_most = omega arith;
    }

-- ---- they are gone over one by one

pub go_over_from-requires-clause-may : goal.go_over_from-requires-clause-may
go_over_from-requires-clause-may c =
    let old = c.args.self.now in
    let rest = c.same_answers_in.ensures.rest in
    let size = lengths-within old.base.hashing old.chunks.items old.base.traces.now (c.args.cursor.chunk + 1) c.requires.walk.chunks in
    record {
      walk = c.same_answers_in.ensures.walk;
      ordered = omega (arith, c.requires.chunk.stands.line, c.requires.end, lengths-grow old.chunks.items c.args.cursor.chunk);
      within = omega (
        arith,
        c.requires.end,
        size,
        as-long old.base.lines.now old.base.traces.now c.requires.walk.base.did,
        ap (λ base. length base.lines.now) rest.0,
      );
      present = ap (λ replay. changes_in replay.log.present) rest.1 ∙ c.requires.present;
    }

pub returns-clause-walk : goal.returns-clause-walk
returns-clause-walk c =
    let same = c.same_answers_in.ensures in
    still-walk c.args.self.now c.same_answers_in.new.self c.go_over_from.new.self same.walk c.go_over_from.ensures.rest.0 (ap (λ cs. cs.items) c.go_over_from.ensures.rest.1) same.rest.0 same.lengths

pub returns-clause-looked : goal.returns-clause-looked
returns-clause-looked c =
    let old = c.args.self.now in
    let a = c.args.cursor.line in
    let b = c.args.end in
    let le : a ≤ b = omega (arith, c.requires.chunk.stands.line, c.requires.end, lengths-grow old.chunks.items c.args.cursor.chunk) in
    let out = stands-here old c.requires.walk a b le false (sym c.in_ok-same_answers_in.ensures.same ∙ c.if-branch.false) in
    let all : looks_at old a b ≡ b - a = ap (λ held. if held then 0 else b - a) out in
    subst (λ (n : ℕ). ComparesUpTo c.args.work.now c.go_over_from.new.work n) (sym all) c.go_over_from.ensures.looked
