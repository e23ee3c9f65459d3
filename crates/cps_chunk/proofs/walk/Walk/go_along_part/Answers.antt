use Rattle.std.proofs.Common.{arith, ◌≡◌, ◌+◌, ℕ, take, refl, sym, ap, subst}
use Rattle.std.specs.Prelude.{sum}
use Rattle.cps_edit.specs.Compares.{ComparesUpTo}
use Rattle.cps_chunk.specs.Code.Chunk.{lengths_of}
use Rattle.cps_chunk.specs.Code.Along.{MayGo, front_at}
use Rattle.cps_chunk.specs.Code.Walk.{stretch}
use Rattle.cps_chunk.specs.declared.walk.Destination.{Destination}
use Rattle.cps_chunk.proofs.SpanLemmas.{part-some}
use Rattle.cps_chunk.proofs.OverLemmas.{still-walk}
use Rattle.cps_chunk.proofs.WalkLemmas.{lengths-next}
use Rattle.cps_chunk.proofs.walk.Walk.go_along_part.Goals.{else-part-cursor-via-then-part-cursor+else-part-index, else-part-cursor-via-else-part-cursor}
use Rattle.cps_chunk.proofs.walk.Walk.go_along_part.Goals as goal

-- ---- all lines of the chunk

pub go_along_chunk-requires-clause-end : goal.go_along_chunk-requires-clause-end
go_along_chunk-requires-clause-end c =
    let old = c.args.self.now in
    let i = c.args.cursor.chunk in
    let next = lengths-next old.chunks.items i c.index.result.now c.requires.cursor.within c.index.ensures in
    omega (arith, next, c.requires.cursor.stands.line, c.if-part-cursor.true, c.if-part-index.true, c.requires.part.ordered)

-- ---- some of them

pub go_over_from-requires-clause-may : goal.go_over_from-requires-clause-may
go_over_from-requires-clause-may c = record {
  walk = c.requires.walk;
  ordered = c.requires.part.ordered;
  within = c.requires.part.within;
  present = subst (λ (p : Destination). MayGo c.args.self.now p) c.in-Same.is c.requires.part.may;
}

pub returns-in-Same-clause-walk : goal.returns-in-Same-clause-walk
returns-in-Same-clause-walk c =
    still-walk c.args.self.now c.args.self.now c.go_over_from.new.self c.requires.walk c.go_over_from.ensures.rest.0 (ap (λ cs. cs.items) c.go_over_from.ensures.rest.1) refl refl

pub returns-in-Behind-clause-walk : goal.returns-in-Behind-clause-walk
returns-in-Behind-clause-walk c =
    still-walk c.args.self.now c.args.self.now c.carry_lines.new.self c.requires.walk c.carry_lines.ensures.rest.0 (ap (λ cs. cs.items) c.carry_lines.ensures.rest.1) refl refl

pub returns-in-Same-clause-looked : goal.returns-in-Same-clause-looked
returns-in-Same-clause-looked c =
    let old = c.args.self.now in
    let i = c.args.cursor.chunk in
    let part = c.args.part in
    let end = sum (take (i + 1) (lengths_of old.chunks.items)) in
    let other : part.from ≡ c.args.cursor.line → part.to ≡ end → ⊥ = λ begins ends. elim c.else-part-cursor.branch [
      | else-part-cursor-via-then-part-cursor+else-part-index w ↦
          let next = lengths-next old.chunks.items i w.index.result.now c.requires.cursor.within w.index.ensures in
          omega (arith, next, c.requires.cursor.stands.line, begins, ends, w.if-part-index.false)
      | else-part-cursor-via-else-part-cursor w ↦ omega (arith, begins, w.if-part-cursor.false)
    ] in
    let some = part-some part c.args.cursor.line end (front_at old c.args.position c.args.cursor.line) (stretch c.args.cursor.line end old.base.traces.now) other in
    subst (λ (n : ℕ). ComparesUpTo c.args.work.now c.go_over_from.new.work n) (sym some) c.go_over_from.ensures.looked

pub returns-in-Behind-clause-looked : goal.returns-in-Behind-clause-looked
returns-in-Behind-clause-looked c =
    let old = c.args.self.now in
    let i = c.args.cursor.chunk in
    let part = c.args.part in
    let end = sum (take (i + 1) (lengths_of old.chunks.items)) in
    let other : part.from ≡ c.args.cursor.line → part.to ≡ end → ⊥ = λ begins ends. elim c.else-part-cursor.branch [
      | else-part-cursor-via-then-part-cursor+else-part-index w ↦
          let next = lengths-next old.chunks.items i w.index.result.now c.requires.cursor.within w.index.ensures in
          omega (arith, next, c.requires.cursor.stands.line, begins, ends, w.if-part-index.false)
      | else-part-cursor-via-else-part-cursor w ↦ omega (arith, begins, w.if-part-cursor.false)
    ] in
    let some = part-some part c.args.cursor.line end (front_at old c.args.position c.args.cursor.line) (stretch c.args.cursor.line end old.base.traces.now) other in
    subst (λ (n : ℕ). ComparesUpTo c.args.work.now c.carry_lines.new.work n) (sym some) c.carry_lines.ensures.looked
