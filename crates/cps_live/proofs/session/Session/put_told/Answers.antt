use Rattle.std.proofs.Common.{◌-◌, ◌≤◌, arith, refl, ap, subst, ◌∙◌, List, ℕ, length, take}
use Rattle.std.specs.Prelude.{IfOk, sum}
use Rattle.cps_edit.specs.Assembly.{outcomes_of}
use Rattle.cps_chunk.specs.Put.{IsRecut, put_at}
use Rattle.cps_edit.specs.Splice.{Splice, splice_at}
use Rattle.cps_live.specs.Edits.{AreRedone}
use Rattle.cps_live.proofs.SplicingLemmas.{splice-for, splice-is, splice-looks}
use Rattle.cps_live.proofs.session.Session.put_told.Goals as goal

pub splice-requires-clause-cut : goal.splice-requires-clause-cut
splice-requires-clause-cut c =
    let source = c.args.self.now in
    let olds = source.lengths in
    let keep = c.args.keep in
    let from = c.args.from in
    let come = c.args.lines.items in
    let by = c.in-Ok-of.splice in
    let division = c.in-Ok.ensures.division in
    let same = c.deref.ensures.value ∙ c.in-Ok.ensures.lengths in
    let within : from ≤ sum olds = omega (arith, c.requires.places.1, division.total) in
    let is = subst (λ (ms : List ℕ). IsRecut keep from ms (put_at keep (from - keep) (length come) ms) by) same c.in-Ok-of.ensures.chunks in
    let again = c.a_put_divides_again.ensures keep (from - keep) (length come) (sum olds) olds (record { chunks = division.chunks; total = refl })
    (omega (arith, c.requires.places.0, within)) in
    let places = c.in-Ok-of.ensures.lines in
    let made = splice-for keep from come olds by c.requires.places.0 within is again (λ i. splice_at (places.0 i) (places.1 i) (places.2 i).items)
    (c.in-Ok-of.ensures.behind ∙ ap (λ (ms : List ℕ). sum (take by.end ms)) same) in
    splice-is source.lines (splice_at keep from come) olds (put_at keep (from - keep) (length come) olds) by made division

pub returns-clause-looked : goal.returns-clause-looked
returns-clause-looked c =
    let source = c.args.self.now in
    let olds = source.lengths in
    let keep = c.args.keep in
    let from = c.args.from in
    let come = c.args.lines.items in
    let by = c.in-Ok-of.splice in
    let division = c.in-Ok.ensures.division in
    let same = c.deref.ensures.value ∙ c.in-Ok.ensures.lengths in
    let within : from ≤ sum olds = omega (arith, c.requires.places.1, division.total) in
    let is = subst (λ (ms : List ℕ). IsRecut keep from ms (put_at keep (from - keep) (length come) ms) by) same c.in-Ok-of.ensures.chunks in
    let again = c.a_put_divides_again.ensures keep (from - keep) (length come) (sum olds) olds (record { chunks = division.chunks; total = refl })
    (omega (arith, c.requires.places.0, within)) in
    let places = c.in-Ok-of.ensures.lines in
    let made = splice-for keep from come olds by c.requires.places.0 within is again (λ i. splice_at (places.0 i) (places.1 i) (places.2 i).items)
    (c.in-Ok-of.ensures.behind ∙ ap (λ (ms : List ℕ). sum (take by.end ms)) same) in
    splice-looks source (splice_at keep from come) (put_at keep (from - keep) (length come) olds) by c.args.work.now c.splice.new.work made c.splice.ensures.looked

pub returns-clause-redone : goal.returns-clause-redone
returns-clause-redone c =
    let places = c.in-Ok-of.ensures.lines in
    subst (λ (s : Splice). IfOk c.splice.result (λ redone. AreRedone (outcomes_of c.args.self.now.lines) s (outcomes_of c.splice.new.self.lines) redone.places.items))
    (λ i. splice_at (places.0 i) (places.1 i) (places.2 i).items) c.splice.ensures.redone
