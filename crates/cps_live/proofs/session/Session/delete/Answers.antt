use Rattle.std.proofs.Common.{◌≡◌, ◌-◌, ◌<◌, ◌∙◌, List, ℕ, length, ap, subst, arith}
use Rattle.std.proofs.lemmas.Bool.Decides.{nat_tests}
use Rattle.cps_chunk.specs.Division.{deleted_at}
use Rattle.cps_chunk.specs.Put.{put_at}
use Rattle.cps_edit.specs.Splice.{splice_at, deletion}
use Rattle.cps_live.specs.Edits.{LooksOfEdit}
use Rattle.cps_live.proofs.SplicingLemmas.{put-none}
use Rattle.cps_live.proofs.session.Session.delete.Goals as goal

pub returns-clause-looked : goal.returns-clause-looked
returns-clause-looked c =
    let source = c.args.self.now in
    let keep = c.args.first - 1 in
    let from = c.args.last in
    let none = c.new-lines.ensures.items in
    let some : keep < from = grind (arith, nat_tests, c.if-first-eq0.false, c.if-last-first.false) in
    let lengths : put_at keep (from - keep) (length c.new-lines.result.items) source.lengths ≡ deleted_at keep (from - keep) source.lengths =
    ap (λ (new : List (List ℕ)). put_at keep (from - keep) (length new) source.lengths) none ∙ put-none keep from source.lengths some in
    subst (λ (ns : List ℕ). LooksOfEdit source (deletion c.args.first from) ns c.args.work.now c.put_new.new.work) lengths
    (subst (λ (new : List (List ℕ)). LooksOfEdit source (splice_at keep from new) (put_at keep (from - keep) (length c.new-lines.result.items) source.lengths) c.args.work.now c.put_new.new.work) none
    c.put_new.ensures.looked)
