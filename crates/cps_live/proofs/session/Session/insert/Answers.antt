use Rattle.std.proofs.Common.{arith, ◌≡◌, ◌-◌, length, ap, subst, ◌∙◌, List, ℕ}
use Rattle.cps_chunk.specs.Division.{inserted_at}
use Rattle.cps_chunk.specs.Put.{put_at}
use Rattle.cps_edit.specs.Splice.{insertion, splice_at}
use Rattle.cps_live.specs.Edits.{Source, LooksOfEdit}
use Rattle.cps_live.proofs.SplicingLemmas.{put-one}
use Rattle.cps_live.proofs.session.Session.insert.Goals as goal

pub returns-clause-looked : goal.returns-clause-looked
returns-clause-looked c =
    let source = c.args.self.now in
    let after = c.args.after in
    let one = c.in-Ok.ensures in
    let lengths : put_at after (after - after) (length c.in-Ok.lines.items) source.lengths ≡ inserted_at after source.lengths =
    ap (λ (new : List (List ℕ)). put_at after (after - after) (length new) source.lengths) one ∙ put-one after source.lengths in
    subst (λ (ns : List ℕ). LooksOfEdit source (insertion after c.args.line) ns c.args.work.now c.put_new.new.work) lengths
    (subst (λ (new : List (List ℕ)). LooksOfEdit source (splice_at after after new) (put_at after (after - after) (length c.in-Ok.lines.items) source.lengths) c.args.work.now c.put_new.new.work) one
    c.put_new.ensures.looked)

pub returns-then-after-len-2-clause-looked : goal.returns-then-after-len-2-clause-looked
returns-then-after-len-2-clause-looked c =
    let seen : length c.self.inside.kept.lines.items ≡ length c.args.self.now.lines = ap (λ (s : Source). length s.lines) c.self.view_is in
    let last : length c.args.self.now.lines ≡ c.args.after = omega (arith, seen, c.self.inside.kept.lines.ok.0) in
    subst (λ n. LooksOfEdit c.args.self.now (insertion n c.args.line) (inserted_at n c.args.self.now.lengths) c.args.work.now c.append.new.work) last c.append.ensures.looked
