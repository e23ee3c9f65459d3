use Rattle.std.proofs.Common.{rules, ◌≡◌, ◌-◌, ap, subst, ◌∙◌, length, List, ℕ}
use Rattle.std.specs.Prelude.{OnOk}
use Rattle.cps_chunk.specs.Put.{put_at}
use Rattle.cps_edit.specs.Splice.{replacement, splice_at, spliced}
use Rattle.cps_live.specs.Edits.{HasLine, LooksOfEdit}
use Rattle.cps_live.proofs.SplicingLemmas.{put-same}
use Rattle.cps_live.proofs.SessionLemmas.{replaced}
use Rattle.cps_live.proofs.session.Session.replace.Goals as goal

pub returns-clause-ok : goal.returns-clause-ok
returns-clause-ok c =
    let lines = c.args.self.now.lines in
    let at = c.args.at in
    let has : HasLine lines at = search rules in
    subst (λ source. OnOk c.put_new.result (c.put_new.new.self.lines ≡ source)) (ap (λ (new : List (List ℕ)). spliced lines (splice_at (at - 1) at new)) c.in-Ok.ensures ∙ replaced lines at c.args.line has) c.put_new.ensures.ok

pub returns-clause-looked : goal.returns-clause-looked
returns-clause-looked c =
    let source = c.args.self.now in
    let at = c.args.at in
    let has : HasLine source.lines at = search rules in
    let one = c.in-Ok.ensures in
    let lengths : put_at (at - 1) (at - (at - 1)) (length c.in-Ok.lines.items) source.lengths ≡ source.lengths =
    ap (λ (new : List (List ℕ)). put_at (at - 1) (at - (at - 1)) (length new) source.lengths) one ∙ put-same at source.lengths has.0 in
    subst (λ (ns : List ℕ). LooksOfEdit source (replacement at c.args.line) ns c.args.work.now c.put_new.new.work) lengths
    (subst (λ (new : List (List ℕ)). LooksOfEdit source (splice_at (at - 1) at new) (put_at (at - 1) (at - (at - 1)) (length c.in-Ok.lines.items) source.lengths) c.args.work.now c.put_new.new.work) one
    c.put_new.ensures.looked)
