use Rattle.std.proofs.Common.{◌≡◌, ◌++◌, length, refl, sym, ap, ◌∙◌, arith, append-nil}
use Rattle.std.proofs.lemmas.List.{drop_all}
use Rattle.cps_rpc.specs.Lines.{text_lines}
use Rattle.cps_rpc.proofs.LineLemmas.{texts, length-texts, text_lines-kept}
use Rattle.cps_rpc.proofs.TextLemmas.{text_lines-text_of}
use Rattle.cps_rpc.proofs.buffer.Buffer.replace_all.Goals as goal

pub returns-clause-lines : goal.returns-clause-lines
returns-clause-lines c =
    let kept = c.self.inside.lines in
    let old = text_lines c.args.self.now in
    let news = c.buffer.inside.lines in
    let all : c.len.result ≡ length old = c.len.ensures ∙ kept.ok.0 ∙ sym (length-texts kept.items) ∙ sym (ap length (text_lines-kept kept.items _ c.self.view_is c.self.invariant)) in
    record {
      news = texts news.items;
      first = refl;
      end = all;
      count = c.len-2.ensures ∙ news.ok.0 ∙ sym (length-texts news.items);
      some = c.buffer.invariant.some;
      lines =
          text_lines-text_of (texts news.items) c.buffer.invariant
          ∙ sym (ap (λ l. texts news.items ++ l) (drop_all c.len.result old (omega (arith, all))) ∙ append-nil (texts news.items));
    }
