use Rattle.std.proofs.Common.{sym, ◌∙◌}
use Rattle.cps_rpc.proofs.LineLemmas.{texts, length-texts}
use Rattle.cps_rpc.proofs.ChangeLemmas.{change-kept}
use Rattle.cps_rpc.proofs.buffer.Buffer.replace.Goals as goal

pub invariant_of-self-2 : goal.invariant_of-self-2
invariant_of-self-2 c =
    let made = change-kept c.args.encoding c.args.self.now c.args.range c.args.new.now c.self.inside.lines.items c.as_slice-lines.result.now c.put_lines.new.lines.items c.news.inside.lines.items
    c.of-start.result c.of.result c.max-end.result c.self.view_is c.self.invariant c.as_slice-lines.ensures.value c.of-start.ensures c.of.ensures c.max-end.ensures c.news.invariant
    (c.news.view_is ∙ c.in_ok-news.ensures) c.in_ok-put_lines.ensures.ok in
    made.are

pub returns-clause-text : goal.returns-clause-text
returns-clause-text c =
    let made = change-kept c.args.encoding c.args.self.now c.args.range c.args.new.now c.self.inside.lines.items c.as_slice-lines.result.now c.put_lines.new.lines.items c.news.inside.lines.items
    c.of-start.result c.of.result c.max-end.result c.self.view_is c.self.invariant c.as_slice-lines.ensures.value c.of-start.ensures c.of.ensures c.max-end.ensures c.news.invariant
    (c.news.view_is ∙ c.in_ok-news.ensures) c.in_ok-put_lines.ensures.ok in
    made.text

pub returns-clause-lines : goal.returns-clause-lines
returns-clause-lines c =
    let made = change-kept c.args.encoding c.args.self.now c.args.range c.args.new.now c.self.inside.lines.items c.as_slice-lines.result.now c.put_lines.new.lines.items c.news.inside.lines.items
    c.of-start.result c.of.result c.max-end.result c.self.view_is c.self.invariant c.as_slice-lines.ensures.value c.of-start.ensures c.of.ensures c.max-end.ensures c.news.invariant
    (c.news.view_is ∙ c.in_ok-news.ensures) c.in_ok-put_lines.ensures.ok in
    record {
      news = texts c.news.inside.lines.items;
      first = made.first_is;
      end = made.end_is;
      count = c.len.ensures ∙ c.news.inside.lines.ok.0 ∙ sym (length-texts c.news.inside.lines.items);
      some = c.news.invariant.some;
      lines = made.spliced_is;
    }
