use Rattle.std.proofs.Common.{rules, arith, ◌≡◌, ◌<◌, ◌≤◌, ◌+◌, length, get_or, drop, vec_len}
use Rattle.cps_edit.proofs.TakenLemmas.{popped, fewer}
use Rattle.cps_live.proofs.PlaceLemmas.{replace-place}
use Rattle.cps_live.proofs.lists.replace_at.Goals as goal

pub loop-item-preserved : goal.loop-item-preserved
loop-item-preserved g c =
    let news = c.args.news.items in
    let items = c.args.items.now.items in
    let a = vec_len c.loop-item.news in
    let b = vec_len c.pop.new.self in
    let one : a ≡ b + 1 = omega (arith, c.in-Some.ensures.len) in
    let lt : b < length news = omega (arith, c.args.news.ok.0) in
    let within : c.args.keep + length news ≤ length items = omega (arith, c.args.items.now.ok.0, c.args.news.ok.0, c.requires) in
    let got : c.in-Some.item ≡ get_or news b c.in-Some.item = popped news c.loop-item.news.items a b c.in-Some.item c.loop-item.invariant.left one (c.in-Some.ensures.value c.in-Some.item (omega arith)) in
    record {
      left = fewer news c.loop-item.news.items c.pop.new.self.items a b c.loop-item.invariant.left one c.in-Some.ensures.rest;
      few = omega arith;
      items =
          rw c.len.ensures
          (replace-place items news (drop (c.args.keep + vec_len c.args.news) items) c.loop-item.items.items a b c.args.keep c.in-Some.item one lt within got c.loop-item.invariant.items);
      room = search rules;
    }
