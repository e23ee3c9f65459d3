use Rattle.std.proofs.Common.{◌≡◌, ◌-◌, arith, ap, ◌∙◌, reverse, drop, length, take}
use Rattle.std.specs.Prelude.{sum, vec_len}
use Rattle.std.proofs.lemmas.List.{take_rest}
use Rattle.cps_chunk.specs.Put.{put_at}
use Rattle.cps_chunk.specs.Staying.{same_front}
use Rattle.cps_chunk.proofs.PutLemmas.{put-trimmed}
use Rattle.cps_chunk.proofs.put.ChunkSplice.of.Goals as goal

pub returns-clause-chunks : goal.returns-clause-chunks
returns-clause-chunks c =
    let ns = c.args.lengths.now in
    let from = c.args.from in
    let lines = c.args.lines in
    let come : c.len-come.result ≡ length lines.items = omega (arith, c.len-come.ensures, lines.ok.0) in
    let front = c.count_front-front in
    let back = c.count_back-back in
    let news = c.in_ok-news.news.items in
    let first : front.result ≡ same_front c.args.keep ns news = front.ensures.same ∙ ap (λ xs. same_front c.args.keep ns xs) c.deref.ensures.value in
    let second : back.result ≡ same_front (sum ns - from) (reverse (drop front.result ns)) (reverse (drop front.result news)) =
    back.ensures.same
    ∙ (λ k. same_front (c.lines_of.ensures k - from) (reverse (take_rest ns front.result k)) (reverse (take_rest (c.deref-2.result.now) front.result k)))
    ∙ ap (λ xs. same_front (sum ns - from) (reverse (drop front.result ns)) (reverse (drop front.result xs))) c.deref-2.ensures.value in
    let count : vec_len c.in_ok-news.news ≡ length news = omega (arith, c.in_ok-news.news.ok.0) in
    let made : c.in_ok-to_vec.field-0.items ≡ take (length news - back.result - front.result) (drop front.result news) =
    c.in_ok-to_vec.ensures.items_if_clones_equal (λ x y same. same) ∙ (λ k. take (c.len.ensures k - back.result - front.result) (drop front.result (c.deref-3.ensures.value k)))
    ∙ ap (λ k. take (k - back.result - front.result) (drop front.result news)) count in
    let t = put-trimmed c.args.keep from (length lines.items) front.result back.result news c.in_ok-to_vec.field-0.items ns c.requires.chunks c.requires.order c.requires.within
    (c.in_ok-news.ensures ∙ ap (λ n. put_at c.args.keep (from - c.args.keep) n ns) come) first second made in
    record {
      chunks = t.same;
      ordered = t.edit.ordered;
      within = t.edit.within;
      before = c.lines_of-2.ensures;
      begins = omega (arith, c.lines_of-2.ensures, t.edit.begins);
      ends = t.edit.ends;
      tight = t.tight;
    }
