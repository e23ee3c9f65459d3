use Rattle.std.proofs.Common.{rules, arith, ◌≡◌, suc, ◌+◌, ◌-◌, ◌++◌, get_or, take, drop, ap, ◌∙◌}
use Rattle.std.proofs.lemmas.Bool.Decides.{nat_tests}
use Rattle.cps_chunk.specs.Division.{joined}
use Rattle.cps_chunk.proofs.ChunkCutLemmas.{set_before, left_of, cut-both, deleted-cut-at, joined-append, chunk-order}
use Rattle.cps_chunk.proofs.deletion.around_deletion.Goals as goal

pub returns-then-first-eq0-clause-chunks : goal.returns-then-first-eq0-clause-chunks
returns-then-first-eq0-clause-chunks c =
    let ns = c.args.lengths.now in
    let keep = c.args.keep in
    let from = c.args.from in
    let first = c.place_of-first in
    let last = c.place_of-last in
    let both = cut-both keep from ns c.requires.chunks c.requires.some c.requires.within first.result.chunk last.result.chunk first.result.before last.result.before c.len.result c.one_of-news.result.items c.set_before.new.lengths.items c.set_before-2.new.lengths.items
    first.ensures.chunk first.ensures.before last.ensures.chunk last.ensures.within last.ensures.before c.one_of-news.ensures.items (search rules) c.set_before.ensures.items c.set_before-2.ensures.items in
    let none : 0 ≡ first.result.chunk = omega (arith, c.if-first-eq0.true) in
    both.0 ∙ ap (λ i. set_before i ns (left_of first.result.chunk keep (from - keep) ns)) none ∙ deleted-cut-at keep from ns c.requires.chunks c.requires.some c.requires.within first.result.chunk first.ensures.chunk

pub returns-clause-chunks : goal.returns-clause-chunks
returns-clause-chunks c =
    let ns = c.args.lengths.now in
    let keep = c.args.keep in
    let from = c.args.from in
    let first = c.place_of-first in
    let last = c.place_of-last in
    let two = c.set_before-2.new.lengths.items in
    let behind = drop (last.result.chunk + 1 + c.len.result) ns in
    let both = cut-both keep from ns c.requires.chunks c.requires.some c.requires.within first.result.chunk last.result.chunk first.result.before last.result.before c.len.result c.one_of-news.result.items c.set_before.new.lengths.items two
    first.ensures.chunk first.ensures.before last.ensures.chunk last.ensures.within last.ensures.before c.one_of-news.ensures.items (search rules) c.set_before.ensures.items c.set_before-2.ensures.items in
    let k = first.result.chunk - 1 in
    let next : suc k ≡ first.result.chunk = grind (arith, nat_tests, c.if-first-eq0.false) in
    ap (λ xs. take k ns ++ (xs ++ behind)) c.set_before-3.ensures.items
    ∙ ap (λ xs. take k ns ++ xs) (joined-append (get_or ns k 0) two behind both.1)
    ∙ ap (λ xs. take k ns ++ joined (get_or ns k 0) xs) both.0
    ∙ ap (λ i. set_before i ns (left_of first.result.chunk keep (from - keep) ns)) next ∙ deleted-cut-at keep from ns c.requires.chunks c.requires.some c.requires.within first.result.chunk first.ensures.chunk

pub returns-clause-ordered : goal.returns-clause-ordered
returns-clause-ordered c =
    let order = chunk-order (c.args.keep + 1) c.args.from c.args.lengths.now (omega (arith, c.requires.some)) in
    omega (arith, order, c.place_of-first.ensures.chunk, c.place_of-last.ensures.chunk)
