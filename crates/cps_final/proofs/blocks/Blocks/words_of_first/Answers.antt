use Rattle.std.proofs.Common.{◌+◌, ℕ, Option, arith, sym, ap, ◌∙◌}
use Rattle.std.specs.Prelude.{unwrap_or}
use Rattle.cps_final.specs.Finals.{words_of_first}
use Rattle.cps_final.specs.Code.Gathering.{layout_kept}
use Rattle.cps_final.proofs.BlockLemmas.{words-next, key-at}
use Rattle.cps_final.proofs.blocks.Blocks.words_of_first.Goals as goal

pub loop-index-preserved : goal.loop-index-preserved
loop-index-preserved c =
    let layout = layout_kept c.args.self.now.nominal c.args.self.now.named in
    let i = c.loop-index.index in
    let name = c.in-Some.field-0-0.now in
    let at = key-at c.args.self.now.named i name c.in-Some.size.now c.in-Some.ensures.entry in
    let read = c.from-words.ensures ∙ sym (ap (λ (o : Option ℕ). unwrap_or o 0) c.in-Some.ensures.value) in
    let before = c.loop-index.invariant.bound in
    let is = c.from-words.ensures in
    record {
      words = ap (λ (n : ℕ). n + c.from-words.result) c.loop-index.invariant.words ∙ ap (λ (n : ℕ). words_of_first i layout + n) read
          ∙ sym (words-next layout i name at);
      bound = omega (arith, before, is);
    }
